-- The view of a claim in contracts, and the seats that it holds.
use Rattle.std.specs.Prelude.{◌≡◌, List, [], ◌∷◌, ◌++◌}
use Rattle.atomic_table.specs.Seated.{TableId}
use Rattle.agreement.specs.SeatView.{SeatView}
use Rattle.requests.specs.declared.group.Group.{Group}
use Rattle.groups.specs.Content.{Content}
use Rattle.groups.specs.declared.group_wants.Mode.{Mode}
use Rattle.groups.specs.declared.group_wants.Mode.TheVariants.{Shared, Exclusive}
use Rattle.tickets.specs.declared.work.CommittedContent.{CommittedContent}
use Rattle.tickets.specs.declared.work.Work.{Work}
use Rattle.tickets.specs.Seats.{committed_seat, work_seat, recorded_shares, work_shares, untouched}
use Rattle.wait_die.specs.declared.deciding.Holder.{Holder}

-- The action to which it was granted, its group, its mode, the committed content that its tickets record, what it
-- left in the group, and the group's content after an undo of that.
pub record ClaimView : Type 0 where
  pub by : Holder
  pub group : Group
  pub mode : Mode
  pub recorded : Content
  pub left : Content
  pub back : Content

-- this action's claim on the group, with this recorded content and this work
abbrev pub claim_view : Holder → Group → Mode → Content → Work → ClaimView
claim_view by group mode recorded work = record { by = by; group = group; mode = mode; recorded = recorded; left = work.left; back = work.back }

-- this action's claim of this mode on a group with this content, under which nothing was done yet
abbrev pub fresh : Holder → Group → Mode → Content → ClaimView
fresh by group mode content = record { by = by; group = group; mode = mode; recorded = content; left = content; back = content }

-- What is committed in a group after a claim of this mode is settled: what it left, if it is exclusive. A shared
-- claim changes nothing.
abbrev pub committed_by : Mode → Content → Content → Content
committed_by Shared left before = before
committed_by Exclusive left before = left

-- the claim after what it left is committed: its recorded content is that
abbrev pub settled : ClaimView → ClaimView
settled c = record { by = c.by; group = c.group; mode = c.mode; recorded = committed_by c.mode c.left c.recorded; left = c.left; back = c.back }

-- the claim after it left this in the group
abbrev pub leaving : ClaimView → Content → ClaimView
leaving c content = record { by = c.by; group = c.group; mode = c.mode; recorded = c.recorded; left = content; back = c.back }

-- under a shared claim nothing is done, and the work is the recorded content; under an exclusive claim the work's
-- mode is exclusive
abbrev pub IsUntouched : Mode → Content → Work → Type 0
IsUntouched Shared recorded work = work ≡ untouched Shared recorded
IsUntouched Exclusive recorded work = work.mode ≡ Exclusive

-- the tickets of a claim, and its seat of the agreement on the work
abbrev pub HoldsClaim : TableId → TableId → Mode → SeatView CommittedContent → SeatView Work → Type 0
HoldsClaim committed done mode tickets work =
    (tickets ≡ committed_seat committed tickets.value.content (recorded_shares mode))
    × (work ≡ work_seat done work.value (work_shares mode))
    × IsUntouched mode tickets.value.content work.value

-- ---- the claims of several actions

-- the claims of all actions, by place
abbrev pub all_claims : List (List ClaimView) → List ClaimView
all_claims [] = []
all_claims (held ∷ claims) = held ++ all_claims claims
