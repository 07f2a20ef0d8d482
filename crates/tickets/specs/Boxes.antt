-- The slice's side of a group's tickets: its view in contracts, and the seats that it holds.
use Rattle.std.specs.Prelude.{◌≡◌, ◌+◌, ◌-◌, ℕ, List, [], ◌∷◌, if◌then◌else◌}
use Rattle.atomic_table.specs.Seated.{TableId}
use Rattle.agreement.specs.SeatView.{SeatView, IsSpent}
use Rattle.requests.specs.declared.group.Group.{Group}
use Rattle.groups.specs.Content.{Content}
use Rattle.groups.specs.Groups.{is_same}
use Rattle.groups.specs.declared.group_wants.Mode.{Mode}
use Rattle.groups.specs.declared.group_wants.Mode.TheVariants.{Shared, Exclusive}
use Rattle.tickets.specs.declared.work.CommittedContent.{CommittedContent}
use Rattle.tickets.specs.declared.work.Work.{Work}
use Rattle.tickets.specs.Claims.{ClaimView}
use Rattle.tickets.specs.Committed.{GroupsOfSlice, KeepsCommitted}
use Rattle.tickets.specs.Unset.{nothing}
use Rattle.tickets.specs.Seats.{committed_seat, work_seat, untouched}

-- The group; exclusive while an exclusive claim is out; the number of shared claims that are out; the group's content
-- now, and its content after an undo of all that was done under the exclusive claim.
pub record TicketBoxView : Type 0 where
  pub group : Group
  pub mode : Mode
  pub shared : ℕ
  pub left : Content
  pub back : Content

-- the view of a group's box: this number of shared claims is out, or an exclusive one, and this work is done there
abbrev pub ticket_box_view : Group → Mode → ℕ → Work → TicketBoxView
ticket_box_view group mode shared work = record { group = group; mode = mode; shared = shared; left = work.left; back = work.back }

-- the box of a group with this content, with this number of shared claims out and no exclusive one
abbrev pub sharing : Group → Content → ℕ → TicketBoxView
sharing group content shared = record { group = group; mode = Shared; shared = shared; left = content; back = content }

-- the box of a group with this content, just after an exclusive claim was granted
abbrev pub lent : Group → Content → TicketBoxView
lent group content = record { group = group; mode = Exclusive; shared = 0; left = content; back = content }

-- the box after this is left in the group
abbrev pub with_left : TicketBoxView → Content → TicketBoxView
with_left b content = record { group = b.group; mode = b.mode; shared = b.shared; left = content; back = b.back }

-- the box after a claim is given back: there is one shared claim fewer, or no claim is out
abbrev pub taken_back : TicketBoxView → TicketBoxView
taken_back b = sharing b.group b.left (b.shared - 1)

-- a pair of seats of the two agreements that have no share
abbrev pub IsSpentPair : TableId → TableId → SeatView CommittedContent × SeatView Work → Type 0
IsSpentPair committed done pair =
    IsSpent (record { table = committed; count = 10 }) pair.0 × IsSpent (record { table = done; count = 9 }) pair.1

-- all of these pairs are spent
abbrev pub AreSpent : TableId → TableId → List (SeatView CommittedContent × SeatView Work) → Type 0
AreSpent committed done [] = Unit {0}
AreSpent committed done (pair ∷ pairs) = IsSpentPair committed done pair × AreSpent committed done pairs

-- the tables of a group's two agreements: on its committed content, and on the work in it
pub record GroupTables : Type 0 where
  pub committed : TableId
  pub work : TableId

-- these tables together
abbrev pub group_tables : TableId → TableId → GroupTables
group_tables committed work = record { committed = committed; work = work }

-- The seats of the box. It has the shares that are not out, and a pair of spent seats for each claim that it can
-- still grant.
abbrev pub HoldsBox : GroupTables → Mode → ℕ → SeatView CommittedContent → SeatView Work → ℕ → Type 0
HoldsBox tables Shared shared tickets work spare =
    (tickets ≡ committed_seat tables.committed tickets.value.content (9 - shared))
    × (work ≡ work_seat tables.work (untouched Shared tickets.value.content) (9 - shared))
    × (spare + shared ≡ 8)
HoldsBox tables Exclusive shared tickets work spare =
    IsSpent (record { table = tables.committed; count = 10 }) tickets
    × ((work ≡ work_seat tables.work work.value 1) × (work.value.mode ≡ Exclusive))
    × ((shared ≡ 0) × (spare + 1 ≡ 8))

-- ---- the box as a slice

-- the number of a group's tickets that are not out
abbrev pub tickets_home : Mode → ℕ → ℕ
tickets_home Shared shared = 8 - shared
tickets_home Exclusive shared = 0

-- a slice that has the box's group and no other
abbrev pub standing : TicketBoxView → GroupsOfSlice
standing b = record {
  rows = λ group. if is_same b.group group then b.left else nothing;
  free = λ group. if is_same b.group group then tickets_home b.mode b.shared else 0;
}

-- replacing the claims `before` by `after`, the box keeps what is committed in its group
abbrev pub BoxKeepsCommitted : List ClaimView → TicketBoxView → List ClaimView → TicketBoxView → Type 0
BoxKeepsCommitted before old after new = KeepsCommitted (is_same old.group) before (standing old) after (standing new)
