-- The view of the log's seats in contracts.
use Rattle.std.specs.Prelude.{◌≡◌, List, All}
use Rattle.std.specs.List.{Contains}
use Rattle.requests.specs.declared.group.Group.{Group}
use Rattle.groups.specs.Content.{Content}
use Rattle.tickets.specs.Claims.{ClaimView}
use Rattle.tickets.specs.Committed.{content_after, contents_after}

-- the group and its committed content
pub record CommittedGroup : Type 0 where
  pub group : Group
  pub content : Content

-- the log's seat of the group, with this content
abbrev pub committed : Group → Content → CommittedGroup
committed group content = record { group = group; content = content }

-- the same group with another content
abbrev pub with_content : CommittedGroup → Content → CommittedGroup
with_content c content = committed c.group content

-- ---- the seats of all groups

-- the claim's group with its recorded content is among the seats
abbrev pub IsRecordedIn : List CommittedGroup → ClaimView → Type 0
IsRecordedIn seats claim = Contains seats (committed claim.group claim.recorded)

-- the seat after a claim is settled: if that is an exclusive one on its group, the content is what the claim left
abbrev pub after_one : ClaimView → CommittedGroup → CommittedGroup
after_one claim seat = with_content seat (content_after seat.group seat.content claim)

-- the seat after these claims are settled, one after another
abbrev pub after_all : List ClaimView → CommittedGroup → CommittedGroup
after_all claims seat = with_content seat (contents_after seat.group seat.content claims)

-- each seat records the tables' content of its group
abbrev pub SeatsRecord : (Group → Content) → List CommittedGroup → Type 0
SeatsRecord tables seats = All (λ (seat : CommittedGroup). tables seat.group ≡ seat.content) seats
