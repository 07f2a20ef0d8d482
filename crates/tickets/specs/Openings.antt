-- The view of the seats of a new group in contracts, and their shares.
use Rattle.std.specs.Prelude.{◌≡◌, ℕ, List, map, slice_index_or}
use Rattle.atomic_table.specs.Seated.{TableId}
use Rattle.agreement.specs.SeatView.{SeatView}
use Rattle.requests.specs.declared.group.Group.{Group}
use Rattle.groups.specs.Content.{Content}
use Rattle.groups.specs.declared.group_wants.Mode.TheVariants.{Shared}
use Rattle.tickets.specs.declared.work.CommittedContent.{CommittedContent}
use Rattle.tickets.specs.declared.work.Work.{Work}
use Rattle.tickets.specs.Boxes.{TicketBoxView, sharing}
use Rattle.tickets.specs.LogSeats.{CommittedGroup}
use Rattle.tickets.specs.Places.{IsGroupOf, place_of}
use Rattle.tickets.specs.Seats.{committed_seat, work_seat, untouched}

-- the group's two agreements, and its content
pub record OpenedGroup : Type 0 where
  pub committed : TableId
  pub work : TableId
  pub content : Content

-- the seats of a group, in these tables of agreements, with this content
abbrev pub opened : TableId → TableId → Content → OpenedGroup
opened committed work content = record { committed = committed; work = work; content = content }

-- the log's seat, the box's seats, and the number of pairs of spent seats, of a new group
abbrev pub AreOpened : OpenedGroup → SeatView CommittedContent → SeatView CommittedContent → SeatView Work → ℕ → Type 0
AreOpened group log tickets work spare =
    (log ≡ committed_seat group.committed group.content 1)
    × (tickets ≡ committed_seat group.committed group.content 9)
    × (work ≡ work_seat group.work (untouched Shared group.content) 9)
    × (spare ≡ 8)

-- ---- the openings of all groups

-- The agreements of each group of this number of warehouses are those that were opened for its place.
abbrev pub AreNamed : ℕ → (Group → TableId) → (Group → TableId) → List OpenedGroup → Type 0
AreNamed warehouses committed work openings =
    (group : Group) (d : OpenedGroup) → IsGroupOf warehouses group
    → (committed group ≡ (slice_index_or openings (place_of group) d).committed) × (work group ≡ (slice_index_or openings (place_of group) d).work)

-- the contents of the openings, in order
abbrev pub contents_opened : List OpenedGroup → List Content
contents_opened openings = map (λ (o : OpenedGroup). o.content) openings

-- the contents of the log's seats, in order
abbrev pub contents_committed : List CommittedGroup → List Content
contents_committed seats = map (λ (seat : CommittedGroup). seat.content) seats

-- the box of a seat's group with the seat's content, with no claim out
abbrev pub box_beside : CommittedGroup → TicketBoxView
box_beside seat = sharing seat.group seat.content 0

-- the ticket boxes beside the log's seats, with no claim out
abbrev pub boxes_beside : List CommittedGroup → List TicketBoxView
boxes_beside seats = map box_beside seats
