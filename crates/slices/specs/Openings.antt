-- The seats and the boxes of the groups of new tables, and of one warehouse.
use Rattle.std.specs.Prelude.{◌≡◌, ℕ, ◌*◌, ◌<◌, List, length, slice_index_or}
use Rattle.schema.specs.Database.{Database}
use Rattle.requests.specs.declared.group.Group.{Group}
use Rattle.partitions.specs.Parts.{Part}
use Rattle.groups.specs.Content.{content}
use Rattle.groups.specs.Groups.{warehouse_of}
use Rattle.tickets.specs.Boxes.{TicketBoxView, sharing}
use Rattle.tickets.specs.Openings.{OpenedGroup, contents_opened, contents_committed, boxes_beside}
use Rattle.tickets.specs.LogSeats.{CommittedGroup}
use Rattle.tickets.specs.Places.{IsGroupOf, place_in_warehouse, place_of, AreInPlace}

-- there are seats for each group of the tables, opened at its place with the group's contents
pub record AreOpenedFor (tables : Database) (openings : List OpenedGroup) : Type 0 where
  pub all_there : length openings ≡ 105 * tables.scale.warehouses
  pub contents : (group : Group) (d : OpenedGroup) → IsGroupOf tables.scale.warehouses group
      → (slice_index_or openings (place_of group) d).content ≡ content tables group

-- the box is that of the group at this place, with the group's contents and all its tickets
pub record IsBoxOf (tables : Database) (number : ℕ) (ticket_box : TicketBoxView) : Type 0 where
  pub known : IsGroupOf tables.scale.warehouses ticket_box.group
  pub place : place_of ticket_box.group ≡ number
  pub has : ticket_box ≡ sharing ticket_box.group (content tables ticket_box.group) 0

-- there is a box for each group of the tables, at its place
pub record AreBoxesOf (tables : Database) (boxes : List TicketBoxView) : Type 0 where
  pub all_there : length boxes ≡ 105 * tables.scale.warehouses
  pub each : (place : ℕ) (d : TicketBoxView) → place < length boxes → IsBoxOf tables place (slice_index_or boxes place d)

-- the box is that of the warehouse's group at this place, with the group's contents and all its tickets
pub record IsHomeBoxOf (part : Part) (number : ℕ) (ticket_box : TicketBoxView) : Type 0 where
  pub known : IsGroupOf part.tables.scale.warehouses ticket_box.group
  pub here : warehouse_of ticket_box.group ≡ part.home
  pub place : place_in_warehouse ticket_box.group ≡ number
  pub has : ticket_box ≡ sharing ticket_box.group (content part.tables ticket_box.group) 0

-- there is a box for each group of the warehouse, at its place
pub record AreHomeBoxesOf (part : Part) (boxes : List TicketBoxView) : Type 0 where
  pub all_there : length boxes ≡ 105
  pub each : (place : ℕ) (d : TicketBoxView) → place < length boxes → IsHomeBoxOf part place (slice_index_or boxes place d)

-- The boxes beside the seats of what was opened for the tables are the boxes of the tables.
abbrev pub OpenedGroupsHaveBoxes : Type 0
OpenedGroupsHaveBoxes =
    (tables : Database) (openings : List OpenedGroup) (seats : List CommittedGroup)
    → AreOpenedFor tables openings → AreInPlace tables.scale.warehouses seats → contents_committed seats ≡ contents_opened openings
    → AreBoxesOf tables (boxes_beside seats)
