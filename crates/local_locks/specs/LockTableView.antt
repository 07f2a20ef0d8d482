-- The view of a warehouse's lock table in contracts.
use Rattle.std.specs.Prelude.{◌≡◌, ℕ, ◌<◌, List, [], map, length, slice_index_or}
use Rattle.requests.specs.declared.group.Group.{Group}
use Rattle.groups.specs.Content.{Content}
use Rattle.groups.specs.Groups.{warehouse_of}
use Rattle.groups.specs.declared.group_wants.Mode.{Mode}
use Rattle.groups.specs.declared.wants.Want.{Want}
use Rattle.tickets.specs.Boxes.{TicketBoxView, sharing}
use Rattle.tickets.specs.Places.{IsGroupOf, place_in_warehouse}
use Rattle.tickets.specs.Unset.{nothing}
use Rattle.wait_die.specs.declared.deciding.Holder.{Holder}

-- a claim that is out: its holder, its group and its mode
pub record HeldClaim : Type 0 where
  pub by : Holder
  pub group : Group
  pub mode : Mode

-- a waiting action and its wants
pub record WaitingAction : Type 0 where
  pub by : Holder
  pub wants : List Want

-- A group, its content now, and its content after an undo of all that was done under the exclusive claim on it.
pub record Stand : Type 0 where
  pub group : Group
  pub left : Content
  pub back : Content

-- The warehouse; the content of each of its groups, in the order of groups; all claims that are out, in any order;
-- all waiting actions; and the groups that are held or waited for, in the order in which they were taken.
pub record LockTableView : Type 0 where
  pub w_id : ℕ
  pub stands : List Stand
  pub holdings : List HeldClaim
  pub waiters : List WaitingAction
  pub entries : List Group

-- the groups of these contents, in their order
abbrev pub groups_of : List Stand → List Group
groups_of stands = map (λ stand. stand.group) stands

-- a group of the warehouse, with its content now and after an undo
abbrev pub stand_for : List Stand → Group → Stand
stand_for stands group = slice_index_or stands (place_in_warehouse group) (record { group = group; left = nothing; back = nothing })

-- the content of this group now
abbrev pub left_in : List Stand → Group → Content
left_in stands group = (stand_for stands group).left

-- the content of this group after an undo of all that was done under the exclusive claim
abbrev pub back_in : List Stand → Group → Content
back_in stands group = (stand_for stands group).back

-- this is the warehouse's group at this place
pub record IsStandAt (warehouses w_id number : ℕ) (stand : Stand) : Type 0 where
  pub known : IsGroupOf warehouses stand.group
  pub here : warehouse_of stand.group ≡ w_id
  pub place : place_in_warehouse stand.group ≡ number

-- each group of the warehouse is there, in the order of groups
pub record AreStandsOf (warehouses w_id : ℕ) (stands : List Stand) : Type 0 where
  pub all_there : length stands ≡ 105
  pub each : (place : ℕ) (d : Stand) → place < 105 → IsStandAt warehouses w_id place (slice_index_or stands place d)

-- ---- the opening

-- the content of a ticket box's group, now and after an undo
abbrev pub stand_of : TicketBoxView → Stand
stand_of b = record { group = b.group; left = b.left; back = b.back }

-- this is the box of the warehouse's group at this place, and no claim is out
pub record IsBoxAt (warehouses w_id number : ℕ) (b : TicketBoxView) : Type 0 where
  pub known : IsGroupOf warehouses b.group
  pub here : warehouse_of b.group ≡ w_id
  pub place : place_in_warehouse b.group ≡ number
  pub idle : b ≡ sharing b.group b.left 0

-- there is a box for each group of the warehouse, in the order of groups
pub record AreBoxesOf (warehouses w_id : ℕ) (boxes : List TicketBoxView) : Type 0 where
  pub all_there : length boxes ≡ 105
  pub each : (place : ℕ) (d : TicketBoxView) → place < 105 → IsBoxAt warehouses w_id place (slice_index_or boxes place d)

-- the table of a warehouse with these boxes: no claim is out, no action waits, and no group has an entry
abbrev pub opened : ℕ → List TicketBoxView → LockTableView
opened w_id boxes = record { w_id = w_id; stands = map stand_of boxes; holdings = []; waiters = []; entries = [] }
