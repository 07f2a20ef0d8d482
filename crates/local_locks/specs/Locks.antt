-- The representation of a table: a lock for each group, in the order of groups, and the waiting actions.
use Rattle.std.specs.Prelude.{◌≡◌, ℕ, ◌+◌, ◌<◌, ◌≤◌, List, [], Bool, true, map, length, slice_index_or, ◌==◌, if◌then◌else◌}
use Rattle.std.specs.List.{flat_map}
use Rattle.requests.specs.declared.group.Group.{Group}
use Rattle.requests.specs.declared.group.Group.TheVariants.{Warehouse}
use Rattle.groups.specs.Groups.{warehouse_of}
use Rattle.groups.specs.declared.group_wants.Mode.{Mode}
use Rattle.groups.specs.declared.group_wants.Mode.TheVariants.{Shared, Exclusive}
use Rattle.groups.specs.declared.wants.Want.{Want}
use Rattle.tickets.specs.Boxes.{TicketBoxView, sharing, lent}
use Rattle.tickets.specs.Places.{IsGroupOf, place_in_warehouse}
use Rattle.wait_die.specs.declared.deciding.Holder.{Holder}
use Rattle.local_locks.specs.LockTableView.{HeldClaim, WaitingAction, Stand, LockTableView, groups_of, stand_of}
use Rattle.local_locks.specs.GroupWants.{CanAsk, group_wants}

-- a group's ticket box, and the holders of the claims that are out
pub record LockView : Type 0 where
  pub ticket_box : TicketBoxView
  pub holders : List Holder

-- a lock of this box and these holders
abbrev pub lock_view : TicketBoxView → List Holder → LockView
lock_view ticket_box holders = record { ticket_box = ticket_box; holders = holders }

-- either one exclusive claim is out, or the number of shared ones is that of the holders
abbrev pub Agree : Mode → TicketBoxView → List Holder → Type 0
Agree Shared b holders = (b ≡ sharing b.group b.left (length holders)) × (length holders ≤ 8)
Agree Exclusive b holders = (b.shared ≡ 0) × (length holders ≡ 1)

-- the lock's box and its holders agree
abbrev pub IsLocked : LockView → Type 0
IsLocked lock = Agree lock.ticket_box.mode lock.ticket_box lock.holders

-- a want of the first mode can't be granted beside `count` claims of the second
abbrev pub is_taken : Mode → Mode → ℕ → Bool
is_taken Exclusive held count = true
is_taken Shared Exclusive count = true
is_taken Shared Shared count = count == 8

-- the holders that conflict with a want of this mode: all, or none
abbrev pub conflicting : Mode → LockView → List Holder
conflicting mode lock = if is_taken mode lock.ticket_box.mode (length lock.holders) then lock.holders else []

-- the box after a claim of this mode is granted
abbrev pub given_out : Mode → TicketBoxView → TicketBoxView
given_out Shared b = sharing b.group b.left (b.shared + 1)
given_out Exclusive b = lent b.group b.left

-- ---- the table

-- this holder holds a claim of this mode on the group
abbrev pub holding : Group → Mode → Holder → HeldClaim
holding group mode by = record { by = by; group = group; mode = mode }

-- the holdings of a lock's holders
abbrev pub holdings_of : LockView → List HeldClaim
holdings_of lock = map (holding lock.ticket_box.group lock.ticket_box.mode) lock.holders

-- the content of the lock's group, now and after an undo
abbrev pub stand_in : LockView → Stand
stand_in lock = stand_of lock.ticket_box

-- a waiting action, its wants, and the number of claims for which it has room
pub record WaiterView : Type 0 where
  pub by : Holder
  pub wants : List Want
  pub room : ℕ

-- an action that waits for these wants, with room for this number of claims
abbrev pub waiter_view : Holder → List Want → ℕ → WaiterView
waiter_view by wants room = record { by = by; wants = wants; room = room }

-- the same, without the room
abbrev pub waiting_of : WaiterView → WaitingAction
waiting_of p = record { by = p.by; wants = p.wants }

-- the group at this place among these; a default if there is no such place
abbrev pub group_at : List Group → ℕ → Group
group_at groups place = slice_index_or groups place (Warehouse 0)

-- the groups at these places, in the order of the places
abbrev pub groups_at : List Stand → List ℕ → List Group
groups_at stands places = map (group_at (groups_of stands)) places

-- the table of these locks, waiting actions and places of entries, as contracts see it
abbrev pub locking : ℕ → List LockView → List WaiterView → List ℕ → LockTableView
locking w_id locks waiters places = record {
  w_id = w_id;
  stands = map stand_in locks;
  holdings = flat_map holdings_of locks;
  waiters = map waiting_of waiters;
  entries = groups_at (map stand_in locks) places;
}

-- this is the lock of the warehouse's group at this place
pub record IsLockAt (warehouses w_id number : ℕ) (lock : LockView) : Type 0 where
  pub known : IsGroupOf warehouses lock.ticket_box.group
  pub here : warehouse_of lock.ticket_box.group ≡ w_id
  pub place : place_in_warehouse lock.ticket_box.group ≡ number
  pub agree : IsLocked lock

-- there is a lock for each group of the warehouse, in the order of groups
pub record AreLocksOf (warehouses w_id : ℕ) (locks : List LockView) : Type 0 where
  pub all_there : length locks ≡ 105
  pub each : (place : ℕ) (d : LockView) → place < length locks → IsLockAt warehouses w_id place (slice_index_or locks place d)

-- if the old locks were those of a warehouse, one for each of its groups, so are the new ones
abbrev pub KeepsLocks : ℕ → List LockView → List LockView → Type 0
KeepsLocks warehouses old new = (w_id : ℕ) → AreLocksOf warehouses w_id old → AreLocksOf warehouses w_id new

-- the waiting action's wants can be asked of the table, and it has room for a claim on each group
pub record IsParked (warehouses w_id : ℕ) (p : WaiterView) : Type 0 where
  pub can : CanAsk warehouses w_id p.wants
  pub room : length (group_wants p.wants) ≤ p.room
