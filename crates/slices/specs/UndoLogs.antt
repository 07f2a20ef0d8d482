-- The undo logs of the groups of a slice, and the relation of the lock table to the rows of the warehouse.
use Rattle.std.specs.Prelude.{◌≡◌, ℕ, ◌<◌, List, length, slice_index_or}
use Rattle.partitions.specs.Parts.{Part}
use Rattle.groups.specs.Content.{content}
use Rattle.local_locks.specs.LockTableView.{LockTableView, Stand}
use Rattle.slices.specs.declared.undo_record.UndoRecord.{UndoRecord}
use Rattle.slices.specs.SliceView.{SliceView}
use Rattle.slices.specs.Undo.{all_put_back_in, AreKept}

-- the undo records of what was done in a group under the exclusive claim on it, and the number of records for which
-- memory is reserved
pub record UndoLogView : Type 0 where
  pub undo : List UndoRecord
  pub room : ℕ

-- an undo log with these records and this room
abbrev pub undo_log_view : List UndoRecord → ℕ → UndoLogView
undo_log_view undo room = record { undo = undo; room = room }

-- the view that contracts have of a slice with these rows and this lock table
abbrev pub slice_view : Part → LockTableView → SliceView
slice_view rows table = record { home = rows.home; tables = rows.tables; holdings = table.holdings; waiters = table.waiters }

-- The lock table has the current contents of the group; the contents that it has as `back` are those after undoing all
-- steps, from the last to the first; and each step can be undone, whatever other groups have.
pub record IsUndoLogOf (rows : Part) (stand : Stand) (undo_log : UndoLogView) : Type 0 where
  pub left : stand.left ≡ content rows.tables stand.group
  pub back : stand.back ≡ all_put_back_in undo_log.undo stand.left
  pub kept : AreKept rows.tables.scale stand.group undo_log.undo stand.left

-- there is an undo log for each group of the warehouse, at its place
pub record AreUndoLogsOf (rows : Part) (stands : List Stand) (undo_logs : List UndoLogView) : Type 0 where
  pub all_there : length undo_logs ≡ 105
  pub each : (place : ℕ) (s : Stand) (d : UndoLogView) → place < 105 → IsUndoLogOf rows (slice_index_or stands place s) (slice_index_or undo_logs place d)

-- the invariant of a slice: its tables are of the scale with this many warehouses, and the lock table is the
-- warehouse's
pub record IsSlice (warehouses : ℕ) (rows : Part) (table : LockTableView) (undo_logs : List UndoLogView) : Type 0 where
  pub many : rows.tables.scale.warehouses ≡ warehouses
  pub home : table.w_id ≡ rows.home
  pub undo_log_view : AreUndoLogsOf rows table.stands undo_logs
