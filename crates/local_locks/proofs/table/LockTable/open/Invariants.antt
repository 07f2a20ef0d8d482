use Rattle.std.proofs.Common.{◌≡◌, ◌++◌, map}
use Rattle.std.specs.Prelude.{All}
use Rattle.local_locks.proofs.Opened.{new_lock, IsIdle}
use Rattle.local_locks.proofs.table.LockTable.open.Given as goal

-- the first boxes have a lock, in order
abbrev pub invariant-loop-ticket_box : goal.invariant-loop-ticket_box
invariant-loop-ticket_box g l = record {
  can_next : (goal.iterator-loop-ticket_box g).can_next l.ticket_box-iterator;
  finite : (goal.iterator-loop-ticket_box g).is_finite l.ticket_box-iterator;
  boxes : map new_lock l.fn.boxes.items ≡ l.locks.items ++ map new_lock l.ticket_box-iterator.rest.items;
  idle : All IsIdle l.ticket_box-iterator.rest.items;
}
