-- A lock table may go to another thread, where the names of its groups may.
use denote.Builtin.{usize}
use denote.RattleType.{RattleType}
use denote.Param.Send.{IsSend, sendable, view_send}
use denote.Param.SendFields.{declared_send}
use Rattle.std.proofs.Crossing.{Vec-send}
use Rattle.std.specs.contracts.hash.BuildHasherDefault as BuildHasherDefault
use Rattle.std.specs.contracts.hash.FoldHasher as FoldHasher
use Rattle.groups.specs.contracts.wants.Want as Want
use Rattle.wait_die.specs.contracts.deciding.Holder as Holder
use Rattle.tickets.proofs.Sendable.{TicketBox-send, Claim-send}
use Rattle.tickets.specs.declared.group_names.GroupNames.{Ghosts as GroupNames}
use Rattle.local_locks.proofs.SendableSet.{IndexSet-send}
use Rattle.local_locks.specs.contracts.entries.Entries as Entries
use Rattle.local_locks.specs.contracts.lock.Lock as Lock
use Rattle.local_locks.specs.contracts.waiting.Waiter as Waiter
use Rattle.local_locks.specs.contracts.table.LockTable as LockTable

Want-send : IsSend Want.the_row
Want-send = search sendable depth 80

Holder-send : IsSend Holder.the_row
Holder-send = search sendable depth 40

Entries-send : IsSend Entries.the_row
Entries-send = view_send _ _ _ _ _ (declared_send Entries.TheInside.the_type (IndexSet-send usize (BuildHasherDefault.the_row FoldHasher.the_row) FoldHasher.the_row _ _ _ _ (search sendable depth 20) (search sendable depth 20), tt))

module _ (J : RattleType) (names : GroupNames J.Denot) (s : IsSend J) where
  Lock-send : IsSend (Lock.the_row J names)
  Lock-send = view_send _ _ _ _ _ (declared_send (Lock.TheInside.the_type J names) (
    TicketBox-send J names s,
    (
      search (Holder-send, sendable) depth 100 fits 50000,
      tt,
    ),
  ))

  Waiter-send : IsSend (Waiter.the_row J names)
  Waiter-send = view_send _ _ _ _ _ (declared_send (Waiter.TheInside.the_type J names) (
    Holder-send,
    (
      search (Want-send, Vec-send) depth 10,
      (
        search (Claim-send, Vec-send) depth 10,
        tt,
      ),
    ),
  ))

  pub LockTable-send : IsSend (LockTable.the_row J names)
  LockTable-send = view_send _ _ _ _ _ (declared_send (LockTable.TheInside.the_type J names) (
    search sendable depth 10,
    (
      search (Lock-send, Vec-send) depth 10,
      (
        search (Waiter-send, Vec-send) depth 10,
        (
          Entries-send,
          tt,
        ),
      ),
    ),
  ))
