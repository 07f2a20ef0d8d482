-- A seat may go to another thread.
use denote.RattleType.{RattleType}
use denote.Param.Send.{IsSend, sendable, view_send}
use denote.Param.SendFields.{declared_send}
use Rattle.std.proofs.Crossing.{crosses}
use Rattle.atomic_table.proofs.send_lease.SendLease.TheSendSync as lease
use Rattle.atomic_table.proofs.shared.Seat.TheSendSync as place
use Rattle.atomic_table.proofs.shared.Shared.TheSendSync as board
use Rattle.agreement.specs.declared.value.Value.{Ghosts as Values}
use Rattle.agreement.specs.contracts.seat.Seat as Seat

module _ (V : RattleType) (values : Values V.Denot) where
  pub Seat-send : IsSend (Seat.the_row V values)
  Seat-send = view_send _ _ _ _ _ (declared_send (Seat.TheInside.the_type V values) (
    search (board.the_send, board.the_sync, lease.the_send, lease.the_sync, crosses, sendable) depth 40,
    (
      search (place.the_send, sendable) depth 40,
      tt,
    ),
  ))
