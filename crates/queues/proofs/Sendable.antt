-- The ends of an inbox may go to other threads, where messages may.
use denote.RattleType.{RattleType}
use denote.Param.Send.{IsSend, sendable, view_send}
use denote.Param.SendFields.{declared_send}
use Rattle.std.proofs.Crossing.{crosses}
use Rattle.atomic_table.proofs.send_lease.SendLease.TheSendSync as lease
use Rattle.atomic_table.proofs.shared.Seat.TheSendSync as place
use Rattle.atomic_table.proofs.shared.Shared.TheSendSync as board
use Rattle.queues.specs.contracts.sender.Sender as Sender
use Rattle.queues.specs.contracts.sent.Sent as Sent
use Rattle.queues.specs.contracts.taker.Taker as Taker

module _ (T : RattleType) (s : IsSend T) where
  Sent-send : IsSend (Sent.the_row T)
  Sent-send = declared_send (Sent.the_type T) (search sendable depth 20, (search (s, sendable) depth 20, tt))

  pub Taker-send : IsSend (Taker.the_row T)
  Taker-send = view_send _ _ _ _ _ (declared_send (Taker.TheInside.the_type T) (
    search (Sent-send, board.the_send, board.the_sync, lease.the_send, lease.the_sync, crosses, sendable) depth 40,
    (
      search sendable depth 20,
      (
        search (place.the_send, sendable) depth 40,
        tt,
      ),
    ),
  ))

  pub Sender-send : IsSend (Sender.the_row T)
  Sender-send = view_send _ _ _ _ _ (declared_send (Sender.TheInside.the_type T) (
    search (Sent-send, board.the_send, board.the_sync, lease.the_send, lease.the_sync, crosses, sendable) depth 40,
    (
      search sendable depth 20,
      (
        search (place.the_send, sendable) depth 40,
        tt,
      ),
    ),
  ))
