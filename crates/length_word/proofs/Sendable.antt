-- A length and a mark may go to another thread.
use denote.Param.Send.{IsSend, sendable, view_send}
use denote.Param.SendFields.{declared_send}
use Rattle.std.proofs.Crossing.{crosses}
use Rattle.atomic_table.proofs.send_lease.SendLease.TheSendSync as lease
use Rattle.atomic_table.proofs.shared.Seat.TheSendSync as place
use Rattle.atomic_table.proofs.shared.Shared.TheSendSync as board
use Rattle.length_word.specs.contracts.length.Length as Length
use Rattle.length_word.specs.contracts.length.Mark as Mark

pub Length-send : IsSend Length.the_row
Length-send = view_send _ _ _ _ _ (declared_send Length.TheInside.the_type (
  search (board.the_send, board.the_sync, lease.the_send, lease.the_sync, crosses, sendable) depth 40,
  (
    search sendable depth 20,
    (
      search (place.the_send, sendable) depth 40,
      tt,
    ),
  ),
))

pub Mark-send : IsSend Mark.the_row
Mark-send = view_send _ _ _ _ _ (declared_send Mark.TheInside.the_type (
  search (board.the_send, board.the_sync, lease.the_send, lease.the_sync, crosses, sendable) depth 40,
  (
    search sendable depth 20,
    (
      search (place.the_send, sendable) depth 40,
      tt,
    ),
  ),
))
