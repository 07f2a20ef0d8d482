-- A closing word may be shared by threads; its closer and a token may go to another thread.
use denote.Param.Send.{IsSend, IsSync, sendable, view_send, view_sync}
use denote.Param.SendFields.{declared_send, declared_sync}
use Rattle.std.proofs.Crossing.{crosses}
use Rattle.atomic_table.proofs.send_lease.SendLease.TheSendSync as lease
use Rattle.atomic_table.proofs.shared.Seat.TheSendSync as place
use Rattle.atomic_table.proofs.shared.Shared.TheSendSync as board
use Rattle.closing_word.specs.contracts.closing.Closed as Closed
use Rattle.closing_word.specs.contracts.closing.Closer as Closer
use Rattle.closing_word.specs.contracts.closing.ClosingWord as ClosingWord

pub ClosingWord-sync : IsSync ClosingWord.the_row
ClosingWord-sync = view_sync _ _ _ _ _ (declared_sync ClosingWord.TheInside.the_type (
  search (board.the_sync, lease.the_sync, crosses, sendable) depth 40,
  tt,
))

pub Closer-send : IsSend Closer.the_row
Closer-send = view_send _ _ _ _ _ (declared_send Closer.TheInside.the_type (search (place.the_send, sendable) depth 40, tt))

pub Closed-send : IsSend Closed.the_row
Closed-send = view_send _ _ _ _ _ (declared_send Closed.TheInside.the_type (search (place.the_send, sendable) depth 40, tt))
