-- A shared meeting, its places, receipts and results, and the right to convene may go to another thread, where what is reported
-- may. Threads may share the meeting itself.
use denote.RattleType.{RattleType}
use denote.Param.Send.{IsSend, IsSync, sendable, view_send, view_sync}
use denote.Param.SendFields.{declared_send, declared_sync}
use Rattle.std.proofs.Crossing.{crosses}
use Rattle.atomic_table.proofs.send_lease.SendLease.TheSendSync as lease
use Rattle.atomic_table.proofs.shared.Seat.TheSendSync as seat
use Rattle.atomic_table.proofs.shared.Shared.TheSendSync as board
use Rattle.rendezvous.specs.declared.rule.Topic.{Ghosts as Topics}
use Rattle.rendezvous.specs.contracts.meeting.Convener as Convener
use Rattle.rendezvous.specs.contracts.meeting.Meeting as Meeting
use Rattle.rendezvous.specs.contracts.meeting.Places as Places
use Rattle.rendezvous.specs.contracts.place.Place as Place
use Rattle.rendezvous.specs.contracts.place.Receipt as Receipt
use Rattle.rendezvous.specs.contracts.results.Results as Results

module _ (R T : RattleType) (topics : Topics T.Denot R.Denot) (s : IsSend R) where
  pub Place-send : IsSend (Place.the_row R T topics)
  Place-send = view_send _ _ _ _ _ (declared_send (Place.TheInside.the_type R T topics) (
    search sendable depth 20,
    (
      search sendable depth 20,
      (
        search (seat.the_send, crosses, sendable) depth 40,
        tt,
      ),
    ),
  ))

  pub Receipt-send : IsSend (Receipt.the_row R T topics)
  Receipt-send = view_send _ _ _ _ _ (declared_send (Receipt.TheInside.the_type R T topics) (
    search (seat.the_send, crosses, sendable) depth 40,
    tt,
  ))

  pub Results-send : IsSend (Results.the_row R T topics)
  Results-send = view_send _ _ _ _ _ (declared_send (Results.TheInside.the_type R T topics) (
    search (seat.the_send, crosses, sendable) depth 40,
    (
      search sendable depth 20,
      (
        search sendable depth 20,
        tt,
      ),
    ),
  ))

  pub Convener-send : IsSend (Convener.the_row R T topics)
  Convener-send = view_send _ _ _ _ _ (declared_send (Convener.TheInside.the_type R T topics) (
    search (seat.the_send, crosses, sendable) depth 40,
    tt,
  ))

  pub Places-send : IsSend (Places.the_row R T topics)
  Places-send = view_send _ _ _ _ _ (declared_send (Places.TheInside.the_type R T topics) (
    search (seat.the_send, crosses, sendable) depth 40,
    (
      search sendable depth 20,
      (
        search sendable depth 20,
        tt,
      ),
    ),
  ))

  pub Meeting-send : IsSend (Meeting.the_row R T topics)
  Meeting-send = view_send _ _ _ _ _ (declared_send (Meeting.TheInside.the_type R T topics) (
    search (board.the_send, board.the_sync, lease.the_send, lease.the_sync, crosses, sendable) depth 40,
    tt,
  ))

  pub Meeting-sync : IsSync (Meeting.the_row R T topics)
  Meeting-sync = view_sync _ _ _ _ _ (declared_sync (Meeting.TheInside.the_type R T topics) (
    search (board.the_send, board.the_sync, lease.the_send, lease.the_sync, crosses, sendable) depth 40,
    tt,
  ))
