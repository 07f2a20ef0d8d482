-- A log, passes and sessions' seats may go to another thread, where the names may.
use denote.RattleType.{RattleType}
use denote.Param.Send.{IsSend, sendable, view_send}
use denote.Param.SendFields.{declared_send}
use Rattle.std.proofs.Crossing.{Vec-send}
use Rattle.requests.proofs.Sendable.{Request-send, Reply-send}
use Rattle.agreement.proofs.Sendable.{Seat-send}
use Rattle.length_word.proofs.Sendable.{Length-send, Mark-send}
use Rattle.tickets.proofs.Sendable.{LogSeats-send}
use Rattle.tickets.specs.declared.group_names.GroupNames.{Ghosts as GroupNames}
use Rattle.commit_log.specs.declared.log_names.LogNames.{Ghosts as LogNames}
use Rattle.commit_log.specs.contracts.entry.Entry as Entry
use Rattle.commit_log.specs.contracts.log.Log as Log
use Rattle.commit_log.specs.contracts.log_book.LogBook as LogBook
use Rattle.commit_log.specs.contracts.pass.Pass as Pass
use Rattle.commit_log.specs.contracts.session_seat.SessionSeat as SessionSeat

Entry-send : IsSend Entry.the_row
Entry-send = declared_send Entry.the_type (
  search sendable depth 20,
  (
    search sendable depth 20,
    (
      Request-send,
      (
        Reply-send,
        tt,
      ),
    ),
  ),
)

module _ (J : RattleType) (names : LogNames J.Denot) (s : IsSend J) where
  LogBook-send : IsSend (LogBook.the_row J names)
  LogBook-send = view_send _ _ _ _ _ (declared_send (LogBook.TheInside.the_type J names) (
    search sendable depth 20,
    (
      search (Entry-send, Vec-send) depth 10,
      (
        Length-send,
        (
          search (Seat-send, Vec-send, sendable) depth 20,
          (
            search sendable depth 20,
            tt,
          ),
        ),
      ),
    ),
  ))

  pub Pass-send : IsSend (Pass.the_row J names)
  Pass-send = view_send _ _ _ _ _ (declared_send (Pass.TheInside.the_type J names) (
    search sendable depth 20,
    (
      search sendable depth 20,
      (
        Mark-send,
        (
          search (Seat-send, sendable) depth 20,
          (
            search (Seat-send, sendable) depth 20,
            (
              search sendable depth 20,
              tt,
            ),
          ),
        ),
      ),
    ),
  ))

  pub SessionSeat-send : IsSend (SessionSeat.the_row J names)
  SessionSeat-send = view_send _ _ _ _ _ (declared_send (SessionSeat.TheInside.the_type J names) (
    search sendable depth 20,
    (
      search (Seat-send, sendable) depth 20,
      (
        search sendable depth 20,
        tt,
      ),
    ),
  ))

module _ (J : RattleType) (log : LogNames J.Denot) (groups : GroupNames J.Denot) (s : IsSend J) where
  pub Log-send : IsSend (Log.the_row J log groups)
  Log-send = view_send _ _ _ _ _ (declared_send (Log.TheInside.the_type J log groups) (
    LogBook-send J log s,
    (
      LogSeats-send J groups s,
      tt,
    ),
  ))
