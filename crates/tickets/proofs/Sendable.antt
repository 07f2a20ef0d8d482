-- Ticket boxes, claims and what the log has of them may go to another thread, where the names of the groups may.
use denote.RattleType.{RattleType}
use denote.Param.Send.{IsSend, sendable, view_send}
use denote.Param.SendFields.{declared_send}
use Rattle.std.proofs.Crossing.{Vec-send}
use Rattle.agreement.proofs.Sendable.{Seat-send}
use Rattle.tickets.specs.declared.group_names.GroupNames.{Ghosts as GroupNames}
use Rattle.tickets.specs.contracts.claim.Claim as Claim
use Rattle.tickets.specs.contracts.claims.Claims as Claims
use Rattle.tickets.specs.contracts.log_seat.LogSeat as LogSeat
use Rattle.tickets.specs.contracts.log_seats.LogSeats as LogSeats
use Rattle.tickets.specs.contracts.ticket_box.TicketBox as TicketBox

module _ (J : RattleType) (names : GroupNames J.Denot) (s : IsSend J) where
  pub TicketBox-send : IsSend (TicketBox.the_row J names)
  TicketBox-send = view_send _ _ _ _ _ (declared_send (TicketBox.TheInside.the_type J names) (
    search sendable depth 20,
    (
      search sendable depth 20,
      (
        search sendable depth 20,
        (
          search (Seat-send, sendable) depth 20,
          (
            search (Seat-send, sendable) depth 20,
            (
              search (Seat-send, Vec-send, sendable) depth 20,
              (
                search sendable depth 20,
                tt,
              ),
            ),
          ),
        ),
      ),
    ),
  ))

  pub Claim-send : IsSend (Claim.the_row J names)
  Claim-send = view_send _ _ _ _ _ (declared_send (Claim.TheInside.the_type J names) (
    search sendable depth 20,
    (
      search sendable depth 20,
      (
        search sendable depth 20,
        (
          search (Seat-send, sendable) depth 20,
          (
            search (Seat-send, sendable) depth 20,
            (
              search sendable depth 20,
              tt,
            ),
          ),
        ),
      ),
    ),
  ))

  pub Claims-send : IsSend (Claims.the_row J names)
  Claims-send = view_send _ _ _ _ _ (declared_send (Claims.TheInside.the_type J names) (search (Claim-send, Vec-send) depth 10, tt))

  LogSeat-send : IsSend (LogSeat.the_row J names)
  LogSeat-send = view_send _ _ _ _ _ (declared_send (LogSeat.TheInside.the_type J names) (
    search sendable depth 20,
    (
      search (Seat-send, sendable) depth 20,
      (
        search sendable depth 20,
        tt,
      ),
    ),
  ))

  pub LogSeats-send : IsSend (LogSeats.the_row J names)
  LogSeats-send = view_send _ _ _ _ _ (declared_send (LogSeats.TheInside.the_type J names) (search (LogSeat-send, Vec-send) depth 10, tt))
