use Rattle.std.proofs.Common.{rules}
use Rattle.tickets.specs.Boxes.{ticket_box_view}
use Rattle.tickets.specs.Claims.{claim_view}
use Rattle.tickets.proofs.Boxes.{leave_keeps}
use Rattle.tickets.proofs.ticket_box.TicketBox.undo.Goals as goal

pub returns-clause-kept : goal.returns-clause-kept
returns-clause-kept g c =
    let was = c.self.inside in
    let claim = c.claim.inside in
    leave_keeps c.args.self.now (ticket_box_view was.group was.mode was.shared c.change_together.new.self.value) c.args.claim.now
    (claim_view claim.by claim.group claim.mode claim.tickets.value.content c.change_together.new.other.value) c.args.self.now.back c.requires.group c.requires.exclusive (search rules) (search rules)
