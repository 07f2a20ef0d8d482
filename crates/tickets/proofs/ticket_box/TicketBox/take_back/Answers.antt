use Rattle.std.proofs.Common.{sym, ap, ◌∙◌}
use Rattle.tickets.proofs.Boxes.{take_back_keeps}
use Rattle.tickets.proofs.ticket_box.TicketBox.take_back.Goals as goal

pub returns-in-Shared-clause-kept : goal.returns-in-Shared-clause-kept
returns-in-Shared-clause-kept g c =
    let mode = sym (ap (λ k. k.mode) c.claim.view_is) ∙ c.in-Shared.is in
    take_back_keeps c.args.self.now c.take_shared.new.self c.args.claim c.requires.group c.requires.committed (mode ∙ sym c.take_shared.ensures.mode)
    (λ _. c.take_shared.ensures.some) (λ exclusive. cc (mode, exclusive)) c.take_shared.ensures.ticket_box

pub returns-in-Exclusive-clause-kept : goal.returns-in-Exclusive-clause-kept
returns-in-Exclusive-clause-kept g c =
    let mode = sym (ap (λ k. k.mode) c.claim.view_is) ∙ c.in-Exclusive.is in
    take_back_keeps c.args.self.now c.take_exclusive.new.self c.args.claim c.requires.group c.requires.committed (mode ∙ sym c.take_exclusive.ensures.mode)
    (λ shared. absurd (cc (mode, shared))) (λ _. c.take_exclusive.ensures.alone) c.take_exclusive.ensures.ticket_box
