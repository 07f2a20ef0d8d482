use Rattle.std.proofs.Common.{arith, subst, sym}
use Rattle.partitions.specs.Parts.{shared_of}
use Rattle.world.specs.declared.flight.Outgoing.{Outgoing}
use Rattle.world.specs.declared.flight.Outgoing.TheVariants as outgoing
use Rattle.world.specs.Happening.{SendsOutgoing}
use Rattle.world.specs.InHand.{OutgoingInHand}
use Rattle.world.proofs.Steps.{can_post}
use Rattle.world.proofs.world.Core.send_outgoing.Goals as goal

pub deliver-requires-clause-to : goal.deliver-requires-clause-to
deliver-requires-clause-to g c =
    let can = can_post (shared_of g.J.LogNames.opening) c.args.executor (outgoing.Envelope c.in-Envelope.envelope) c.args.self.now
    (subst (λ (p : Outgoing g.row.J.Denot). OutgoingInHand (shared_of g.J.LogNames.opening) c.args.executor p c.args.self.now) c.in-Envelope.is c.requires.sending) in
    omega (arith, can.1, can.0.inboxes)

pub deliver-requires-clause-room : goal.deliver-requires-clause-room
deliver-requires-clause-room g c =
    let can = can_post (shared_of g.J.LogNames.opening) c.args.executor c.args.outgoing c.args.self.now c.requires.sending in
    omega (arith, can.0.room)

pub returns-in-Arrived : goal.returns-in-Arrived
returns-in-Arrived g c =
    subst (λ (p : Outgoing g.row.J.Denot). SendsOutgoing c.args.executor p c.args.self.now c.arrive.result c.arrive.new.self) (sym c.in-Arrived.is) (c.arrive.ensures c.args.executor)
