use Rattle.std.proofs.Common.{List, ◌∷◌, [], refl, sym, subst}
use Rattle.partitions.specs.Parts.{shared_of}
use Rattle.history.specs.declared.event.Event.TheVariants.{Send}
use Rattle.history.specs.declared.event.EventAnswer.TheVariants.{Nothing}
use Rattle.history.specs.History.{step}
use Rattle.world.specs.declared.flight.Outgoing.{Outgoing}
use Rattle.world.specs.Happening.{Happens}
use Rattle.world.specs.Together.{IsSound, together}
use Rattle.world.specs.Worlds.{Advances}
use Rattle.world.proofs.Moves.{stays_quiet}
use Rattle.world.proofs.Steps.{sending, was_sent}
use Rattle.world.proofs.world.Core.send.Given as given
use Rattle.world.proofs.world.Core.send.Goals as goal
use Rattle.world.proofs.world.Core.send.Goals.{After-send_outgoing}

pub returns-in_default-clause-advances : goal.returns-in_default-clause-advances
returns-in_default-clause-advances g c =
    let old = c.args.self.now in
    subst (λ (qs : List (List (Outgoing g.row.J.Denot))). Advances (together old) (step (Send c.args.executor) Nothing ∷ []) (together (record old { outboxes = qs }))) (sym c.in_default.ensures.none.1)
    (stays_quiet (shared_of g.J.LogNames.opening) old c.requires.sound (Send c.args.executor) Nothing tt).1

pub send_outgoing-requires : goal.send_outgoing-requires
send_outgoing-requires g c =
    let old = c.args.self.now in
    record { limit = c.requires.limit; sending = sending (shared_of g.J.LogNames.opening) old c.requires.sound c.args.executor c.in-Some.outgoing c.take.new.self c.in-Some.ensures.first c.are_kept.ensures (record old { outboxes = c.take.new.self }) refl }

done : (g : given.Over) (c : After-send_outgoing g) → IsSound (shared_of g.J.LogNames.opening) c.send_outgoing.new.self
    × (Advances (together c.args.self.now) (step (Send c.args.executor) c.send_outgoing.result ∷ []) (together c.send_outgoing.new.self) × Happens (Send c.args.executor) c.args.self.now c.send_outgoing.result c.send_outgoing.new.self)
done g c =
    let old = c.args.self.now in
    was_sent (shared_of g.J.LogNames.opening) old c.requires.sound c.args.executor c.in-Some.outgoing c.take.new.self c.in-Some.ensures.first c.are_kept.ensures (record old { outboxes = c.take.new.self })
    c.send_outgoing.new.self c.send_outgoing.result refl c.send_outgoing.ensures

pub returns-clause-sound : goal.returns-clause-sound
returns-clause-sound g c = (done g (goal.at.returns-clause-sound g c).After-send_outgoing).0

pub returns-clause-advances : goal.returns-clause-advances
returns-clause-advances g c = (done g (goal.at.returns-clause-advances g c).After-send_outgoing).1.0

pub returns-clause-happens : goal.returns-clause-happens
returns-clause-happens g c = (done g (goal.at.returns-clause-happens g c).After-send_outgoing).1.1
