use Rattle.std.proofs.Common.{List, ◌∷◌, [], refl, sym, subst}
use Rattle.std.specs.Prelude.{All}
use Rattle.partitions.specs.Parts.{shared_of}
use Rattle.history.specs.declared.event.Event.TheVariants.{Take}
use Rattle.history.specs.declared.event.EventAnswer.TheVariants.{Nothing, Took}
use Rattle.history.specs.History.{step}
use Rattle.world.specs.declared.flight.Envelope.{Envelope}
use Rattle.world.specs.Happening.{Happens}
use Rattle.world.specs.Shards.{IsShardOf}
use Rattle.world.specs.Together.{IsSound, together}
use Rattle.world.specs.Worlds.{Advances}
use Rattle.world.proofs.Moves.{stays_quiet}
use Rattle.world.proofs.Steps.{opened, opening}
use Rattle.world.proofs.world.Core.take.Given as given
use Rattle.world.proofs.world.Core.take.Goals as goal
use Rattle.world.proofs.world.Core.take.Goals.{After-open_envelope}

pub returns-in_default-clause-advances : goal.returns-in_default-clause-advances
returns-in_default-clause-advances g c =
    let old = c.args.self.now in
    subst (λ (qs : List (List (Envelope g.row.J.Denot))). Advances (together old) (step (Take c.args.executor) Nothing ∷ []) (together (record old { inboxes = qs }))) (sym c.in_default.ensures.none.1)
    (stays_quiet (shared_of g.J.LogNames.opening) old c.requires.sound (Take c.args.executor) Nothing tt).1

pub open_envelope-requires-clause-opening : goal.open_envelope-requires-clause-opening
open_envelope-requires-clause-opening g c =
    let old = c.args.self.now in
    opening (shared_of g.J.LogNames.opening) old c.requires.sound c.args.executor c.in-Some.envelope c.take.new.self c.in-Some.ensures.first c.are_kept.ensures (record old { inboxes = c.take.new.self }) refl

done : (g : given.Over) (c : After-open_envelope g) → IsSound (shared_of g.J.LogNames.opening) c.open_envelope.new.self
    × (Advances (together c.args.self.now) (step (Take c.args.executor) Took ∷ []) (together c.open_envelope.new.self) × Happens (Take c.args.executor) c.args.self.now Took c.open_envelope.new.self)
done g c =
    let old = c.args.self.now in
    let shards = subst (λ n. All (IsShardOf n) c.open_envelope.new.self.parts.shards.items) c.requires.warehouses c.open_envelope.ensures.shards in
    opened (shared_of g.J.LogNames.opening) old c.requires.sound c.args.executor c.in-Some.envelope c.take.new.self c.in-Some.ensures.first c.claims_are_of_the_footprint.ensures.once c.are_kept.ensures
    (record old { inboxes = c.take.new.self }) c.open_envelope.new.self refl c.open_envelope.ensures.opens shards

pub returns-clause-sound : goal.returns-clause-sound
returns-clause-sound g c = (done g (goal.at.returns-clause-sound g c).After-open_envelope).0

pub returns-clause-advances : goal.returns-clause-advances
returns-clause-advances g c = (done g (goal.at.returns-clause-advances g c).After-open_envelope).1.0

pub returns-clause-happens : goal.returns-clause-happens
returns-clause-happens g c = (done g (goal.at.returns-clause-happens g c).After-open_envelope).1.1
