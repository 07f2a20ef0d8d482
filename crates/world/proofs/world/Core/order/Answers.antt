use Rattle.std.proofs.Common.{ltb-true, sym, ◌∙◌}
use Rattle.partitions.specs.Parts.{shared_of}
use Rattle.history.specs.declared.event.Event.TheVariants.{Order}
use Rattle.history.specs.declared.event.EventAnswer.TheVariants.{Nothing, Ordered}
use Rattle.world.specs.Happening.{CanOrder}
use Rattle.world.proofs.Executing.{GoesOnWith}
use Rattle.world.proofs.Moves.{orders, stays_quiet}
use Rattle.world.proofs.world.Core.order.Goals as goal
use Rattle.world.proofs.world.Core.order.Given as given
use Rattle.world.proofs.world.Core.order.Goals.{After-put}

-- it could be ordered, and is
ordered : (g : given.Over) (c : After-put g) → GoesOnWith (shared_of g.J.LogNames.opening) c.args.self.now (Order c.args.order.now) Ordered (record c.args.self.now { placements = c.order.new.self; inboxes = c.put.new.self })
ordered g c =
    let old = c.args.self.now in
    let order = c.args.order.now in
    let can = c.can_order.ensures.0 c.if-not-can_order.false in
    let can_order : CanOrder order old = record { none = can.0; within = can.1; room = ltb-true _ _ (sym c.has_room.ensures.limit ∙ c.if-not-has_room.false) } in
    orders (shared_of g.J.LogNames.opening) old c.requires.sound order _ can_order (λ k. record old { placements = c.order.ensures k; inboxes = c.put.ensures k })

pub returns-then-not-can_order-clause-advances : goal.returns-then-not-can_order-clause-advances
returns-then-not-can_order-clause-advances g c = (stays_quiet (shared_of g.J.LogNames.opening) c.args.self.now c.requires.sound (Order c.args.order.now) Nothing tt).1

pub returns-clause-sound : goal.returns-clause-sound
returns-clause-sound g c = (ordered g (goal.at.returns-clause-sound g c).After-put).0

pub returns-clause-advances : goal.returns-clause-advances
returns-clause-advances g c = (ordered g (goal.at.returns-clause-advances g c).After-put).1
