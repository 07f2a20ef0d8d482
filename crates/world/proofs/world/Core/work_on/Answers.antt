use Rattle.std.proofs.Common.{ap, arith, length, subst, sym, List}
use Rattle.partitions.specs.Parts.{SharedTables, shared_of}
use Rattle.world.specs.declared.flight.Item.{Item}
use Rattle.world.specs.declared.flight.Load.TheVariants.{Work}
use Rattle.world.specs.Events.{CanWork}
use Rattle.world.proofs.Steps.{can_open, can_post_work, can_take}
use Rattle.world.proofs.world.Core.work_on.Goals as goal

pub work-requires-clause-room : goal.work-requires-clause-room
work-requires-clause-room g c =
    let can = can_open (shared_of g.J.LogNames.opening) c.args.executor (Work c.args.message) c.args.self.now c.requires.opening in
    omega (arith, can.waiting, ap (λ (items : List (Item g.row.J.Denot)). length items) can.no_outbox)

pub work-requires-clause-can : goal.work-requires-clause-can
work-requires-clause-can g c =
    let can = can_open (shared_of g.J.LogNames.opening) c.args.executor (Work c.args.message) c.args.self.now c.requires.opening in
    subst (λ (s : SharedTables). CanWork s c.args.message) (sym can.catalog) (can_take (shared_of g.J.LogNames.opening) c.args.executor c.args.message c.args.self.now c.requires.opening).0

pub post_all-requires-clause-homes : goal.post_all-requires-clause-homes
post_all-requires-clause-homes g c = (can_post_work c.requires.once (shared_of g.J.LogNames.opening) c.args.executor c.args.message c.args.self.now c.requires.opening c.work.new.self c.work.ensures.takes).0

pub post_all-requires-clause-room : goal.post_all-requires-clause-room
post_all-requires-clause-room g c =
    omega (arith, (can_post_work c.requires.once (shared_of g.J.LogNames.opening) c.args.executor c.args.message c.args.self.now c.requires.opening c.work.new.self c.work.ensures.takes).1)

pub returns-clause-works : goal.returns-clause-works
returns-clause-works g c = (c.work.new.self, (c.work.ensures.takes, c.post_all.ensures))
