use Rattle.std.proofs.Common.{◌<◌, length, arith}
use Rattle.partitions.specs.Parts.{shared_of}
use Rattle.world.specs.declared.flight.Load.TheVariants.{Work}
use Rattle.world.specs.Queues.{queue_of}
use Rattle.world.proofs.Steps.{can_open, can_take}
use Rattle.world.proofs.world.Core.work.Goals as goal

pub home_of_message-requires : goal.home_of_message-requires
home_of_message-requires g c = (can_take (shared_of g.J.LogNames.opening) c.args.executor c.args.message c.args.self.now c.requires.opening).1

pub put-requires : goal.put-requires
put-requires g c =
    let can = can_open (shared_of g.J.LogNames.opening) c.args.executor (Work c.args.message) c.args.self.now c.requires.opening in
    let room : length (queue_of c.args.executor c.args.self.now.outboxes) < 4096 = omega (arith, can.room) in
    (omega arith, (can.there, room))

pub put-requires-in-Unknown : goal.put-requires-in-Unknown
put-requires-in-Unknown g c =
    let can = can_open (shared_of g.J.LogNames.opening) c.args.executor (Work c.args.message) c.args.self.now c.requires.opening in
    let room : length c.args.self.now.parked < 4096 = omega (arith, can.room) in
    (omega arith, room)
