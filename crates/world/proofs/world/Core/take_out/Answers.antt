use Rattle.std.proofs.Common.{◌<◌, length, arith}
use Rattle.partitions.specs.Parts.{shared_of}
use Rattle.range_moves.specs.declared.order.Moving.TheVariants as moving
use Rattle.world.specs.declared.flight.Load.TheVariants.{Move}
use Rattle.world.specs.Queues.{queue_of}
use Rattle.world.proofs.Steps.{can_fetch, can_open}
use Rattle.world.proofs.world.Core.take_out.Goals as goal

pub take_out-requires-clause-warehouse : goal.take_out-requires-clause-warehouse
take_out-requires-clause-warehouse g c = (can_fetch (shared_of g.J.LogNames.opening) c.args.executor c.args.w_id c.args.to c.args.self.now c.requires).0

pub take_out-requires-clause-to : goal.take_out-requires-clause-to
take_out-requires-clause-to g c = (can_fetch (shared_of g.J.LogNames.opening) c.args.executor c.args.w_id c.args.to c.args.self.now c.requires).1

pub put-requires : goal.put-requires
put-requires g c =
    let can = can_open (shared_of g.J.LogNames.opening) c.args.executor (Move (moving.Fetch c.args.w_id c.args.to)) c.args.self.now c.requires in
    let room : length (queue_of c.args.executor c.args.self.now.outboxes) < 4096 = omega (arith, can.room) in
    (omega arith, (can.there, room))
