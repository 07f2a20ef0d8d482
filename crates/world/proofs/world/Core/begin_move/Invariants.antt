use Rattle.std.proofs.Common.{◌≡◌, ◌≤◌, ◌<◌, ◌+◌, ◌-◌, length}
use Rattle.range_moves.specs.declared.order.Moving.TheVariants as moving
use Rattle.range_moves.specs.Orders.{IsWithin, size_of}
use Rattle.world.specs.Happening.{placements_begun, moves, posting, posts_begun}
use Rattle.world.specs.Queues.{queue_of}
use Rattle.world.proofs.world.Core.begin_move.Given as goal

-- With what the warehouses that are left bring, all is as the move brings it, and there is room for them.
abbrev pub invariant-loop-before : goal.invariant-loop-before
invariant-loop-before g l = record {
  to : l.to ≡ l.fn.order.to;
  within : IsWithin (length l.self.placements.placements) l.self.placements.executors l.fn.order;
  there : l.executor < length l.self.outboxes;
  room : length (queue_of l.executor l.self.outboxes) + (size_of l.fn.order - l.before) ≤ 4096;
  whole : posting l.executor (posts_begun (size_of l.fn.order - l.before) (l.fn.order.lo + l.before) l.fn.order.to l.self.placements)
      (record l.self { placements = placements_begun (size_of l.fn.order - l.before) (l.fn.order.lo + l.before) l.fn.order.to l.self.placements })
      ≡ moves l.fn.executor (moving.Order l.fn.order) l.fn.self;
}
