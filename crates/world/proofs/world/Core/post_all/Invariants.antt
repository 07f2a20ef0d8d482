use Rattle.std.proofs.Common.{◌≡◌, ◌≤◌, ◌<◌, ◌+◌, All, length}
use Rattle.world.specs.Happening.{bringing}
use Rattle.world.specs.Envelopes.{HasHomeIn}
use Rattle.world.specs.Queues.{queue_of}
use Rattle.world.proofs.world.Core.post_all.Given as goal

-- With what is left in hand, all is brought, and there is room for it.
abbrev pub invariant-loop-item : goal.invariant-loop-item
invariant-loop-item g l = record {
  executor : l.executor ≡ l.fn.executor;
  there : l.executor < length l.self.outboxes;
  homes : All HasHomeIn l.self.parts.outbox;
  room : length (queue_of l.executor l.self.outboxes) + length l.self.parts.outbox ≤ 4096;
  whole : bringing l.executor l.self.parts l.self ≡ bringing l.fn.executor l.fn.self.parts l.fn.self;
}

abbrev pub decreases-loop-item : goal.decreases-loop-item
decreases-loop-item g l = length l.self.parts.outbox
