use Rattle.std.proofs.Common.{◌≤◌, ◌<◌, ◌+◌, ◌-◌, length}
use Rattle.world.specs.Queues.{queue_of}
use Rattle.world.proofs.Rounds.{Round}
use Rattle.world.proofs.world.Core.install.Given as goal

-- Some messages have been looked at. The others come before those of them that stay. There is room for all.
abbrev pub invariant-loop : goal.invariant-loop
invariant-loop g l = record {
  there : l.executor < length l.self.outboxes;
  room : length (queue_of l.executor l.self.outboxes) + (length l.fn.self.parked - l.counter) ≤ 4096;
  few : length l.self.parked ≤ length l.fn.self.parked;
  round : Round l.executor l.w_id l.counter l.fn.self l.self;
}
