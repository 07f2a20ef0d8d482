use Rattle.std.proofs.Common.{◌≡◌, [], take}
use Rattle.world.specs.Queues.{all_of}
use Rattle.world.proofs.queues.Queues.are_empty.Given as goal

-- nothing waits in the first queues
abbrev pub invariant-loop-queue : goal.invariant-loop-queue
invariant-loop-queue g l = all_of (take l.queue-index l.queues) ≡ []
