-- The desks have the inboxes that were made for them.
use Rattle.std.proofs.Common.{length}
use Rattle.queues.specs.Desks.{inbox_of}
use Rattle.queues.proofs.tests.two_threads_put_into_the_inbox_of_each_other.Given as goal

abbrev pub ghosts-exchange : goal.ghosts-exchange
ghosts-exchange g a = record { inboxes = length a.takers.items; inbox = inbox_of a.takers.items }
