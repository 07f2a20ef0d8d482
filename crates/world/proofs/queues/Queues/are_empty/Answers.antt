use Rattle.std.proofs.Common.{◌≡◌, [], length, ◌∙◌, ap, arith}
use Rattle.world.specs.Queues.{all_of}
use Rattle.world.proofs.Apart.{nothing_at}
use Rattle.world.proofs.queues.Queues.are_empty.Goals as goal

pub returns-then-len-ne0 : goal.returns-then-len-ne0
returns-then-len-ne0 g c = (
  λ is. absurd (cc),
  λ none.
      let queues = c.deref.result.now in
      let queue = c.queue-item.result in
      let same : all_of queues ≡ [] = ap (λ qs. all_of qs) (c.deref.ensures.value ∙ c.self.view_is) ∙ none in
      absurd (omega (arith, c.if-len-ne0.true, c.len.ensures, ap (λ q. length q) (c.queue-item.is ∙ nothing_at queues c.loop-queue.queue-index queue c.loop-queue-test.true same))),
)
