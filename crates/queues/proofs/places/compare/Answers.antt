use Rattle.std.proofs.Common.{ap, ◌∙◌}
use Rattle.queues.proofs.InOrder.{compares}
use Rattle.queues.proofs.places.compare.Goals as goal

pub learn_as-requires-clause-rule : goal.learn_as-requires-clause-rule
learn_as-requires-clause-rule g c = compares _ _ c.requires.both.0 c.requires.both.1

pub is_empty_as-requires-clause-rule : goal.is_empty_as-requires-clause-rule
is_empty_as-requires-clause-rule g c =
    let same = c.learn_as.ensures.queue.1 in
    compares _ _ (ap (λ v. v.takes) same ∙ c.requires.both.0) (ap (λ v. v.sends) same ∙ c.requires.both.1)
