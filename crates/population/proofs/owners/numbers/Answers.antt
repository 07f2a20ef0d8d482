use Rattle.std.proofs.Common.{◌+◌, ◌++◌, ◌∷◌, [], sym, ap, ◌∙◌}
use Rattle.population.proofs.Ranges.{numbers_more}
use Rattle.population.proofs.owners.numbers.Goals as goal

pub loop-place-preserved : goal.loop-place-preserved
loop-place-preserved c =
    let n = c.loop-place.place in
    c.in_ok-push.ensures.items ∙ ap (λ l. l ++ (n + 1) ∷ []) c.loop-place.invariant ∙ sym (numbers_more n)
