use Rattle.std.proofs.Common.{◌-◌, ◌≤◌, ◌∙◌, sym, ap, arith}
use Rattle.std.specs.Prelude.{swap}
use Rattle.std.proofs.lemmas.List.Sorted.{IsPermutation-trans}
use Rattle.number_draws.specs.Words.{beyond}
use Rattle.number_draws.specs.Draws.{random_of, shuffled}
use Rattle.number_draws.proofs.Generators.{beyond-first, beyond-none}
use Rattle.number_draws.proofs.Shuffles.{shuffled-first, shuffled-none}
use Rattle.number_draws.proofs.draws.NumberDraws.shuffle.Goals as goal

pub loop-last-preserved : goal.loop-last-preserved
loop-last-preserved g c =
    let place = c.loop-last.last - 1 in
    let some : 1 ≤ place = omega arith in
    let items = c.loop-last.items in
    record {
      value =
          ap (λ xs. shuffled (place - 1) xs c.random-chosen.new.self) (c.swap.ensures.after ∙ ap (swap items place) c.random-chosen.ensures.value)
          ∙ ap (shuffled (place - 1) (swap items place (random_of 0 place c.loop-last.self))) c.random-chosen.ensures.generator
          ∙ sym (shuffled-first place items c.loop-last.self some) ∙ c.loop-last.invariant.value;
      generator = ap (beyond (place - 1)) c.random-chosen.ensures.generator ∙ sym (beyond-first place c.loop-last.self some) ∙ c.loop-last.invariant.generator;
      permutation = IsPermutation-trans _ items _ c.loop-last.invariant.permutation c.swap.ensures.permutation;
      count = c.swap.ensures.len ∙ c.loop-last.invariant.count;
    }

pub returns-clause-value : goal.returns-clause-value
returns-clause-value g c =
    sym (shuffled-none (c.loop-last.last - 1) c.loop-last.items c.loop-last.self (omega arith)) ∙ c.loop-last.invariant.value

pub returns-clause-generator : goal.returns-clause-generator
returns-clause-generator g c =
    sym (beyond-none (c.loop-last.last - 1) c.loop-last.self (omega arith)) ∙ c.loop-last.invariant.generator
