use Rattle.std.proofs.Common.{◌≡◌, ℕ, ◌≤◌, ◌++◌, List, length, take, drop, sym, ap, ◌∙◌, subst, arith}
use Rattle.std.specs.List.{range_with_len}
use Rattle.std.specs.List.Sorted.{IsPermutation}
use Rattle.std.proofs.lemmas.List.{take-append-le, take_all}
use Rattle.std.proofs.lemmas.List.FromFn.{length-range_with_len}
use Rattle.std.proofs.lemmas.List.Sorted.{length_permutation}
use Rattle.population.proofs.owners.owners.Goals as goal

-- a list that was written over another of its length
written_over : (n : ℕ) (new old : List ℕ) → length new ≡ n → take n (new ++ drop (length new) old) ≡ new
written_over n new old many =
    let within : n ≤ length new = omega arith in
    let whole : length new ≤ n = omega arith in
    take-append-le n new (drop (length new) old) within ∙ take_all n new whole

pub shuffle-requires : goal.shuffle-requires
shuffle-requires c =
    let many = ap length (c.as_mut_slice.ensures.value ∙ c.in_ok-owners.ensures) ∙ length-range_with_len 1 c.args.count in
    omega arith

pub returns : goal.returns
returns c =
    let numbers = range_with_len 1 c.args.count in
    let new = c.shuffle.new.numbers in
    let shuffled : IsPermutation numbers new = subst (λ (xs : List ℕ). IsPermutation xs new) (c.as_mut_slice.ensures.value ∙ c.in_ok-owners.ensures) c.shuffle.ensures in
    let many = length_permutation c.as_mut_slice.result.now new c.shuffle.ensures ∙ c.as_mut_slice.ensures.len in
    subst (IsPermutation numbers) (sym (written_over c.in_ok-owners.owners.len new c.in_ok-owners.owners.items many)) shuffled
