-- A shuffle, exchange by exchange.
use Rattle.std.proofs.Common.{◌≡◌, ℕ, zero, suc, ◌-◌, ◌<◌, ◌≤◌, List, length, refl, ap, arith}
use Rattle.std.specs.Prelude.{swap}
use Rattle.std.specs.List.Sorted.{IsPermutation}
use Rattle.std.proofs.lemmas.List.Sorted.{IsPermutation-refl, IsPermutation-trans, IsPermutation-swap, length_permutation}
use Rattle.rand_pcg.specs.Lcg.{Lcg}
use Rattle.number_draws.specs.Words.{beyond}
use Rattle.number_draws.specs.Draws.{random_of, shuffled}

-- the exchange at the last place comes first
pub shuffled-first : {T : Type 0} (place : ℕ) (items : List T) (generator : Lcg) → 1 ≤ place
    → shuffled place items generator ≡ shuffled (place - 1) (swap items place (random_of 0 place generator)) (beyond 1 generator)
unfolding shuffled
shuffled-first zero items generator h = absurd (omega arith)
shuffled-first (suc place) items generator h =
    ap (λ p. shuffled p (swap items (suc place) (random_of 0 (suc place) generator)) (beyond 1 generator)) (let e : place ≡ suc place - 1 = omega arith in e)

-- at place 0 nothing is left to exchange
pub shuffled-none : {T : Type 0} (place : ℕ) (items : List T) (generator : Lcg) → place ≡ 0 → shuffled place items generator ≡ items
unfolding shuffled
shuffled-none zero items generator h = refl
shuffled-none (suc place) items generator h = absurd (omega arith)

-- a shuffle from a place of the items on is a permutation
pub shuffled-permutation : {T : Type 0} (place : ℕ) (items : List T) (generator : Lcg) → place < length items → IsPermutation items (shuffled place items generator)
unfolding shuffled
shuffled-permutation zero items generator h = IsPermutation-refl items
shuffled-permutation (suc place) items generator h =
    let chosen = random_of 0 (suc place) generator in
    let exchanged = swap items (suc place) chosen in
    let inside : chosen < length items = omega arith in
    let once = IsPermutation-swap items exchanged (suc place) chosen h inside refl in
    let many : place < length exchanged = omega (arith, length_permutation items exchanged once) in
    IsPermutation-trans items exchanged _ once (shuffled-permutation place exchanged (beyond 1 generator) many)
