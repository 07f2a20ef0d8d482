-- A generator after some words.
use Rattle.std.proofs.Common.{◌≡◌, ℕ, zero, suc, ◌+◌, ◌-◌, ◌≤◌, ap, ◌∙◌, sym, refl, arith}
use Rattle.rand_pcg.specs.Lcg.{Lcg}
use Rattle.rand_pcg.specs.Pcg.{pcg64}
use Rattle.number_draws.specs.Words.{beyond}

-- so many words, and then so many more
pub beyond_twice : (more count : ℕ) (generator : Lcg) → beyond more (beyond count generator) ≡ beyond (count + more) generator
unfolding beyond
beyond_twice more zero generator = ap (λ n. beyond n generator) (let e : more ≡ 0 + more = omega arith in e)
beyond_twice more (suc count) generator =
    beyond_twice more count (pcg64 generator).1 ∙ ap (λ n. beyond n generator) (let e : suc (count + more) ≡ suc count + more = omega arith in e)

-- one word more
pub beyond-step : (count : ℕ) (generator : Lcg) → beyond count (beyond 1 generator) ≡ beyond (suc count) generator
beyond-step count generator =
    beyond_twice count 1 generator ∙ ap (λ n. beyond n generator) (let e : 1 + count ≡ suc count = omega arith in e)

-- the first of some words comes first
pub beyond-first : (count : ℕ) (generator : Lcg) → 1 ≤ count → beyond count generator ≡ beyond (count - 1) (beyond 1 generator)
beyond-first count generator h =
    ap (λ n. beyond n generator) (let e : count ≡ suc (count - 1) = omega arith in e) ∙ sym (beyond-step (count - 1) generator)

-- after no word it is as it was
pub beyond-none : (count : ℕ) (generator : Lcg) → count ≡ 0 → beyond count generator ≡ generator
unfolding beyond
beyond-none zero generator h = refl
beyond-none (suc count) generator h = absurd (omega arith)
