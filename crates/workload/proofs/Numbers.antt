-- Drawn numbers are within their bounds.
use Rattle.std.proofs.Common.{◌≡◌, ℕ, ◌+◌, ◌-◌, ◌<◌, ◌≤◌, ◌%◌, true, bit_or, arith}
use Rattle.std.proofs.lemmas.Bool.Decides.{nat_tests}
use Rattle.rand_pcg.specs.Lcg.{Lcg}
use Rattle.rows.specs.Ranged.{is_between}
use Rattle.number_draws.specs.Words.{word, beyond}
use Rattle.number_draws.specs.Draws.{random_of, nu_rand_of}

pub between : (low high number : ℕ) → low ≤ number → number ≤ high → is_between low high number ≡ true
between low high number a b = grind (arith, nat_tests)

-- the rest by a count, above a number
pub rest_between : (low high number : ℕ) → low ≤ high → (low ≤ low + number % (high - low + 1)) × (low + number % (high - low + 1) ≤ high)
rest_between low high number h = let some : 0 < high - low + 1 = omega arith in (omega arith, omega arith)

pub random-between : (low high : ℕ) (generator : Lcg) → low ≤ high → is_between low high (random_of low high generator) ≡ true
random-between low high generator h =
    let rest = rest_between low high (word generator) h in between low high (random_of low high generator) rest.0 rest.1

pub nu_rand-within : (bits constant low high : ℕ) (generator : Lcg) → low ≤ high
    → (low ≤ nu_rand_of bits constant low high generator) × (nu_rand_of bits constant low high generator ≤ high)
nu_rand-within bits constant low high generator h =
    rest_between low high (bit_or (random_of 0 bits generator) (random_of low high (beyond 1 generator)) + constant) h

pub nu_rand-between : (bits constant low high : ℕ) (generator : Lcg) → low ≤ high → is_between low high (nu_rand_of bits constant low high generator) ≡ true
nu_rand-between bits constant low high generator h =
    let rest = nu_rand-within bits constant low high generator h in between low high (nu_rand_of bits constant low high generator) rest.0 rest.1
