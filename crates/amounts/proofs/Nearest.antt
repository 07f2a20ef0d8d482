-- The nearest cent, as a division.
use Rattle.std.proofs.Common.{◌≡◌, ◌↔◌, ℕ, ◌+◌, ◌*◌, ◌/◌, ◌≤◌, ◌<◌, sym, subst, arith}
use Rattle.std.specs.Prelude.{ℤ, pos, negsuc}
use Rattle.std.proofs.lemmas.Int.{ints}
use Rattle.amounts.specs.Total.{IsNearestCent}

-- the division has the two bounds
low_of : (n k : ℕ) → k ≡ (n + 50000000) / 100000000 → 100000000 * k ≤ n + 50000000
low_of n k e = omega arith

high_of : (n k : ℕ) → k ≡ (n + 50000000) / 100000000 → n < 100000000 * k + 50000000
high_of n k e = omega arith

-- and is the one number that has them
only_of : (n k : ℕ) → 100000000 * k ≤ n + 50000000 → n < 100000000 * k + 50000000 → k ≡ (n + 50000000) / 100000000
only_of n k low high = omega arith

-- no number below 0 is the nearest cent of one that isn't
from_nearest : (n : ℕ) (total : ℤ) → IsNearestCent (pos n) total → total ≡ pos ((n + 50000000) / 100000000)
from_nearest n (pos k) h =
    let low : 100000000 * k ≤ n + 50000000 = let l = h.low in omega (arith, ints) in
    let high : n < 100000000 * k + 50000000 = let l = h.high in omega (arith, ints) in
    let is : k ≡ (n + 50000000) / 100000000 = only_of n k low high in
    λ i. pos (is i)
from_nearest n (negsuc k) h = let l = h.high in absurd (omega (arith, ints))

to_nearest : (n : ℕ) → IsNearestCent (pos n) (pos ((n + 50000000) / 100000000))
to_nearest n =
    let k = (n + 50000000) / 100000000 in
    let low : 100000000 * ((n + 50000000) / 100000000) ≤ n + 50000000 = omega arith in
    let high : n < 100000000 * ((n + 50000000) / 100000000) + 50000000 = omega arith in
    record { low = omega (arith, ints); high = omega (arith, ints) }

pub nearest_cent : (n : ℕ) (total : ℤ) → IsNearestCent (pos n) total ↔ (total ≡ pos ((n + 50000000) / 100000000))
nearest_cent n total = (from_nearest n total, λ e. subst (IsNearestCent (pos n)) (sym e) (to_nearest n))
