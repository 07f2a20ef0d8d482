-- Sums of signed numbers, and their bounds.
use Rattle.std.specs.Prelude.{ℕ, ℤ, pos, neg_ℤ, ◌+ℤ◌, ◌≤ℤ◌, List, [], ◌∷◌}

-- the sum of the weights of a list's elements
abbrev pub sum_of : {X : Type 0} → (X → ℤ) → List X → ℤ
sum_of weight [] = pos 0
sum_of weight (x ∷ xs) = weight x +ℤ sum_of weight xs

-- from -limit to limit
pub record IsWithin (limit : ℕ) (total : ℤ) : Type 0 where
  pub low : neg_ℤ (pos limit) ≤ℤ total
  pub high : total ≤ℤ pos limit
