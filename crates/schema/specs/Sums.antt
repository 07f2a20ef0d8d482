-- Sums over tables.
use Rattle.std.specs.Prelude.{List, [], ◌∷◌, ℤ, pos, ◌+ℤ◌, Option, Some, None}
use Rattle.std.specs.declared.cmp.Ordering.{Ordering}
use Rattle.std.specs.FinMap as map

module _ {K X : Type 0} (weight : K → X → ℤ) where
  -- the sum of the weights of the entries
  abbrev pub sum_entries : List (K × X) → ℤ
  sum_entries [] = pos 0
  sum_entries (e ∷ es) = weight e.0 e.1 +ℤ sum_entries es

  -- the weight of the row at a key, or 0 if there is none
  abbrev pub weight_at : K → Option X → ℤ
  weight_at k None = pos 0
  weight_at k (Some x) = weight k x

  module _ {R : K → K → Ordering} where
    -- the sum of the weights of the rows of a table
    abbrev pub sum_rows : map.FinMap R X → ℤ
    sum_rows m = sum_entries (map.entries m)
