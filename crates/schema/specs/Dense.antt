-- Rows that are stored in key order, without their keys.
use Rattle.std.specs.Prelude.{ℕ, suc, Bool, cond, List, [], ◌∷◌, map, Option, Some, None}
use Rattle.std.specs.List.{range_with_len, flat_map}
use Rattle.std.specs.Option.{option_map}

-- the index of the first key that passes the test
abbrev pub place : {K : Type 0} → (K → Bool) → List K → Option ℕ
place test [] = None
place test (k ∷ ks) = cond (test k) (Some 0) (option_map (λ n. suc n) (place test ks))

-- for each outer key in turn, the keys made from it and the numbers from 1 to count
abbrev pub grid : {O K : Type 0} → (O → ℕ → K) → ℕ → List O → List K
grid key count outer = flat_map (λ o. map (key o) (range_with_len 1 count)) outer
