-- The rows of a warehouse's ten districts, among the rows of all districts in order.
use Rattle.std.proofs.Common.{◌≡◌, ℕ, zero, suc, ◌+◌, ◌-◌, ◌*◌, ◌<◌, Bool, true, false, cond, ◌==◌, List, [], ◌∷◌, ◌++◌, map, take, drop, refl, sym, ap, ◌∙◌, arith}
use Rattle.std.proofs.lemmas.Int.{ints}
use Rattle.std.proofs.lemmas.List.{drop-drop}
use Rattle.std.proofs.lemmas.Bool.Decides.{nat_tests}
use Rattle.std.specs.Prelude.{ℤ, pos, ◌+ℤ◌}
use Rattle.std.specs.List.{zip, range_with_len, slice_range}
use Rattle.rows.specs.declared.keys.DistrictKey.{DistrictKey}
use Rattle.schema.specs.Dense.{grid}
use Rattle.schema.specs.Scale.{district_key}
use Rattle.schema.specs.Sums.{sum_entries}
use Rattle.consistency.specs.Totals.{sum_of}

zip_nothing : {K X : Type 0} (ks : List K) → zip {X = X} ks [] ≡ []
zip_nothing [] = refl
zip_nothing (k ∷ ks) = refl

module _ {X : Type 0} (f : X → ℤ) where
  -- what a row of the warehouse weighs, and nothing at others
  abbrev pub of_warehouse : ℕ → DistrictKey → X → ℤ
  of_warehouse q key x = cond (key.w_id == q) (f x) (pos 0)

  nothing : (b : Bool) → cond b (pos 0) (pos 0) ≡ pos 0
  nothing true = refl
  nothing false = refl

  in_block : (q w low n : ℕ) (rest : List DistrictKey) (xs : List X)
      → sum_entries (of_warehouse q) (zip (map (district_key w) (range_with_len low n) ++ rest) xs)
      ≡ (cond (w == q) (sum_of f (take n xs)) (pos 0) +ℤ sum_entries (of_warehouse q) (zip rest (drop n xs)))
  in_block q w low zero rest xs = let none = nothing (w == q) in omega (arith, ints)
  in_block q w low (suc n) rest [] =
      let none = nothing (w == q) in
      let gone : sum_entries (of_warehouse q) (zip rest []) ≡ pos 0 = ap (sum_entries (of_warehouse q)) (zip_nothing rest) in
      omega (arith, ints)
  in_block q w low (suc n) rest (x ∷ xs) =
      let later = in_block q w (low + 1) n rest xs in
      rw later (elim (w == q) as (λ b. (cond b (f x) (pos 0) +ℤ (cond b (sum_of f (take n xs)) (pos 0) +ℤ sum_entries (of_warehouse q) (zip rest (drop n xs))))
      ≡ (cond b (f x +ℤ sum_of f (take n xs)) (pos 0) +ℤ sum_entries (of_warehouse q) (zip rest (drop n xs)))) [
        | true ↦ omega (arith, ints)
        | false ↦ omega (arith, ints)
      ])

  -- later warehouses have none of the warehouse's rows
  past : (q low count : ℕ) (xs : List X) → q < low → sum_entries (of_warehouse q) (zip (grid district_key 10 (range_with_len low count)) xs) ≡ pos 0
  past q low zero xs h = refl
  past q low (suc count) xs h =
      let other : (low == q) ≡ false = grind (arith, nat_tests) in
      let here : cond (low == q) (sum_of f (take 10 xs)) (pos 0) ≡ pos 0 = ap (λ b. cond b (sum_of f (take 10 xs)) (pos 0)) other in
      let rest = past q (low + 1) count (drop 10 xs) (omega arith) in
      in_block q low 1 10 (grid district_key 10 (range_with_len (low + 1) count)) xs
      ∙ (let e : (cond (low == q) (sum_of f (take 10 xs)) (pos 0) +ℤ sum_entries (of_warehouse q) (zip (grid district_key 10 (range_with_len (low + 1) count)) (drop 10 xs))) ≡ pos 0 = omega (arith, ints) in e)

  -- the sum over the rows of the n-th warehouse from low
  pub sum-block : (low n count : ℕ) (xs : List X) → n < count
      → sum_entries (of_warehouse (low + n)) (zip (grid district_key 10 (range_with_len low count)) xs) ≡ sum_of f (take 10 (drop (10 * n) xs))
  sum-block low n zero xs h = absurd (omega arith)
  sum-block low zero (suc count) xs h =
      let q = low + 0 in
      let same : (low == q) ≡ true = grind (arith, nat_tests) in
      let here : cond (low == q) (sum_of f (take 10 xs)) (pos 0) ≡ sum_of f (take 10 xs) = ap (λ b. cond b (sum_of f (take 10 xs)) (pos 0)) same in
      let rest = past q (low + 1) count (drop 10 xs) (omega arith) in
      in_block q low 1 10 (grid district_key 10 (range_with_len (low + 1) count)) xs
      ∙ (let e : (cond (low == q) (sum_of f (take 10 xs)) (pos 0) +ℤ sum_entries (of_warehouse q) (zip (grid district_key 10 (range_with_len (low + 1) count)) (drop 10 xs))) ≡ sum_of f (take 10 xs) = omega (arith, ints) in e)
  sum-block low (suc n) (suc count) xs h =
      let q = low + suc n in
      let other : (low == q) ≡ false = grind (arith, nat_tests) in
      let here : cond (low == q) (sum_of f (take 10 xs)) (pos 0) ≡ pos 0 = ap (λ b. cond b (sum_of f (take 10 xs)) (pos 0)) other in
      let others = λ (m : ℕ). sum_entries (of_warehouse m) (zip (grid district_key 10 (range_with_len (low + 1) count)) (drop 10 xs)) in
      let number : low + 1 + n ≡ q = omega arith in
      let place : 10 + 10 * n ≡ 10 * suc n = omega arith in
      let rest : others q ≡ sum_of f (take 10 (drop (10 * suc n) xs)) =
      ap others (sym number) ∙ sum-block (low + 1) n count (drop 10 xs) (omega arith)
      ∙ ap (λ l. sum_of f (take 10 l)) (drop-drop (10 * n) 10 xs ∙ ap (λ m. drop m xs) place) in
      in_block q low 1 10 (grid district_key 10 (range_with_len (low + 1) count)) xs
      ∙ (let e : (cond (low == q) (sum_of f (take 10 xs)) (pos 0) +ℤ others q) ≡ sum_of f (take 10 (drop (10 * suc n) xs)) = omega (arith, ints) in e)

-- the slice of ten rows, written with its ends
pub ten_rows : {X : Type 0} (slice items : List X) → slice ≡ items → (n : ℕ) → slice_range slice (10 * n) (10 * n + 10) ≡ take 10 (drop (10 * n) items)
ten_rows slice items same n =
    let many : 10 * n + 10 - 10 * n ≡ 10 = omega arith in
    ap (λ m. take m (drop (10 * n) slice)) many ∙ ap (λ l. take 10 (drop (10 * n) l)) same
