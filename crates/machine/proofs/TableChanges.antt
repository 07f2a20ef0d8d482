-- What holds of each row, and of a sum over the rows, after one row was put into a table.
use Rattle.std.proofs.Common.{◌≡◌, ◌≢◌, cond, Some, refl, sym, ◌∙◌, arith}
use Rattle.std.specs.Prelude.{ℤ, ◌+ℤ◌}
use Rattle.std.proofs.lemmas.Int.{ints}
use Rattle.std.proofs.lemmas.Cmp.{tied_itself}
use Rattle.std.specs.declared.cmp.Ordering.{Ordering}
use Rattle.std.specs.declared.cmp.Ordering.TheVariants.{Less, Equal, Greater}
use Rattle.std.specs.Ordering.{is_eq}
use Rattle.std.specs.Cmp.{IsTotalOrder}
use Rattle.std.specs.FinMap.{FinMap, get, insert, get-insert, IsAntisymmetric}
pub use Rattle.groups.proofs.Parts.{get-insert_here, get-insert_elsewhere}
use Rattle.schema.specs.Sums.{weight_at, sum_rows}
use Rattle.schema.proofs.TableSums.{sum_rows-insert}

module _ {K X : Type 0} {R : K → K → Ordering} (o : IsTotalOrder R) (a : IsAntisymmetric R) where
  -- a property of the row that is put in and of every other row is a property of every row
  pub each_row-insert : (Before After : K → X → Type 0) (m : FinMap R X) (k : K) (v : X)
      → ((q : K) (row : X) → get m q ≡ Some row → Before q row)
      → After k v
      → ((q : K) (row : X) → q ≢ k → Before q row → After q row)
      → (q : K) (row : X) → get (insert m k v) q ≡ Some row → After q row
  each_row-insert Before After m k v each here elsewhere q row found =
      elim (R q k) as (λ r. R q k ≡ r → cond (is_eq r) (Some v) (get m q) ≡ Some row → After q row) [
        | Less ↦ λ c f. elsewhere q row (λ same. let tied = tied_itself o k in absurd cc) (each q row f)
        | Equal ↦ λ c f.
            let same_key : q ≡ k = a q k c in
            let same_row : v ≡ row = cc in
            rw (same_key, ← same_row) here
        | Greater ↦ λ c f. elsewhere q row (λ same. let tied = tied_itself o k in absurd cc) (each q row f)
      ] refl (sym (get-insert o m k v q) ∙ found)

  -- a sum grows by what the row weighs more than the one that it replaces
  pub sum_rows-grow : (weight : K → X → ℤ) (m : FinMap R X) (k : K) (v : X) (amount : ℤ)
      → weight k v ≡ weight_at weight k (get m k) +ℤ amount
      → sum_rows weight (insert m k v) ≡ sum_rows weight m +ℤ amount
  sum_rows-grow weight m k v amount more =
      let change = sum_rows-insert o a weight m k v in
      omega (arith, ints, change, more)

  -- a column that is a total at each key stays one if the row that is put in and its total grow alike
  pub column-insert : (column : X → ℤ) (before after : K → ℤ) (m : FinMap R X) (k : K) (v old : X) (amount : ℤ)
      → ((q : K) (row : X) → get m q ≡ Some row → column row ≡ before q)
      → get m k ≡ Some old → column v ≡ column old +ℤ amount → after k ≡ before k +ℤ amount
      → ((q : K) → q ≢ k → after q ≡ before q)
      → (q : K) (row : X) → get (insert m k v) q ≡ Some row → column row ≡ after q
  column-insert column before after m k v old amount each found row_grows total_grows stays =
      each_row-insert (λ q row. column row ≡ before q) (λ q row. column row ≡ after q) m k v each
      (let was = each k old found in omega (arith, ints, was, row_grows, total_grows))
      (λ q row apart was. was ∙ sym (stays q apart))
