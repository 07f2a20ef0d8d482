-- The number that follows the numbers of a district's orders is free.
use Rattle.std.proofs.Common.{◌≡◌, ◌≢◌, ℕ, ◌+◌, ◌≤◌, true, false, cond, List, [], ◌∷◌, Some, None, refl, sym, ap, ◌∙◌, arith}
use Rattle.std.proofs.lemmas.Bool.Decides.{nat_tests}
use Rattle.std.specs.declared.cmp.Ordering.TheVariants.{Less, Equal, Greater}
use Rattle.std.specs.Ordering.{is_eq}
use Rattle.std.specs.FinMap.{FinMap, get, entries, get-entries}
use Rattle.std.specs.FinMap.Entries.{find, find-where_key}
use Rattle.rows.specs.Keys.{order_cmp}
use Rattle.rows.specs.declared.keys.DistrictKey.{DistrictKey}
use Rattle.rows.specs.declared.keys.OrderKey.{OrderKey}
use Rattle.schema.specs.Database.{rows_where, is_of_district}
use Rattle.schema.specs.Consistency.{numbers, greatest}
use Rattle.schema.proofs.KeyOrders.{orders_exact}
use Rattle.machine.specs.NewOrder.{order_key}

-- an order is of the district that its key names
pub own_district : (home : DistrictKey) (number : ℕ) → is_of_district home (order_key home number) ≡ true
own_district home number = grind (arith, nat_tests)

same_numbers : (a b : DistrictKey) → a.w_id ≡ b.w_id → a.d_id ≡ b.d_id → a ≡ b
same_numbers a b w d =
    let both : (a.w_id, a.d_id) ≡ (b.w_id, b.d_id) = cc in
    ap (λ (p : ℕ × ℕ). record { w_id = p.0; d_id = p.1 }) both

district_is : (other home : DistrictKey) (number : ℕ) → is_of_district other (order_key home number) ≡ true → other ≡ home
district_is other home number h = same_numbers other home (grind (arith, nat_tests)) (grind (arith, nat_tests))

-- and of no other
pub other_district : (other home : DistrictKey) (number : ℕ) → other ≢ home → is_of_district other (order_key home number) ≡ false
other_district other home number apart =
    elim (is_of_district other (order_key home number)) as (λ b. is_of_district other (order_key home number) ≡ b → b ≡ false) [
      | true ↦ λ e. absurd (apart (district_is other home number e))
      | false ↦ λ e. refl
    ] refl

-- a number that is found is at most the greatest
found_number : {X : Type 0} (key : OrderKey) (row : X) (es : List (OrderKey × X)) → find order_cmp key es ≡ Some row → key.o_id ≤ greatest (numbers es)
found_number key row [] found = absurd cc
found_number key row (e ∷ es) found =
    elim (order_cmp key e.0) as (λ r. order_cmp key e.0 ≡ r → cond (is_eq r) (Some e.1) (find order_cmp key es) ≡ Some row → key.o_id ≤ greatest (numbers (e ∷ es))) [
      | Less ↦ λ t f. let rest : key.o_id ≤ greatest (numbers es) = found_number key row es f in omega arith
      | Equal ↦ λ t f. let same : key.o_id ≡ e.0.o_id = ap (λ (k : OrderKey). k.o_id) (orders_exact key e.0 t) in omega arith
      | Greater ↦ λ t f. let rest : key.o_id ≤ greatest (numbers es) = found_number key row es f in omega arith
    ] refl found

pub free_number : {X : Type 0} (rows : FinMap order_cmp X) (home : DistrictKey) (next : ℕ)
    → (rows_where (is_of_district home) rows ≢ [] → next ≡ greatest (numbers (rows_where (is_of_district home) rows)) + 1)
    → get rows (order_key home next) ≡ None
free_number {X} rows home next follows =
    let key = order_key home next in
    let test = is_of_district home in
    let es : List (OrderKey × X) = rows_where test rows in
    elim (get rows key) as (λ r. get rows key ≡ r → r ≡ None) [
      | None ↦ λ e. refl
      | Some row ↦ λ e.
          let found : find order_cmp key es ≡ Some row =
          find-where_key order_cmp test key (λ x tied. ap test (sym (orders_exact key x tied))) (entries rows)
          ∙ ap (λ b. cond b (find order_cmp key (entries rows)) None) (own_district home next)
          ∙ sym (get-entries rows key) ∙ e in
          let below : next ≤ greatest (numbers es) = found_number key row es found in
          let some : es ≢ [] = λ empty. let gone : None ≡ Some row = ap (find order_cmp key) (sym empty) ∙ found in absurd cc in
          let is : next ≡ greatest (numbers es) + 1 = follows some in
          absurd (omega arith)
    ] refl
