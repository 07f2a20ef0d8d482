-- The customers of a district, whose rows are adjacent.
use Rattle.std.proofs.Common.{◌≡◌, ℕ, zero, suc, ◌+◌, ◌-◌, ◌*◌, ◌<◌, ◌≤◌, true, false, cond, nat_lt, List, [], ◌∷◌, length, take, drop, Option, Some, None, Bor, IfSome, IsTrue, is_some, refl, sym, ap, ◌∙◌, arith}
use Rattle.std.specs.List.{slice_get, slice_range, PartBy}
use Rattle.std.specs.Option.{option_and_then}
use Rattle.std.specs.FinMap as map
use Rattle.std.proofs.lemmas.Bool.Decides.{nat_tests}
use Rattle.std.proofs.Math.Nat.{mul-le-mul_right}
use Rattle.rows.specs.declared.keys.DistrictKey.{DistrictKey}
use Rattle.rows.specs.declared.records.Customer.{Customer}
use Rattle.rows.specs.Ranged.{is_between}
use Rattle.schema.specs.declared.scale.Scale.{Scale}
use Rattle.schema.specs.declared.table_rows.TableRows.{TableRows}
use Rattle.schema.specs.Scale.{has_district, district_slot, customer_slot, customer_key, customer_keys, district_keys}
use Rattle.schema.specs.Rows.{FitsScale, database}
use Rattle.schema.proofs.Places.{get-dense, place-within}
use Rattle.schema.proofs.KeyOrders.{customers_total, customers_exact}
use Rattle.schema.proofs.ScalePlaces.{customer_place, district_place, length-district_keys}

pub slice_get-drop : {X : Type 0} (xs : List X) (k c : ℕ) → slice_get (drop k xs) c ≡ slice_get xs (k + c)
slice_get-drop xs zero c = ap (slice_get xs) (let e : c ≡ 0 + c = omega arith in e)
slice_get-drop [] (suc k) c = refl
slice_get-drop (x ∷ xs) (suc k) c = slice_get-drop xs k c ∙ ap (slice_get (x ∷ xs)) (let e : suc (k + c) ≡ suc k + c = omega arith in e)

pub slice_get-take : {X : Type 0} (xs : List X) (m c : ℕ) → slice_get (take m xs) c ≡ cond (nat_lt c m) (slice_get xs c) None
slice_get-take xs zero c = let e : nat_lt c 0 ≡ false = grind (arith, nat_tests) in rw e refl
slice_get-take {X = X} [] (suc m) c =
    elim (nat_lt c (suc m)) as (λ b. slice_get {X = X} [] c ≡ cond b (slice_get {X = X} [] c) None) [ true ↦ refl | false ↦ refl ]
slice_get-take (x ∷ xs) (suc m) zero = let e : nat_lt 0 (suc m) ≡ true = grind (arith, nat_tests) in rw e refl
slice_get-take (x ∷ xs) (suc m) (suc c) =
    let e : nat_lt (suc c) (suc m) ≡ nat_lt c m = grind (arith, nat_tests) in
    slice_get-take xs m c ∙ rw e refl

-- the slot of a district of the scale
slot_is : (scale : Scale) (home : DistrictKey) (slot : ℕ) → district_slot scale home ≡ Some slot → IsTrue (has_district scale home) × (slot ≡ (home.w_id - 1) * 10 + (home.d_id - 1))
slot_is scale home slot is =
    elim (has_district scale home) as (λ b. cond b (Some ((home.w_id - 1) * 10 + (home.d_id - 1))) None ≡ Some slot → IsTrue b × (slot ≡ (home.w_id - 1) * 10 + (home.d_id - 1))) [
      | true ↦ λ e. (refl, cc)
      | false ↦ λ e. absurd cc
    ] is

pub has_slot : (scale : Scale) (home : DistrictKey) (slot : ℕ) → district_slot scale home ≡ Some slot → has_district scale home ≡ true
has_slot scale home slot is = (slot_is scale home slot is).0

-- the slot of the district's customer c + 1
customer_at : (scale : Scale) (home : DistrictKey) (slot c : ℕ) → district_slot scale home ≡ Some slot
    → customer_slot scale (customer_key home (c + 1)) ≡ cond (nat_lt c scale.customers) (Some (slot * scale.customers + c)) None
customer_at scale home slot c is =
    let there = slot_is scale home slot is in
    let number : is_between 1 scale.customers (c + 1) ≡ nat_lt c scale.customers = grind (arith, nat_tests) in
    let place : ((home.w_id - 1) * 10 + (home.d_id - 1)) * scale.customers + (c + 1 - 1) ≡ slot * scale.customers + c =
    ap (λ n. n * scale.customers + (c + 1 - 1)) (sym there.1) ∙ ap (λ n. slot * scale.customers + n) (let e : c + 1 - 1 ≡ c = omega arith in e) in
    rw (there.0, number, place) refl

module _ (scale : Scale) (rows : TableRows) (h : FitsScale scale rows) (home : DistrictKey) (slot : ℕ) (is : district_slot scale home ≡ Some slot) where
  -- the district's customers lie within the table
  pub customers_within : (slot + 1) * scale.customers ≤ length rows.customers.items
  customers_within =
      let below : slot < length (district_keys scale) = place-within _ (district_keys scale) slot (district_place scale home ∙ is) in
      let fewer : slot + 1 ≤ scale.warehouses * 10 = omega (arith, length-district_keys scale) in
      let scaled : (slot + 1) * scale.customers ≤ scale.warehouses * 10 * scale.customers = mul-le-mul_right scale.customers fewer in
      omega (arith, h.counts.customers)

  -- and are those that the table has there
  pub customers_read : (part : List Customer) → part ≡ take ((slot + 1) * scale.customers - slot * scale.customers) (drop (slot * scale.customers) rows.customers.items) → (c : ℕ)
      → slice_get part c ≡ map.get (database scale rows).customers (customer_key home (c + 1))
  customers_read part cut c =
      let many : (slot + 1) * scale.customers - slot * scale.customers ≡ scale.customers = grind arith in
      ap (λ l. slice_get l c) (cut ∙ ap (λ n. take n (drop (slot * scale.customers) rows.customers.items)) many)
      ∙ slice_get-take (drop (slot * scale.customers) rows.customers.items) scale.customers c
      ∙ ap (λ r. cond (nat_lt c scale.customers) r None) (slice_get-drop rows.customers.items (slot * scale.customers) c)
      ∙ sym (get-dense customers_total customers_exact (customer_keys scale) rows.customers.items (customer_key home (c + 1))
      ∙ ap (option_and_then (slice_get rows.customers.items)) (customer_place scale (customer_key home (c + 1)) ∙ customer_at scale home slot c is)
      ∙ elim (nat_lt c scale.customers) as (λ b. option_and_then (slice_get rows.customers.items) (cond b (Some (slot * scale.customers + c)) None) ≡ cond b (slice_get rows.customers.items (slot * scale.customers + c)) None) [ true ↦ refl | false ↦ refl ])

  -- so what `get` gives of the table is them
  pub customers_part : (items : List Customer) → items ≡ rows.customers.items → (r : Option (Bor (List Customer)))
      → PartBy (λ (x : Bor (List Customer)). x.now) items (slot * scale.customers) ((slot + 1) * scale.customers) r
      → IfSome r (λ part. (c : ℕ) → slice_get part.now c ≡ map.get (database scale rows).customers (customer_key home (c + 1)))
  customers_part items same None h = tt
  customers_part items same (Some part) h = λ c. customers_read part.now (h.0.2 ∙ ap (λ l. slice_range l (slot * scale.customers) ((slot + 1) * scale.customers)) same) c

  pub customers_there : (items : List Customer) → items ≡ rows.customers.items → (r : Option (Bor (List Customer)))
      → PartBy (λ (x : Bor (List Customer)). x.now) items (slot * scale.customers) ((slot + 1) * scale.customers) r → is_some r ≡ true
  customers_there items same r h =
      let ordered : slot * scale.customers ≤ (slot + 1) * scale.customers = grind arith in
      let inside : (slot + 1) * scale.customers ≤ length items = omega (arith, customers_within, ap length same) in
      h.1 (ordered, inside)
