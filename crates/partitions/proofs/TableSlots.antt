-- The places of all districts of the scale, and the rows of all tables.
use Rattle.std.proofs.Common.{◌≡◌, ℕ, ◌+◌, ◌-◌, ◌*◌, ◌<◌, ◌≤◌, true, false, cond, ◌&&◌, Option, Some, None, IsTrue, is_some, refl, ap, subst, ◌∙◌, arith}
use Rattle.std.specs.Option.{option_map}
use Rattle.std.proofs.lemmas.Bool.Decides.{nat_tests}
use Rattle.rows.specs.declared.keys.DistrictKey.{DistrictKey}
use Rattle.rows.specs.declared.keys.CustomerKey.{CustomerKey}
use Rattle.rows.specs.Keys.{district_of_customer}
use Rattle.rows.specs.Ranged.{is_between}
use Rattle.rows.specs.declared.limits.TheConstants.{MOST_WAREHOUSES}
use Rattle.schema.specs.declared.scale.Scale.{Scale}
use Rattle.schema.specs.Scale.{has_district, has_customer, district_slot}
use Rattle.schema.specs.Database.{Database, IsWithinScale, customer_of_order}
use Rattle.partitions.specs.Slots.{AreRows, customer_slot_by}

-- the place of a district of the scale
slot_is : (scale : Scale) (home : DistrictKey) (place : ℕ) → district_slot scale home ≡ Some place
    → IsTrue (has_district scale home) × (place ≡ (home.w_id - 1) * 10 + (home.d_id - 1))
slot_is scale home place is =
    elim (has_district scale home) as (λ b. cond b (Some ((home.w_id - 1) * 10 + (home.d_id - 1))) None ≡ Some place → IsTrue b × (place ≡ (home.w_id - 1) * 10 + (home.d_id - 1))) [
      | true ↦ λ e. (refl, cc)
      | false ↦ λ e. absurd cc
    ] is

numbers_of : (scale : Scale) (home : DistrictKey) → IsTrue (has_district scale home)
    → (1 ≤ home.w_id) × (home.w_id ≤ scale.warehouses) × (1 ≤ home.d_id) × (home.d_id ≤ 10)
numbers_of scale home h = (grind (arith, nat_tests), grind (arith, nat_tests), grind (arith, nat_tests), grind (arith, nat_tests))

place_within : (scale : Scale) (home : DistrictKey) (place : ℕ) → district_slot scale home ≡ Some place → place < scale.warehouses * 10
place_within scale home place is =
    let there = slot_is scale home place is in
    let e : place ≡ (home.w_id - 1) * 10 + (home.d_id - 1) = there.1 in
    let n = numbers_of scale home there.0 in
    let a : 1 ≤ home.w_id = n.0 in
    let b : home.w_id ≤ scale.warehouses = n.1 in
    let d : home.d_id ≤ 10 = n.3 in
    omega arith

places_apart : (scale : Scale) (one other : DistrictKey) (place : ℕ) → district_slot scale one ≡ Some place → district_slot scale other ≡ Some place → one ≡ other
places_apart scale one other place first second =
    let here = slot_is scale one place first in
    let there = slot_is scale other place second in
    let e : place ≡ (one.w_id - 1) * 10 + (one.d_id - 1) = here.1 in
    let f : place ≡ (other.w_id - 1) * 10 + (other.d_id - 1) = there.1 in
    let n = numbers_of scale one here.0 in
    let m = numbers_of scale other there.0 in
    let a : 1 ≤ one.w_id = n.0 in
    let b : 1 ≤ one.d_id = n.2 in
    let c : one.d_id ≤ 10 = n.3 in
    let g : 1 ≤ other.w_id = m.0 in
    let h : 1 ≤ other.d_id = m.2 in
    let i : other.d_id ≤ 10 = m.3 in
    let w : one.w_id ≡ other.w_id = omega arith in
    let d : one.d_id ≡ other.d_id = omega arith in
    λ k. record { w_id = w k; d_id = d k }

customer_here : (scale : Scale) (key : CustomerKey) → has_customer scale key ≡ is_some (customer_slot_by (district_slot scale) scale.customers key)
customer_here scale key =
    let home = district_of_customer key in
    elim (has_district scale home) as (λ b. (b && is_between 1 scale.customers key.c_id)
    ≡ is_some (cond (is_between 1 scale.customers key.c_id) (option_map (λ place. place * scale.customers + (key.c_id - 1)) (cond b (Some ((home.w_id - 1) * 10 + (home.d_id - 1))) None)) None)) [
      | true ↦ elim (is_between 1 scale.customers key.c_id) as (λ i. i ≡ is_some (cond i (Some (((home.w_id - 1) * 10 + (home.d_id - 1)) * scale.customers + (key.c_id - 1))) None)) [ true ↦ refl | false ↦ refl ]
      | false ↦ elim (is_between 1 scale.customers key.c_id) as (λ i. let r : Option ℕ = cond i None None in false ≡ is_some r) [ true ↦ refl | false ↦ refl ]
    ]

-- the rows of all tables are at the places of the scale's districts
pub tables_are_rows : (scale : Scale) (t : Database) → scale ≡ t.scale → IsWithinScale t → AreRows (district_slot t.scale) (t.scale.warehouses * 10) t
tables_are_rows scale t same within = record {
  few = let most : scale.warehouses ≤ MOST_WAREHOUSES = scale.limits.most_warehouses in let e : scale.warehouses ≡ t.scale.warehouses = ap (λ s. s.warehouses) same in omega arith;
  within = place_within t.scale;
  apart = places_apart t.scale;
  customers = λ key. within.customers key ∙ customer_here t.scale key;
  orders = λ key row found. subst IsTrue (customer_here t.scale (customer_of_order key row)) (within.orders_have_customers key row found);
  numbered = within.orders_numbered;
}
