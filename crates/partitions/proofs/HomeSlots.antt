-- What is stored at the places of a warehouse's districts, and of their customers.
use Rattle.std.proofs.Common.{◌≡◌, ℕ, ◌+◌, ◌-◌, ◌*◌, ◌<◌, Bool, true, false, cond, ◌&&◌, nat_lt, Some, None, IsTrue, is_some, refl, sym, ap, ◌∙◌, arith}
use Rattle.std.specs.Option.{option_map}
use Rattle.std.proofs.lemmas.Bool.Decides.{nat_tests}
use Rattle.rows.specs.declared.keys.DistrictKey.{DistrictKey}
use Rattle.rows.specs.declared.keys.CustomerKey.{CustomerKey}
use Rattle.rows.specs.Keys.{district_of_customer}
use Rattle.rows.specs.Ranged.{is_between}
use Rattle.schema.specs.declared.scale.Scale.{Scale}
use Rattle.schema.specs.Scale.{has_warehouse, district_key, customer_key}
use Rattle.schema.specs.Database.{customer_of_order}
use Rattle.partitions.specs.Parts.{Part, IsPart, is_of, has_district_of, has_customer_of}
use Rattle.partitions.specs.Slots.{AreRows, customer_slot_by, home_slot}

-- the place of a district of the warehouse
pub slot_is : (home : ℕ) (key : DistrictKey) (slot : ℕ) → home_slot home key ≡ Some slot → IsTrue (has_district_of home key) × (slot ≡ key.d_id - 1)
slot_is home key slot is =
    elim (has_district_of home key) as (λ b. cond b (Some (key.d_id - 1)) None ≡ Some slot → IsTrue b × (slot ≡ key.d_id - 1)) [
      | true ↦ λ e. (refl, cc)
      | false ↦ λ e. absurd cc
    ] is

pub slot_within : (home : ℕ) (key : DistrictKey) (slot : ℕ) → home_slot home key ≡ Some slot → slot < 10
slot_within home key slot is =
    let there = slot_is home key slot is in
    grind (arith, nat_tests, there.0, there.1)

-- the place of the district's customer c + 1
pub customer_at : (home customers : ℕ) (key : DistrictKey) (slot c : ℕ) → home_slot home key ≡ Some slot
    → customer_slot_by (home_slot home) customers (customer_key key (c + 1)) ≡ cond (nat_lt c customers) (Some (slot * customers + c)) None
customer_at home customers key slot c is =
    let number : is_between 1 customers (c + 1) ≡ nat_lt c customers = grind (arith, nat_tests) in
    let place : slot * customers + (c + 1 - 1) ≡ slot * customers + c = omega arith in
    ap (λ r. cond (is_between 1 customers (c + 1)) (option_map (λ n. n * customers + (c + 1 - 1)) r) None) is
    ∙ rw (number, place) refl

if_there : (inside within : Bool) (f : ℕ → ℕ) (n : ℕ) → is_some (cond inside (option_map f (cond within (Some n) None)) None) ≡ (within && inside)
if_there true true f n = refl
if_there true false f n = refl
if_there false true f n = refl
if_there false false f n = refl

-- a customer has a place where the warehouse has the customer
pub customer_there : (scale : Scale) (home : ℕ) (key : CustomerKey) → is_some (customer_slot_by (home_slot home) scale.customers key) ≡ has_customer_of scale home key
customer_there scale home key =
    if_there (is_between 1 scale.customers key.c_id) (has_district_of home (district_of_customer key)) (λ n. n * scale.customers + (key.c_id - 1)) (key.d_id - 1)

known_here : (here warehouse district customer : Bool) → IsTrue here → IsTrue (warehouse && district && customer) → IsTrue (here && district && customer)
known_here true true district customer h known = known
known_here true false district customer h known = absurd cc
known_here false warehouse district customer h known = absurd cc

-- the rows of a part are those of ten districts
pub are_home_rows : (p : Part) → IsPart p → AreRows (home_slot p.home) 10 p.tables
are_home_rows p h = record {
  few = omega arith;
  within = slot_within p.home;
  apart = λ one other slot first second.
      let there = slot_is p.home one slot first in
      let too = slot_is p.home other slot second in
      let same_warehouse : one.w_id ≡ other.w_id = grind (arith, nat_tests, there.0, too.0) in
      let same_district : one.d_id ≡ other.d_id = grind (arith, nat_tests, there.0, there.1, too.0, too.1) in
      ap (λ w. district_key w one.d_id) same_warehouse ∙ ap (district_key other.w_id) same_district;
  customers = λ key. h.customers key ∙ sym (customer_there p.tables.scale p.home key);
  orders = λ key row found.
      let scale = p.tables.scale in
      customer_there scale p.home (customer_of_order key row)
      ∙ known_here (is_of p.home key.w_id) (has_warehouse scale key.w_id) (is_between 1 10 key.d_id) (is_between 1 scale.customers row.c_id)
      (h.orders_here key row found) (h.orders_have_customers key row found);
  numbered = h.orders_numbered;
}
