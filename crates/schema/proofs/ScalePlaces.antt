-- The scale's keys in order: how many there are, and the place of each.
use Rattle.std.proofs.Common.{◌≡◌, ℕ, ◌+◌, ◌-◌, ◌*◌, ◌/◌, ◌%◌, ◌<◌, Bool, true, false, cond, ◌&&◌, eqb, length, Some, None, refl, ap, ◌∙◌, arith}
use Rattle.std.specs.List.{range_with_len}
use Rattle.std.specs.Option.{option_map}
use Rattle.std.specs.declared.cmp.Ordering.{Ordering}
use Rattle.std.specs.declared.cmp.Ordering.TheVariants.{Less, Equal, Greater}
use Rattle.std.specs.Ordering.{eq_by_cmp, is_eq, nat_cmp, ordering_then}
use Rattle.std.proofs.lemmas.Bool.Decides.{nat_tests}
use Rattle.std.proofs.lemmas.List.FromFn.{length-range_with_len}
use Rattle.rows.specs.declared.keys.DistrictKey.{DistrictKey}
use Rattle.rows.specs.declared.keys.StockKey.{StockKey}
use Rattle.rows.specs.declared.keys.CustomerKey.{CustomerKey}
use Rattle.rows.specs.Keys.{district_cmp, stock_cmp, customer_cmp, district_of_customer}
use Rattle.rows.specs.Ranged.{is_between}
use Rattle.schema.specs.declared.scale.Scale.{Scale}
use Rattle.schema.specs.Dense.{place}
use Rattle.schema.specs.Scale.{has_warehouse, has_district, item_ids, warehouse_ids, district_key, district_keys, stock_key, stock_keys, customer_key, customer_keys, item_slot, warehouse_slot, district_slot, stock_slot, customer_slot}
use Rattle.schema.proofs.Places.{place-grid, place-numbers, length-grid}

pub same_number : (q j : ℕ) → eq_by_cmp nat_cmp q j ≡ eqb q j
same_number q j = grind (arith, nat_tests)

then_equal : (x y : Ordering) → is_eq (ordering_then x y) ≡ (is_eq x && is_eq y)
then_equal Less y = refl
then_equal Equal y = refl
then_equal Greater y = refl

then_assoc : (x y z : Ordering) → ordering_then x (ordering_then y z) ≡ ordering_then (ordering_then x y) z
then_assoc Less y z = refl
then_assoc Equal y z = refl
then_assoc Greater y z = refl

numbers_place : (q count : ℕ) → place (eq_by_cmp nat_cmp q) (range_with_len 1 count) ≡ cond (is_between 1 count q) (Some (q - 1)) None
numbers_place q count = place-numbers (eq_by_cmp nat_cmp q) q count (same_number q)

pub item_place : (scale : Scale) (q : ℕ) → place (eq_by_cmp nat_cmp q) (item_ids scale) ≡ item_slot scale q
item_place scale q = numbers_place q scale.items

pub warehouse_place : (scale : Scale) (q : ℕ) → place (eq_by_cmp nat_cmp q) (warehouse_ids scale) ≡ warehouse_slot scale q
warehouse_place scale q = numbers_place q scale.warehouses

pub in_turn : (inside within : Bool) (place_is inner count : ℕ)
    → cond inside (option_map (λ p. p * count + inner) (cond within (Some place_is) None)) None ≡ cond (within && inside) (Some (place_is * count + inner)) None
in_turn true true place_is inner count = refl
in_turn true false place_is inner count = refl
in_turn false true place_is inner count = refl
in_turn false false place_is inner count = refl

pub district_splits : (q : DistrictKey) (w d : ℕ) → eq_by_cmp district_cmp q (district_key w d) ≡ (eq_by_cmp nat_cmp q.w_id w && eqb q.d_id d)
district_splits q w d = then_equal (nat_cmp q.w_id w) (nat_cmp q.d_id d) ∙ ap (λ b. eq_by_cmp nat_cmp q.w_id w && b) (same_number q.d_id d)

pub district_place : (scale : Scale) (q : DistrictKey) → place (eq_by_cmp district_cmp q) (district_keys scale) ≡ district_slot scale q
district_place scale q =
    place-grid (eq_by_cmp district_cmp q) (eq_by_cmp nat_cmp q.w_id) district_key q.d_id 10 (warehouse_ids scale) (district_splits q)
    ∙ ap (λ r. cond (is_between 1 10 q.d_id) (option_map (λ p. p * 10 + (q.d_id - 1)) r) None) (warehouse_place scale q.w_id)
    ∙ in_turn (is_between 1 10 q.d_id) (has_warehouse scale q.w_id) (q.w_id - 1) (q.d_id - 1) 10

stock_splits : (q : StockKey) (w i : ℕ) → eq_by_cmp stock_cmp q (stock_key w i) ≡ (eq_by_cmp nat_cmp q.w_id w && eqb q.i_id i)
stock_splits q w i = then_equal (nat_cmp q.w_id w) (nat_cmp q.i_id i) ∙ ap (λ b. eq_by_cmp nat_cmp q.w_id w && b) (same_number q.i_id i)

pub stock_place : (scale : Scale) (q : StockKey) → place (eq_by_cmp stock_cmp q) (stock_keys scale) ≡ stock_slot scale q
stock_place scale q =
    place-grid (eq_by_cmp stock_cmp q) (eq_by_cmp nat_cmp q.w_id) stock_key q.i_id scale.items (warehouse_ids scale) (stock_splits q)
    ∙ ap (λ r. cond (is_between 1 scale.items q.i_id) (option_map (λ p. p * scale.items + (q.i_id - 1)) r) None) (warehouse_place scale q.w_id)
    ∙ in_turn (is_between 1 scale.items q.i_id) (has_warehouse scale q.w_id) (q.w_id - 1) (q.i_id - 1) scale.items

pub customer_splits : (q : CustomerKey) (home : DistrictKey) (c : ℕ) → eq_by_cmp customer_cmp q (customer_key home c) ≡ (eq_by_cmp district_cmp (district_of_customer q) home && eqb q.c_id c)
customer_splits q home c =
    ap is_eq (then_assoc (nat_cmp q.w_id home.w_id) (nat_cmp q.d_id home.d_id) (nat_cmp q.c_id c))
    ∙ then_equal (district_cmp (district_of_customer q) home) (nat_cmp q.c_id c)
    ∙ ap (λ b. eq_by_cmp district_cmp (district_of_customer q) home && b) (same_number q.c_id c)

pub customer_place : (scale : Scale) (q : CustomerKey) → place (eq_by_cmp customer_cmp q) (customer_keys scale) ≡ customer_slot scale q
customer_place scale q =
    let home = district_of_customer q in
    place-grid (eq_by_cmp customer_cmp q) (eq_by_cmp district_cmp home) customer_key q.c_id scale.customers (district_keys scale) (customer_splits q)
    ∙ ap (λ r. cond (is_between 1 scale.customers q.c_id) (option_map (λ p. p * scale.customers + (q.c_id - 1)) r) None) (district_place scale home)
    ∙ in_turn (is_between 1 scale.customers q.c_id) (has_district scale home) ((q.w_id - 1) * 10 + (q.d_id - 1)) (q.c_id - 1) scale.customers

-- ---- how many there are

pub length-item_ids : (scale : Scale) → length (item_ids scale) ≡ scale.items
length-item_ids scale = length-range_with_len 1 scale.items

pub length-warehouse_ids : (scale : Scale) → length (warehouse_ids scale) ≡ scale.warehouses
length-warehouse_ids scale = length-range_with_len 1 scale.warehouses

pub length-district_keys : (scale : Scale) → length (district_keys scale) ≡ scale.warehouses * 10
length-district_keys scale = length-grid district_key 10 (warehouse_ids scale) ∙ ap (λ n. n * 10) (length-warehouse_ids scale)

pub length-stock_keys : (scale : Scale) → length (stock_keys scale) ≡ scale.warehouses * scale.items
length-stock_keys scale = length-grid stock_key scale.items (warehouse_ids scale) ∙ ap (λ n. n * scale.items) (length-warehouse_ids scale)

pub length-customer_keys : (scale : Scale) → length (customer_keys scale) ≡ scale.warehouses * 10 * scale.customers
length-customer_keys scale = length-grid customer_key scale.customers (district_keys scale) ∙ ap (λ n. n * scale.customers) (length-district_keys scale)

-- ---- the district at a place

abbrev pub district_at : ℕ → DistrictKey
district_at n = record { w_id = n / 10 + 1; d_id = n % 10 + 1 }

pub place-district_at : (scale : Scale) (n : ℕ) → n < length (district_keys scale) → place (eq_by_cmp district_cmp (district_at n)) (district_keys scale) ≡ Some n
place-district_at scale n below =
    let fewer : n < scale.warehouses * 10 = omega (arith, length-district_keys scale) in
    let inside : has_district scale (district_at n) ≡ true = grind (arith, nat_tests) in
    let is : ((n / 10 + 1 - 1) * 10 + (n % 10 + 1 - 1)) ≡ n = omega arith in
    district_place scale (district_at n) ∙ rw inside (ap Some is)
