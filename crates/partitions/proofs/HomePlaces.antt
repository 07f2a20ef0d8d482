-- The keys of one warehouse in order: how many there are, and the place of each.
use Rattle.std.proofs.Common.{◌≡◌, ℕ, ◌+◌, ◌-◌, ◌*◌, true, cond, [], ◌∷◌, length, Some, None, ap, ◌∙◌, arith}
use Rattle.std.specs.Option.{option_map}
use Rattle.std.specs.Ordering.{eq_by_cmp, nat_cmp}
use Rattle.std.proofs.lemmas.Bool.Decides.{nat_tests}
use Rattle.rows.specs.declared.keys.DistrictKey.{DistrictKey}
use Rattle.rows.specs.declared.keys.StockKey.{StockKey}
use Rattle.rows.specs.declared.keys.CustomerKey.{CustomerKey}
use Rattle.rows.specs.Keys.{district_cmp, stock_cmp, customer_cmp, district_of_customer}
use Rattle.rows.specs.Ranged.{is_between}
use Rattle.schema.specs.declared.scale.Scale.{Scale}
use Rattle.schema.specs.Dense.{place}
use Rattle.schema.specs.Scale.{district_key, stock_key, customer_key}
use Rattle.schema.proofs.Places.{place-grid, length-grid}
use Rattle.schema.proofs.ScalePlaces.{same_number, in_turn, district_splits, customer_splits}
use Rattle.partitions.specs.Parts.{is_of, has_district_of, has_stock_of}
use Rattle.partitions.specs.Partitions.{district_keys_of, stock_keys_of, customer_keys_of}
use Rattle.partitions.specs.Slots.{customer_slot_by, home_slot, home_stock_slot}

-- the warehouse stands alone
pub warehouse_place : (home q : ℕ) → place (eq_by_cmp nat_cmp q) (home ∷ []) ≡ cond (is_of home q) (Some 0) None
warehouse_place home q = ap (λ b. cond b (Some 0) None) (same_number q home)

pub warehouse_first : (home q : ℕ) → q ≡ home → place (eq_by_cmp nat_cmp q) (home ∷ []) ≡ Some 0
warehouse_first home q same =
    let here : is_of home q ≡ true = grind (arith, nat_tests) in
    warehouse_place home q ∙ ap (λ b. cond b (Some 0) None) here

pub district_place : (home : ℕ) (q : DistrictKey) → place (eq_by_cmp district_cmp q) (district_keys_of home) ≡ home_slot home q
district_place home q =
    place-grid (eq_by_cmp district_cmp q) (eq_by_cmp nat_cmp q.w_id) district_key q.d_id 10 (home ∷ []) (district_splits q)
    ∙ ap (λ r. cond (is_between 1 10 q.d_id) (option_map (λ p. p * 10 + (q.d_id - 1)) r) None) (warehouse_place home q.w_id)
    ∙ in_turn (is_between 1 10 q.d_id) (is_of home q.w_id) 0 (q.d_id - 1) 10
    ∙ ap (λ n. cond (has_district_of home q) (Some n) None) (let e : 0 * 10 + (q.d_id - 1) ≡ q.d_id - 1 = omega arith in e)

-- a key of STOCK is compared like a district's: by the warehouse, and then by the number
pub stock_place : (scale : Scale) (home : ℕ) (q : StockKey) → place (eq_by_cmp stock_cmp q) (stock_keys_of scale home) ≡ home_stock_slot scale home q
stock_place scale home q =
    place-grid (eq_by_cmp stock_cmp q) (eq_by_cmp nat_cmp q.w_id) stock_key q.i_id scale.items (home ∷ []) (district_splits (district_key q.w_id q.i_id))
    ∙ ap (λ r. cond (is_between 1 scale.items q.i_id) (option_map (λ p. p * scale.items + (q.i_id - 1)) r) None) (warehouse_place home q.w_id)
    ∙ in_turn (is_between 1 scale.items q.i_id) (is_of home q.w_id) 0 (q.i_id - 1) scale.items
    ∙ ap (λ n. cond (has_stock_of scale home q) (Some n) None) (let e : 0 * scale.items + (q.i_id - 1) ≡ q.i_id - 1 = omega arith in e)

pub customer_place : (scale : Scale) (home : ℕ) (q : CustomerKey)
    → place (eq_by_cmp customer_cmp q) (customer_keys_of scale home) ≡ customer_slot_by (home_slot home) scale.customers q
customer_place scale home q =
    let district = district_of_customer q in
    place-grid (eq_by_cmp customer_cmp q) (eq_by_cmp district_cmp district) customer_key q.c_id scale.customers (district_keys_of home) (customer_splits q)
    ∙ ap (λ r. cond (is_between 1 scale.customers q.c_id) (option_map (λ p. p * scale.customers + (q.c_id - 1)) r) None) (district_place home district)

-- ---- how many there are

pub length-district_keys_of : (home : ℕ) → length (district_keys_of home) ≡ 10
length-district_keys_of home = length-grid district_key 10 (home ∷ [])

pub length-stock_keys_of : (scale : Scale) (home : ℕ) → length (stock_keys_of scale home) ≡ scale.items
length-stock_keys_of scale home =
    length-grid stock_key scale.items (home ∷ []) ∙ (let e : 1 * scale.items ≡ scale.items = omega arith in e)

pub length-customer_keys_of : (scale : Scale) (home : ℕ) → length (customer_keys_of scale home) ≡ 10 * scale.customers
length-customer_keys_of scale home =
    length-grid customer_key scale.customers (district_keys_of home) ∙ ap (λ n. n * scale.customers) (length-district_keys_of home)
