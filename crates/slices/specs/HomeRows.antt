-- Every row of a slice is a row of its warehouse.
use Rattle.std.proofs.Common.{◌≡◌, ℕ, Option, Some, None, is_some, arith, refl, sym, ◌∙◌}
use Rattle.std.specs.Prelude.{IsTrue}
use Rattle.std.specs.FinMap as map
use Rattle.std.proofs.lemmas.Bool.Decides.{nat_tests}
use Rattle.rows.specs.declared.keys.DistrictKey.{DistrictKey}
use Rattle.rows.specs.declared.keys.StockKey.{StockKey}
use Rattle.rows.specs.declared.keys.CustomerKey.{CustomerKey}
use Rattle.schema.specs.declared.scale.Scale.{Scale}
use Rattle.rows.specs.declared.keys.OrderKey.{OrderKey}
use Rattle.rows.specs.declared.records.Order.{Order}
use Rattle.partitions.specs.Parts.{Part, IsPart, is_of, has_district_of, has_stock_of, has_customer_of}

home_recorded : (home w_id : ℕ) → IsTrue (is_of home w_id) → w_id ≡ home
home_recorded home w_id is = grind (arith, nat_tests)

home_recorded_by_district : (home : ℕ) (key : DistrictKey) → IsTrue (has_district_of home key) → key.w_id ≡ home
home_recorded_by_district home key is = grind (arith, nat_tests)

home_recorded_by_stock : (scale : Scale) (home : ℕ) (key : StockKey) → IsTrue (has_stock_of scale home key) → key.w_id ≡ home
home_recorded_by_stock scale home key is = grind (arith, nat_tests)

home_recorded_by_customer : (scale : Scale) (home : ℕ) (key : CustomerKey) → IsTrue (has_customer_of scale home key) → key.w_id ≡ home
home_recorded_by_customer scale home key is = grind (arith, nat_tests)

pub home_of_warehouse : (p : Part) → IsPart p → (w_id : ℕ) → IsTrue (map.contains_key p.tables.warehouses w_id) → w_id ≡ p.home
home_of_warehouse p is w_id there = home_recorded p.home w_id (sym (is.warehouses w_id) ∙ there)

pub home_of_district : (p : Part) → IsPart p → (key : DistrictKey) → IsTrue (map.contains_key p.tables.districts key) → key.w_id ≡ p.home
home_of_district p is key there = home_recorded_by_district p.home key (sym (is.districts key) ∙ there)

pub home_of_stock : (p : Part) → IsPart p → (key : StockKey) → IsTrue (map.contains_key p.tables.stocks key) → key.w_id ≡ p.home
home_of_stock p is key there = home_recorded_by_stock p.tables.scale p.home key (sym (is.stocks key) ∙ there)

pub home_of_customer : (p : Part) → IsPart p → (key : CustomerKey) → IsTrue (map.contains_key p.tables.customers key) → key.w_id ≡ p.home
home_of_customer p is key there = home_recorded_by_customer p.tables.scale p.home key (sym (is.customers key) ∙ there)

home_of_found : (p : Part) → IsPart p → (key : OrderKey) (found : Option Order) → map.get p.tables.orders key ≡ found → IsTrue (is_some found) → key.w_id ≡ p.home
home_of_found p is key None at there = absurd cc
home_of_found p is key (Some row) at there = home_recorded p.home key.w_id (is.orders_here key row at)

pub home_of_order : (p : Part) → IsPart p → (key : OrderKey) → IsTrue (map.contains_key p.tables.orders key) → key.w_id ≡ p.home
home_of_order p is key there = home_of_found p is key (map.get p.tables.orders key) refl there
