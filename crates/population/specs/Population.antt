-- The initial population (clause 4.3.3.1).
use Rattle.std.specs.Prelude.{◌≡◌, ℕ, ◌+◌, ◌-◌, ◌&&◌, ◌==◌, Bool, if◌then◌else◌, List, map, length, Some, IsTrue}
use Rattle.std.specs.List.{filter, range_with_len}
use Rattle.std.specs.FinMap as table
use Rattle.std.specs.List.Sorted.{IsPermutation}
use Rattle.rows.specs.declared.keys.DistrictKey.{DistrictKey}
use Rattle.rows.specs.declared.keys.StockKey.{StockKey}
use Rattle.rows.specs.declared.keys.CustomerKey.{CustomerKey}
use Rattle.rows.specs.declared.keys.OrderKey.{OrderKey}
use Rattle.rows.specs.declared.keys.OrderLineKey.{OrderLineKey}
use Rattle.rows.specs.declared.records.Item.{Item}
use Rattle.rows.specs.declared.records.Warehouse.{Warehouse}
use Rattle.rows.specs.declared.records.District.{District}
use Rattle.rows.specs.declared.records.Stock.{Stock}
use Rattle.rows.specs.declared.records.Customer.{Customer}
use Rattle.rows.specs.declared.records.History.{History}
use Rattle.rows.specs.declared.records.Order.{Order}
use Rattle.rows.specs.declared.records.OrderLine.{OrderLine}
use Rattle.rows.specs.Ranged.{is_between}
use Rattle.schema.specs.declared.scale.Scale.{Scale}
use Rattle.schema.specs.Scale.{has_district, has_customer}
use Rattle.schema.specs.OrderRows.{line_key}
use Rattle.schema.specs.Database.{Database, IsWithinScale, list_at}
use Rattle.schema.specs.Consistency.{Consistent, OrdersAreFresh, orders_of, new_orders_of, numbers, is_payer}
use Rattle.population.specs.Profile.{delivered_orders}
use Rattle.population.specs.Rows.{IsOpeningItem, IsOpeningWarehouse, IsOpeningDistrict, IsOpeningStock, IsOpeningCustomer, AreOpeningPayments, IsOpeningOrder, IsOpeningLine}
use Rattle.population.specs.Drawn.{IsFirstDrawn}

-- the customers of a district's orders, by O_ID
abbrev pub customers_by_order : Database → DistrictKey → List ℕ
customers_by_order t home = map (λ order. order.1.c_id) (orders_of t home)

-- the orders of a district are numbered from 1 to the number of its customers, and their customers are these numbers in
-- some order
pub record OrdersOnce (t : Database) (home : DistrictKey) : Type 0 where
  pub numbered : numbers (orders_of t home) ≡ range_with_len 1 t.scale.customers
  pub shuffled : IsPermutation (range_with_len 1 t.scale.customers) (customers_by_order t home)

-- each customer of a district has one order (clause 4.3.3.1: O_C_ID is a random permutation)
abbrev pub EachOrdersOnce : Database → Type 0
EachOrdersOnce t = (home : DistrictKey) → IsTrue (has_district t.scale home) → OrdersOnce t home

-- whether the customer is of this district
abbrev pub is_home : CustomerKey → DistrictKey → Bool
is_home customer home = (home.w_id == customer.w_id) && (home.d_id == customer.d_id)

-- the number of the customer's rows of HISTORY in a district's list
abbrev pub payments_at : Database → CustomerKey → DistrictKey → ℕ
payments_at t customer home = length (filter (is_payer customer) (list_at t.histories home))

-- each customer has exactly one row of HISTORY, in the customer's district (clause 4.3.3.1)
abbrev pub EachPaidOnce : Database → Type 0
EachPaidOnce t = (customer : CustomerKey) → IsTrue (has_customer t.scale customer) → (home : DistrictKey)
    → payments_at t customer home ≡ (if is_home customer home then 1 else 0)

-- NEW-ORDER has exactly the orders of the district that are not delivered
abbrev pub HasNewOrders : Database → DistrictKey → Type 0
HasNewOrders t home = numbers (new_orders_of t home) ≡ range_with_len (delivered_orders t.scale + 1) (t.scale.customers - delivered_orders t.scale)

-- the lines of each order are numbered from 1 to its O_OL_CNT (clause 4.3.3.1)
abbrev pub HasLinesInTurn : Database → Type 0
HasLinesInTurn t = (key : OrderKey) (row : Order) → table.get t.orders key ≡ Some row
    → (number : ℕ) → table.contains_key t.lines (line_key key number) ≡ is_between 1 row.ol_cnt number

-- The tables of that scale, drawn from that seed, with that moment as every date and time. Each table has exactly the
-- rows of the scale, with initial values; each customer has ordered and paid once; and all twelve consistency
-- conditions hold, condition 11 at full scale.
pub record IsOpening (scale : Scale) (seed now : ℕ) (t : Database) : Type 0 where
  pub of_scale : t.scale ≡ scale
  pub within : IsWithinScale t
  pub first_item : IsFirstDrawn seed (table.get t.items 1)
  pub items : (item : ℕ) (row : Item) → table.get t.items item ≡ Some row → IsOpeningItem row
  pub warehouses : (warehouse : ℕ) (row : Warehouse) → table.get t.warehouses warehouse ≡ Some row → IsOpeningWarehouse scale row
  pub districts : (home : DistrictKey) (row : District) → table.get t.districts home ≡ Some row → IsOpeningDistrict scale row
  pub stocks : (key : StockKey) (row : Stock) → table.get t.stocks key ≡ Some row → IsOpeningStock row
  pub customers : (key : CustomerKey) (row : Customer) → table.get t.customers key ≡ Some row → IsOpeningCustomer now key.c_id row
  pub payments : (home : DistrictKey) (rows : List History) → table.get t.histories home ≡ Some rows → AreOpeningPayments now home scale.customers rows
  pub orders : (key : OrderKey) (row : Order) → table.get t.orders key ≡ Some row → IsOpeningOrder scale now key row
  pub lines : (key : OrderLineKey) (row : OrderLine) → table.get t.lines key ≡ Some row → IsOpeningLine scale now key row
  pub line_numbers : HasLinesInTurn t
  pub new_orders : (home : DistrictKey) → IsTrue (has_district scale home) → HasNewOrders t home
  pub orders_once : EachOrdersOnce t
  pub paid_once : EachPaidOnce t
  pub consistent : Consistent t
  pub fresh : scale.customers ≡ 3000 → OrdersAreFresh t
