-- The consistency conditions (clause 3.3.2).
use Rattle.std.specs.Prelude.{◌≡◌, ◌≢◌, ◌↔◌, ℕ, ◌+◌, Bool, false, ◌&&◌, ◌==◌, if◌then◌else◌, List, [], ◌∷◌, length, map, max, min, sum, ℤ, pos, ◌+ℤ◌, ◌-ℤ◌, Option, Some, None, is_some, IsTrue}
use Rattle.std.specs.List.{filter}
use Rattle.std.specs.FinMap as table
use Rattle.rows.specs.declared.keys.DistrictKey.{DistrictKey}
use Rattle.rows.specs.declared.keys.CustomerKey.{CustomerKey}
use Rattle.rows.specs.declared.keys.OrderKey.{OrderKey}
use Rattle.rows.specs.declared.keys.OrderLineKey.{OrderLineKey}
use Rattle.rows.specs.declared.records.Warehouse.{Warehouse}
use Rattle.rows.specs.declared.records.District.{District}
use Rattle.rows.specs.declared.records.Customer.{Customer}
use Rattle.rows.specs.declared.records.History.{History}
use Rattle.rows.specs.declared.records.Order.{Order}
use Rattle.rows.specs.declared.records.NewOrder.{NewOrder}
use Rattle.rows.specs.declared.records.OrderLine.{OrderLine}
use Rattle.rows.specs.Keys.{order_of_line}
use Rattle.schema.specs.Sums.{sum_rows}
use Rattle.schema.specs.Database.{Database, list_at, rows_where, is_of_district, is_line_of_district, is_of_order}

-- ---- terms that the conditions use

-- the sum of the amounts of a list's payments
abbrev pub amounts_of : List History → ℤ
amounts_of [] = pos 0
amounts_of (row ∷ rows) = row.amount +ℤ amounts_of rows

-- the greatest of some numbers, or 0 if there are none
abbrev pub greatest : List ℕ → ℕ
greatest [] = 0
greatest (n ∷ ns) = max n (greatest ns)

-- the smallest of n and some numbers
abbrev pub least : ℕ → List ℕ → ℕ
least n [] = n
least n (m ∷ ms) = least (min n m) ms

-- the orders of a district
abbrev pub orders_of : Database → DistrictKey → List (OrderKey × Order)
orders_of t home = rows_where (is_of_district home) t.orders

-- the new orders of a district
abbrev pub new_orders_of : Database → DistrictKey → List (OrderKey × NewOrder)
new_orders_of t home = rows_where (is_of_district home) t.new_orders

-- the lines of a district
abbrev pub district_lines : Database → DistrictKey → List (OrderLineKey × OrderLine)
district_lines t home = rows_where (is_line_of_district home) t.lines

-- the lines of an order
abbrev pub lines_of : Database → OrderKey → List (OrderLineKey × OrderLine)
lines_of t order = rows_where (is_of_order order) t.lines

-- the order numbers in the keys of the rows
abbrev pub numbers : {X : Type 0} → List (OrderKey × X) → List ℕ
numbers rows = map (λ row. row.0.o_id) rows

-- whether the customer placed this order
abbrev pub has_ordered : Database → CustomerKey → OrderKey → Bool
has_ordered t customer key = has_number (table.get t.orders key)
  where
    has_number : Option Order → Bool
    has_number (Some order) = (key.w_id == customer.w_id) && ((key.d_id == customer.d_id) && (order.c_id == customer.c_id))
    has_number None = false

-- the sum of the amounts of the customer's delivered lines
abbrev pub delivered : Database → CustomerKey → ℤ
delivered t customer = sum_rows (λ key line. if is_some line.delivery_d && has_ordered t customer (order_of_line key) then pos line.amount else pos 0) t.lines

-- whether the customer made this payment
abbrev pub is_payer : CustomerKey → History → Bool
is_payer customer row = (row.customer.w_id == customer.w_id) && ((row.customer.d_id == customer.d_id) && (row.customer.c_id == customer.c_id))

-- the sum of the customer's payments, in all districts
abbrev pub paid : Database → CustomerKey → ℤ
paid t customer = sum_rows (λ _ rows. amounts_of (filter (is_payer customer) rows)) t.histories

-- ---- the conditions

-- 1 (clause 3.3.2.1): W_YTD is the sum of D_YTD
abbrev pub WarehousesSumDistricts : Database → Type 0
WarehousesSumDistricts t = (warehouse : ℕ) (row : Warehouse) → table.get t.warehouses warehouse ≡ Some row
    → row.ytd ≡ sum_rows (λ key district. if key.w_id == warehouse then district.ytd else pos 0) t.districts

-- 2 (clause 3.3.2.2): D_NEXT_O_ID - 1 is the greatest O_ID of the district, and its greatest NO_O_ID if it has a new
-- order
abbrev pub NextOrderFollows : Database → DistrictKey → District → Type 0
NextOrderFollows t home row =
    (row.next_o_id ≡ greatest (numbers (orders_of t home)) + 1)
    × (new_orders_of t home ≢ [] → row.next_o_id ≡ greatest (numbers (new_orders_of t home)) + 1)

-- 2, for each district
abbrev pub NextOrdersFollow : Database → Type 0
NextOrdersFollow t = (home : DistrictKey) (row : District) → table.get t.districts home ≡ Some row → NextOrderFollows t home row

-- 3 (clause 3.3.2.3): if a district has new orders, its greatest NO_O_ID less the least, plus 1, is their number
abbrev pub HasNoGap : Database → DistrictKey → Type 0
HasNoGap t home = (first : ℕ) (others : List ℕ) → numbers (new_orders_of t home) ≡ first ∷ others
    → greatest (first ∷ others) + 1 ≡ least first others + length (first ∷ others)

-- 3, for each district
abbrev pub NewOrdersHaveNoGap : Database → Type 0
NewOrdersHaveNoGap t = (home : DistrictKey) (row : District) → table.get t.districts home ≡ Some row → HasNoGap t home

-- 4 (clause 3.3.2.4): the sum of O_OL_CNT of a district is the number of its lines
abbrev pub CountsLines : Database → DistrictKey → Type 0
CountsLines t home = sum (map (λ order. order.1.ol_cnt) (orders_of t home)) ≡ length (district_lines t home)

-- 4, for each district
abbrev pub DistrictsCountLines : Database → Type 0
DistrictsCountLines t = (home : DistrictKey) (row : District) → table.get t.districts home ≡ Some row → CountsLines t home

-- 5 (clause 3.3.2.5): O_CARRIER_ID is null exactly if the order has a row of NEW-ORDER
abbrev pub NewOrdersHaveNoCarrier : Database → Type 0
NewOrdersHaveNoCarrier t = (key : OrderKey) (row : Order) → table.get t.orders key ≡ Some row
    → (row.carrier_id ≡ None) ↔ IsTrue (table.contains_key t.new_orders key)

-- 6 (clause 3.3.2.6): O_OL_CNT is the number of the order's lines
abbrev pub OrdersCountLines : Database → Type 0
OrdersCountLines t = (key : OrderKey) (row : Order) → table.get t.orders key ≡ Some row
    → row.ol_cnt ≡ length (lines_of t key)

-- 7 (clause 3.3.2.7): OL_DELIVERY_D is null exactly if the order's O_CARRIER_ID is null
abbrev pub LinesComeWithOrders : Database → Type 0
LinesComeWithOrders t = (key : OrderLineKey) (line : OrderLine) (order : Order) → table.get t.lines key ≡ Some line → table.get t.orders (order_of_line key) ≡ Some order
    → (line.delivery_d ≡ None) ↔ (order.carrier_id ≡ None)

-- 8 (clause 3.3.2.8): W_YTD is the sum of the warehouse's H_AMOUNT
abbrev pub WarehousesSumPayments : Database → Type 0
WarehousesSumPayments t = (warehouse : ℕ) (row : Warehouse) → table.get t.warehouses warehouse ≡ Some row
    → row.ytd ≡ sum_rows (λ key rows. if key.w_id == warehouse then amounts_of rows else pos 0) t.histories

-- 9 (clause 3.3.2.9): D_YTD is the sum of the district's H_AMOUNT
abbrev pub DistrictsSumPayments : Database → Type 0
DistrictsSumPayments t = (home : DistrictKey) (row : District) → table.get t.districts home ≡ Some row
    → row.ytd ≡ amounts_of (list_at t.histories home)

-- 10 (clause 3.3.2.10): C_BALANCE is the sum of the customer's delivered lines less the sum of the customer's payments
abbrev pub BalancesAreOwed : Database → Type 0
BalancesAreOwed t = (key : CustomerKey) (row : Customer) → table.get t.customers key ≡ Some row
    → row.balance ≡ delivered t key -ℤ paid t key

-- 11 (clause 3.3.2.11), for fresh tables at full scale: the district has 2,100 more orders than new orders
abbrev pub IsFresh : Database → DistrictKey → Type 0
IsFresh t home = length (orders_of t home) ≡ length (new_orders_of t home) + 2100

-- 11, for each district
abbrev pub OrdersAreFresh : Database → Type 0
OrdersAreFresh t = (home : DistrictKey) (row : District) → table.get t.districts home ≡ Some row → IsFresh t home

-- 12 (clause 3.3.2.12): C_BALANCE plus C_YTD_PAYMENT is the sum of the customer's delivered lines
abbrev pub BalancesArePaid : Database → Type 0
BalancesArePaid t = (key : CustomerKey) (row : Customer) → table.get t.customers key ≡ Some row
    → row.balance +ℤ row.ytd_payment ≡ delivered t key

-- All conditions except the eleventh, which applies to fresh tables only.
pub record Consistent (t : Database) : Type 0 where
  pub warehouses_sum_districts : WarehousesSumDistricts t
  pub next_orders_follow : NextOrdersFollow t
  pub new_orders_have_no_gap : NewOrdersHaveNoGap t
  pub districts_count_lines : DistrictsCountLines t
  pub new_orders_have_no_carrier : NewOrdersHaveNoCarrier t
  pub orders_count_lines : OrdersCountLines t
  pub lines_come_with_orders : LinesComeWithOrders t
  pub warehouses_sum_payments : WarehousesSumPayments t
  pub districts_sum_payments : DistrictsSumPayments t
  pub balances_are_owed : BalancesAreOwed t
  pub balances_are_paid : BalancesArePaid t
