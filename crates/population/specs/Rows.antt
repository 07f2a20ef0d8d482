-- The properties of the rows of a population (clause 4.3.3.1).
use Rattle.std.specs.Prelude.{◌≡◌, ◌≢◌, ◌↔◌, ℕ, ◌+◌, ◌-◌, ◌*◌, ◌%◌, ◌<◌, ◌≤◌, Bool, ◌||◌, true, List, ◌++◌, map, length, codes, pos, negsuc, None, Some, IsTrue}
use Rattle.std.specs.List.{All, AllByRecursion, list_all, range_with_len, slice_get}
use Rattle.std.specs.Map.{keys_of}
use Rattle.std.specs.declared.cmp.Ordering.TheVariants.{Less}
use Rattle.rows.specs.declared.keys.DistrictKey.{DistrictKey}
use Rattle.rows.specs.declared.keys.OrderKey.{OrderKey}
use Rattle.rows.specs.declared.keys.OrderLineKey.{OrderLineKey}
use Rattle.rows.specs.declared.limits.TheConstants.{FEWEST_LINES, MOST_DRAWN_LINES}
use Rattle.rows.specs.declared.records.Address.{Address}
use Rattle.rows.specs.declared.records.Item.{Item}
use Rattle.rows.specs.declared.records.Warehouse.{Warehouse}
use Rattle.rows.specs.declared.records.Stock.{Stock}
use Rattle.rows.specs.declared.records.District.{District}
use Rattle.rows.specs.declared.records.Customer.{Customer}
use Rattle.rows.specs.declared.records.History.{History}
use Rattle.rows.specs.declared.records.Order.{Order}
use Rattle.rows.specs.declared.records.OrderLine.{OrderLine}
use Rattle.rows.specs.Keys.{order_cmp, order_of_line}
use Rattle.rows.specs.LastName.{last_name_of}
use Rattle.rows.specs.Ranged.{is_between}
use Rattle.schema.specs.declared.scale.Scale.{Scale}
use Rattle.schema.specs.Scale.{has_item, has_warehouse, has_customer, customer_key}
use Rattle.schema.specs.Database.{customer_of_order, is_order_id, is_line_number}
use Rattle.population.specs.Profile.{delivered_orders}

-- the number is from `low` to `high`, both included
abbrev pub IsFrom : ℕ → ℕ → ℕ → Type 0
IsFrom low high number = (low ≤ number) × (number ≤ high)

-- 0 to 9
abbrev pub is_digit : ℕ → Bool
is_digit byte = is_between 48 57 byte

-- A to Z
abbrev pub is_capital : ℕ → Bool
is_capital byte = is_between 65 90 byte

-- a digit, or a letter from A to Z or from a to z
abbrev pub is_letter_or_digit : ℕ → Bool
is_letter_or_digit byte = is_digit byte || (is_capital byte || is_between 97 122 byte)

-- the text has from `low` to `high` characters, and each is of that kind (clause 4.3.2.2)
pub record IsTextOf (kind : ℕ → Bool) (low high : ℕ) (text : List ℕ) : Type 0 where
  pub count : IsFrom low high (length text)
  pub each : IsTrue (list_all kind text)

-- a text of letters and digits, the kind of most drawn texts
abbrev pub IsDrawnText : ℕ → ℕ → List ℕ → Type 0
IsDrawnText low high text = IsTextOf is_letter_or_digit low high text

-- a zip code is four digits followed by 11111 (clause 4.3.2.7)
abbrev pub IsOpeningZip : List ℕ → Type 0
IsOpeningZip zip = (four : List ℕ) × IsTextOf is_digit 4 4 four × (zip ≡ four ++ codes "11111")

-- an address is three texts of 10 to 20 characters, a state of two capital letters, and a zip code
pub record IsOpeningAddress (address : Address) : Type 0 where
  pub street_1 : IsDrawnText 10 20 address.street_1
  pub street_2 : IsDrawnText 10 20 address.street_2
  pub city : IsDrawnText 10 20 address.city
  pub state : IsTextOf is_capital 2 2 address.state
  pub zip : IsOpeningZip address.zip

-- The values of ITEM are drawn: I_IM_ID from 1 to 10,000, I_PRICE from 100 to 10,000 cents, I_NAME of 14 to 24 and
-- I_DATA of 26 to 50 characters (clause 4.3.3.1).
pub record IsOpeningItem (row : Item) : Type 0 where
  pub image : IsFrom 1 10000 row.im_id
  pub name : IsDrawnText 14 24 row.name
  pub price : IsFrom 100 10000 row.price
  pub text : IsDrawnText 26 50 row.«data»

-- W_YTD is 10,000 cents for each customer of a district. W_TAX, from 0 to 2,000, and the texts are drawn (clause
-- 4.3.3.1).
pub record IsOpeningWarehouse (scale : Scale) (row : Warehouse) : Type 0 where
  pub name : IsDrawnText 6 10 row.name
  pub address : IsOpeningAddress row.address
  pub tax : row.tax ≤ 2000
  pub ytd : row.ytd ≡ pos (10000 * scale.customers)

-- Nothing is ordered of a stock yet: S_YTD, S_ORDER_CNT and S_REMOTE_CNT are 0. S_QUANTITY, from 10 to 100, is drawn,
-- and so are S_DIST_01 to S_DIST_10, of 24 characters each, and S_DATA, of 26 to 50 (clause 4.3.3.1).
pub record IsOpeningStock (row : Stock) : Type 0 where
  pub quantity : IsFrom 10 100 row.quantity
  pub dist_count : length row.dist ≡ 10
  pub dist : AllByRecursion (IsDrawnText 24 24) row.dist
  pub ytd : row.ytd ≡ 0
  pub order_cnt : row.order_cnt ≡ 0
  pub remote_cnt : row.remote_cnt ≡ 0
  pub text : IsDrawnText 26 50 row.«data»

-- D_YTD is 1,000 cents for each customer, and D_NEXT_O_ID is the number of customers plus 1. D_TAX, from 0 to 2,000,
-- and the texts are drawn (clause 4.3.3.1).
pub record IsOpeningDistrict (scale : Scale) (row : District) : Type 0 where
  pub name : IsDrawnText 6 10 row.name
  pub address : IsOpeningAddress row.address
  pub tax : row.tax ≤ 2000
  pub ytd : row.ytd ≡ pos (1000 * scale.customers)
  pub next_o_id : row.next_o_id ≡ scale.customers + 1

-- C_LAST: the first 1,000 customers of a district have the names of the numbers 0 to 999 in turn; each of the others
-- has one of these names (clause 4.3.3.1).
pub record IsOpeningName (number : ℕ) (last : List ℕ) : Type 0 where
  pub in_turn : number ≤ 1000 → last ≡ last_name_of (number - 1)
  pub drawn : 1000 < number → (of : ℕ) × (of ≤ 999) × (last ≡ last_name_of of)

-- The customer of that number in the district. C_BALANCE is -1,000 cents and C_YTD_PAYMENT 1,000, from one payment;
-- there is no delivery; C_SINCE is the moment, C_MIDDLE is OE, C_CREDIT_LIM 5,000,000 cents, and C_LAST follows from
-- the number. C_DISCOUNT, from 0 to 5,000, C_CREDIT and the other texts are drawn (clause 4.3.3.1).
pub record IsOpeningCustomer (now number : ℕ) (row : Customer) : Type 0 where
  pub first : IsDrawnText 8 16 row.first
  pub middle : row.middle ≡ codes "OE"
  pub last : IsOpeningName number row.last
  pub address : IsOpeningAddress row.address
  pub phone : IsTextOf is_digit 16 16 row.phone
  pub since : row.since ≡ now
  pub credit_lim : row.credit_lim ≡ pos 5000000
  pub discount : row.discount ≤ 5000
  pub balance : row.balance ≡ negsuc 999
  pub ytd_payment : row.ytd_payment ≡ pos 1000
  pub payment_cnt : row.payment_cnt ≡ 1
  pub delivery_cnt : row.delivery_cnt ≡ 0
  pub text : IsDrawnText 300 500 row.«data»

-- the customers of district after district, `customers` of each
abbrev pub AreOpeningCustomers : ℕ → ℕ → List Customer → Type 0
AreOpeningCustomers now customers rows =
    (place : ℕ) (row : Customer) → slice_get rows place ≡ Some row → IsOpeningCustomer now (place % customers + 1) row

-- the first `count` customers of a district are added
pub record AddsCustomers (now count : ℕ) (old new : List Customer) : Type 0 where
  pub rows : List Customer
  pub added : new ≡ old ++ rows
  pub rows_count : length rows ≡ count
  pub each : (place : ℕ) (row : Customer) → slice_get rows place ≡ Some row → IsOpeningCustomer now (place + 1) row

-- Each customer of the district paid 1,000 cents at the moment; the payments are in the order of the customers'
-- numbers. H_DATA is drawn, of 12 to 24 characters (clause 4.3.3.1).
pub record AreOpeningPayments (now : ℕ) (home : DistrictKey) (customers : ℕ) (payments : List History) : Type 0 where
  pub payers : map (λ row. row.customer) payments ≡ map (customer_key home) (range_with_len 1 customers)
  pub amounts : All (λ row. row.amount ≡ pos 1000) payments
  pub dates : All (λ row. row.date ≡ now) payments
  pub text : All (λ row. IsDrawnText 12 24 row.«data») payments

-- An order is of a customer of its district, entered at the moment, and has FEWEST_LINES to MOST_DRAWN_LINES lines, all local. It has no carrier
-- exactly if it is new, else a carrier from 1 to 10 (clause 4.3.3.1).
pub record IsOpeningOrder (scale : Scale) (now : ℕ) (key : OrderKey) (row : Order) : Type 0 where
  pub number : IsTrue (is_order_id key.o_id)
  pub customer : IsTrue (has_customer scale (customer_of_order key row))
  pub carrier : (row.carrier_id ≡ None) ↔ (delivered_orders scale < key.o_id)
  pub carrier_id : (id : ℕ) → row.carrier_id ≡ Some id → IsFrom 1 10 id
  pub entry_d : row.entry_d ≡ now
  pub some_lines : FEWEST_LINES ≤ row.ol_cnt
  pub few_lines : row.ol_cnt ≤ MOST_DRAWN_LINES
  pub all_local : row.all_local ≡ true

-- A line is of five pieces, from the order's own warehouse. If its order is new, it is not delivered and its amount is
-- 1 to 999,999 cents; else it was delivered at the moment and its amount is 0. OL_DIST_INFO is drawn, of 24 characters
-- (clause 4.3.3.1).
pub record IsOpeningLine (scale : Scale) (now : ℕ) (key : OrderLineKey) (row : OrderLine) : Type 0 where
  pub number : IsTrue (is_line_number key.number)
  pub item : IsTrue (has_item scale row.i_id)
  pub supplier : IsTrue (has_warehouse scale row.supply_w_id)
  pub delivery : (row.delivery_d ≡ None) ↔ (delivered_orders scale < key.o_id)
  pub amount : row.delivery_d ≢ None → row.amount ≡ 0
  pub open_amount : row.delivery_d ≡ None → IsFrom 1 999999 row.amount
  pub moment : (moment : ℕ) → row.delivery_d ≡ Some moment → moment ≡ now
  pub home : row.supply_w_id ≡ key.w_id
  pub quantity : row.quantity ≡ 5
  pub dist_info : IsDrawnText 24 24 row.dist_info

-- all lines are of orders before this one
abbrev pub AreOfEarlierOrders : OrderKey → List (OrderLineKey × OrderLine) → Type 0
AreOfEarlierOrders order entries = AllByRecursion (λ key. order_cmp (order_of_line key) order ≡ Less) (keys_of entries)
