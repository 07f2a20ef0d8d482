-- The ranges of the columns (clause 1.3.1), which the types of rows guarantee for every value.
use Rattle.std.specs.Prelude.{◌≡◌, ◌<◌, ◌≤◌, ℕ, length, IfSome, IsTrue, List}
use Rattle.std.specs.List.{AllByRecursion}
use Rattle.std.specs.FinMap as table
use Rattle.files.specs.MomentText.{IsMoment}
use Rattle.amounts.specs.Money.{IsMoney}
use Rattle.rows.specs.Text.{IsText}
use Rattle.rows.specs.declared.records.Address.{Address}
use Rattle.rows.specs.declared.records.Item.{Item}
use Rattle.rows.specs.declared.records.Warehouse.{Warehouse}
use Rattle.rows.specs.declared.records.District.{District}
use Rattle.rows.specs.declared.records.Stock.{Stock}
use Rattle.rows.specs.declared.records.Customer.{Customer}
use Rattle.rows.specs.declared.records.History.{History}
use Rattle.rows.specs.declared.records.Order.{Order}
use Rattle.rows.specs.declared.records.OrderLine.{OrderLine}
use Rattle.rows.specs.declared.keys.OrderKey.{OrderKey}
use Rattle.rows.specs.declared.keys.OrderLineKey.{OrderLineKey}
use Rattle.rows.specs.Keys.{district_of_order, order_of_line}
use Rattle.rows.specs.declared.limits.TheConstants.{LAST_LINE}
use Rattle.schema.specs.declared.scale.Scale.{Scale}
use Rattle.schema.specs.Scale.{has_item, has_warehouse, has_district, has_customer}
use Rattle.schema.specs.Database.{Database, is_order_id, is_line_number}

-- ---- ranges of a column

-- from low to high, inclusive
abbrev pub IsFrom : ℕ → ℕ → ℕ → Type 0
IsFrom low high number = (low ≤ number) × (number ≤ high)

-- a counter that only grows
abbrev pub IsCounter : ℕ → Type 0
IsCounter number = IsFrom 0 999999999 number

-- a rate, in ten-thousandths
abbrev pub IsRate : ℕ → Type 0
IsRate number = number < 10000

-- ---- ranges of a row

-- street_1, street_2, city, state and zip
pub record AddressInRange (a : Address) : Type 0 where
  pub street_1 : IsText 20 a.street_1
  pub street_2 : IsText 20 a.street_2
  pub city : IsText 20 a.city
  pub state : IsText 2 a.state
  pub zip : IsText 9 a.zip

-- the columns of ITEM except its key
pub record ItemInRange (row : Item) : Type 0 where
  pub im_id : IsFrom 1 10000 row.im_id
  pub name : IsText 24 row.name
  pub price : IsFrom 1 99999 row.price
  pub item_data : IsText 50 row.data

-- the columns of WAREHOUSE except its key
pub record WarehouseInRange (row : Warehouse) : Type 0 where
  pub name : IsText 10 row.name
  pub address : AddressInRange row.address
  pub tax : IsRate row.tax
  pub ytd : IsMoney row.ytd

-- the columns of DISTRICT except its key
pub record DistrictInRange (row : District) : Type 0 where
  pub name : IsText 10 row.name
  pub address : AddressInRange row.address
  pub tax : IsRate row.tax
  pub ytd : IsMoney row.ytd
  pub next_o_id : IsFrom 1 10000000 row.next_o_id

-- S_DIST_01 to S_DIST_10
pub record AreDistrictInfos (infos : List (List ℕ)) : Type 0 where
  pub ten : length infos ≡ 10
  pub texts : AllByRecursion (IsText 24) infos

-- the columns of STOCK except its key
pub record StockInRange (row : Stock) : Type 0 where
  pub quantity : IsFrom 10 100 row.quantity
  pub dist : AreDistrictInfos row.dist
  pub ytd : IsCounter row.ytd
  pub order_cnt : IsCounter row.order_cnt
  pub remote_cnt : IsCounter row.remote_cnt
  pub stock_data : IsText 50 row.data

-- the columns of CUSTOMER except its key
pub record CustomerInRange (row : Customer) : Type 0 where
  pub first : IsText 16 row.first
  pub middle : IsText 2 row.middle
  pub last : IsText 16 row.last
  pub address : AddressInRange row.address
  pub phone : IsText 16 row.phone
  pub since : IsMoment row.since
  pub credit_lim : IsMoney row.credit_lim
  pub discount : IsRate row.discount
  pub balance : IsMoney row.balance
  pub ytd_payment : IsMoney row.ytd_payment
  pub payment_cnt : IsCounter row.payment_cnt
  pub delivery_cnt : IsCounter row.delivery_cnt
  pub customer_data : IsText 500 row.data

-- the columns of HISTORY except the numbers of the district and of the customer who paid
pub record HistoryInRange (row : History) : Type 0 where
  pub date : IsMoment row.date
  pub amount : IsMoney row.amount
  pub history_data : IsText 24 row.data

-- the columns of ORDER except its key and its customer
pub record OrderInRange (row : Order) : Type 0 where
  pub entry_d : IsMoment row.entry_d
  pub carrier_id : IfSome row.carrier_id (IsFrom 1 10)
  pub ol_cnt : IsFrom 1 LAST_LINE row.ol_cnt

-- the columns of ORDER-LINE except its key, its item and its warehouse
pub record LineInRange (row : OrderLine) : Type 0 where
  pub delivery_d : IfSome row.delivery_d IsMoment
  pub quantity : IsFrom 1 10 row.quantity
  pub amount : IsFrom 0 999999 row.amount
  pub dist_info : IsText 24 row.dist_info

-- ---- ranges of all rows

-- each row of each table; the scale gives the range of the numbers that refer to other rows
pub record InRange (t : Database) : Type 0 where
  pub items : AllByRecursion ItemInRange (table.values t.items)
  pub warehouses : AllByRecursion WarehouseInRange (table.values t.warehouses)
  pub districts : AllByRecursion DistrictInRange (table.values t.districts)
  pub stocks : AllByRecursion StockInRange (table.values t.stocks)
  pub customers : AllByRecursion CustomerInRange (table.values t.customers)
  pub histories : AllByRecursion (AllByRecursion HistoryInRange) (table.values t.histories)
  pub orders : AllByRecursion OrderInRange (table.values t.orders)
  pub lines : AllByRecursion LineInRange (table.values t.lines)

-- ---- ranges of a row within a scale, including the numbers that refer to other rows

-- a payment by a customer of the scale
pub record IsPayment (scale : Scale) (row : History) : Type 0 where
  pub payer : IsTrue (has_customer scale row.customer)
  pub in_range : HistoryInRange row

-- the key of an order of the scale
pub record IsOrderKey (scale : Scale) (key : OrderKey) : Type 0 where
  pub home : IsTrue (has_district scale (district_of_order key))
  pub number : IsTrue (is_order_id key.o_id)

-- an order by a customer of the scale
pub record IsOrder (scale : Scale) (row : Order) : Type 0 where
  pub c_id : IsFrom 1 scale.customers row.c_id
  pub in_range : OrderInRange row

-- the key of a line of an order of the scale
pub record IsLineKey (scale : Scale) (key : OrderLineKey) : Type 0 where
  pub order : IsOrderKey scale (order_of_line key)
  pub number : IsTrue (is_line_number key.number)

-- a line for an item of the scale, supplied by a warehouse of the scale
pub record IsLine (scale : Scale) (row : OrderLine) : Type 0 where
  pub item : IsTrue (has_item scale row.i_id)
  pub supplier : IsTrue (has_warehouse scale row.supply_w_id)
  pub in_range : LineInRange row
