-- The nine tables as one family: what their rows consist of, how a table's rows differ from others, and how their keys
-- are ordered.
use Rattle.std.proofs.Common.{◌≡◌, ◌==◌, ℕ, Bool, true, false, List, [], ◌∷◌, Option, None, Some, IsTrue, refl, sym, ◌∙◌}
use Rattle.std.specs.Ordering.{nat_cmp}
use Rattle.std.specs.declared.cmp.Ordering.{Ordering}
use Rattle.std.specs.declared.cmp.Ordering.TheVariants.{Less}
use Rattle.rows.specs.declared.keys.DistrictKey.{DistrictKey}
use Rattle.rows.specs.declared.keys.StockKey.{StockKey}
use Rattle.rows.specs.declared.keys.CustomerKey.{CustomerKey}
use Rattle.rows.specs.declared.keys.OrderKey.{OrderKey}
use Rattle.rows.specs.declared.keys.OrderLineKey.{OrderLineKey}
use Rattle.rows.specs.declared.records.Item.{Item}
use Rattle.rows.specs.declared.records.Warehouse.{Warehouse}
use Rattle.rows.specs.declared.records.District.{District}
use Rattle.rows.specs.declared.records.Stock.{Stock}
use Rattle.rows.specs.declared.records.Customer.{Customer}
use Rattle.rows.specs.declared.records.History.{History}
use Rattle.rows.specs.declared.records.Order.{Order}
use Rattle.rows.specs.declared.records.NewOrder.{NewOrder}
use Rattle.rows.specs.declared.records.OrderLine.{OrderLine}
use Rattle.rows.specs.Keys.{district_cmp, stock_cmp, customer_cmp, order_cmp, line_cmp}
use Rattle.dataset.specs.Columns.{Table, Items, Warehouses, Districts, Stocks, Customers, Histories, Orders, NewOrders, Lines, table_number}
use Rattle.dataset.specs.Order.{place_cmp, follows}
use Rattle.dataset.specs.TableRow.{TableRow, OfItem, OfWarehouse, OfDistrict, OfStock, OfCustomer, OfHistory, OfOrder, OfNewOrder, OfLine, row_place}
use Rattle.dataset.proofs.Order.{place_follows, place_number, same_customer, same_district, same_history, same_item, same_line, same_new_order, same_order, same_stock, same_warehouse}

-- the tables in the order of a dataset
abbrev pub all_tables : List Table
all_tables = Items ∷ Warehouses ∷ Districts ∷ Stocks ∷ Customers ∷ Histories ∷ Orders ∷ NewOrders ∷ Lines ∷ []

-- ---- of what a table's rows are made

-- the key of a row; for a payment, the district whose list contains it
abbrev pub KeyOf : Table → Type 0
KeyOf Items = ℕ
KeyOf Warehouses = ℕ
KeyOf Districts = DistrictKey
KeyOf Stocks = StockKey
KeyOf Customers = CustomerKey
KeyOf Histories = DistrictKey
KeyOf Orders = OrderKey
KeyOf NewOrders = OrderKey
KeyOf Lines = OrderLineKey

-- what a row has besides; an order has its columns and the lines of its record
abbrev pub RowOf : Table → Type 0
RowOf Items = Item
RowOf Warehouses = Warehouse
RowOf Districts = District
RowOf Stocks = Stock
RowOf Customers = Customer
RowOf Histories = History
RowOf Orders = Order × List (OrderLineKey × OrderLine)
RowOf NewOrders = NewOrder
RowOf Lines = OrderLine

-- both
abbrev pub EntryOf : Table → Type 0
EntryOf table = KeyOf table × RowOf table

-- the row that they make
abbrev pub make : (table : Table) → EntryOf table → TableRow
make Items e = OfItem e.0 e.1
make Warehouses e = OfWarehouse e.0 e.1
make Districts e = OfDistrict e.0 e.1
make Stocks e = OfStock e.0 e.1
make Customers e = OfCustomer e.0 e.1
make Histories e = OfHistory e.0 e.1
make Orders e = OfOrder e.0 e.1.0 e.1.1
make NewOrders e = OfNewOrder e.0 e.1
make Lines e = OfLine e.0 e.1

-- of what a row is made, where it is one of the table
abbrev pub get : (table : Table) → TableRow → Option (EntryOf table)
get Items (OfItem key row) = Some (key, row)
get Warehouses (OfWarehouse key row) = Some (key, row)
get Districts (OfDistrict key row) = Some (key, row)
get Stocks (OfStock key row) = Some (key, row)
get Customers (OfCustomer key row) = Some (key, row)
get Histories (OfHistory key row) = Some (key, row)
get Orders (OfOrder key row lines) = Some (key, (row, lines))
get NewOrders (OfNewOrder key row) = Some (key, row)
get Lines (OfLine key row) = Some (key, row)
get table row = None

-- the number of the row's table
abbrev pub number_of_row : TableRow → ℕ
number_of_row row = place_number (row_place row)

-- a row is one of the table, or one of another
pub data Found (table : Table) (row : TableRow) : Type 0 where
  Own : (e : EntryOf table) → get table row ≡ Some e → row ≡ make table e → (number_of_row row == table_number table) ≡ true → Found table row
  Other : get table row ≡ None → (number_of_row row == table_number table) ≡ false → Found table row

pub find : (table : Table) (row : TableRow) → Found table row
find Items (OfItem key row) = Own (key, row) refl refl refl
find Warehouses (OfWarehouse key row) = Own (key, row) refl refl refl
find Districts (OfDistrict key row) = Own (key, row) refl refl refl
find Stocks (OfStock key row) = Own (key, row) refl refl refl
find Customers (OfCustomer key row) = Own (key, row) refl refl refl
find Histories (OfHistory key row) = Own (key, row) refl refl refl
find Orders (OfOrder key row lines) = Own (key, (row, lines)) refl refl refl
find NewOrders (OfNewOrder key row) = Own (key, row) refl refl refl
find Lines (OfLine key row) = Own (key, row) refl refl refl
find table row = Other refl refl

pub get_made : (table : Table) (e : EntryOf table) → get table (make table e) ≡ Some e
get_made Items e = refl
get_made table e = refl

pub number_made : (table : Table) (e : EntryOf table) → number_of_row (make table e) ≡ table_number table
number_made Items e = refl
number_made table e = refl

-- ---- the order of the keys

abbrev pub cmp_of : (table : Table) → KeyOf table → KeyOf table → Ordering
cmp_of Items = nat_cmp
cmp_of Warehouses = nat_cmp
cmp_of Districts = district_cmp
cmp_of Stocks = stock_cmp
cmp_of Customers = customer_cmp
cmp_of Histories = district_cmp
cmp_of Orders = order_cmp
cmp_of NewOrders = order_cmp
cmp_of Lines = line_cmp

-- the places of a table's rows are ordered by their keys
pub same_place : (table : Table) (e d : EntryOf table) → place_cmp (row_place (make table e)) (row_place (make table d)) ≡ cmp_of table e.0 d.0
same_place Items e d = same_item e.0 d.0
same_place Warehouses e d = same_warehouse e.0 d.0
same_place Districts e d = same_district e.0 d.0
same_place Stocks e d = same_stock e.0 d.0
same_place Customers e d = same_customer e.0 d.0
same_place Histories e d = same_history e.0 d.0
same_place Orders e d = same_order e.0 d.0
same_place NewOrders e d = same_new_order e.0 d.0
same_place Lines e d = same_line e.0 d.0

-- two rows of the table have different keys
abbrev pub is_keyed : Table → Bool
is_keyed Histories = false
is_keyed table = true

-- what follows a row has a greater key
pub rises : (table : Table) → IsTrue (is_keyed table) → (e later : EntryOf table) → IsTrue (follows (row_place (make table later)) (row_place (make table e)))
    → cmp_of table e.0 later.0 ≡ Less
rises Histories keyed e later follow = absurd cc
rises table keyed e later follow = sym (same_place table e later) ∙ place_follows (place_cmp (row_place (make table e)) (row_place (make table later))) follow
