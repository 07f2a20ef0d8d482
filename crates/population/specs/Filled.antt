-- The tables that are filled district by district.
use Rattle.std.specs.Prelude.{◌≡◌, ℕ, ◌*◌, List, length, map, Some}
use Rattle.std.specs.List.{All, AllByRecursion, range_with_len, slice_get}
use Rattle.std.specs.List.Sorted.{IsPermutation}
use Rattle.std.specs.BTreeMap.{BTreeMap}
use Rattle.rows.specs.declared.keys.OrderKey.{OrderKey}
use Rattle.rows.specs.declared.keys.OrderLineKey.{OrderLineKey}
use Rattle.rows.specs.declared.records.District.{District}
use Rattle.rows.specs.declared.records.Customer.{Customer}
use Rattle.rows.specs.declared.records.History.{History}
use Rattle.rows.specs.declared.records.Order.{Order}
use Rattle.rows.specs.declared.records.NewOrder.{NewOrder}
use Rattle.rows.specs.declared.records.OrderLine.{OrderLine}
use Rattle.schema.specs.declared.scale.Scale.{Scale}
use Rattle.schema.specs.declared.table_rows.TableRows.{TableRows}
use Rattle.population.specs.declared.districts.DistrictTables.{DistrictTables}
use Rattle.population.specs.Keys.{district_at}
use Rattle.population.specs.Rows.{IsOpeningItem, IsOpeningWarehouse, IsOpeningDistrict, IsOpeningStock, AreOpeningCustomers, AreOpeningPayments}
use Rattle.population.specs.Book.{IsBook, owned, owned_from}
use Rattle.population.specs.Drawn.{IsFirstDrawn}

-- the first `count` districts, in the order of their keys, have all their rows
pub record IsFilled (scale : Scale) (now count : ℕ) (districts : List District) (customers : List Customer) (histories : List (List History))
    (orders : BTreeMap OrderKey Order) (new_orders : BTreeMap OrderKey NewOrder) (lines : List (OrderLineKey × OrderLine)) : Type 0 where
  pub districts_count : length districts ≡ count
  pub district_rows : All (IsOpeningDistrict scale) districts
  pub customers_count : length customers ≡ count * scale.customers
  pub customer_rows : AreOpeningCustomers now scale.customers customers
  pub histories_count : length histories ≡ count
  pub payments : (place : ℕ) (list : List History) → slice_get histories place ≡ Some list → AreOpeningPayments now (district_at place) scale.customers list
  -- the customers of the orders of each district
  pub owners : List (List ℕ)
  pub owners_count : length owners ≡ count
  pub permuted : AllByRecursion (IsPermutation (range_with_len 1 scale.customers)) owners
  pub owned : map owned orders.entries ≡ owned_from 0 owners
  pub book : IsBook scale now orders new_orders lines

-- the same of the tables of the districts filled so far
abbrev pub AreFilled : Scale → ℕ → ℕ → DistrictTables → Type 0
AreFilled scale now count tables =
    IsFilled scale now count tables.districts.items tables.customers.items tables.histories.items tables.book.orders tables.book.new_orders tables.book.lines

-- the rows of all tables, of a population of that seed and moment
pub record IsPopulated (scale : Scale) (seed now : ℕ) (rows : TableRows) : Type 0 where
  pub items : length rows.items.items ≡ scale.items
  pub item_rows : All IsOpeningItem rows.items.items
  pub first_item : IsFirstDrawn seed (slice_get rows.items.items 0)
  pub warehouses : length rows.warehouses.items ≡ scale.warehouses
  pub warehouse_rows : All (IsOpeningWarehouse scale) rows.warehouses.items
  pub stocks : length rows.stocks.items ≡ scale.warehouses * scale.items
  pub stock_rows : All IsOpeningStock rows.stocks.items
  pub filled : IsFilled scale now (scale.warehouses * 10) rows.districts.items rows.customers.items rows.histories.items rows.orders rows.new_orders rows.lines
