-- Rows whose columns are in their ranges make tables whose columns are.
use Rattle.std.proofs.Common.{◌≡◌, Bool, List, [], ◌∷◌, length, refl, sym, ap, subst, ◌∙◌, arith}
use Rattle.std.specs.List.{AllByRecursion, zip}
use Rattle.std.specs.Map.{values_of}
use Rattle.std.specs.declared.cmp.Ordering.{Ordering}
use Rattle.std.specs.FinMap.{entries, from_entries}
use Rattle.schema.specs.declared.scale.Scale.{Scale}
use Rattle.schema.specs.declared.table_rows.TableRows.{TableRows}
use Rattle.schema.specs.Rows.{database, HasCounts}
use Rattle.dataset.specs.Ranges.{InRange, ItemInRange, WarehouseInRange, DistrictInRange, StockInRange, CustomerInRange, HistoryInRange, OrderInRange, LineInRange}
use Rattle.dataset.proofs.Keys.{AreScaleKeys, customers_of_scale, districts_of_scale, items_of_scale, stocks_of_scale, warehouses_of_scale}
use Rattle.dataset.proofs.Tables.{customer_count, dense, district_count, history_count, item_count, stock_count, warehouse_count}

values_of-zip : {K X : Type 0} (ks : List K) (xs : List X) → length xs ≡ length ks → values_of (zip ks xs) ≡ xs
values_of-zip [] [] even = refl
values_of-zip [] (x ∷ xs) even = absurd (omega arith)
values_of-zip (k ∷ ks) [] even = absurd (omega arith)
values_of-zip (k ∷ ks) (x ∷ xs) even = ap (λ l. x ∷ l) (values_of-zip ks xs (omega arith))

all-dense : {K X : Type 0} {R : K → K → Ordering} {has : K → Bool} {ks : List K} (P : X → Type 0) → AreScaleKeys R has ks → (xs : List X) → length xs ≡ length ks
    → AllByRecursion P xs → AllByRecursion P (values_of (entries (from_entries {R = R} (zip ks xs))))
all-dense {ks = ks} P keys xs even all = subst (AllByRecursion P) (sym (ap values_of (dense keys xs even) ∙ values_of-zip ks xs even)) all

pub rows_in_range : (scale : Scale) (rows : TableRows) → HasCounts scale rows
    → AllByRecursion ItemInRange rows.items.items → AllByRecursion WarehouseInRange rows.warehouses.items → AllByRecursion DistrictInRange rows.districts.items
    → AllByRecursion StockInRange rows.stocks.items → AllByRecursion CustomerInRange rows.customers.items → AllByRecursion (AllByRecursion HistoryInRange) rows.histories.items
    → AllByRecursion OrderInRange (values_of (entries (database scale rows).orders)) → AllByRecursion LineInRange (values_of (entries (database scale rows).lines)) → InRange (database scale rows)
rows_in_range scale rows counts items warehouses districts stocks customers histories orders lines = record {
  items = all-dense ItemInRange (items_of_scale scale) rows.items.items (item_count scale rows counts) items;
  warehouses = all-dense WarehouseInRange (warehouses_of_scale scale) rows.warehouses.items (warehouse_count scale rows counts) warehouses;
  districts = all-dense DistrictInRange (districts_of_scale scale) rows.districts.items (district_count scale rows counts) districts;
  stocks = all-dense StockInRange (stocks_of_scale scale) rows.stocks.items (stock_count scale rows counts) stocks;
  customers = all-dense CustomerInRange (customers_of_scale scale) rows.customers.items (customer_count scale rows counts) customers;
  histories = all-dense (AllByRecursion HistoryInRange) (districts_of_scale scale) rows.histories.items (history_count scale rows counts) histories;
  orders = orders;
  lines = lines;
}
