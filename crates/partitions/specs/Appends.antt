-- The rows of one more warehouse, appended to those of the warehouses before it.
use Rattle.std.specs.Prelude.{◌≡◌, List, [], ◌∷◌, ◌++◌}
use Rattle.std.specs.declared.cmp.Ordering.{Ordering}
use Rattle.std.specs.Option.{option_or}
use Rattle.rows.specs.Keys.{order_cmp, line_cmp}
use Rattle.std.specs.FinMap as table
use Rattle.schema.specs.declared.table_rows.TableRows.{TableRows}
use Rattle.partitions.specs.declared.home_rows.HomeRows.{HomeRows}

-- at each key, the added row, or else the old one
abbrev pub AddsRows : {K X : Type 0} (R : K → K → Ordering) → List (K × X) → List (K × X) → List (K × X) → Type 0
AddsRows {K} R old more new = (key : K) → table.get (table.from_entries {R = R} new) key ≡ option_or (table.get (table.from_entries {R = R} more) key) (table.get (table.from_entries {R = R} old) key)

-- the warehouse's rows are added behind the others, table by table; ITEM is unchanged
pub record AppendsHome (old : TableRows) (home : HomeRows) (new : TableRows) : Type 0 where
  pub items : new.items.items ≡ old.items.items
  pub warehouses : new.warehouses.items ≡ old.warehouses.items ++ home.warehouse ∷ []
  pub districts : new.districts.items ≡ old.districts.items ++ home.districts.items
  pub stocks : new.stocks.items ≡ old.stocks.items ++ home.stocks.items
  pub customers : new.customers.items ≡ old.customers.items ++ home.customers.items
  pub histories : new.histories.items ≡ old.histories.items ++ home.histories.items
  pub orders : AddsRows order_cmp old.orders.entries home.orders.entries new.orders.entries
  pub new_orders : AddsRows order_cmp old.new_orders.entries home.new_orders new.new_orders.entries
  pub lines : AddsRows line_cmp old.lines home.lines new.lines
