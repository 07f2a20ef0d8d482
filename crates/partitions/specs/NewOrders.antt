-- The rows of NEW-ORDER of one warehouse: those of an ordered map, and the restored ones.
use Rattle.std.specs.Prelude.{ℕ, min, List, Option, Some, None}
use Rattle.std.specs.BTreeMap.{BTreeMap}
use Rattle.std.specs.FinMap as table
use Rattle.rows.specs.declared.keys.DistrictKey.{DistrictKey}
use Rattle.rows.specs.declared.keys.OrderKey.{OrderKey}
use Rattle.rows.specs.declared.records.NewOrder.{NewOrder}
use Rattle.rows.specs.Keys.{order_cmp}
use Rattle.schema.specs.MapRows.{table_of}
use Rattle.schema.specs.Database.{rows_where, is_of_district}
use Rattle.schema.specs.Consistency.{numbers}
use Rattle.schema.specs.OrderRows.{smallest}
use Rattle.partitions.specs.declared.new_order_rows.Returned.{Returned, Nothing, Row'}

-- a table of NEW-ORDER
abbrev pub NewOrderTable : Type 0
NewOrderTable = table.FinMap order_cmp NewOrder

-- the table of these rows of NEW-ORDER
abbrev pub new_order_table : List (OrderKey × NewOrder) → NewOrderTable
new_order_table rows = table.from_entries rows

-- the number of the district's oldest new order, or None if it has none
abbrev pub oldest_of : DistrictKey → NewOrderTable → Option ℕ
oldest_of home rows = smallest (numbers (rows_where (is_of_district home) rows))

-- these rows together with the restored ones
abbrev pub with_returned : Returned → NewOrderTable → NewOrderTable
with_returned Nothing rows = rows
with_returned (Row' key p rest) rows = table.insert (with_returned rest rows) key (record {})

-- the rows of the map and the restored ones, with their keys, in order
abbrev pub entries_with : Returned → BTreeMap OrderKey NewOrder → List (OrderKey × NewOrder)
entries_with returned rows = table.entries (with_returned returned (table_of order_cmp rows))

-- the lesser of a number and another, if there is another
abbrev pub lesser_of : ℕ → Option ℕ → ℕ
lesser_of number None = number
lesser_of number (Some other) = min number other
