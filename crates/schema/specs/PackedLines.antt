-- Lines that are stored under their orders, each with its number.
use Rattle.std.specs.Prelude.{◌≡◌, ℕ, ◌+◌, ◌<◌, ◌-◌, ◌^◌, List, [], ◌∷◌, ◌++◌, length, slice_get, Some, None}
use Rattle.std.specs.BTreeMap.{BTreeMap, get}
use Rattle.std.specs.List.{AllByRecursion}
use Rattle.std.specs.List.Sorted.{IsStrictlySortedBy}
use Rattle.std.specs.Map.{keys_of}
use Rattle.std.specs.Ordering.{nat_cmp}
use Rattle.std.specs.FinMap as table
use Rattle.rows.specs.declared.keys.OrderKey.{OrderKey}
use Rattle.rows.specs.declared.keys.OrderLineKey.{OrderLineKey}
use Rattle.rows.specs.declared.records.OrderLine.{OrderLine}
use Rattle.rows.specs.Keys.{order_cmp}
use Rattle.schema.specs.OrderRows.{LineTable, line_key, line_table}

-- the lines of an order as a table, keyed by number
abbrev pub numbered : List (ℕ × OrderLine) → table.FinMap nat_cmp OrderLine
numbered lines = table.from_entries lines

-- the lines, numbered from that number on
abbrev pub numbered_from : ℕ → List OrderLine → List (ℕ × OrderLine)
numbered_from number [] = []
numbered_from number (row ∷ rows) = (number, row) ∷ numbered_from (number + 1) rows

-- the lines of the order with their keys
abbrev pub with_keys : OrderKey → List (ℕ × OrderLine) → List (OrderLineKey × OrderLine)
with_keys order [] = []
with_keys order (line ∷ lines) = (line_key order line.0, line.1) ∷ with_keys order lines

-- the lines of all orders with their keys
abbrev pub all_lines : List (OrderKey × List (ℕ × OrderLine)) → List (OrderLineKey × OrderLine)
all_lines [] = []
all_lines (order ∷ orders) = with_keys order.0 order.1 ++ all_lines orders

-- the table that consists of the lines of an order
abbrev pub order_lines_table : OrderKey → List (ℕ × OrderLine) → LineTable
order_lines_table order lines = line_table (with_keys order lines)

-- the table that consists of the lines of all orders
abbrev pub all_lines_table : BTreeMap OrderKey (List (ℕ × OrderLine)) → LineTable
all_lines_table orders = line_table (all_lines orders.entries)

-- the lines of each order are in ascending order of number
abbrev pub AreNumbered : List (OrderKey × List (ℕ × OrderLine)) → Type 0
AreNumbered orders = AllByRecursion (λ order. IsStrictlySortedBy nat_cmp (keys_of order.1)) orders

-- this order is the last of these; an order whose lines were all taken back is still one of these
abbrev pub IsLast : OrderKey → BTreeMap OrderKey (List (ℕ × OrderLine)) → Type 0
IsLast order orders = slice_get (keys_of orders.entries) (length orders.entries - 1) ≡ Some order

-- this order is not one of these
abbrev pub HasNone : OrderKey → BTreeMap OrderKey (List (ℕ × OrderLine)) → Type 0
HasNone order orders = get order_cmp orders order ≡ None

-- the orders ascend, and they have count lines, fewer than 2^63
pub record AreKept (orders : List (OrderKey × List (ℕ × OrderLine))) (count : ℕ) : Type 0 where
  pub ordered : IsStrictlySortedBy order_cmp (keys_of orders)
  pub numbered : AreNumbered orders
  pub many : count ≡ length (all_lines orders)
  pub fits : count < 2 ^ 63
