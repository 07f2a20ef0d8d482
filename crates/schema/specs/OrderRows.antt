-- The tables after an order is added, taken back or delivered, and selections of orders.
use Rattle.std.specs.Prelude.{◌≡◌, ℕ, zero, suc, ◌+◌, ◌<◌, Bool, ◌&&◌, ◌==◌, nat_le, nat_lt, if◌then◌else◌, List, [], ◌∷◌, length, map, Option, Some, None, IsTrue}
use Rattle.std.specs.FinMap as table
use Rattle.rows.specs.declared.keys.DistrictKey.{DistrictKey}
use Rattle.rows.specs.declared.keys.OrderKey.{OrderKey}
use Rattle.rows.specs.declared.keys.OrderLineKey.{OrderLineKey}
use Rattle.rows.specs.declared.records.Order.{Order}
use Rattle.rows.specs.declared.records.NewOrder.{NewOrder}
use Rattle.rows.specs.declared.records.OrderLine.{OrderLine}
use Rattle.rows.specs.Keys.{line_cmp}
use Rattle.schema.specs.declared.scale.Scale.{Scale}
use Rattle.schema.specs.declared.order_rows.Replaced.{Replaced}
use Rattle.schema.specs.MapRows.{map_rows, put_row}
use Rattle.schema.specs.Scale.{has_item, has_warehouse}
use Rattle.schema.specs.Database.{Database, is_line_of_district, is_of_order}
use Rattle.schema.specs.Consistency.{least, numbers, new_orders_of}

-- ---- adding an order (clause 2.4.2.2)

-- a table of ORDER-LINE
abbrev pub LineTable : Type 0
LineTable = table.FinMap line_cmp OrderLine

-- the table that consists of these lines
abbrev pub line_table : List (OrderLineKey × OrderLine) → LineTable
line_table lines = table.from_entries lines

-- the key of the order's line with that number
abbrev pub line_key : OrderKey → ℕ → OrderLineKey
line_key order number = record { w_id = order.w_id; d_id = order.d_id; o_id = order.o_id; number = number }

-- the table with the order's lines from that number on replaced: Some row is stored, and None is deleted
abbrev pub put_lines : OrderKey → ℕ → List (Option OrderLine) → LineTable → LineTable
put_lines order number [] lines = lines
put_lines order number (row ∷ rows) lines = put_row (put_lines order (number + 1) rows lines) (line_key order number) row

-- the table with these lines of the order, numbered from 1
abbrev pub with_lines : OrderKey → List OrderLine → LineTable → LineTable
with_lines order rows lines = put_lines order 1 (map Some rows) lines

-- the table has the order's lines numbered from 1 to count
abbrev pub HasLines : LineTable → OrderKey → ℕ → Type 0
HasLines lines order count = (n : ℕ) → n < count → IsTrue (table.contains_key lines (line_key order (1 + n)))

-- the rows stored at so many line keys of the order, from that number on
abbrev pub lines_at : LineTable → OrderKey → ℕ → ℕ → List (Option OrderLine)
lines_at lines order number zero = []
lines_at lines order number (suc count) = table.get lines (line_key order number) ∷ lines_at lines order (number + 1) count

-- the tables with these rows for an order; its lines are numbered from 1
abbrev pub with_order_rows : Database → OrderKey → Option Order → Option NewOrder → List (Option OrderLine) → Database
with_order_rows t key order new_order lines = record t {
  orders = put_row t.orders key order;
  new_orders = put_row t.new_orders key new_order;
  lines = put_lines key 1 lines t.lines;
}

-- the tables with this new order: its row, its row of NEW-ORDER, and its lines, numbered from 1
abbrev pub with_order : Database → OrderKey → Order → List OrderLine → Database
with_order t key order lines = with_order_rows t key (Some order) (Some (record {})) (map Some lines)

-- whether the line's item and its supplying warehouse are in the scale
abbrev pub is_line_within : Scale → OrderLine → Bool
is_line_within scale line = has_item scale line.i_id && has_warehouse scale line.supply_w_id

-- replaced contains the rows stored at the keys of an order with count lines
pub record StoodThere (t : Database) (key : OrderKey) (count : ℕ) (replaced : Replaced) : Type 0 where
  pub order : replaced.order ≡ table.get t.orders key
  pub new_order : replaced.new_order ≡ table.get t.new_orders key
  pub lines : replaced.lines.items ≡ lines_at t.lines key 1 count

-- the tables with the replaced rows restored
abbrev pub without_order : Database → OrderKey → Replaced → Database
without_order t key replaced = with_order_rows t key replaced.order replaced.new_order replaced.lines.items

-- adding an order and taking it back leaves the tables unchanged
abbrev pub TakenBackOrderIsAsBefore : Type 0
TakenBackOrderIsAsBefore = (t : Database) (key : OrderKey) (order : Order) (lines : List OrderLine) (replaced : Replaced)
    → StoodThere t key (length lines) replaced → without_order (with_order t key order lines) key replaced ≡ t

-- ---- delivering an order (clause 2.7.4.2)

-- whether the key is this order's
abbrev pub is_order : OrderKey → OrderKey → Bool
is_order order key = (key.w_id == order.w_id) && ((key.d_id == order.d_id) && (key.o_id == order.o_id))

-- the row of an order with its carrier set
abbrev pub carried_by : ℕ → Order → Order
carried_by carrier row = record row { carrier_id = Some carrier }

-- the row of a line with its delivery moment set
abbrev pub delivered_at : ℕ → OrderLine → OrderLine
delivered_at moment row = record row { delivery_d = Some moment }

-- the row of a line with this delivery moment, or with none
abbrev pub with_delivery_d : Option ℕ → OrderLine → OrderLine
with_delivery_d moment row = record row { delivery_d = moment }

-- the row, with the carrier set if it is this order's
abbrev pub with_carrier : OrderKey → ℕ → OrderKey → Order → Order
with_carrier order carrier key row = if is_order order key then carried_by carrier row else row

-- the row, with the delivery moment set if it is a line of this order
abbrev pub with_moment : OrderKey → ℕ → OrderLineKey → OrderLine → OrderLine
with_moment order moment key row = if is_of_order order key then delivered_at moment row else row

-- the tables after the order is delivered; its row of NEW-ORDER is deleted
abbrev pub with_delivery : Database → OrderKey → ℕ → ℕ → Database
with_delivery t order carrier moment = record t {
  orders = map_rows (with_carrier order carrier) t.orders;
  new_orders = table.remove t.new_orders order;
  lines = map_rows (with_moment order moment) t.lines;
}

-- ---- selections of orders

-- the smallest of some numbers, or None if there are none
abbrev pub smallest : List ℕ → Option ℕ
smallest [] = None
smallest (n ∷ ns) = Some (least n ns)

-- the lowest NO_O_ID of the district, which is its oldest new order, or None if it has none (clause 2.7.4.2)
abbrev pub oldest_new_order : Database → DistrictKey → Option ℕ
oldest_new_order t home = smallest (numbers (new_orders_of t home))

-- whether the line belongs to one of the district's orders with from <= O_ID < to
abbrev pub is_in_span : DistrictKey → ℕ → ℕ → OrderLineKey → Bool
is_in_span home from to key = is_line_of_district home key && (nat_le from key.o_id && nat_lt key.o_id to)
