-- Undoing a delivery: what was stored before it, and the tables with that restored.
use Rattle.std.specs.Prelude.{◌≡◌, ℕ, ◌+◌, ◌-◌, ◌<◌, if◌then◌else◌, List, length, slice_index_or, Option, None}
use Rattle.std.specs.Option.{option_and_then}
use Rattle.std.specs.FinMap as table
use Rattle.rows.specs.declared.keys.OrderKey.{OrderKey}
use Rattle.rows.specs.declared.keys.OrderLineKey.{OrderLineKey}
use Rattle.rows.specs.declared.records.Order.{Order}
use Rattle.rows.specs.declared.records.OrderLine.{OrderLine}
use Rattle.rows.specs.Keys.{order_cmp}
use Rattle.rows.specs.declared.limits.TheConstants.{MOST_LINES}
use Rattle.schema.specs.MapRows.{map_rows, put_row}
use Rattle.schema.specs.Database.{Database, is_of_order}
use Rattle.schema.specs.OrderRows.{LineTable, line_key, is_order}
use Rattle.partitions.specs.declared.delivery_rows.BeforeDelivery.{BeforeDelivery}

-- the order's carrier, if it has one
abbrev pub carrier_at : table.FinMap order_cmp Order → OrderKey → Option ℕ
carrier_at orders key = option_and_then (λ row. row.carrier_id) (table.get orders key)

-- the moment at which the line was delivered, if it was
abbrev pub moment_at : LineTable → OrderLineKey → Option ℕ
moment_at lines key = option_and_then (λ row. row.delivery_d) (table.get lines key)

-- These are the moments at which the order's lines were delivered, by OL_NUMBER from 1.
abbrev pub AreMomentsOf : LineTable → OrderKey → List (Option ℕ) → Type 0
AreMomentsOf lines order moments = (n : ℕ) → n < MOST_LINES → slice_index_or moments n None ≡ moment_at lines (line_key order (n + 1))

-- this is what was stored before the order was delivered
pub record StoodBefore (t : Database) (order : OrderKey) (before : BeforeDelivery) : Type 0 where
  pub carrier : before.carrier_id ≡ carrier_at t.orders order
  pub most_lines : length before.moments ≡ MOST_LINES
  pub moments : AreMomentsOf t.lines order before.moments
  pub new_order : before.new_order ≡ table.get t.new_orders order

-- the order's row gets this carrier back, or none
abbrev pub with_carrier_back : OrderKey → Option ℕ → OrderKey → Order → Order
with_carrier_back order carrier key row = if is_order order key then record row { carrier_id = carrier } else row

-- each line of the order gets the moment at its number back, or none
abbrev pub with_moments_back : OrderKey → List (Option ℕ) → OrderLineKey → OrderLine → OrderLine
with_moments_back order moments key row = if is_of_order order key then record row { delivery_d = slice_index_or moments (key.number - 1) None } else row

-- the tables with what was stored before restored
abbrev pub without_delivery : Database → OrderKey → BeforeDelivery → Database
without_delivery t order before = record t {
  orders = map_rows (with_carrier_back order before.carrier_id) t.orders;
  new_orders = put_row t.new_orders order before.new_order;
  lines = map_rows (with_moments_back order before.moments) t.lines;
}
