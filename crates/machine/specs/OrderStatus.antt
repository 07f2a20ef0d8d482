-- Order-Status (clause 2.6).
use Rattle.std.specs.Prelude.{ℕ, List, map, Option, Some, None}
use Rattle.std.specs.Option.{option_map, option_and_then}
use Rattle.std.specs.FinMap as table
use Rattle.rows.specs.declared.keys.CustomerKey.{CustomerKey}
use Rattle.rows.specs.declared.keys.OrderKey.{OrderKey}
use Rattle.rows.specs.declared.records.Customer.{Customer}
use Rattle.rows.specs.declared.records.Order.{Order}
use Rattle.rows.specs.declared.records.OrderLine.{OrderLine}
use Rattle.schema.specs.Database.{Database}
use Rattle.schema.specs.Consistency.{lines_of}
use Rattle.indexes.specs.Namesakes.{Keyed}
use Rattle.indexes.specs.LatestOrder.{latest}
use Rattle.requests.specs.declared.order_status.OrderStatus.{OrderStatus}
use Rattle.requests.specs.declared.order_status.OrderStatusReply.{OrderStatusReply}
use Rattle.requests.specs.declared.order_status.StatusOrder.{StatusOrder}
use Rattle.requests.specs.declared.order_status.StatusLine.{StatusLine}
use Rattle.requests.specs.declared.reply.Shown.TheVariants.{OrderStatus as StatusShown}
use Rattle.requests.specs.declared.reply.Fault.TheVariants.{NoCustomer}
use Rattle.machine.specs.Chosen.{chosen}
use Rattle.machine.specs.Outcome.{Outcome, done, rolled_back}

-- the shown line
abbrev pub status_line : OrderLine → StatusLine
status_line row = record {
  i_id = row.i_id;
  supply_w_id = row.supply_w_id;
  quantity = row.quantity;
  amount = row.amount;
  delivery_d = row.delivery_d;
}

-- the shown order, with these lines
abbrev pub status_order : ℕ → Order → List StatusLine → StatusOrder
status_order o_id row lines = record { o_id = o_id; entry_d = row.entry_d; carrier_id = row.carrier_id; lines = lines }

-- the key of the customer's order of this number
abbrev pub key_of_order : CustomerKey → ℕ → OrderKey
key_of_order customer o_id = record { w_id = customer.w_id; d_id = customer.d_id; o_id = o_id }

-- the lines of an order, by OL_NUMBER
abbrev pub lines_shown : Database → OrderKey → List StatusLine
lines_shown t order = map (λ line. status_line line.1) (lines_of t order)

-- the shown order of that number, if there is one
abbrev pub order_shown : Database → CustomerKey → ℕ → Option StatusOrder
order_shown t customer o_id =
    let key = key_of_order customer o_id in
    option_map (λ row. status_order o_id row (lines_shown t key)) (table.get t.orders key)

-- the customer's order with the largest O_ID, if there is one (clause 2.6.2.2)
abbrev pub latest_shown : Database → CustomerKey → Option StatusOrder
latest_shown t customer = option_and_then (order_shown t customer) (latest t.orders customer)

-- the reply for a customer, with that order (clause 2.6.3.4)
abbrev pub status_reply : CustomerKey → Customer → Option StatusOrder → OrderStatusReply
status_reply key row order = record {
  c_id = key.c_id;
  first = row.first;
  middle = row.middle;
  last = row.last;
  balance = row.balance;
  order = order;
}

-- the outcome, given the chosen customer
abbrev pub status_recorded : Database → Option Keyed → Outcome
status_recorded t (Some c) = done t (StatusShown (status_reply c.0 c.1 (latest_shown t c.0)))
status_recorded t None = rolled_back t NoCustomer

-- the outcome of Order-Status: no table changes
abbrev pub order_status : Database → OrderStatus → Outcome
order_status t o = status_recorded t (chosen t.customers o.home o.customer)
