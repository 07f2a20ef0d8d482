-- Delivery (clause 2.7).
use Rattle.std.specs.Prelude.{ℕ, ◌+◌, pos, ℤ, ◌+ℤ◌, Option, Some, None, IsTrue}
use Rattle.std.specs.List.{sum_by}
use Rattle.std.specs.Option.{option_map, option_and_then}
use Rattle.std.specs.FinMap as table
use Rattle.amounts.specs.Money.{money}
use Rattle.rows.specs.Ranged.{is_between, in_range}
use Rattle.rows.specs.declared.keys.DistrictKey.{DistrictKey}
use Rattle.rows.specs.declared.keys.OrderKey.{OrderKey}
use Rattle.rows.specs.declared.records.Customer.{Customer}
use Rattle.rows.specs.declared.records.Order.{Order}
use Rattle.schema.specs.Database.{Database, customer_of_order}
use Rattle.schema.specs.Consistency.{lines_of}
use Rattle.schema.specs.OrderRows.{with_delivery, oldest_new_order}
use Rattle.requests.specs.declared.delivery.Delivery.{Delivery}
use Rattle.requests.specs.declared.delivery.DeliveryReply.{DeliveryReply}
use Rattle.requests.specs.declared.reply.Shown.TheVariants.{Delivery as DeliveryShown}
use Rattle.requests.specs.declared.reply.Fault.TheVariants.{Range}
use Rattle.machine.specs.Outcome.{Outcome, done, rolled_back}
use Rattle.machine.specs.NewOrder.{order_key}

-- ---- one order (clause 2.7.4.2)

-- the row with this balance and this count, if both are in range
abbrev pub with_delivered : Customer → Option ℤ → Option ℕ → Option Customer
with_delivered row (Some balance) (Some delivery_cnt) = Some (record row { balance = balance; delivery_cnt = delivery_cnt })
with_delivered row _ _ = None

-- C_BALANCE grows by the sum of the order's lines, and C_DELIVERY_CNT by 1
abbrev pub customer_delivered : Customer → ℕ → Option Customer
customer_delivered row sum = with_delivered row (money (row.balance +ℤ pos sum)) (in_range 0 999999999 (row.delivery_cnt + 1))

-- the sum of the amounts of the order's lines
abbrev pub amount_of : Database → OrderKey → ℕ
amount_of t order = sum_by (λ line. line.1.amount) (lines_of t order)

-- the row of the order's customer after the delivery of the order
abbrev pub receiver : Database → OrderKey → Order → Option Customer
receiver t order row =
    option_and_then (λ c. customer_delivered c (amount_of t order)) (table.get t.customers (customer_of_order order row))

-- the order gets its carrier, its lines get the moment, its row of NEW-ORDER is deleted, and the customer gets this row
abbrev pub handed_over : Database → OrderKey → Order → ℕ → ℕ → Customer → Database
handed_over t order row carrier moment customer =
    record (with_delivery t order carrier moment) { customers = table.insert t.customers (customer_of_order order row) customer }

-- the tables after the delivery of that order of the district; None if a value would leave its range or a row is
-- missing
abbrev pub delivered_order : Database → DistrictKey → ℕ → ℕ → ℕ → Option Database
delivered_order t home o_id carrier moment =
    let order = order_key home o_id in
    option_and_then (λ row. option_map (handed_over t order row carrier moment) (receiver t order row)) (table.get t.orders order)

-- ---- one district (clause 2.7.4.2)

-- the tables after a district's turn, and the number of the delivered order, if there was one
pub record Turn : Type 0 where
  pub tables : Database
  pub o_id : Option ℕ

-- the turn of a district, given the number of its oldest new order; a district without one is skipped
abbrev pub turn_of : Database → DistrictKey → ℕ → ℕ → Option ℕ → Option Turn
turn_of t home carrier moment None = Some (record { tables = t; o_id = None })
turn_of t home carrier moment (Some o_id) =
    option_map (λ left. record { tables = left; o_id = Some o_id }) (delivered_order t home o_id carrier moment)

-- the district's oldest new order is delivered
abbrev pub delivered_oldest : Database → DistrictKey → ℕ → ℕ → Option Turn
delivered_oldest t home carrier moment = turn_of t home carrier moment (oldest_new_order t home)

-- ---- the outcome of a Delivery

-- the reply (clause 2.7.3.2)
abbrev pub delivery_reply : Delivery → Option ℕ → DeliveryReply
delivery_reply d order = record { d_id = d.home.d_id; carrier_id = d.carrier_id; order = order }

-- the outcome, given the district's turn; if the order can't be delivered, nothing changes
abbrev pub recorded : Database → Delivery → Option Turn → Outcome
recorded t d (Some turn) = done turn.tables (DeliveryShown (delivery_reply d turn.o_id))
recorded t d None = rolled_back t Range

-- The outcome of a Delivery: the turn of its district. A skipped district is done, and shows no order.
abbrev pub delivery : Database → Delivery → Outcome
delivery t d = recorded t d (delivered_oldest t d.home d.carrier_id d.moment)

-- ---- the precondition of a Delivery

-- the carrier is from 1 to 10 (clause 2.7.1.2)
abbrev pub HasCarrier : Delivery → Type 0
HasCarrier d = IsTrue (is_between 1 10 d.carrier_id)
