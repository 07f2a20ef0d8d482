-- The steps of a Delivery: the order to be delivered, with the row that its customer gets.
use Rattle.std.specs.Prelude.{Option}
use Rattle.std.specs.Option.{option_map, option_and_then}
use Rattle.std.specs.FinMap as table
use Rattle.rows.specs.declared.keys.OrderKey.{OrderKey}
use Rattle.schema.specs.Database.{Database, customer_of_order}
use Rattle.machine.specs.declared.delivery.Handover.{Handover}
use Rattle.machine.specs.Delivery.{receiver}

-- the order's customer, and the customer's row after the delivery; None if a row is missing or a value would leave its
-- range
abbrev pub handover_of : Database → OrderKey → Option Handover
handover_of t order =
    option_and_then
    (λ row. option_map (λ c. record { customer = customer_of_order order row; row = c }) (receiver t order row))
    (table.get t.orders order)
