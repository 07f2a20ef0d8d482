-- A line compared with its order.
use Rattle.std.specs.Prelude.{Bool, true, Option, Some, None, is_none}
use Rattle.std.specs.Bool.{beq}
use Rattle.rows.specs.declared.records.Order.{Order}
use Rattle.rows.specs.declared.records.OrderLine.{OrderLine}

-- whether the line has no delivery date exactly if the order, if there is one, has no carrier
abbrev pub comes_with : OrderLine → Option Order → Bool
comes_with line None = true
comes_with line (Some order) = beq (is_none line.delivery_d) (is_none order.carrier_id)
