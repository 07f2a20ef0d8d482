use Rattle.std.proofs.Common.{◌≡◌, is_some}
use Rattle.std.specs.BTreeMap.{get}
use Rattle.std.specs.List.{list_all}
use Rattle.std.specs.Map.{keys_of}
use Rattle.rows.specs.Keys.{order_cmp, order_of_line}
use Rattle.schema.specs.PackedLines.{all_lines}
use Rattle.schema.proofs.AllBeside.{AreBeside}
use Rattle.schema.proofs.order_lines.OrderLines.have_orders.Given as goal

-- the lines that are left decide of all, and the rows of their orders are left
abbrev pub invariant-loop-order : goal.invariant-loop-order
invariant-loop-order l = record {
  can_next : goal.iterator-loop-order.can_next l.order-iterator;
  finite : goal.iterator-loop-order.is_finite l.order-iterator;
  each : list_all (λ e. is_some (get order_cmp l.orders (order_of_line e.0))) l.self ≡ list_all (λ e. is_some (get order_cmp l.orders (order_of_line e.0))) (all_lines l.order-iterator);
  beside : AreBeside l.orders.entries l.beside (keys_of l.order-iterator);
}
