use Rattle.std.proofs.Common.{◌≡◌}
use Rattle.files.specs.Columns.{take_columns}
use Rattle.files.specs.FieldRead.{fields_view}
use Rattle.files.specs.Taken.{Takes}
use Rattle.terminals.specs.OrderStatus.{AreStatusLines}
use Rattle.terminals.specs.ReplyColumns.{status_columns}
use Rattle.terminals.specs.RequestColumns.{repeated}
use Rattle.terminals.proofs.order_status.take_order.Given as goal

abbrev pub invariant-loop : goal.invariant-loop
invariant-loop l =
    Takes l.initial.fields l.fields (AreStatusLines l.lines.items)
    × (fields_view l.fields ≡ take_columns (repeated l.counter status_columns) (fields_view l.initial.fields))
