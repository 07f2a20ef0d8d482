use Rattle.std.proofs.Common.{◌≡◌, length, flat_map}
use Rattle.files.specs.Columns.{take_columns}
use Rattle.files.specs.FieldRead.{fields_view}
use Rattle.files.specs.Taken.{Takes}
use Rattle.terminals.specs.NewOrder.{new_order_line_fields}
use Rattle.terminals.specs.ReplyColumns.{shown_columns}
use Rattle.terminals.specs.RequestColumns.{repeated}
use Rattle.terminals.proofs.new_order.take_shown_lines.Given as goal

abbrev pub invariant-loop : goal.invariant-loop
invariant-loop l =
    Takes l.initial.fields l.fields (λ said. said ≡ flat_map new_order_line_fields l.lines.items)
    × (length l.lines.items ≡ l.counter)
    × (fields_view l.fields ≡ take_columns (repeated l.counter shown_columns) (fields_view l.initial.fields))
