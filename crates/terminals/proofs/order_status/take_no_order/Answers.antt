use Rattle.std.proofs.Common.{[], ◌∷◌}
use Rattle.terminals.specs.ReplyColumns.{null}
use Rattle.files.proofs.ColumnsRead.{and_then, several}
use Rattle.terminals.proofs.order_status.take_no_order.Goals as goal

pub returns-clause-columns : goal.returns-clause-columns
returns-clause-columns c =
    (and_then (several (null ∷ []) c.args.fields.now c.take_null.new.fields c.take_null.ensures.column)
    (and_then (several (null ∷ []) c.take_null.new.fields c.take_null-2.new.fields c.take_null-2.ensures.column)
    (several (null ∷ []) c.take_null-2.new.fields c.take_null-3.new.fields c.take_null-3.ensures.column))).is
