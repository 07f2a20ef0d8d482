use Rattle.std.proofs.Common.{ap, ◌∙◌}
use Rattle.std.specs.FinMap.{get}
use Rattle.std.specs.Option.{option_or}
use Rattle.std.proofs.lemmas.Result.{on_ok_weaker}
use Rattle.schema.specs.OrderRows.{line_table}
use Rattle.schema.specs.PackedLines.{with_keys}
use Rattle.schema.proofs.PackedLines.{no_order}
use Rattle.schema.proofs.order_lines.OrderLines.take.Goals as goal

pub put_order-requires-clause-none : goal.put_order-requires-clause-none
put_order-requires-clause-none c = no_order c.self.inside.orders.entries c.args.order c.contains_key.result c.contains_key.ensures c.if-contains_key.false

pub returns : goal.returns
returns c = on_ok_weaker c.put_order.result (λ put key.
    put key ∙ ap (λ l. option_or (get (line_table (with_keys c.args.order c.args.lines)) key) (get (line_table l) key)) c.self.view_is) c.put_order.ensures.lines
