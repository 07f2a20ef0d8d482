use Rattle.std.proofs.Common.{length, ap, ◌∙◌, arith, inl}
use Rattle.std.proofs.lemmas.Iterator.Consumers.{count_from_yields_List, YieldsList-from_rest}
use Rattle.rows.specs.Keys.{order_cmp}
use Rattle.schema.specs.PackedLines.{all_lines}
use Rattle.schema.proofs.OrderedParts.{every_entry}
use Rattle.schema.proofs.order_lines.count_lines.Goals as goal

pub count-requires-clause-fits : goal.count-requires-clause-fits
count-requires-clause-fits c =
    let all = c.of.ensures ∙ ap all_lines (c.range.ensures.between tt ∙ every_entry order_cmp c.args.orders.now.entries) in
    inl (omega (arith, ap length all, c.requires))

pub returns : goal.returns
returns c =
    let all = c.of.ensures ∙ ap all_lines (c.range.ensures.between tt ∙ every_entry order_cmp c.args.orders.now.entries) in
    count_from_yields_List c.of.result c.count.result c.count.ensures.ran (YieldsList-from_rest (all_lines c.args.orders.now.entries) all)
