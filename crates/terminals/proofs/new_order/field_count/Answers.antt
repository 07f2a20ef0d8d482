use Rattle.std.proofs.Common.{◌≡◌, ◌+◌, ◌*◌, suc, List, length, flat_map, sym, ap, ◌∙◌, arith}
use Rattle.requests.specs.declared.new_order.OrderedLine.{OrderedLine}
use Rattle.terminals.specs.NewOrder.{ordered_line_fields}
use Rattle.terminals.proofs.OrderedLines.{lines-count}
use Rattle.terminals.proofs.new_order.field_count.Goals as goal

pub returns-clause-fields : goal.returns-clause-fields
returns-clause-fields c = λ fields asked.
    let lines : List OrderedLine = c.args.asked.now.lines in
    let count : length (flat_map ordered_line_fields lines) ≡ 3 * length lines = lines-count lines in
    let all : suc (suc (suc (suc (suc (length (flat_map ordered_line_fields lines)))))) ≡ 5 + 3 * length lines = omega arith in
    ap length asked.2 ∙ all ∙ ap (λ (l : List OrderedLine). 5 + 3 * length l) (sym c.as_slice.ensures)
