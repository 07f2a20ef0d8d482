use Rattle.std.proofs.Common.{◌≤◌, ◌<◌, ◌++◌, length, take, flat_map, sym, ap, ◌∙◌}
use Rattle.std.proofs.lemmas.List.{append-nil, append_assoc, take_all}
use Rattle.terminals.specs.NewOrder.{new_order_line_fields}
use Rattle.terminals.proofs.FieldsOfEach.{fields-more}
use Rattle.terminals.proofs.new_order.put_shown_lines.Goals as goal

pub loop-line-init : goal.loop-line-init
loop-line-init c = sym (append-nil c.args.row.now)

pub loop-line-preserved : goal.loop-line-preserved
loop-line-preserved c =
    let i = c.loop-line.line-index in
    let row = c.args.row.now in
    let line = c.line-item.result in
    let before = flat_map new_order_line_fields (take i c.args.lines.now) in
    let there : i < length c.args.lines.now = c.loop-line-test.true in
    let next = fields-more new_order_line_fields i c.args.lines.now line there c.line-item.is in
    c.in_ok-put_shown_line.ensures ∙ ap (λ l. l ++ new_order_line_fields line) c.loop-line.invariant ∙ append_assoc row before (new_order_line_fields line) ∙ ap (λ l. row ++ l) (sym next)

pub returns : goal.returns
returns c =
    let done : length c.args.lines.now ≤ c.loop-line.line-index = c.loop-line-test.false in
    c.loop-line.invariant ∙ ap (λ l. c.args.row.now ++ flat_map new_order_line_fields l) (take_all c.loop-line.line-index c.args.lines.now done)
