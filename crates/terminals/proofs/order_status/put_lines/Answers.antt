use Rattle.std.proofs.Common.{◌≤◌, ◌<◌, List, [], ◌++◌, length, sym, ap, subst, ◌∙◌}
use Rattle.std.proofs.lemmas.List.{append-nil, append_assoc, take_all}
use Rattle.requests.specs.declared.order_status.StatusLine.{StatusLine}
use Rattle.terminals.specs.OrderStatus.{AreStatusLines}
use Rattle.terminals.proofs.StatusLines.{lines-none, lines-more}
use Rattle.terminals.proofs.order_status.put_lines.Goals as goal

pub loop-line-init : goal.loop-line-init
loop-line-init c = ([], lines-none, sym (append-nil c.args.row.now))

pub loop-line-preserved : goal.loop-line-preserved
loop-line-preserved c =
    let inv = c.loop-line.invariant in
    let i = c.loop-line.line-index in
    let put = c.in_ok-put_line.ensures in
    let there : i < length c.args.lines.now = c.loop-line-test.true in
    let all = put.2 ∙ ap (λ l. l ++ put.0) inv.2 ∙ append_assoc c.args.row.now inv.0 put.0 in
    (inv.0 ++ put.0, lines-more i c.args.lines.now inv.0 c.line-item.result put.0 there c.line-item.is inv.1 put.1, all)

pub returns : goal.returns
returns c =
    let inv = c.loop-line.invariant in
    let done : length c.args.lines.now ≤ c.loop-line.line-index = c.loop-line-test.false in
    let are : List StatusLine → Type 0 = λ l. AreStatusLines l inv.0 in
    (inv.0, subst are (take_all c.loop-line.line-index c.args.lines.now done) inv.1, inv.2)
