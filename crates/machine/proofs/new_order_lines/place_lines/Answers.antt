use Rattle.std.proofs.Common.{◌≡◌, ◌+◌, ◌<◌, ◌≤◌, length, get_or, sym, ap, ◌∙◌, arith}
use Rattle.std.specs.Option.{option_map}
use Rattle.requests.specs.declared.new_order.OrderedLine.{OrderedLine}
use Rattle.machine.specs.NewOrderLines.{columns, line_placed}
use Rattle.machine.proofs.LinesSoFar.{one_more, one_fails, all_placed}
use Rattle.machine.proofs.new_order_lines.place_lines.Goals as goal

no_line : OrderedLine
no_line = record { i_id = 0; supply_w_id = 0; quantity = 0 }

pub loop-line-preserved : goal.loop-line-preserved
unfolding no_line
loop-line-preserved c =
    let t = c.args.tables.now in
    let n = c.args.order.now in
    let i = c.loop-line.line-index in
    let line = get_or c.as_slice-line-items.result.now i no_line in
    let number : c.len-number.result ≡ i = omega (arith, c.len-number.ensures, c.loop-line.rows.ok.0, c.loop-line.invariant.counted) in
    let below : i < length n.lines = omega (arith, c.loop-line-test.true, ap length c.as_slice-line-items.ensures) in
    one_more t n i line no_line c.in-Some.placed below (ap (λ l. get_or l i no_line) c.as_slice-line-items.ensures)
    (ap (λ k. line_placed t n (k + 1) line) (sym number) ∙ sym c.in-Some.ensures)
    c.loop-line.rows.items c.push.new.self.items c.loop-line.shown.items c.push-in-loop-line.new.self.items c.loop-line.stocks.items c.push-in-loop-line-2.new.self.items
    c.loop-line.invariant c.in_ok-push.ensures.items c.in_ok-push-2.ensures.items c.in_ok-push-3.ensures.items

pub returns-in_default : goal.returns-in_default
unfolding no_line
returns-in_default c =
    let t = c.args.tables.now in
    let n = c.args.order.now in
    let i = c.loop-line.line-index in
    let line = get_or c.as_slice-line-items.result.now i no_line in
    let number : c.len-number.result ≡ i = omega (arith, c.len-number.ensures, c.loop-line.rows.ok.0, c.loop-line.invariant.counted) in
    let below : i < length n.lines = omega (arith, c.loop-line-test.true, ap length c.as_slice-line-items.ensures) in
    let fails = ap (λ k. line_placed t n (k + 1) line) (sym number) ∙ sym c.in_default.ensures in
    sym (ap (option_map columns) (one_fails t n i line no_line below (ap (λ l. get_or l i no_line) c.as_slice-line-items.ensures) fails c.loop-line.rows.items c.loop-line.shown.items c.loop-line.stocks.items c.loop-line.invariant))

pub returns : goal.returns
returns c =
    let n = c.args.order.now in
    let end : length n.lines ≤ c.loop-line.line-index = omega (arith, c.loop-line-test.false, ap length c.as_slice-line-items.ensures) in
    all_placed c.args.tables.now n c.loop-line.line-index c.loop-line.rows.items c.loop-line.shown.items c.loop-line.stocks.items end c.loop-line.invariant
