use Rattle.std.proofs.Common.{◌≡◌, ◌<◌, ◌+◌, List, Option, Some, length, get_or, sym, ap, subst, ◌∙◌, arith}
use Rattle.std.specs.Option.{option_map}
use Rattle.requests.specs.declared.new_order.OrderedLine.{OrderedLine}
use Rattle.groups.specs.Groups.{is_same}
use Rattle.groups.specs.NewOrder.{group_of_supply}
use Rattle.machine.specs.declared.new_order_lines.LinePlaced.{LinePlaced}
use Rattle.machine.specs.NewOrder.{stock_key_of}
use Rattle.machine.specs.NewOrderLines.{line_placed}
use Rattle.transactions.specs.declared.new_order.LineSold.{LineSold}
use Rattle.transactions.specs.declared.new_order.stock.StockPut.{StockPut}
use Rattle.transactions.specs.NewOrder.{line_sold, lines_in}
use Rattle.transactions.specs.NewOrderStock.{line_put}
use Rattle.transactions.proofs.NewOrderSale.{AreSoFar, line_done, line_passed, rest_from}
use Rattle.transactions.proofs.new_order.stock.sell.Goals as goal
use Rattle.transactions.proofs.new_order.stock.sell.Goals.{then-is_supplied+in-Some+in_ok-push+in_ok-push-2, else-is_supplied}

abbrev default : OrderedLine
default = record { i_id = 0; supply_w_id = 0; quantity = 0 }

pub loop-index-preserved : goal.loop-index-preserved
loop-index-preserved c =
    let t = c.args.rows.now.tables in
    let n = c.args.order.now in
    let group = c.args.group in
    let i = c.loop-index.index in
    let all = lines_in group n.lines in
    let items = c.as_slice-line-items.ensures in
    let below : i < length n.lines = omega (arith, c.loop-index-test.true, ap length items) in
    let line = get_or n.lines i default in
    let same : get_or c.as_slice-line-items.result.now i default ≡ line = ap (λ (l : List OrderedLine). get_or l i default) items in
    let known = c.loop-index.invariant in
    elim c.if-is_supplied.branch [
      | then-is_supplied+in-Some+in_ok-push+in_ok-push-2 w ↦
          let inside = ap (λ l. is_same (group_of_supply l) group) (sym same) ∙ sym c.is_supplied.ensures ∙ w.if-is_supplied.true in
          let placed : line_placed t n (i + 1) line ≡ Some w.in-Some.placed = ap (line_placed t n (i + 1)) (sym same) ∙ sym w.in-Some.ensures in
          let one : LineSold = record { number = i + 1; row = w.in-Some.placed.row; shown = w.in-Some.placed.shown } in
          let put : StockPut = record { key = w.stock_key.result; row = w.in-Some.placed.stock } in
          let sold : line_sold t n (i + 1, line) ≡ Some one = ap (option_map (λ (p : LinePlaced). let s : LineSold = record { number = i + 1; row = p.row; shown = p.shown } in s)) placed in
          let putting : line_put t n (i + 1, line) ≡ Some put =
          ap (option_map (λ (p : LinePlaced). let s : StockPut = record { key = stock_key_of line; row = p.stock } in s)) placed
          ∙ ap (λ key. let made : Option StockPut = Some (record { key = key; row = w.in-Some.placed.stock }) in made) (ap stock_key_of (sym same) ∙ sym w.stock_key.ensures) in
          record {
            sold = subst (λ items. AreSoFar (line_sold t n) items (rest_from group n.lines (i + 1)) all) (sym (ap (λ (v : _). v.items) w.sold-is ∙ w.in_ok-push.ensures.items))
                (line_done (line_sold t n) group n.lines i default c.loop-index.sold.items one all below inside sold known.sold);
            puts = subst (λ items. AreSoFar (line_put t n) items (rest_from group n.lines (i + 1)) all) (sym (ap (λ (v : _). v.items) w.puts-is ∙ w.in_ok-push-2.ensures.items))
                (line_done (line_put t n) group n.lines i default c.loop-index.puts.items put all below inside putting known.puts);
          }
      | else-is_supplied w ↦
          let outside = ap (λ l. is_same (group_of_supply l) group) (sym same) ∙ sym c.is_supplied.ensures ∙ w.if-is_supplied.false in
          record {
            sold = subst (λ items. AreSoFar (line_sold t n) items (rest_from group n.lines (i + 1)) all) (sym (ap (λ (v : _). v.items) w.sold-is))
                (line_passed (line_sold t n) group n.lines i default c.loop-index.sold.items all below outside known.sold);
            puts = subst (λ items. AreSoFar (line_put t n) items (rest_from group n.lines (i + 1)) all) (sym (ap (λ (v : _). v.items) w.puts-is))
                (line_passed (line_put t n) group n.lines i default c.loop-index.puts.items all below outside known.puts);
          }
    ]
