use Rattle.std.proofs.Common.{◌+◌, drop}
use Rattle.std.specs.List.{filter}
use Rattle.transactions.specs.NewOrder.{is_in, line_sold, lines_in, numbered}
use Rattle.transactions.specs.NewOrderStock.{line_put}
use Rattle.transactions.proofs.NewOrderSale.{AreSoFar}
use Rattle.transactions.proofs.new_order.stock.sell.Given as goal

abbrev pub invariant-loop-index : goal.invariant-loop-index
invariant-loop-index l =
    let rest = filter (is_in l.group) (numbered (l.index + 1) (drop l.index l.order.lines)) in
    let all = lines_in l.group l.order.lines in
    record {
      sold : AreSoFar (line_sold l.rows.tables l.order) l.sold.items rest all;
      puts : AreSoFar (line_put l.rows.tables l.order) l.puts.items rest all;
    }
