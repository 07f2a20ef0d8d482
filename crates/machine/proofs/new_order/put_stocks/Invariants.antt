use Rattle.std.proofs.Common.{◌≡◌, ◌≤◌, length, IsTrue}
use Rattle.std.specs.FinMap as table
use Rattle.rows.specs.declared.keys.StockKey.{StockKey}
use Rattle.machine.specs.NewOrderLines.{stocks_put}
use Rattle.machine.proofs.new_order.put_stocks.Given as goal

abbrev pub invariant-loop-row : goal.invariant-loop-row
invariant-loop-row l = record {
  few : length l.rest.items ≤ length l.lines;
  there : (q : StockKey) → IsTrue (table.contains_key l.fn.tables.stocks q) → IsTrue (table.contains_key l.tables.stocks q);
  same : record l.tables { stocks = stocks_put l.lines l.rest.items l.tables.stocks } ≡ record l.fn.tables { stocks = stocks_put l.lines l.fn.stocks.items l.fn.tables.stocks };
}

abbrev pub decreases-loop-row : goal.decreases-loop-row
decreases-loop-row l = length l.rest.items
