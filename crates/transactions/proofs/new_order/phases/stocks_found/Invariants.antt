use Rattle.transactions.specs.NewOrder.{AreStocksFound}
use Rattle.transactions.proofs.new_order.phases.stocks_found.Given as goal

abbrev pub invariant-loop-one : goal.invariant-loop-one
invariant-loop-one l = AreStocksFound l.yielded l.stocks.items
