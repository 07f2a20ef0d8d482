use Rattle.std.proofs.Common.{◌≡◌, ◌+◌, length}
use Rattle.std.specs.List.{All}
use Rattle.population.specs.Rows.{IsOpeningStock}
use Rattle.population.proofs.warehouses.add_stocks.Given as goal

abbrev pub invariant-loop : goal.invariant-loop
invariant-loop l = record {
  count : length l.stocks.items ≡ length l.fn.stocks.items + l.counter;
  rows : All IsOpeningStock l.fn.stocks.items → All IsOpeningStock l.stocks.items;
}
