use Rattle.std.proofs.Common.{◌≡◌, ◌*◌, length}
use Rattle.std.specs.List.{All}
use Rattle.population.specs.Rows.{IsOpeningWarehouse, IsOpeningStock}
use Rattle.population.specs.Filled.{AreFilled}
use Rattle.population.proofs.initial.populate.Given as goal

abbrev pub invariant-loop-place : goal.invariant-loop-place
invariant-loop-place l = record {
  warehouses : length l.warehouses.items ≡ l.place;
  warehouse_rows : All (IsOpeningWarehouse l.scale) l.warehouses.items;
  stocks : length l.stocks.items ≡ l.place * l.scale.items;
  stock_rows : All IsOpeningStock l.stocks.items;
  filled : AreFilled l.scale l.now (l.place * 10) l.districts;
}
