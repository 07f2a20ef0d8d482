use Rattle.std.proofs.Common.{◌≡◌, ◌≤◌, nat_le}
use Rattle.std.specs.List.{filter}
use Rattle.partitions.specs.Splits.{entries_at, AreLastFirst}
use Rattle.partitions.proofs.splits.split_by_warehouse.Given as goal

abbrev pub invariant-loop-warehouse : goal.invariant-loop-warehouse
invariant-loop-warehouse g l = record {
  low : 1 ≤ l.warehouse;
  high : l.warehouse ≤ l.fn.warehouses;
  split : AreLastFirst (λ place part. g.R.ByWarehouse.entries part ≡ entries_at g.R.ByWarehouse.warehouse_of place (g.R.ByWarehouse.entries l.fn.rows)) l.warehouse l.fn.warehouses l.split.items;
  rest : g.R.ByWarehouse.entries l.rest ≡ filter (λ e. nat_le (g.R.ByWarehouse.warehouse_of e.0) l.warehouse) (g.R.ByWarehouse.entries l.fn.rows);
}

abbrev pub decreases-loop-warehouse : goal.decreases-loop-warehouse
decreases-loop-warehouse g l = l.warehouse
