use Rattle.std.proofs.Common.{◌≡◌, ◌+◌, ◌*◌, ◌^◌, ◌&&◌, length}
use Rattle.std.specs.Prelude.{◌-ℤ◌}
use Rattle.std.specs.FinMap as map
use Rattle.std.specs.List.{list_all}
use Rattle.schema.specs.Sums.{sum_entries}
use Rattle.schema.proofs.AllBeside.{AreBeside}
use Rattle.consistency.specs.Balances.{AreTotals, AreWithin}
use Rattle.consistency.proofs.BalancesDeliveries.{line_share}
use Rattle.consistency.proofs.CarriersRules.{comes}
use Rattle.consistency.proofs.OrdersOfLines.{orders_of}
use Rattle.consistency.proofs.deliveries.read_deliveries.Given as goal

-- the totals have all lines but those that are left, these decide whether all come with their orders, and their orders
-- are left too
abbrev pub invariant-loop-key : goal.invariant-loop-key
invariant-loop-key l = record {
  can_next : goal.iterator-loop-key.can_next l.key-iterator;
  finite : goal.iterator-loop-key.is_finite l.key-iterator;
  totals : AreTotals l.scale (λ key. sum_entries (line_share l.tables key) (map.entries l.tables.lines) -ℤ sum_entries (line_share l.tables key) l.key-iterator) l.totals.items;
  within : AreWithin (2 ^ 50 * length l.yielded) l.totals.items;
  count : length l.yielded + length l.key-iterator ≡ length (map.entries l.tables.lines);
  come : list_all (comes l.tables) (map.entries l.tables.lines) ≡ (l.come_with_orders && list_all (comes l.tables) l.key-iterator);
  beside : AreBeside (map.entries l.tables.orders) l.orders (orders_of l.key-iterator);
}
