use Rattle.std.proofs.Common.{◌≡◌}
use Rattle.std.specs.FinMap as map
use Rattle.std.specs.List.{list_all}
use Rattle.std.specs.Map.{keys_of}
use Rattle.schema.proofs.AllBeside.{AreBeside}
use Rattle.consistency.proofs.CarriersRules.{has_no_carrier}
use Rattle.consistency.proofs.carriers.new_orders_have_no_carrier.Given as goal

-- the orders that are left decide of all, and their new orders are left
abbrev pub invariant-loop-key : goal.invariant-loop-key
invariant-loop-key l = record {
  can_next : goal.iterator-loop-key.can_next l.key-iterator;
  finite : goal.iterator-loop-key.is_finite l.key-iterator;
  each : list_all (has_no_carrier l.tables) (map.entries l.tables.orders) ≡ list_all (has_no_carrier l.tables) l.key-iterator;
  beside : AreBeside (map.entries l.tables.new_orders) l.new_orders (keys_of l.key-iterator);
}
