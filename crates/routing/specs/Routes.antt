-- The executor of each warehouse.
use Rattle.std.specs.Prelude.{ℕ, ◌-◌, ◌*◌, ◌/◌, ◌&&◌, nat_le, if◌then◌else◌}

-- this number of warehouses is dealt out to this number of executors
pub record Routes : Type 0 where
  pub warehouses : ℕ
  pub executors : ℕ

-- Warehouse w, from 1, is at executor (w - 1) * executors / warehouses, by whole division: warehouses are dealt out
-- in order, and as evenly as possible. A number that is no warehouse gives executor 0.
abbrev pub executor_of : Routes → ℕ → ℕ
executor_of routes warehouse =
    if nat_le 1 warehouse && nat_le warehouse routes.warehouses then (warehouse - 1) * routes.executors / routes.warehouses else 0
