-- The moves that are possible.
use Rattle.std.specs.Prelude.{ℕ, ◌+◌, ◌-◌, ◌<◌, ◌≤◌}
use Rattle.range_moves.specs.declared.order.MoveOrder.{MoveOrder}

-- With so many warehouses and executors the move is possible: its range is not empty and has only numbers of
-- warehouses, and its executor exists.
pub record IsWithin (warehouses executors : ℕ) (order : MoveOrder) : Type 0 where
  pub first : 1 ≤ order.lo
  pub some : order.lo ≤ order.hi
  pub last : order.hi ≤ warehouses
  pub there : order.to < executors

-- the number of warehouses in its range
abbrev pub size_of : MoveOrder → ℕ
size_of order = order.hi + 1 - order.lo
