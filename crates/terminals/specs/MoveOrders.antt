-- The fields of a move order.
use Rattle.std.specs.Prelude.{ℕ, List, [], ◌∷◌}
use Rattle.std.specs.Fmt.{decimal}
use Rattle.range_moves.specs.declared.order.MoveOrder.{MoveOrder}

-- The first and the last warehouse of the range, and the executor that gets them.
abbrev pub order_fields : MoveOrder → List (List ℕ)
order_fields order = decimal order.lo ∷ decimal order.hi ∷ decimal order.to ∷ []
