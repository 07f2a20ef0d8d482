-- The records of a file of moves.
use Rattle.std.specs.Prelude.{◌≡◌, ℕ, List}
use Rattle.range_moves.specs.declared.order.MoveOrder.{MoveOrder}
use Rattle.terminals.specs.Listing.{IsListing}
use Rattle.terminals.specs.MoveOrders.{order_fields}

-- These are the fields of the move: the first warehouse, the last one, and the executor that gets them.
abbrev pub IsMoveRecord : MoveOrder → List (List ℕ) → Type 0
IsMoveRecord order fields = fields ≡ order_fields order

-- The records of moves: one for each, and then the end record.
abbrev pub AreMoves : List MoveOrder → List (List (List ℕ)) → Type 0
AreMoves moves rows = IsListing (λ place. IsMoveRecord) moves rows
