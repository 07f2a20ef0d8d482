-- Why scripts were not served from the opening tables.
use Rattle.std.specs.Prelude.{◌≡◌, ℕ, List, All, Some, take}
use Rattle.std.specs.List.{slice_get}
use Rattle.schema.specs.Database.{Database}
use Rattle.schema.specs.Consistency.{Consistent}
use Rattle.consistency.specs.Broken.{BreaksFirst}
use Rattle.range_moves.specs.declared.order.MoveOrder.{MoveOrder}
use Rattle.range_moves.specs.Orders.{IsWithin}
use Rattle.engine.specs.declared.outcome.ServeFault.{ServeFault}
use Rattle.engine.specs.declared.outcome.ServeFault.TheVariants.{BadMove, NoMemory, NotConsistent, NoThread, Unsettled}

-- the move of this place, from 0, is the first that there can't be, with this many warehouses and executors
pub record IsFirstBad (warehouses executors : ℕ) (moves : List MoveOrder) (place : ℕ) : Type 0 where
  pub order : MoveOrder
  pub there : slice_get moves place ≡ Some order
  pub bad : IsWithin warehouses executors order → ⊥
  pub before : All (IsWithin warehouses executors) (take place moves)

-- there can be each of the moves, with the warehouses of these tables and this many executors
abbrev pub AreWithin : Database → ℕ → List MoveOrder → Type 0
AreWithin t executors moves = All (IsWithin t.scale.warehouses executors) moves

-- Why scripts were not served from these tables. BadMove is the place of the first move that there can't be; with any other fault
-- there can be each. NotConsistent is the least condition that the tables break; with NoThread and Unsettled they break none.
abbrev pub IsFaultOf : Database → ℕ → List MoveOrder → ServeFault → Type 0
IsFaultOf t executors moves (BadMove place) = IsFirstBad t.scale.warehouses executors moves place
IsFaultOf t executors moves NoMemory = AreWithin t executors moves
IsFaultOf t executors moves (NotConsistent n) = AreWithin t executors moves × BreaksFirst t n
IsFaultOf t executors moves NoThread = AreWithin t executors moves × Consistent t
IsFaultOf t executors moves Unsettled = AreWithin t executors moves × Consistent t

-- a fault of serving itself, from consistent tables
abbrev pub IsOfServing : ServeFault → Type 0
IsOfServing (BadMove place) = ⊥
IsOfServing NoMemory = Unit
IsOfServing (NotConsistent n) = ⊥
IsOfServing NoThread = Unit
IsOfServing Unsettled = Unit
