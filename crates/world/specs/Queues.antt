-- A queue for each executor.
use Rattle.std.specs.Prelude.{◌≡◌, ℕ, List, [], ◌∷◌, ◌++◌, slice_set, slice_index_or}
use Rattle.std.specs.List.{flat_map}

-- The items of all queues, one executor after another.
abbrev pub all_of : {X : Type 0} → List (List X) → List X
all_of queues = flat_map (λ queue. queue) queues

-- The items of an executor's queue; empty if there is no such executor.
abbrev pub queue_of : {X : Type 0} → ℕ → List (List X) → List X
queue_of executor queues = slice_index_or queues executor []

-- These items are appended to an executor's queue.
abbrev pub put_into : {X : Type 0} → ℕ → List X → List (List X) → List (List X)
put_into executor more queues = slice_set queues executor (queue_of executor queues ++ more)

-- The first item of an executor's queue is taken, and no other queue changes.
pub record TakesFrom {X : Type 0} (executor : ℕ) (item : X) (old new : List (List X)) : Type 0 where
  pub rest : List X
  pub first : queue_of executor old ≡ item ∷ rest
  pub left : new ≡ slice_set old executor rest
