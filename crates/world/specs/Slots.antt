-- The slots at the desk.
use Rattle.std.specs.Prelude.{ℕ, Bool, not, List, Option, count_by, is_some, position}

-- The number of active transactions: each has a slot.
abbrev pub count_active : {X : Type 0} → List (Option X) → ℕ
count_active slots = count_by is_some slots

-- The slot is free.
abbrev pub is_free : {X : Type 0} → Option X → Bool
is_free slot = not (is_some slot)

-- The first free slot.
abbrev pub first_free : {X : Type 0} → List (Option X) → Option ℕ
first_free slots = position is_free slots
