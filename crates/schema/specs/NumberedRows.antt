-- Rows in a list, in the order of their numbers, and the index of a number in the list.
use Rattle.std.specs.Prelude.{◌≡◌, ℕ, suc, Bool, false, nat_lt, nat_eq, IsTrue, IsFalse, if◌then◌else◌, List, [], ◌∷◌}

-- how many rows come before the number
abbrev pub place_in : {X : Type 0} → ℕ → List (ℕ × X) → ℕ
place_in number [] = 0
place_in number (row ∷ rows) = if nat_lt row.0 number then suc (place_in number rows) else 0

-- whether the row after those has the number
abbrev pub is_in : {X : Type 0} → ℕ → List (ℕ × X) → Bool
is_in number [] = false
is_in number (row ∷ rows) = if nat_lt row.0 number then is_in number rows else nat_eq row.0 number

-- the row with the number is at this index
pub record StandsAt {X : Type 0} (number : ℕ) (rows : List (ℕ × X)) (place : ℕ) : Type 0 where
  pub place_is : place ≡ place_in number rows
  pub is_there : IsTrue (is_in number rows)

-- no row has the number, and a row with it belongs at this index
pub record BelongsAt {X : Type 0} (number : ℕ) (rows : List (ℕ × X)) (place : ℕ) : Type 0 where
  pub place_is : place ≡ place_in number rows
  pub is_missing : IsFalse (is_in number rows)
