-- A byte order mark at the front of a text.
use Rattle.std.specs.Prelude.{ℕ, List, [], ◌∷◌, Bool, false}
use Rattle.csv.specs.Reading.{is_bom}

-- whether the bytes begin with a byte order mark
abbrev pub is_marked : List ℕ → Bool
is_marked [] = false
is_marked (first ∷ []) = false
is_marked (first ∷ second ∷ []) = false
is_marked (first ∷ second ∷ third ∷ rest) = is_bom first second third
