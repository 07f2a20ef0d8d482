-- Last names by which customers can be selected.
use Rattle.std.specs.Prelude.{ℕ, ◌==◌, Bool, false, List, [], ◌∷◌, Option, Some, None, if◌then◌else◌}

-- the first byte is `#`
abbrev pub begins_with_hash : List ℕ → Bool
begins_with_hash [] = false
begins_with_hash (byte ∷ bytes) = byte == 35

-- the name, if it doesn't begin with `#`
abbrev pub unless_hash : List ℕ → Option (List ℕ)
unless_hash name = if begins_with_hash name then None else Some name
