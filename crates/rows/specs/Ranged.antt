-- Whole numbers within a column's range.
use Rattle.std.specs.Prelude.{ℕ, Bool, ◌&&◌, nat_le, Option, Some, None, if◌then◌else◌}

-- whether the number is from low to high, inclusive
abbrev pub is_between : ℕ → ℕ → ℕ → Bool
is_between low high number = nat_le low number && nat_le number high

-- the number, or None if it is out of range
abbrev pub in_range : ℕ → ℕ → ℕ → Option ℕ
in_range low high number = if is_between low high number then Some number else None
