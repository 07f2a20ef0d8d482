-- The view of a log's length, and of a mark, in contracts.
use Rattle.std.specs.Prelude.{ℕ}
use Rattle.atomic_table.specs.Seated.{TableId}

-- the table of the length, and a number of entries: the length itself, or the number that the mark records
pub record LengthView : Type 0 where
  pub table : TableId
  pub entries : ℕ

-- the length of this table, or a mark of it, at this number of entries
abbrev pub length_view : TableId → ℕ → LengthView
length_view table entries = record { table = table; entries = entries }
