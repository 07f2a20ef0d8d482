-- The two formats of datasets: the limits of each, and whether an order's record has lines.
use Rattle.std.specs.Prelude.{ℕ, ◌/◌, ◌≤◌, min}
use Rattle.std.specs.List.{AllByRecursion}
use Rattle.std.specs.Map.{keys_of}
use Rattle.std.specs.FinMap as table
use Rattle.rows.specs.declared.limits.TheConstants.{LAST_LINE, MOST_LINES, MOST_WAREHOUSES}
use Rattle.schema.specs.Database.{Database}
use Rattle.dataset.specs.declared.format.Format.{Format}
use Rattle.dataset.specs.declared.format.Format.TheVariants.{One, Two}

-- the number of the format in a header
abbrev pub format_number : Format → ℕ
format_number One = 1
format_number Two = 2

-- the most warehouses
abbrev pub most_warehouses : Format → ℕ
most_warehouses One = 64
most_warehouses Two = MOST_WAREHOUSES

-- the greatest O_OL_CNT and OL_NUMBER
abbrev pub most_lines : Format → ℕ
most_lines One = 15
most_lines Two = LAST_LINE

-- The number of lines that so many fields behind the columns of an order make, seven each. Fields that make no whole
-- line, or come after the most lines, are too many.
abbrev pub line_count : Format → ℕ → ℕ
line_count One left = 0
line_count Two left = min (left / 7) MOST_LINES

-- the limits of format 1, which are less than those of tables
pub record IsWithinFormat1 (t : Database) : Type 0 where
  pub warehouses : t.scale.warehouses ≤ most_warehouses One
  pub orders : AllByRecursion (λ row. row.ol_cnt ≤ most_lines One) (table.values t.orders)
  pub lines : AllByRecursion (λ key. key.number ≤ most_lines One) (keys_of (table.entries t.lines))

-- the tables are within the limits of the format; those of format 2 are the limits of tables
abbrev pub IsWithinFormat : Format → Database → Type 0
IsWithinFormat One t = IsWithinFormat1 t
IsWithinFormat Two t = Unit {0}
