-- What the test of a range says, and the limits of the formats.
use Rattle.std.proofs.Common.{◌≤◌, ℕ, IsTrue, arith}
use Rattle.std.proofs.lemmas.Bool.Decides.{nat_tests}
use Rattle.rows.specs.Ranged.{is_between}
use Rattle.rows.specs.declared.limits.TheConstants.{LAST_LINE, MOST_WAREHOUSES}
use Rattle.dataset.specs.declared.format.Format.{Format}
use Rattle.dataset.specs.declared.format.Format.TheVariants.{One, Two}
use Rattle.dataset.specs.Formats.{most_lines, most_warehouses}

pub bounds : (low high number : ℕ) → IsTrue (is_between low high number) → (low ≤ number) × (number ≤ high)
bounds low high number h =
    let least : low ≤ number = grind (arith, nat_tests) in
    let most : number ≤ high = grind (arith, nat_tests) in
    (least, most)

-- the limits of the format are those of tables, or less
pub some_within : (format : Format) → 1 ≤ most_warehouses format
some_within One = omega arith
some_within Two = omega arith

pub most_within : (format : Format) → most_warehouses format ≤ MOST_WAREHOUSES
most_within One = omega arith
most_within Two = omega arith

pub most_lines_within : (format : Format) → most_lines format ≤ LAST_LINE
most_lines_within One = omega arith
most_lines_within Two = omega arith

pub some_lines_within : (format : Format) → 1 ≤ most_lines format
some_lines_within One = omega arith
some_lines_within Two = omega arith
