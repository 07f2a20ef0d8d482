-- Properties of a district that may have no row.
use Rattle.std.specs.Prelude.{◌≡◌, Some}
use Rattle.std.specs.FinMap as table
use Rattle.rows.specs.declared.keys.DistrictKey.{DistrictKey}
use Rattle.rows.specs.declared.records.District.{District}
use Rattle.schema.specs.Database.{Database}

-- the property holds for the district's row, if there is one
abbrev pub OfRow : Database → DistrictKey → (District → Type 0) → Type 0
OfRow t home holds = (row : District) → table.get t.districts home ≡ Some row → holds row
