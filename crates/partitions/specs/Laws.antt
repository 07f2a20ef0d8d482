-- Tables that are cut can be joined again.
use Rattle.std.specs.Prelude.{◌≡◌, ℕ, ◌+◌, ◌<◌, List, length, slice_index_or}
use Rattle.std.specs.List.{All}
use Rattle.schema.specs.Database.{Database, IsWithinScale}
use Rattle.partitions.specs.Parts.{SharedTables, shared_of, Part, IsPart, part_of, parts_of, whole_of, ArePartsOf}

-- Tables within the scale have a part for each of their warehouses, and these parts make the tables again.
abbrev pub CutPartsMakeTheTables : Type 0
CutPartsMakeTheTables = (t : Database) → IsWithinScale t → ArePartsOf (shared_of t) (parts_of t) × (whole_of (shared_of t) (parts_of t) ≡ t) × All IsPart (parts_of t)

-- The tables that parts make have each of these parts.
abbrev pub WholeHasEachPart : Type 0
WholeHasEachPart =
    (shared : SharedTables) (parts : List Part) (place : ℕ) (d : Part) → ArePartsOf shared parts → All IsPart parts → place < length parts
    → part_of (whole_of shared parts) (place + 1) ≡ slice_index_or parts place d
