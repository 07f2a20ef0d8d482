-- Properties of all slices that follow from properties of each.
use Rattle.std.specs.Prelude.{◌≡◌, ℕ, ◌+◌, ◌<◌, List, All, length, map, slice_index_or, slice_set}
use Rattle.schema.specs.Database.{Database, IsWithinScale}
use Rattle.partitions.specs.Parts.{SharedTables, shared_of, parts_of}
use Rattle.tickets.specs.Claims.{ClaimView}
use Rattle.slices.specs.SliceView.{SliceView, AreSlicesOf, IsClaimAt, SliceKeeps, SlicesKeep, all_at_rest, at_rest, joined}

-- What one slice keeps, all slices together keep, if the claims are on groups of its warehouse; and they are still the
-- slices of all warehouses.
abbrev pub OneSliceKeepsAll : Type 0
OneSliceKeepsAll =
    (shared : SharedTables) (slices : List SliceView) (place : ℕ) (d new : SliceView) (before after : List ClaimView)
    → AreSlicesOf shared slices → place < length slices → All (IsClaimAt (place + 1)) before → All (IsClaimAt (place + 1)) after
    → SliceKeeps before (slice_index_or slices place d) after new
    → AreSlicesOf shared (slice_set slices place new) × SlicesKeep before (joined shared slices) after (joined shared (slice_set slices place new))

-- The slices at rest of tables that were cut are those tables, at rest.
abbrev pub CutSlicesAreAtRest : Type 0
CutSlicesAreAtRest =
    (t : Database) → IsWithinScale t
    → AreSlicesOf (shared_of t) (map at_rest (parts_of t)) × (joined (shared_of t) (map at_rest (parts_of t)) ≡ all_at_rest t)
