-- The slices of a world as one.
use Rattle.slices.specs.SliceView.{JoinedSlices, joined}
use Rattle.world.specs.declared.world.Parts.{Parts}
use Rattle.world.specs.Shards.{slices_in}

-- All slices joined.
abbrev pub joined_in : {J : Type 0} → Parts J → JoinedSlices
joined_in w = joined w.catalog (slices_in w)
