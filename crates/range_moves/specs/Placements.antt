-- The placements of the slices of the warehouses, the executors' notes of them, and the changes of each step of a move.
use Rattle.std.specs.Prelude.{All, ◌≡◌, ℕ, ◌-◌, ◌<◌, ◌≤◌, ◌==◌, Bool, true, false, nat_le, if◌then◌else◌, List, [], length, replicate, Option, Some, None, slice_set, slice_index_or}
use Rattle.rows.specs.declared.limits.TheConstants.{MOST_WAREHOUSES}
use Rattle.routing.specs.Routes.{Routes, executor_of}
use Rattle.range_moves.specs.declared.placement.Whereabouts.{Whereabouts}
use Rattle.range_moves.specs.declared.placement.Whereabouts.TheVariants.{Rests, Leaves, Travels}
use Rattle.range_moves.specs.declared.placement.Placement.{Placement}
use Rattle.range_moves.specs.declared.placement.Found.{Found}
use Rattle.range_moves.specs.declared.placement.Found.TheVariants.{Here, Went, Unknown}

-- The number of executors; for each warehouse, from number 1 on, its slice's placement; and the number of reports that
-- the outstanding move still lacks, 0 if no move is outstanding.
pub record PlacementsView : Type 0 where
  pub executors : ℕ
  pub placements : List Placement
  pub awaited : ℕ

-- ---- one slice

-- the executor that has the slice, or its destination if it is to go or on its way
abbrev pub comes_to : Whereabouts → ℕ
comes_to (Rests here) = here
comes_to (Leaves here to) = to
comes_to (Travels to) = to

-- the executor has the slice
abbrev pub is_at : Whereabouts → ℕ → Bool
is_at (Rests here) executor = executor == here
is_at (Leaves here to) executor = executor == here
is_at (Travels to) executor = false

-- the slice is to go, or on its way
abbrev pub is_away : Whereabouts → Bool
is_away (Rests here) = false
is_away (Leaves here to) = true
is_away (Travels to) = true

-- the note that an executor without the slice finds
abbrev pub found_noted : Option ℕ → Found
found_noted None = Unknown
found_noted (Some to) = Went to

-- what an executor finds of the slice
abbrev pub found_in : Placement → ℕ → Found
found_in placement executor = if is_at placement.place executor then Here else found_noted (slice_index_or placement.notes executor None)

-- ---- one warehouse

-- a warehouse that doesn't exist is at executor 0, without notes
abbrev pub no_placement : Placement
no_placement = record { place = Rests 0; notes = [] }

module _ (h : PlacementsView) where
  -- the warehouse exists
  abbrev pub IsWarehouse : ℕ → Type 0
  IsWarehouse w_id = (1 ≤ w_id) × (w_id ≤ length h.placements)

  abbrev pub placement_of : ℕ → Placement
  placement_of w_id = if nat_le 1 w_id then slice_index_or h.placements (w_id - 1) no_placement else no_placement

  -- the place of its slice
  abbrev pub place_of : ℕ → Whereabouts
  place_of w_id = (placement_of w_id).place

  -- the executor to which its slice went, in the note of this executor
  abbrev pub note_of : ℕ → ℕ → Option ℕ
  note_of executor w_id = slice_index_or (placement_of w_id).notes executor None

  -- the executor to which messages for the warehouse are sent
  abbrev pub route_of : ℕ → ℕ
  route_of w_id = comes_to (place_of w_id)

  -- what an executor finds of its slice
  abbrev pub found_by : ℕ → ℕ → Found
  found_by executor w_id = found_in (placement_of w_id) executor

  -- with this placement of the warehouse
  abbrev pub with_placement : ℕ → Placement → PlacementsView
  with_placement w_id placement = record h { placements = slice_set h.placements (w_id - 1) placement }

-- ---- the changes of a move

-- When a move begins at its destination, the slice is to go there, unless it is there.
abbrev pub place_moved : Whereabouts → ℕ → Whereabouts
place_moved place to = if is_at place to then place else Leaves (comes_to place) to

-- the executor from which the slice is fetched, if it has to be
abbrev pub fetched_from : Whereabouts → ℕ → Option ℕ
fetched_from place to = if is_at place to then None else Some (comes_to place)

-- the move begins: the destination's note is cleared
abbrev pub placement_moved : Placement → ℕ → Placement
placement_moved placement to = record { place = place_moved placement.place to; notes = slice_set placement.notes to None }

-- the slice is taken out at an executor, which notes its destination
abbrev pub placement_taken : Placement → ℕ → ℕ → Placement
placement_taken placement here to = record { place = Travels to; notes = slice_set placement.notes here (Some to) }

-- the slice is installed at an executor
abbrev pub placement_installed : Placement → ℕ → Placement
placement_installed placement here = record placement { place = Rests here }

module _ (h : PlacementsView) (w_id : ℕ) where
  -- the placements after the warehouse's move begins at its destination
  abbrev pub placements_moved : ℕ → PlacementsView
  placements_moved to = with_placement h w_id (placement_moved (placement_of h w_id) to)

  -- the placements after the warehouse's slice is taken out at an executor, which notes its destination
  abbrev pub placements_taken : ℕ → ℕ → PlacementsView
  placements_taken here to = with_placement h w_id (placement_taken (placement_of h w_id) here to)

  -- the placements after the warehouse's slice is installed at an executor
  abbrev pub placements_installed : ℕ → PlacementsView
  placements_installed here = with_placement h w_id (placement_installed (placement_of h w_id) here)

-- ---- the opening

-- a slice at an executor, without notes
abbrev pub at_home : ℕ → Placement
at_home executor = record { place = Rests executor; notes = replicate 16 None }

-- The slice of each warehouse rests at its executor of the routing, and no move is outstanding.
pub record IsOpenedBy (routes : Routes) (h : PlacementsView) : Type 0 where
  pub executors : h.executors ≡ routes.executors
  pub many : length h.placements ≡ routes.warehouses
  pub each : (w_id : ℕ) → 1 ≤ w_id → w_id ≤ routes.warehouses → placement_of h w_id ≡ at_home (executor_of routes w_id)
  pub awaited : h.awaited ≡ 0

-- ---- the invariant

-- the slice is at one of the executors or on its way to one, and the placement has 16 notes
pub record IsPlacementOf (executors : ℕ) (placement : Placement) : Type 0 where
  pub there : comes_to placement.place < executors
  pub notes : length placement.notes ≡ 16

-- There are 1 to 16 executors and at most MOST_WAREHOUSES warehouses, and every placement is valid for these executors.
pub record AreKept (h : PlacementsView) : Type 0 where
  pub some : 1 ≤ h.executors
  pub most : h.executors ≤ 16
  pub many : length h.placements ≤ MOST_WAREHOUSES
  pub each : All (IsPlacementOf h.executors) h.placements
