-- Laws that hold of every move, and of messages meanwhile.
use Rattle.std.specs.Prelude.{◌≡◌, ℕ, ◌<◌, false, List, [], ◌∷◌, length}
use Rattle.range_moves.specs.declared.placement.Whereabouts.TheVariants.{Leaves, Travels}
use Rattle.range_moves.specs.declared.placement.Found.TheVariants.{Went}
use Rattle.range_moves.specs.Placements.{PlacementsView, IsWarehouse, found_by, placements_installed, placements_moved, placement_of, placements_taken, is_away, place_of}
use Rattle.range_moves.specs.Traffic.{Dispatch, MessageToSlice, IsLocatedWith, Knows}

-- An executor that knows of a slice still does after any slice begins to move, is taken out or is installed.
abbrev pub KnowingStays : Type 0
KnowingStays = (h : PlacementsView) (w_id : ℕ) → IsWarehouse h w_id → (executor v : ℕ) → Knows h executor v
    → ((to : ℕ) → is_away (place_of h w_id) ≡ false → Knows (placements_moved h w_id to) executor v)
    × ((here to : ℕ) → place_of h w_id ≡ Leaves here to → here < length (placement_of h w_id).notes → Knows (placements_taken h w_id here to) executor v)
    × ((here : ℕ) → place_of h w_id ≡ Travels here → Knows (placements_installed h w_id here) executor v)

-- A message whose slice has left goes where the slice went, to an executor that knows of the slice.
abbrev pub MessagesFollow : Type 0
MessagesFollow =
    (more : ℕ) (h : PlacementsView) (going : List MessageToSlice) (sent : List Dispatch) (moved : ℕ) (parked : List ℕ) (executor w_id to : ℕ) → found_by h executor w_id ≡ Went to
    → IsLocatedWith more h (record { to = executor; w_id = w_id } ∷ going) sent moved parked
    → IsLocatedWith more h (record { to = to; w_id = w_id } ∷ going) sent moved parked × (to < h.executors)

-- If nothing of a move and no message is in flight, no move is outstanding and nothing is parked.
abbrev pub NothingIsParked : Type 0
NothingIsParked = (h : PlacementsView) (parked : List ℕ) → IsLocatedWith 0 h [] [] 0 parked → (h.awaited ≡ 0) × (parked ≡ [])
