-- The messages in flight, of moves and for slices, and the invariant over them.
use Rattle.std.specs.Prelude.{◌≡◌, ◌⊎◌, ℕ, ◌+◌, ◌<◌, ◌≤◌, ◌==◌, Bool, true, false, if◌then◌else◌, All, List, length, Some, count_by, IsTrue}
use Rattle.std.specs.List.{sum_by}
use Rattle.range_moves.specs.declared.order.Moving.{Moving}
use Rattle.range_moves.specs.declared.order.Moving.TheVariants.{Order, Fetch, Parcel}
use Rattle.range_moves.specs.declared.placement.Whereabouts.{Whereabouts}
use Rattle.range_moves.specs.declared.placement.Whereabouts.TheVariants.{Leaves, Rests, Travels}
use Rattle.range_moves.specs.Orders.{IsWithin, size_of}
use Rattle.range_moves.specs.Placements.{PlacementsView, IsWarehouse, comes_to, is_at, is_away, note_of, place_of}

-- a message for the slice of a warehouse, on its way to an executor
pub record MessageToSlice : Type 0 where
  pub to : ℕ
  pub w_id : ℕ

-- a message of a move, on its way to an executor
pub record Dispatch : Type 0 where
  pub to : ℕ
  pub what : Moving

-- the slice is on its way to this executor, or to go there
abbrev pub ComesTo : Whereabouts → ℕ → Type 0
ComesTo place executor = IsTrue (is_away place) × (executor ≡ comes_to place)

-- The executor has the slice, or gets it, or noted where it went. This stays so once it is so.
abbrev pub Knows : PlacementsView → ℕ → ℕ → Type 0
Knows h executor w_id = IsTrue (is_at (place_of h w_id) executor) ⊎ (ComesTo (place_of h w_id) executor ⊎ ((to : ℕ) × (note_of h executor w_id ≡ Some to)))

-- the message fetches or carries the slice of this warehouse
abbrev pub brings : ℕ → Moving → Bool
brings w_id (Order order) = false
brings w_id (Fetch at to) = at == w_id
brings w_id (Parcel at) = at == w_id

-- the number of reports that follow from the message
abbrev pub reports_of : Moving → ℕ
reports_of (Order order) = size_of order
reports_of (Fetch at to) = 1
reports_of (Parcel at) = 1

-- The message is consistent with the placements. An order in flight is the whole outstanding move; a fetch goes to the
-- executor that has the slice; and a parcel goes to the slice's destination.
abbrev pub IsRight : PlacementsView → ℕ → Moving → Type 0
IsRight h to (Order order) = (to ≡ order.to) × (IsWithin (length h.placements) h.executors order × (h.awaited ≡ size_of order))
IsRight h to (Fetch w_id then_to) = IsWarehouse h w_id × (place_of h w_id ≡ Leaves to then_to)
IsRight h to (Parcel w_id) = IsWarehouse h w_id × (place_of h w_id ≡ Travels to)

abbrev pub IsSentRight : PlacementsView → Dispatch → Type 0
IsSentRight h d = IsRight h d.to d.what

-- the message for a slice is on its way to an executor that knows of the slice
abbrev pub KnowsOf : PlacementsView → MessageToSlice → Type 0
KnowsOf h g = Knows h g.to g.w_id

abbrev pub IsAwayFrom : PlacementsView → ℕ → Type 0
IsAwayFrom h w_id = IsTrue (is_away (place_of h w_id))

-- Messages for slices go to executors that know of them, and are parked only while the slice is to go or on its way.
-- Notes lead to executors that know of the slice. The messages of moves are consistent with the placements. For each
-- slice that is to go or on its way exactly one fetch or parcel is in flight, and for each slice at rest none. The
-- outstanding move lacks the `moved` reports that are still to be sent, those that follow from its messages in flight,
-- and `more` others.
pub record IsLocatedWith (more : ℕ) (h : PlacementsView) (message_to_slice : List MessageToSlice) (sent : List Dispatch) (moved : ℕ) (parked : List ℕ) : Type 0 where
  pub knows : All (KnowsOf h) message_to_slice
  pub noted : (executor w_id to : ℕ) → note_of h executor w_id ≡ Some to → Knows h to w_id × (to < h.executors)
  pub right : All (IsSentRight h) sent
  pub once : (w_id : ℕ) → IsWarehouse h w_id → count_by (λ d. brings w_id d.what) sent ≡ (if is_away (place_of h w_id) then 1 else 0)
  pub awaited : h.awaited ≡ more + (moved + sum_by (λ d. reports_of d.what) sent)
  pub few : h.awaited ≤ length h.placements
  pub away : All (IsAwayFrom h) parked

-- ---- parcels

-- the message is the parcel of this warehouse's slice
abbrev pub is_parcel_of : ℕ → Moving → Bool
is_parcel_of w_id (Order order) = false
is_parcel_of w_id (Fetch at to) = false
is_parcel_of w_id (Parcel at) = at == w_id

-- the slice is at no executor, but on its way
abbrev pub is_travelling : Whereabouts → Bool
is_travelling (Rests here) = false
is_travelling (Leaves here to) = false
is_travelling (Travels to) = true

-- The slice of each warehouse is at one executor, and no parcel of it is in flight; or it is in exactly one parcel.
abbrev pub AreOwned : PlacementsView → List Dispatch → Type 0
AreOwned h sent = (w_id : ℕ) → IsWarehouse h w_id → count_by (λ d. is_parcel_of w_id d.what) sent ≡ (if is_travelling (place_of h w_id) then 1 else 0)
