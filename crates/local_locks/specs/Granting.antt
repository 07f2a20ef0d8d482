-- Granting the wanted groups, one by one.
use Rattle.std.specs.Prelude.{◌≡◌, ◌≢◌, ℕ, List, [], ◌++◌, All, map, slice_index_or}
use Rattle.std.specs.List.{flat_map}
use Rattle.std.specs.List.Sorted.{IsPermutation}
use Rattle.requests.specs.declared.group.Group.TheVariants.{Warehouse}
use Rattle.tickets.specs.Claims.{ClaimView, fresh}
use Rattle.tickets.specs.Unset.{nothing}
use Rattle.wait_die.specs.declared.deciding.Holder.{Holder}
use Rattle.local_locks.specs.LockTableView.{HeldClaim, Stand}
use Rattle.local_locks.specs.Locks.{LockView, KeepsLocks, holding, holdings_of, stand_in}
use Rattle.local_locks.specs.Rulings.{Spot, conflicting_at}

-- no holder conflicts with a want for the place
abbrev pub IsOpen : List LockView → Spot → Type 0
IsOpen locks spot = conflicting_at locks spot.mode spot.number ≡ []

-- the content of the group at this place; a default if there is no such place
abbrev pub stand_at : List Stand → ℕ → Stand
stand_at stands number = slice_index_or stands number (record { group = Warehouse 0; left = nothing; back = nothing })

-- the claim granted to this action for this place: nothing was done under it yet, and it records the content there
abbrev pub claim_at : Holder → List Stand → Spot → ClaimView
claim_at by stands spot = fresh by (stand_at stands spot.number).group spot.mode (stand_at stands spot.number).left

-- the holding of this action for this place
abbrev pub held_at : Holder → List Stand → Spot → HeldClaim
held_at by stands spot = holding (stand_at stands spot.number).group spot.mode by

-- the two are at different places
abbrev pub AreElsewhere : Spot → Spot → Type 0
AreElsewhere a b = a.number ≢ b.number

-- the spot is not at this place
abbrev pub IsNotAt : ℕ → Spot → Type 0
IsNotAt number spot = spot.number ≢ number

-- These places are granted to this action. The groups' contents are unchanged, and so are all other places.
pub record AreGranted (warehouses : ℕ) (by : Holder) (granted : List Spot) (old new : List LockView) : Type 0 where
  pub locks : KeepsLocks warehouses old new
  pub holdings : IsPermutation (flat_map holdings_of new) (map (held_at by (map stand_in old)) granted ++ flat_map holdings_of old)
  pub stands : map stand_in new ≡ map stand_in old
  pub others : (number : ℕ) (d : LockView) → All (IsNotAt number) granted → slice_index_or new number d ≡ slice_index_or old number d
