-- The views that contracts have of a slice, and of all slices together.
use Rattle.std.specs.Prelude.{◌≡◌, ℕ, ◌-◌, ◌<◌, List, [], ◌∷◌, ◌++◌, Bool, true, ◌==◌, if◌then◌else◌, All, length, map, slice_index_or}
use Rattle.std.specs.List.{filter}
use Rattle.std.specs.List.Sorted.{IsPermutation}
use Rattle.rows.specs.Ranged.{is_between}
use Rattle.rows.specs.declared.limits.TheConstants.{STOCK_GROUPS}
use Rattle.schema.specs.Database.{Database}
use Rattle.partitions.specs.Parts.{SharedTables, Part, IsPartAt, whole_of}
use Rattle.requests.specs.declared.group.Group.{Group}
use Rattle.requests.specs.declared.group.Group.TheVariants.{Warehouse, District, Customers, Orders, History, Stock}
use Rattle.groups.specs.Content.{content}
use Rattle.groups.specs.Groups.{warehouse_of}
use Rattle.tickets.specs.Claims.{ClaimView}
use Rattle.tickets.specs.Committed.{GroupsOfSlice, KeepsCommitted}
use Rattle.local_locks.specs.LockTableView.{HeldClaim, WaitingAction}
use Rattle.local_locks.specs.Asking.{held_by}
use Rattle.local_locks.specs.Keeping.{standing_of, tickets_on}

-- ---- one slice

-- Its warehouse; the warehouse's current rows, including the changes of open transactions; all claims on its groups
-- that are out, in any order; and all waiters.
pub record SliceView : Type 0 where
  pub home : ℕ
  pub tables : Database
  pub holdings : List HeldClaim
  pub waiters : List WaitingAction

-- its rows
abbrev pub part_in : SliceView → Part
part_in s = record { home = s.home; tables = s.tables }

-- the group is the warehouse's, whether or not such a group exists
abbrev pub at_home : ℕ → Group → Bool
at_home home group = warehouse_of group == home

-- such a group exists in a warehouse
abbrev pub is_group : Group → Bool
is_group (Warehouse w_id) = true
is_group (District w_id d_id) = is_between 1 10 d_id
is_group (Customers w_id d_id) = is_between 1 10 d_id
is_group (Orders w_id d_id) = is_between 1 10 d_id
is_group (History w_id d_id) = is_between 1 10 d_id
is_group (Stock w_id residue) = is_between 0 (STOCK_GROUPS - 1) residue

-- the number of tickets of a group that no holder has, while these claims are out
abbrev pub free_at : List HeldClaim → Group → ℕ
free_at holdings group = 8 - tickets_on group holdings

-- the slice in the form that the laws of committed contents use
abbrev pub standing : SliceView → GroupsOfSlice
standing s = standing_of (content s.tables) s.holdings

-- a slice of which no claim is out, and for which no action waits
abbrev pub at_rest : Part → SliceView
at_rest part = record { home = part.home; tables = part.tables; holdings = []; waiters = [] }

-- the slice with these waiters
abbrev pub with_waiters : List WaitingAction → SliceView → SliceView
with_waiters waiters s = record s { waiters = waiters }

-- the same claims are out, and the same actions wait
pub record HasLocksOf (old new : SliceView) : Type 0 where
  pub holdings : new.holdings ≡ old.holdings
  pub waiters : new.waiters ≡ old.waiters

-- the slice is as before: each holder has the same number of claims on each group, and everything else is the same
pub record IsAsBefore (old new : SliceView) : Type 0 where
  pub home : new.home ≡ old.home
  pub tables : new.tables ≡ old.tables
  pub holdings : IsPermutation new.holdings old.holdings
  pub waiters : new.waiters ≡ old.waiters

-- the claim is on a group of the warehouse
abbrev pub IsClaimAt : ℕ → ClaimView → Type 0
IsClaimAt home claim = warehouse_of claim.group ≡ home

-- there is a claim, and all claims are on groups of one warehouse
abbrev pub AreOfOneHome : List ClaimView → Type 0
AreOfOneHome [] = ⊥
AreOfOneHome (claim ∷ claims) = All (IsClaimAt (warehouse_of claim.group)) (claim ∷ claims)

-- The claims `before` are replaced by the claims `after`, and no other claim is granted or taken back: if those that
-- were out are `before` and some others, those that are out now are `after` and the same others.
abbrev pub KeepsHeld : List ClaimView → List HeldClaim → List ClaimView → List HeldClaim → Type 0
KeepsHeld before old after new = (others : List HeldClaim) → IsPermutation old (map held_by before ++ others) → IsPermutation new (map held_by after ++ others)

-- The claims `before` are replaced by the claims `after`. The committed contents of the warehouse's groups are kept,
-- whatever they are. All other claims that were out still are, and the same actions wait. The warehouse, the scale and
-- the items are unchanged.
pub record SliceKeeps (before : List ClaimView) (old : SliceView) (after : List ClaimView) (new : SliceView) : Type 0 where
  pub committed : KeepsCommitted (at_home old.home) before (standing old) after (standing new)
  pub holdings : KeepsHeld before old.holdings after new.holdings
  pub waiters : new.waiters ≡ old.waiters
  pub home : new.home ≡ old.home
  pub scale : new.tables.scale ≡ old.tables.scale
  pub items : new.tables.items ≡ old.tables.items

-- ---- all slices

-- the current rows of all warehouses; and for each warehouse, by its number, all claims on its groups that are out, in
-- any order
pub record JoinedSlices : Type 0 where
  pub tables : Database
  pub holdings : ℕ → List HeldClaim

-- all slices have every group
abbrev pub everywhere : Group → Bool
everywhere group = true

-- the claims on a warehouse's groups are those of its slice; a warehouse that doesn't exist has none
abbrev pub holdings_in : List SliceView → ℕ → List HeldClaim
holdings_in [] w_id = []
holdings_in (s ∷ slices) w_id = if w_id == s.home then s.holdings else holdings_in slices w_id

-- the slices together, with the tables that they share
abbrev pub joined : SharedTables → List SliceView → JoinedSlices
joined shared slices = record { tables = whole_of shared (map part_in slices); holdings = holdings_in slices }

-- all slices, in the form that the laws of committed contents use
abbrev pub all_standing : JoinedSlices → GroupsOfSlice
all_standing j = record { rows = content j.tables; free = λ group. free_at (j.holdings (warehouse_of group)) group }

-- all slices, without a claim that is out
abbrev pub all_at_rest : Database → JoinedSlices
all_at_rest tables = record { tables = tables; holdings = λ w_id. [] }

-- the claims of the list that are on groups of the warehouse
abbrev pub held_at : ℕ → List ClaimView → List HeldClaim
held_at w_id claims = map held_by (filter (λ claim. at_home w_id claim.group) claims)

-- the list contains all claims that are out
abbrev pub AreAllHeld : (ℕ → List HeldClaim) → List ClaimView → Type 0
AreAllHeld holdings claims = (w_id : ℕ) → IsPermutation (holdings w_id) (held_at w_id claims)

-- The claims `before` are replaced by the claims `after`, and no other claim is granted or taken back: if those that
-- were out are `before` and some others, those that are out now are `after` and the same others.
abbrev pub KeepsAllHeld : List ClaimView → (ℕ → List HeldClaim) → List ClaimView → (ℕ → List HeldClaim) → Type 0
KeepsAllHeld before old after new = (others : List ClaimView) → AreAllHeld old (before ++ others) → AreAllHeld new (after ++ others)

-- the slices of all warehouses, in order, with the tables that they share
pub record AreSlicesOf (shared : SharedTables) (slices : List SliceView) : Type 0 where
  pub many : length slices ≡ shared.scale.warehouses
  pub each : (place : ℕ) (d : SliceView) → place < length slices → IsPartAt shared place (part_in (slice_index_or slices place d))

-- The claims `before` are replaced by the claims `after`. The committed contents of all groups are kept; all other
-- claims that were out still are; and the scale and the items are unchanged.
pub record SlicesKeep (before : List ClaimView) (old : JoinedSlices) (after : List ClaimView) (new : JoinedSlices) : Type 0 where
  pub committed : KeepsCommitted everywhere before (all_standing old) after (all_standing new)
  pub holdings : KeepsAllHeld before old.holdings after new.holdings
  pub scale : new.tables.scale ≡ old.tables.scale
  pub items : new.tables.items ≡ old.tables.items
