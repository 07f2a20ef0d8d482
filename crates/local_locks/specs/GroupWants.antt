-- The wanted groups, one by one, and what may be asked of a table.
use Rattle.std.specs.Prelude.{◌≡◌, ℕ, zero, suc, List, [], ◌∷◌, All, AllPairs, map}
use Rattle.std.specs.List.{flat_map}
use Rattle.rows.specs.declared.limits.TheConstants.{STOCK_GROUPS}
use Rattle.requests.specs.declared.group.Group.{Group}
use Rattle.requests.specs.declared.group.Group.TheVariants as g
use Rattle.groups.specs.Groups.{warehouse_of}
use Rattle.groups.specs.Wants.{Overlap}
use Rattle.groups.specs.declared.group_wants.GroupWant.{GroupWant}
use Rattle.groups.specs.declared.wants.Kind.{Kind}
use Rattle.groups.specs.declared.wants.Kind.TheVariants.{Warehouse, District, Customers, Orders, History, Stock}
use Rattle.groups.specs.declared.wants.Extent.{Extent}
use Rattle.groups.specs.declared.wants.Extent.TheVariants.{One, Every}
use Rattle.groups.specs.declared.wants.Want.{Want}
use Rattle.tickets.specs.Places.{IsGroupOf}

-- the groups with `count` numbers from `first` on
unfoldable pub numbered : (ℕ → Group) → ℕ → ℕ → List Group
numbered group first zero = []
numbered group first (suc count) = group first ∷ numbered group (suc first) count

-- the groups of a kind in a warehouse, in the order of groups
abbrev pub groups_under : Kind → ℕ → List Group
groups_under Warehouse w_id = g.Warehouse w_id ∷ []
groups_under District w_id = numbered (λ d_id. g.District w_id d_id) 1 10
groups_under Customers w_id = numbered (λ d_id. g.Customers w_id d_id) 1 10
groups_under Orders w_id = numbered (λ d_id. g.Orders w_id d_id) 1 10
groups_under History w_id = numbered (λ d_id. g.History w_id d_id) 1 10
groups_under Stock w_id = numbered (λ residue. g.Stock w_id residue) 0 STOCK_GROUPS

-- the groups of an extent: one, or all of a kind in a warehouse, in the order of groups
abbrev pub groups_in : Extent → List Group
groups_in (One group) = group ∷ []
groups_in (Every prefix) = groups_under prefix.kind prefix.w_id

-- the want for one group of a want
abbrev pub group_want_of : Want → Group → GroupWant
group_want_of want group = record { group = group; mode = want.mode }

-- a want for each group of a want
abbrev pub group_wants_in : Want → List GroupWant
group_wants_in want = map (group_want_of want) (groups_in want.extent)

-- a want for each wanted group, want by want
abbrev pub group_wants : List Want → List GroupWant
group_wants wants = flat_map group_wants_in wants

-- ---- what may be asked

-- the group exists; nothing is required of a prefix
abbrev pub IsThere : ℕ → Extent → Type 0
IsThere warehouses (One group) = IsGroupOf warehouses group
IsThere warehouses (Every prefix) = Unit {0}

-- the groups of the want exist
abbrev pub IsWanted : ℕ → Want → Type 0
IsWanted warehouses want = IsThere warehouses want.extent

-- the warehouse of an extent
abbrev pub home_of : Extent → ℕ
home_of (One group) = warehouse_of group
home_of (Every prefix) = prefix.w_id

-- the want is for groups of this warehouse
abbrev pub IsOwn : ℕ → ℕ → Want → Type 0
IsOwn warehouses w_id want = IsWanted warehouses want × (home_of want.extent ≡ w_id)

-- no group is in both wants
abbrev pub AreApart : Want → Want → Type 0
AreApart a b = Overlap a b → ⊥

-- all wants are for groups of this warehouse, and no group is wanted twice
pub record CanAsk (warehouses w_id : ℕ) (wants : List Want) : Type 0 where
  pub own : All (IsOwn warehouses w_id) wants
  pub once : AllPairs AreApart wants
