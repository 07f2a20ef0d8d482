-- Which groups are wanted, and which places they have.
use Rattle.std.proofs.Common.{◌≡◌, ℕ, zero, suc, ◌+◌, ◌-◌, ◌*◌, ◌<◌, ◌≤◌, List, [], ◌∷◌, ◌++◌, length, map, refl, sym, ap, ◌∙◌, arith}
use Rattle.std.specs.Prelude.{All}
use Rattle.std.specs.List.{flat_map}
use Rattle.std.proofs.lemmas.List.{map-append, length-map}
use Rattle.std.proofs.lemmas.List.Elements.{All-head, All-tail}
use Rattle.rows.specs.declared.limits.TheConstants.{STOCK_GROUPS}
use Rattle.requests.specs.declared.group.Group.{Group}
use Rattle.requests.specs.declared.group.Group.TheVariants as g
use Rattle.groups.specs.Groups.{kind_of, warehouse_of}
use Rattle.groups.specs.Wants.{kind_number, IsIn}
use Rattle.groups.specs.declared.group_wants.Mode.{Mode}
use Rattle.groups.specs.declared.group_wants.GroupWant.{GroupWant}
use Rattle.groups.specs.declared.wants.Kind.{Kind}
use Rattle.groups.specs.declared.wants.Kind.TheVariants as kind
use Rattle.groups.specs.declared.wants.Extent.{Extent}
use Rattle.groups.specs.declared.wants.Extent.TheVariants.{One, Every}
use Rattle.groups.specs.declared.wants.Want.{Want}
use Rattle.tickets.specs.Places.{IsGroupOf, place_in_warehouse}
use Rattle.tickets.proofs.OnePlace.{place_injective}
use Rattle.local_locks.specs.GroupWants.{IsThere, IsOwn, home_of, numbered, groups_under, groups_in, group_want_of, group_wants_in, group_wants}
use Rattle.local_locks.specs.Rulings.{Spot, spot, spots, spots_of, first_of, count_of, first_place, count_in}

-- two groups of one warehouse and of one place are one
pub one_group : (warehouses : ℕ) (a b : Group) → IsGroupOf warehouses a → IsGroupOf warehouses b → warehouse_of a ≡ warehouse_of b → place_in_warehouse a ≡ place_in_warehouse b → a ≡ b
one_group warehouses a b known_a known_b home place =
    place_injective warehouses a b known_a known_b (ap (λ (w : ℕ). 105 * (w - 1) + place_in_warehouse a) home ∙ ap (λ (p : ℕ). 105 * (warehouse_of b - 1) + p) place)

-- ---- the places of a kind

kind_places : (warehouses : ℕ) (k : Kind) (group : Group) → IsGroupOf warehouses group → kind_of group ≡ kind_number k → (first_of k ≤ place_in_warehouse group) × (place_in_warehouse group < first_of k + count_of k)
kind_places warehouses kind.Warehouse group known same = grind arith
kind_places warehouses kind.District group known same = grind arith
kind_places warehouses kind.Customers group known same = grind arith
kind_places warehouses kind.Orders group known same = grind arith
kind_places warehouses kind.History group known same = grind arith
kind_places warehouses kind.Stock group known same = grind arith

places_kind : (warehouses : ℕ) (k : Kind) (group : Group) → IsGroupOf warehouses group → first_of k ≤ place_in_warehouse group → place_in_warehouse group < first_of k + count_of k → kind_of group ≡ kind_number k
places_kind warehouses kind.Warehouse group known from below = grind arith
places_kind warehouses kind.District group known from below = grind arith
places_kind warehouses kind.Customers group known from below = grind arith
places_kind warehouses kind.Orders group known from below = grind arith
places_kind warehouses kind.History group known from below = grind arith
places_kind warehouses kind.Stock group known from below = grind arith

-- ---- what is wanted, by places

pub record IsPlacedIn (extent : Extent) (number : ℕ) : Type 0 where
  pub from : first_place extent ≤ number
  pub below : number < first_place extent + count_in extent

pub covered_place : (warehouses : ℕ) (extent : Extent) (group : Group) → IsGroupOf warehouses group → IsIn extent group → IsPlacedIn extent (place_in_warehouse group)
covered_place warehouses (One own) group known is =
    let same : place_in_warehouse own ≡ place_in_warehouse group = ap place_in_warehouse is in
    record { from = omega (arith, same); below = omega (arith, same) }
covered_place warehouses (Every prefix) group known is =
    let places = kind_places warehouses prefix.kind group known is.0 in
    record { from = places.0; below = places.1 }

pub place_covered : (warehouses : ℕ) (extent : Extent) (group : Group) → IsThere warehouses extent → IsGroupOf warehouses group → home_of extent ≡ warehouse_of group → IsPlacedIn extent (place_in_warehouse group) → IsIn extent group
place_covered warehouses (One own) group there known home placed =
    one_group warehouses own group there known home (omega (arith, placed.from, placed.below))
place_covered warehouses (Every prefix) group there known home placed = (places_kind warehouses prefix.kind group known placed.from placed.below, sym home)

-- ---- what is wanted, one by one

-- what comes of each place comes of each want, where it is the same for each group of the warehouse
numbered_same : {A : Type 0} (F : Spot → A) (H : Group → A) (mode : Mode) (group : ℕ → Group) (offset first count : ℕ) → ((n : ℕ) → first ≤ n → n < first + count → F (spot (offset + n) mode) ≡ H (group n))
    → map F (spots (offset + first) count mode) ≡ map H (numbered group first count)
unfolding spots numbered
numbered_same F H mode group offset first zero same = refl
numbered_same {A} F H mode group offset first (suc count) same =
    let next : suc (offset + first) ≡ offset + suc first = omega arith in
    let rest = numbered_same F H mode group offset (suc first) count (λ n from below. same n (omega (arith, from)) (omega (arith, below))) in
    let tail : map F (spots (suc (offset + first)) count mode) ≡ map H (numbered group (suc first) count) = ap (λ n. map F (spots n count mode)) next ∙ rest in
    (λ i. same first (omega arith) (omega arith) i ∷ tail i)

abbrev IsSameOf : {A : Type 0} → ℕ → ℕ → Mode → (Spot → A) → (Group → A) → Type 0
IsSameOf warehouses w_id mode F H = (group : Group) → IsGroupOf warehouses group → warehouse_of group ≡ w_id → F (spot (place_in_warehouse group) mode) ≡ H group

extent_same : {A : Type 0} (warehouses w_id : ℕ) (extent : Extent) (mode : Mode) (F : Spot → A) (H : Group → A) → (1 ≤ w_id) × (w_id ≤ warehouses) → IsThere warehouses extent → home_of extent ≡ w_id → IsSameOf warehouses w_id mode F H
    → map F (spots (first_place extent) (count_in extent) mode) ≡ map H (groups_in extent)
unfolding spots
extent_same {A} warehouses w_id (One group) mode F H home there own same = ap (λ (a : A). a ∷ []) (same group there own)
extent_same {A} warehouses w_id (Every prefix) mode F H home there own same = by_kind prefix.kind prefix.w_id own
  where
    by_kind : (k : Kind) (w : ℕ) → w ≡ w_id → map F (spots (first_of k) (count_of k) mode) ≡ map H (groups_under k w)
    by_kind kind.Warehouse w is = ap (λ (a : A). a ∷ []) (same (g.Warehouse w) (omega (arith, home.0, is), omega (arith, home.1, is)) is)
    by_kind kind.District w is = numbered_same F H mode (λ d_id. g.District w d_id) 0 1 10 (λ n from below. ap (λ (p : ℕ). F (spot p mode)) (omega arith) ∙ same (g.District w n) ((omega (arith, home.0, is), omega (arith, home.1, is)), (from, omega (arith, below))) is)
    by_kind kind.Customers w is = numbered_same F H mode (λ d_id. g.Customers w d_id) 10 1 10 (λ n from below. same (g.Customers w n) ((omega (arith, home.0, is), omega (arith, home.1, is)), (from, omega (arith, below))) is)
    by_kind kind.Orders w is = numbered_same F H mode (λ d_id. g.Orders w d_id) 20 1 10 (λ n from below. same (g.Orders w n) ((omega (arith, home.0, is), omega (arith, home.1, is)), (from, omega (arith, below))) is)
    by_kind kind.History w is = numbered_same F H mode (λ d_id. g.History w d_id) 30 1 10 (λ n from below. same (g.History w n) ((omega (arith, home.0, is), omega (arith, home.1, is)), (from, omega (arith, below))) is)
    by_kind kind.Stock w is = numbered_same F H mode (λ residue. g.Stock w residue) 41 0 STOCK_GROUPS (λ n from below. same (g.Stock w n) ((omega (arith, home.0, is), omega (arith, home.1, is)), omega (arith, below)) is)

map_map : {X Y A : Type 0} (f : Y → A) (h : X → Y) (xs : List X) → map f (map h xs) ≡ map (λ x. f (h x)) xs
map_map f h [] = refl
map_map f h (x ∷ xs) = ap (λ rest. f (h x) ∷ rest) (map_map f h xs)

pub group_wanted_same : {A : Type 0} (warehouses w_id : ℕ) (wants : List Want) (F : Spot → A) (H : GroupWant → A) → (1 ≤ w_id) × (w_id ≤ warehouses) → All (IsOwn warehouses w_id) wants
    → ((group : Group) (mode : Mode) → IsGroupOf warehouses group → warehouse_of group ≡ w_id → F (spot (place_in_warehouse group) mode) ≡ H (record { group = group; mode = mode }))
    → map F (flat_map spots_of wants) ≡ map H (group_wants wants)
group_wanted_same warehouses w_id [] F H home own same = refl
group_wanted_same {A} warehouses w_id (want ∷ wants) F H home own same =
    let head = All-head (IsOwn warehouses w_id) want wants own in
    let here : map F (spots_of want) ≡ map H (group_wants_in want) =
    extent_same warehouses w_id want.extent want.mode F (λ group. H (group_want_of want group)) home head.0 head.1 (λ group known at. same group want.mode known at)
    ∙ sym (map_map H (group_want_of want) (groups_in want.extent)) in
    let rest = group_wanted_same warehouses w_id wants F H home (All-tail (IsOwn warehouses w_id) want wants own) same in
    map-append F (spots_of want) (flat_map spots_of wants) ∙ ap (λ all. all ++ map F (flat_map spots_of wants)) here ∙ ap (λ all. map H (group_wants_in want) ++ all) rest ∙ sym (map-append H (group_wants_in want) (group_wants wants))

-- there are as many places as wants
pub group_wanted_length : (warehouses w_id : ℕ) (wants : List Want) → (1 ≤ w_id) × (w_id ≤ warehouses) → All (IsOwn warehouses w_id) wants → length (flat_map spots_of wants) ≡ length (group_wants wants)
group_wanted_length warehouses w_id wants home own =
    sym (length-map {B = ℕ} (flat_map spots_of wants) (λ s. 0)) ∙ ap length (group_wanted_same warehouses w_id wants (λ (s : Spot). 0) (λ (w : GroupWant). 0) home own (λ group mode known at. refl)) ∙ length-map {B = ℕ} (group_wants wants) (λ w. 0)
