-- Each group has one place.
use Rattle.std.proofs.Common.{◌≡◌, ◌≢◌, ◌==◌, ℕ, ◌*◌, ◌<◌, ◌≤◌, List, [], ◌∷◌, ◌++◌, length, get_or, set, map, sym, ap, ◌∙◌, subst, arith, ⊎_elim, length-set, length-append}
use Rattle.std.proofs.Math.Nat.{eq-or-lt_of_le}
use Rattle.std.proofs.Math.Seq.{get_or-append_seam}
use Rattle.std.proofs.lemmas.List.{get_or_append_left, get_or-set_same, get_or-set_other, get_or-map, get_or_default, length-map, same_lists}
use Rattle.std.specs.Prelude.{Bool, true, false, if◌then◌else◌}
use Rattle.std.proofs.lemmas.Bool.Decides.{eqb_tells}
use Rattle.requests.specs.declared.group.Group.{Group}
use Rattle.groups.proofs.SameGroups.{is_same-itself, is_same-other}
use Rattle.requests.specs.declared.group.Group.TheVariants.{Warehouse, District, Customers, Orders, History, Stock}
use Rattle.groups.specs.Groups.{is_same, warehouse_of}
use Rattle.tickets.specs.Claims.{ClaimView, committed_by}
use Rattle.tickets.specs.LogSeats.{CommittedGroup, with_content, after_one}
use Rattle.tickets.specs.Places.{IsBetween, IsGroupOf, place_of, AreAtPlaces, AreInPlace}

-- no two groups have one place
pub place_injective : (warehouses : ℕ) (a b : Group) → IsGroupOf warehouses a → IsGroupOf warehouses b → place_of a ≡ place_of b → a ≡ b
place_injective warehouses a b is_a is_b same = grind arith

pub place_inside : (warehouses : ℕ) (group : Group) → IsGroupOf warehouses group → place_of group < 105 * warehouses
place_inside warehouses group is = grind arith

-- the seat at a group's place is the group's
pub group_at : (warehouses : ℕ) (seats : List CommittedGroup) (group : Group) (place : ℕ) (seat : CommittedGroup) → AreInPlace warehouses seats → IsGroupOf warehouses group → place ≡ place_of group
    → seat ≡ get_or seats place seat → (place < length seats) × (group ≡ seat.group)
group_at warehouses seats group place seat in_place is is_place at =
    let here : place < length seats = omega (arith, place_inside warehouses group is, is_place, in_place.all_there) in
    let P : CommittedGroup → Type 0 = λ s. IsGroupOf warehouses s.group in
    let Q : CommittedGroup → Type 0 = λ s. place_of s.group ≡ place in
    (here, place_injective warehouses group seat.group is (subst P (sym at) (in_place.at_places.groups place seat here)) (sym is_place ∙ sym (subst Q (sym at) (in_place.at_places.places place seat here))))

-- what a claim leaves becomes the content of its group's seat, and all others stay
pub settled_seats : (warehouses : ℕ) (seats : List CommittedGroup) (claim : ClaimView) (seat new : CommittedGroup) (place : ℕ) → AreInPlace warehouses seats → place < length seats → place ≡ place_of claim.group
    → claim.group ≡ seat.group → seat ≡ get_or seats place seat → new ≡ with_content seat (committed_by claim.mode claim.left seat.content) → set seats place new ≡ map (after_one claim) seats
settled_seats warehouses seats claim seat new place in_place here is_place group at is =
    same_lists (set seats place new) (map (after_one claim) seats) (length-set seats place new ∙ sym (length-map seats (after_one claim))) each
  where
    own : after_one claim seat ≡ new
    own = ap (λ (b : Bool). with_content seat (if b then committed_by claim.mode claim.left seat.content else seat.content)) ((λ i. is_same claim.group (sym group i)) ∙ is_same-itself claim.group) ∙ sym is

    each : (k : ℕ) (d : CommittedGroup) → k < length (set seats place new) → get_or (set seats place new) k d ≡ get_or (map (after_one claim) seats) k d
    each k d small =
        let inside : k < length seats = omega (arith, small, length-set seats place new) in
        let mapped = get_or-map (after_one claim) seats k d d inside in
        ⊎_elim
        (λ (same : ((k == place) ≡ true) × (k ≡ place)).
        let P : ℕ → Type 0 = λ j. get_or (set seats place new) j d ≡ after_one claim (get_or seats j d) in
        subst P (sym same.1) (get_or-set_same seats place new d here ∙ sym own ∙ ap (after_one claim) (at ∙ get_or_default seats place seat d here)) ∙ sym mapped)
        (λ (other : ((k == place) ≡ false) × (k ≢ place)).
        let found = get_or seats k d in
        let differ : found.group ≢ claim.group = λ e. other.1 (sym (in_place.at_places.places k d inside) ∙ ap place_of e ∙ sym is_place) in
        get_or-set_other seats place k new d other.1
        ∙ sym (ap (λ (b : Bool). with_content found (if b then committed_by claim.mode claim.left found.content else found.content)) (is_same-other claim.group found.group differ))
        ∙ sym mapped)
        (eqb_tells k place)

-- one seat more, at the next place
pub places_push : (warehouses : ℕ) (seats : List CommittedGroup) (seat : CommittedGroup) → AreAtPlaces warehouses seats → IsGroupOf warehouses seat.group → place_of seat.group ≡ length seats → AreAtPlaces warehouses (seats ++ seat ∷ [])
places_push warehouses seats seat all known place = record {
  groups = λ k d small. each k d small (λ _ s. IsGroupOf warehouses s.group) (all.groups k d) known;
  places = λ k d small. each k d small (λ j s. place_of s.group ≡ j) (all.places k d) place;
}
  where
    each : (k : ℕ) (d : CommittedGroup) → k < length (seats ++ seat ∷ []) → (P : ℕ → CommittedGroup → Type 0) → (k < length seats → P k (get_or seats k d)) → P (length seats) seat → P k (get_or (seats ++ seat ∷ []) k d)
    each k d small P before last =
        let at_most : k ≤ length seats = omega (arith, small, length-append seats (seat ∷ [])) in
        ⊎_elim
        (λ (same : k ≡ length seats). subst (λ j. P j (get_or (seats ++ seat ∷ []) j d)) (sym same) (subst (P (length seats)) (sym (get_or-append_seam seats seat [] d)) last))
        (λ (inside : k < length seats). subst (P k) (sym (get_or_append_left seats (seat ∷ []) d k inside)) (before inside))
        (eq-or-lt_of_le at_most)

-- a group's warehouse is one of those that there are
pub home_known : (warehouses : ℕ) (group : Group) → IsGroupOf warehouses group → IsBetween 1 warehouses (warehouse_of group)
home_known warehouses (Warehouse w_id) known = known
home_known warehouses (District w_id d_id) known = known.0
home_known warehouses (Customers w_id d_id) known = known.0
home_known warehouses (Orders w_id d_id) known = known.0
home_known warehouses (History w_id d_id) known = known.0
home_known warehouses (Stock w_id residue) known = known.0
