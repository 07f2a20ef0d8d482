-- No place is wanted twice, and so there are few.
use Rattle.std.proofs.Common.{◌≡◌, ℕ, zero, suc, ◌<◌, ◌≤◌, Bool, true, false, List, [], ◌∷◌, ◌++◌, length, get_or, map, eqb, refl, sym, ap, subst, ◌∙◌, arith}
use Rattle.std.specs.Prelude.{All, AllPairs, Contains, ◌||◌}
use Rattle.std.specs.List.{flat_map, list_any}
use Rattle.std.proofs.lemmas.Bool.{eqb-true, false_from_ne_true}
use Rattle.std.proofs.lemmas.List.{get_or-map, length-map}
use Rattle.std.proofs.lemmas.List.Elements.{All-append, All-cons, All-contains, All-contains_itself, All-head, All-map, All-nil, All-tail, All-weaker}
use Rattle.std.proofs.lemmas.Map.Keys.{IsDistinct-from_apart}
use Rattle.std.proofs.lemmas.Map.Steps.{length-le_from_distinct_below}
use Rattle.requests.specs.declared.group.Group.TheVariants.{Warehouse}
use Rattle.groups.specs.declared.group_wants.Mode.{Mode}
use Rattle.groups.specs.declared.group_wants.Mode.TheVariants.{Shared}
use Rattle.tickets.specs.Boxes.{sharing}
use Rattle.tickets.specs.Unset.{nothing}
use Rattle.groups.specs.declared.wants.Want.{Want}
use Rattle.local_locks.specs.Locks.{LockView, AreLocksOf}
use Rattle.local_locks.specs.GroupWants.{IsOwn, AreApart, CanAsk}
use Rattle.local_locks.specs.Rulings.{Spot, spot, spots, spots_of, first_place, count_in}
use Rattle.local_locks.specs.Granting.{AreElsewhere}
use Rattle.local_locks.proofs.Members.{joined_contains, contains_here, contains_there}
use Rattle.local_locks.proofs.Spots.{spot_inside, extent_inside}
use Rattle.local_locks.proofs.Covering.{place_covered}

-- ---- pairs

pub pairs_cons : {X : Type 0} (R : X → X → Type 0) (x : X) (xs : List X) → All (R x) xs → AllPairs R xs → AllPairs R (x ∷ xs)
pairs_cons R x xs first rest zero zero d before small = absurd (omega (arith, before))
pairs_cons R x xs first rest zero (suc j) d before small = first j d (omega (arith, small))
pairs_cons R x xs first rest (suc i) zero d before small = absurd (omega (arith, before))
pairs_cons R x xs first rest (suc i) (suc j) d before small = rest i j d (omega (arith, before)) (omega (arith, small))

pub pairs_head : {X : Type 0} (R : X → X → Type 0) (x : X) (xs : List X) → AllPairs R (x ∷ xs) → All (R x) xs
pairs_head R x xs pairs = λ k d small. pairs 0 (suc k) d (omega arith) (omega (arith, small))

pub pairs_tail : {X : Type 0} (R : X → X → Type 0) (x : X) (xs : List X) → AllPairs R (x ∷ xs) → AllPairs R xs
pairs_tail R x xs pairs = λ i j d before small. pairs (suc i) (suc j) d (omega (arith, before)) (omega (arith, small))

pub pairs_none : {X : Type 0} (R : X → X → Type 0) → AllPairs R []
pairs_none R = λ i j d before small. absurd (omega (arith, small))

pub pairs_append : {X : Type 0} (R : X → X → Type 0) (xs ys : List X) → AllPairs R xs → AllPairs R ys → ((x y : X) → Contains xs x → Contains ys y → R x y) → AllPairs R (xs ++ ys)
pairs_append R [] ys first second across = second
pairs_append {X} R (x ∷ xs) ys first second across =
    pairs_cons R x (xs ++ ys)
    (All-append (R x) xs ys (pairs_head R x xs first) (All-weaker (Contains ys) (R x) (λ y c. across x y (contains_here x xs) c) ys (All-contains_itself ys)))
    (pairs_append R xs ys (pairs_tail R x xs first) second (λ z y c e. across z y (contains_there x xs z c) e))

-- ---- places

spots_apart : (first count : ℕ) (mode : Mode) → AllPairs AreElsewhere (spots first count mode)
unfolding spots
spots_apart first zero mode = pairs_none AreElsewhere
spots_apart first (suc count) mode =
    pairs_cons AreElsewhere (spot first mode) (spots (suc first) count mode)
    (All-weaker (Contains (spots (suc first) count mode)) (AreElsewhere (spot first mode)) (λ s c same. omega (arith, same, (spot_inside (suc first) count mode s c).from)) (spots (suc first) count mode) (All-contains_itself (spots (suc first) count mode)))
    (spots_apart (suc first) count mode)

-- the places of two wants that have no group in common
wants_apart : (warehouses w_id : ℕ) (locks : List LockView) (a b : Want) (s t : Spot) → AreLocksOf warehouses w_id locks → IsOwn warehouses w_id a → IsOwn warehouses w_id b → AreApart a b → Contains (spots_of a) s → Contains (spots_of b) t → AreElsewhere s t
wants_apart warehouses w_id locks a b s t are own_a own_b apart c e same =
    let first = spot_inside (first_place a.extent) (count_in a.extent) a.mode s c in
    let second = spot_inside (first_place b.extent) (count_in b.extent) b.mode t e in
    let small : s.number < length locks = omega (arith, first.below, extent_inside warehouses a.extent own_a.0, are.all_there) in
    let d : LockView = record { ticket_box = sharing (Warehouse 0) nothing 0; holders = [] } in
    let at = are.each s.number d small in
    let group = (get_or locks s.number d).ticket_box.group in
    apart (
      group,
      place_covered warehouses a.extent group own_a.0 at.known (own_a.1 ∙ sym at.here) (record { from = omega (arith, first.from, at.place); below = omega (arith, first.below, at.place) }),
      place_covered warehouses b.extent group own_b.0 at.known (own_b.1 ∙ sym at.here) (record { from = omega (arith, second.from, at.place, same); below = omega (arith, second.below, at.place, same) }),
    )

pub places_apart : (warehouses w_id : ℕ) (locks : List LockView) (wants : List Want) → AreLocksOf warehouses w_id locks → All (IsOwn warehouses w_id) wants → AllPairs AreApart wants → AllPairs AreElsewhere (flat_map spots_of wants)
places_apart warehouses w_id locks [] are own once = pairs_none AreElsewhere
places_apart warehouses w_id locks (want ∷ wants) are own once =
    let mine = All-head (IsOwn warehouses w_id) want wants own in
    let others = All-tail (IsOwn warehouses w_id) want wants own in
    pairs_append AreElsewhere (spots_of want) (flat_map spots_of wants)
    (spots_apart (first_place want.extent) (count_in want.extent) want.mode)
    (places_apart warehouses w_id locks wants are others (pairs_tail AreApart want wants once))
    (λ s t c e.
    let found = joined_contains spots_of wants t e in
    wants_apart warehouses w_id locks want found.0 s t are mine (All-contains (IsOwn warehouses w_id) wants found.0 others found.1)
    (All-contains (AreApart want) wants found.0 (pairs_head AreApart want wants once) found.1) c found.2)

-- ---- few places

abbrev number_of : Spot → ℕ
number_of s = s.number

below_any : (n q : ℕ) (xs : List ℕ) → All (λ x. x < n) xs → list_any (eqb q) xs ≡ true → q < n
below_any n q [] all any = absurd (unlike any)
  where
    unlike : false ≡ true → ⊥
    unlike e = cc
below_any n q (x ∷ xs) all any = by_test (eqb q x) refl (below_any n q xs (All-tail (λ y. y < n) x xs all))
  where
    rest : eqb q x ≡ false → list_any (eqb q) xs ≡ true
    rest isnt = sym (ap (λ b. b || list_any (eqb q) xs) isnt) ∙ any

    by_test : (b : Bool) → eqb q x ≡ b → (list_any (eqb q) xs ≡ true → q < n) → q < n
    by_test true is later = subst (λ m. m < n) (sym (eqb-true q x is)) (All-head (λ y. y < n) x xs all)
    by_test false isnt later = later (rest isnt)

few_apart : (wanted : List Spot) → AllPairs AreElsewhere wanted → All (λ (s : Spot). s.number < 105) wanted → length wanted ≤ 105
few_apart wanted apart below =
    let numbers = map number_of wanted in
    let long : length numbers ≡ length wanted = length-map wanted number_of in
    let distinct = IsDistinct-from_apart eqb numbers (λ i j d before small.
    let inside : j < length wanted = omega (arith, small, long) in
    let s : Spot = spot 0 Shared in
    let first : get_or numbers i d ≡ (get_or wanted i s).number = get_or-map number_of wanted i s d (omega (arith, before, inside)) in
    let second : get_or numbers j d ≡ (get_or wanted j s).number = get_or-map number_of wanted j s d inside in
    false_from_ne_true (eqb (get_or numbers i d) (get_or numbers j d)) (λ same. apart i j s before inside (sym first ∙ eqb-true (get_or numbers i d) (get_or numbers j d) same ∙ second))) in
    let bound = length-le_from_distinct_below numbers 105 distinct (λ q any. below_any 105 q numbers (All-map (λ x. x < 105) number_of wanted below) any) in
    omega (arith, bound, long)

pub few_places : (warehouses w_id : ℕ) (locks : List LockView) (wants : List Want) → AreLocksOf warehouses w_id locks → All (IsOwn warehouses w_id) wants → AllPairs AreApart wants → length (flat_map spots_of wants) ≤ 105
few_places warehouses w_id locks wants are own once =
    few_apart (flat_map spots_of wants) (places_apart warehouses w_id locks wants are own once)
    (All-weaker (Contains (flat_map spots_of wants)) (λ (s : Spot). s.number < 105) (λ s c.
    let found = joined_contains spots_of wants s c in
    let want = found.0 in
    let inside = spot_inside (first_place want.extent) (count_in want.extent) want.mode s found.2 in
    omega (arith, inside.below, extent_inside warehouses want.extent (All-contains (IsOwn warehouses w_id) wants want own found.1).0)) (flat_map spots_of wants) (All-contains_itself (flat_map spots_of wants)))

-- ---- one or two wants

pub can_ask_one : (warehouses w_id : ℕ) (want : Want) → IsOwn warehouses w_id want → CanAsk warehouses w_id (want ∷ [])
can_ask_one warehouses w_id want own = record {
  own = All-cons (IsOwn warehouses w_id) want [] own (All-nil (IsOwn warehouses w_id));
  once = pairs_cons AreApart want [] (All-nil (AreApart want)) (pairs_none AreApart);
}

pub can_ask_both : (warehouses w_id : ℕ) (a b : Want) → IsOwn warehouses w_id a → IsOwn warehouses w_id b → AreApart a b → CanAsk warehouses w_id (a ∷ b ∷ [])
can_ask_both warehouses w_id a b own_a own_b apart = record {
  own = All-cons (IsOwn warehouses w_id) a (b ∷ []) own_a (can_ask_one warehouses w_id b own_b).own;
  once = pairs_cons AreApart a (b ∷ []) (All-cons (AreApart a) b [] apart (All-nil (AreApart a))) (can_ask_one warehouses w_id b own_b).once;
}
