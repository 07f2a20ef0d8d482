-- The places of groups that are wanted.
use Rattle.std.proofs.Common.{◌≡◌, ◌⊎◌, ℕ, zero, suc, ◌+◌, ◌-◌, ◌<◌, ◌≤◌, List, [], ◌∷◌, ◌++◌, length, get_or, take, drop, refl, sym, ap, subst, ◌∙◌, ⊎_elim, arith, append_assoc}
use Rattle.std.specs.Prelude.{All, AllPairs, Contains}
use Rattle.std.specs.List.{flat_map}
use Rattle.std.proofs.lemmas.List.{append-nil, take_more, take_all}
use Rattle.std.proofs.lemmas.List.Concat.{flat_map-append}
use Rattle.requests.specs.declared.group.Group.TheVariants.{Warehouse}
use Rattle.groups.specs.declared.wants.Want.{Want}
use Rattle.groups.specs.declared.group_wants.Mode.{Mode}
use Rattle.groups.specs.declared.group_wants.Mode.TheVariants.{Shared}
use Rattle.local_locks.specs.Rulings.{Spot, spot, spots, first_of, count_of, first_place, count_in}
use Rattle.std.proofs.lemmas.List.{take-append-drop, length-append, get_or_append_left, get_or-append_right, get_or_default}
use Rattle.std.proofs.lemmas.List.Elements.{All-contains_itself, All-weaker}
use Rattle.groups.specs.declared.wants.Kind.{Kind}
use Rattle.groups.specs.declared.wants.Kind.TheVariants as kind
use Rattle.groups.specs.declared.wants.Extent.{Extent}
use Rattle.groups.specs.declared.wants.Extent.TheVariants.{One, Every}
use Rattle.requests.specs.declared.group.Group.{Group}
use Rattle.tickets.specs.Places.{IsGroupOf, place_in_warehouse}
use Rattle.local_locks.specs.GroupWants.{IsThere}
use Rattle.local_locks.specs.Granting.{IsNotAt}
use Rattle.local_locks.proofs.Members.{contains_none, contains_cases, contains_here, contains_there}

-- a want, where there is none
abbrev pub no_want : Want
no_want = record { extent = One (Warehouse 0); mode = Shared }

pub length-spots : (first count : ℕ) (mode : Mode) → length (spots first count mode) ≡ count
unfolding spots
length-spots first zero mode = refl
length-spots first (suc count) mode = omega (arith, length-spots (suc first) count mode)

pub spots-more : (first count : ℕ) (mode : Mode) → spots first (suc count) mode ≡ spots first count mode ++ spot (first + count) mode ∷ []
unfolding spots
spots-more first zero mode = ap (λ n. spot n mode ∷ []) (omega arith)
spots-more first (suc count) mode =
    let moved : suc first + count ≡ first + suc count = omega arith in
    ap (λ rest. spot first mode ∷ rest) (spots-more (suc first) count mode ∙ ap (λ n. spots (suc first) count mode ++ spot n mode ∷ []) moved)

-- one place more, where a walk has come to this one
pub spots-walked : (first number : ℕ) (mode : Mode) → first ≤ number → spots first (number + 1 - first) mode ≡ spots first (number - first) mode ++ spot number mode ∷ []
spots-walked first number mode from =
    let more : number + 1 - first ≡ suc (number - first) = omega arith in
    let last : first + (number - first) ≡ number = omega arith in
    ap (λ n. spots first n mode) more ∙ spots-more first (number - first) mode ∙ ap (λ n. spots first (number - first) mode ++ spot n mode ∷ []) last

pub record IsSpotIn (first count : ℕ) (how : Mode) (s : Spot) : Type 0 where
  pub mode : s.mode ≡ how
  pub from : first ≤ s.number
  pub below : s.number < first + count

pub spot_inside : (first count : ℕ) (mode : Mode) (s : Spot) → Contains (spots first count mode) s → IsSpotIn first count mode s
unfolding spots
spot_inside first zero mode s c = contains_none s c
spot_inside first (suc count) mode s c =
    ⊎_elim
    (λ (same : spot first mode ≡ s). let n : s.number ≡ first = ap (λ (t : Spot). t.number) (sym same) in
    record { mode = ap (λ (t : Spot). t.mode) (sym same); from = omega (arith, n); below = omega (arith, n) })
    (λ (rest : Contains (spots (suc first) count mode) s). let inner = spot_inside (suc first) count mode s rest in
    record { mode = inner.mode; from = omega (arith, inner.from); below = omega (arith, inner.below) })
    (contains_cases (spot first mode) (spots (suc first) count mode) s c)

eq_or_after : (first number : ℕ) → first ≤ number → (first ≡ number) ⊎ (suc first ≤ number)
eq_or_after first number h = grind arith

pub inside_spots : (first count number : ℕ) (mode : Mode) → first ≤ number → number < first + count → Contains (spots first count mode) (spot number mode)
unfolding spots
inside_spots first zero number mode from below = absurd (omega (arith, from, below))
inside_spots first (suc count) number mode from below =
    ⊎_elim
    (λ (same : first ≡ number). subst (λ n. Contains (spot first mode ∷ spots (suc first) count mode) (spot n mode)) same (contains_here (spot first mode) (spots (suc first) count mode)))
    (λ (after : suc first ≤ number). contains_there (spot first mode) (spots (suc first) count mode) (spot number mode) (inside_spots (suc first) count number mode after (omega (arith, below))))
    (eq_or_after first number from)

-- ---- lists joined end to end, as far as a walk has come

pub joined_walked : {X A : Type 0} (f : X → List A) (xs : List X) (i : ℕ) (d : X) → i < length xs → flat_map f (take (i + 1) xs) ≡ flat_map f (take i xs) ++ f (get_or xs i d)
joined_walked {X} {A} f xs i d small =
    let more : take (i + 1) xs ≡ take i xs ++ get_or xs i d ∷ [] = take_more xs i d small in
    ap (flat_map f) more ∙ flat_map-append f (take i xs) (get_or xs i d ∷ []) ∙ ap (λ ys. flat_map f (take i xs) ++ ys) (append-nil (f (get_or xs i d)))

pub spots_none : (first count : ℕ) (mode : Mode) → count ≡ 0 → spots first count mode ≡ []
unfolding spots
spots_none first zero mode is = refl
spots_none first (suc count) mode is = absurd (omega (arith, is))

-- all of a list have been walked
pub joined_all : {X A : Type 0} (f : X → List A) (xs : List X) (i : ℕ) → length xs ≤ i → flat_map f (take i xs) ≡ flat_map f xs
joined_all {X} {A} f xs i past = ap (flat_map f) (take_all i xs past)

-- ---- within the warehouse

place_small : (warehouses : ℕ) (group : Group) → IsGroupOf warehouses group → place_in_warehouse group + 1 ≤ 105
place_small warehouses group there = grind arith

kind_small : (k : Kind) → first_of k + count_of k ≤ 105
kind_small kind.Warehouse = omega arith
kind_small kind.District = omega arith
kind_small kind.Customers = omega arith
kind_small kind.Orders = omega arith
kind_small kind.History = omega arith
kind_small kind.Stock = omega arith

pub extent_inside : (warehouses : ℕ) (extent : Extent) → IsThere warehouses extent → first_place extent + count_in extent ≤ 105
extent_inside warehouses (One group) there = place_small warehouses group there
extent_inside warehouses (Every prefix) there = kind_small prefix.kind

-- the places before one are not that one
pub spots_before : (first count number : ℕ) (mode : Mode) → first + count ≤ number → All (IsNotAt number) (spots first count mode)
spots_before first count number mode before =
    All-weaker (Contains (spots first count mode)) (IsNotAt number)
    (λ s c same. omega (arith, before, same, (spot_inside first count mode s c).below))
    (spots first count mode) (All-contains_itself (spots first count mode))

-- ---- parts of lists

pub pairs_across : {X : Type 0} (R : X → X → Type 0) (xs ys : List X) (a b : X) → AllPairs R (xs ++ ys) → Contains xs a → Contains ys b → R a b
pairs_across {X} R xs ys a b pairs c d =
    let i = c.0 in
    let j = d.0 in
    let small : i < length xs + j = omega (arith, c.1) in
    let inside : length xs + j < length (xs ++ ys) = omega (arith, d.1, length-append xs ys) in
    let first : get_or (xs ++ ys) i a ≡ a = get_or_append_left xs ys a i c.1 ∙ c.2 in
    let back : length xs + j - length xs ≡ j = omega arith in
    let second : get_or (xs ++ ys) (length xs + j) a ≡ b = get_or-append_right xs ys (length xs) (length xs + j) a refl (omega arith) ∙ ap (λ n. get_or ys n a) back ∙ get_or_default ys j a b d.1 ∙ d.2 in
    let P : X → Type 0 = λ x. R x (get_or (xs ++ ys) (length xs + j) a) in
    subst (R a) second (subst P first (pairs i (length xs + j) a small inside))

pub joined_parts : {X A : Type 0} (f : X → List A) (xs : List X) (i : ℕ) (d : X) → i < length xs → flat_map f xs ≡ flat_map f (take i xs) ++ (f (get_or xs i d) ++ flat_map f (drop (i + 1) xs))
joined_parts {X} {A} f xs i d small =
    ap (flat_map f) (sym (take-append-drop (i + 1) xs)) ∙ flat_map-append f (take (i + 1) xs) (drop (i + 1) xs)
    ∙ ap (λ ys. ys ++ flat_map f (drop (i + 1) xs)) (joined_walked f xs i d small)
    ∙ append_assoc (flat_map f (take i xs)) (f (get_or xs i d)) (flat_map f (drop (i + 1) xs))

pub joined_length : {X A : Type 0} (f : X → List A) (xs : List X) (i : ℕ) (d : X) → i < length xs → length (flat_map f (take i xs)) + length (f (get_or xs i d)) ≤ length (flat_map f xs)
joined_length {X} {A} f xs i d small =
    omega (arith, ap length (joined_parts f xs i d small), length-append (flat_map f (take i xs)) (f (get_or xs i d) ++ flat_map f (drop (i + 1) xs)), length-append (f (get_or xs i d)) (flat_map f (drop (i + 1) xs)))
