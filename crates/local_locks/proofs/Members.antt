-- What is contained in lists.
use Rattle.std.proofs.Common.{◌≡◌, ◌≢◌, ◌⊎◌, List, [], ◌∷◌, inl, inr, refl, sym, subst, ⊎_elim, arith}
use Rattle.std.specs.Prelude.{Any, Contains}
use Rattle.std.specs.List.{flat_map}
use Rattle.std.proofs.lemmas.List.Elements.{Contains-append_cases, Contains-append_left, Contains-append_right, Contains-push_cases}

pub contains_none : {X : Type 0} {P : Type 0} (x : X) → Contains [] x → P
contains_none x c = absurd (omega (arith, c.1))

pub contains_one : {X : Type 0} (y x : X) → Contains (y ∷ []) x → y ≡ x
contains_one y x c = ⊎_elim (λ (none : Contains [] x). contains_none x none) (λ (same : y ≡ x). same) (Contains-push_cases [] y x c)

pub contains_itself : {X : Type 0} (x : X) → Contains (x ∷ []) x
contains_itself x = (0, omega arith, refl)

pub contains_cases : {X : Type 0} (y : X) (ys : List X) (x : X) → Contains (y ∷ ys) x → (y ≡ x) ⊎ Contains ys x
contains_cases y ys x c =
    ⊎_elim (λ (first : Contains (y ∷ []) x). inl (contains_one y x first)) (λ (rest : Contains ys x). inr rest) (Contains-append_cases (y ∷ []) ys x c)

pub contains_here : {X : Type 0} (y : X) (ys : List X) → Contains (y ∷ ys) y
contains_here y ys = Contains-append_left (y ∷ []) ys y (contains_itself y)

pub contains_there : {X : Type 0} (y : X) (ys : List X) (x : X) → Contains ys x → Contains (y ∷ ys) x
contains_there y ys x c = Contains-append_right (y ∷ []) ys x c

-- a list that isn't empty has a first element
pub some_of : {X : Type 0} (xs : List X) → xs ≢ [] → (x : X) × Contains xs x
some_of [] filled = absurd (filled refl)
some_of (x ∷ xs) filled = (x, contains_here x xs)

pub contains_any : {X : Type 0} (P : X → Type 0) (xs : List X) (x : X) → Contains xs x → P x → Any P xs
contains_any P xs x c p = (c.0, x, c.1, c.2, p)

-- ---- in lists joined end to end

pub contains_joined : {X A : Type 0} (f : X → List A) (xs : List X) (x : X) (a : A) → Contains xs x → Contains (f x) a → Contains (flat_map f xs) a
contains_joined f [] x a c own = contains_none x c
contains_joined {X} {A} f (y ∷ ys) x a c own =
    ⊎_elim
    (λ (same : y ≡ x). Contains-append_left (f y) (flat_map f ys) a (subst (λ (z : X). Contains (f z) a) (sym same) own))
    (λ (rest : Contains ys x). Contains-append_right (f y) (flat_map f ys) a (contains_joined f ys x a rest own))
    (contains_cases y ys x c)

pub joined_contains : {X A : Type 0} (f : X → List A) (xs : List X) (a : A) → Contains (flat_map f xs) a → (x : X) × Contains xs x × Contains (f x) a
joined_contains f [] a c = contains_none a c
joined_contains {X} {A} f (y ∷ ys) a c =
    ⊎_elim
    (λ (first : Contains (f y) a). (y, contains_here y ys, first))
    (λ (rest : Contains (flat_map f ys) a). let found = joined_contains f ys a rest in (found.0, contains_there y ys found.0 found.1, found.2))
    (Contains-append_cases (f y) (flat_map f ys) a c)
