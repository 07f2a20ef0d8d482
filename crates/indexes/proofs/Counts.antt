-- How many elements of a list pass a test.
use Rattle.std.proofs.Common.{◌≡◌, ℕ, zero, suc, ◌-◌, ◌<◌, ◌≤◌, Bool, true, false, cond, ◌&&◌, nat_le, nat_lt, List, [], ◌∷◌, length, get_or, Contains, filter, IsPermutation, refl, sym, ap, ◌∙◌, arith}
use Rattle.std.proofs.lemmas.Bool.Decides.{nat_tests}
use Rattle.std.proofs.lemmas.List.Sums.{length-filter}
use Rattle.std.proofs.lemmas.List.Sorted.{sum_by-IsPermutation}

-- a filter of a filter
pub filter-filter : {X : Type 0} (p q : X → Bool) (xs : List X) → filter q (filter p xs) ≡ filter (λ x. p x && q x) xs
filter-filter p q [] = refl
filter-filter p q (x ∷ xs) =
    elim (p x) as (λ b. filter q (cond b (x ∷ filter p xs) (filter p xs)) ≡ cond (b && q x) (x ∷ filter (λ y. p y && q y) xs) (filter (λ y. p y && q y) xs)) [
      | true ↦ ap (λ l. cond (q x) (x ∷ l) l) (filter-filter p q xs)
      | false ↦ filter-filter p q xs
    ]

-- a filter by part of a test changes nothing for the whole
pub filter-part : {X : Type 0} (p q : X → Bool) (xs : List X) → filter (λ x. p x && q x) (filter p xs) ≡ filter (λ x. p x && q x) xs
filter-part p q [] = refl
filter-part p q (x ∷ xs) =
    elim (p x) as (λ b. p x ≡ b → filter (λ y. p y && q y) (cond b (x ∷ filter p xs) (filter p xs)) ≡ cond (b && q x) (x ∷ filter (λ y. p y && q y) xs) (filter (λ y. p y && q y) xs)) [
      | true ↦ λ e. rw e (ap (λ l. cond (q x) (x ∷ l) l) (filter-part p q xs))
      | false ↦ λ e. filter-part p q xs
    ] refl

-- where those that pass are the elements from a up to b
pub count-between : {X : Type 0} (p : X → Bool) (xs : List X) (a b : ℕ) → b ≤ length xs → ((k : ℕ) (d : X) → k < length xs → p (get_or xs k d) ≡ (nat_le a k && nat_lt k b)) → length (filter p xs) ≡ b - a
count-between p [] a b small at = omega arith
count-between p (x ∷ xs) a b small at =
    let rest : length (filter p xs) ≡ (b - 1) - (a - 1) =
    count-between p xs (a - 1) (b - 1) (omega arith)
    (λ k d l. at (suc k) d (omega arith) ∙ (let e : (nat_le a (suc k) && nat_lt (suc k) b) ≡ (nat_le (a - 1) k && nat_lt k (b - 1)) = grind (arith, nat_tests) in e)) in
    elim (p x) as (λ c. p x ≡ c → length (cond c (x ∷ filter p xs) (filter p xs)) ≡ b - a) [
      | true ↦ λ e.
          let here : (nat_le a 0 && nat_lt 0 b) ≡ true = sym (at zero x (omega arith)) ∙ e in
          let low : a ≡ 0 = grind (arith, nat_tests) in
          let high : 0 < b = grind (arith, nat_tests) in
          omega arith
      | false ↦ λ e.
          let here : (nat_le a 0 && nat_lt 0 b) ≡ false = sym (at zero x (omega arith)) ∙ e in
          let same : (b - 1) - (a - 1) ≡ b - a = grind (arith, nat_tests) in
          omega arith
    ] refl

-- a list in another order
pub count-permutation : {X : Type 0} (p : X → Bool) (xs ys : List X) → IsPermutation xs ys → length (filter p ys) ≡ length (filter p xs)
count-permutation p xs ys moved = length-filter p ys ∙ sum_by-IsPermutation (λ x. cond (p x) 1 0) xs ys moved ∙ sym (length-filter p xs)

-- an element that passes is one of those that pass
pub contains-filter : {X : Type 0} (p : X → Bool) (xs : List X) (x : X) → p x ≡ true → (k : ℕ) → k < length xs → get_or xs k x ≡ x → Contains (filter p xs) x
contains-filter p [] x passes k below is = absurd (omega arith)
contains-filter p (y ∷ ys) x passes zero below is =
    let here : p y ≡ true = ap p is ∙ passes in
    rw here (zero, omega arith, is)
contains-filter p (y ∷ ys) x passes (suc k) below is =
    let rest = contains-filter p ys x passes k (omega arith) is in
    let inside : rest.0 < length (filter p ys) = rest.1 in
    elim (p y) as (λ b. Contains (cond b (y ∷ filter p ys) (filter p ys)) x) [
      | true ↦ (suc rest.0, omega arith, rest.2)
      | false ↦ rest
    ]

-- what passes the first test passes the second too
pub count-fewer : {X : Type 0} (p q : X → Bool) → ((x : X) → p x ≡ true → q x ≡ true) → (xs : List X) → length (filter p xs) ≤ length (filter q xs)
count-fewer p q weaker [] = omega arith
count-fewer p q weaker (x ∷ xs) =
    let rest : length (filter p xs) ≤ length (filter q xs) = count-fewer p q weaker xs in
    elim (p x) as (λ b. p x ≡ b → length (cond b (x ∷ filter p xs) (filter p xs)) ≤ length (cond (q x) (x ∷ filter q xs) (filter q xs))) [
      | true ↦ λ e. let too : q x ≡ true = weaker x e in rw too (omega arith)
      | false ↦ λ e. elim (q x) as (λ b. length (filter p xs) ≤ length (cond b (x ∷ filter q xs) (filter q xs))) [ true ↦ omega arith | false ↦ rest ]
    ] refl

-- and one element passes the second alone
pub count-less : {X : Type 0} (p q : X → Bool) → ((x : X) → p x ≡ true → q x ≡ true) → (xs : List X) (x : X) → p x ≡ false → q x ≡ true → (k : ℕ) → k < length xs → get_or xs k x ≡ x
    → length (filter p xs) < length (filter q xs)
count-less p q weaker [] x fails passes k below is = absurd (omega arith)
count-less p q weaker (y ∷ ys) x fails passes zero below is =
    let rest : length (filter p ys) ≤ length (filter q ys) = count-fewer p q weaker ys in
    let out : p y ≡ false = ap p is ∙ fails in
    let inside : q y ≡ true = ap q is ∙ passes in
    rw (out, inside) (omega arith)
count-less p q weaker (y ∷ ys) x fails passes (suc k) below is =
    let rest : length (filter p ys) < length (filter q ys) = count-less p q weaker ys x fails passes k (omega arith) is in
    elim (p y) as (λ b. p y ≡ b → length (cond b (y ∷ filter p ys) (filter p ys)) < length (cond (q y) (y ∷ filter q ys) (filter q ys))) [
      | true ↦ λ e. let too : q y ≡ true = weaker y e in rw too (omega arith)
      | false ↦ λ e. elim (q y) as (λ b. length (filter p ys) < length (cond b (y ∷ filter q ys) (filter q ys))) [ true ↦ omega arith | false ↦ rest ]
    ] refl
