-- Rows in key order: what a look-up finds, and what a write in place changes.
use Rattle.std.proofs.Common.{◌≡◌, ℕ, zero, suc, ◌+◌, ◌-◌, ◌*◌, ◌<◌, Bool, true, false, cond, ◌&&◌, nat_le, nat_lt, eqb, List, [], ◌∷◌, ◌++◌, map, length, Option, Some, None, refl, sym, ap, ◌∙◌, arith, is_some, slice_set}
use Rattle.std.specs.List.{zip, slice_get, range_with_len}
use Rattle.std.specs.Option.{option_map, option_and_then}
use Rattle.std.specs.declared.cmp.Ordering.{Ordering}
use Rattle.std.specs.declared.cmp.Ordering.TheVariants.{Less, Equal, Greater}
use Rattle.std.specs.Ordering.{eq_by_cmp, is_eq}
use Rattle.std.specs.Cmp.{IsTotalOrder, eq_by_cmp_equiv}
use Rattle.std.specs.FinMap.{get, contains_key, insert, from_entries, get-from_entries, get-insert, same_map, IsAntisymmetric}
use Rattle.std.specs.FinMap.Entries.{find}
use Rattle.std.proofs.lemmas.Bool.Decides.{nat_tests}
use Rattle.std.proofs.lemmas.List.{length-append}
use Rattle.std.proofs.lemmas.List.FromFn.{length-map-range_with_len}
use Rattle.schema.specs.Dense.{place, grid}

is_equal : (r : Ordering) → is_eq r ≡ true → r ≡ Equal
is_equal Less h = cc
is_equal Equal h = refl
is_equal Greater h = cc

mapped_get : {X : Type 0} (x : X) (xs : List X) (r : Option ℕ) → option_and_then (slice_get (x ∷ xs)) (option_map (λ n. suc n) r) ≡ option_and_then (slice_get xs) r
mapped_get x xs None = refl
mapped_get x xs (Some n) = refl

nothing_there : {X : Type 0} (r : Option ℕ) → option_and_then (slice_get {X = X} []) r ≡ None
nothing_there None = refl
nothing_there (Some n) = refl

-- a look-up finds the row at the key's place
pub find-zip : {K X : Type 0} (R : K → K → Ordering) (q : K) (ks : List K) (xs : List X)
    → find R q (zip ks xs) ≡ option_and_then (slice_get xs) (place (eq_by_cmp R q) ks)
find-zip R q [] xs = refl
find-zip R q (k ∷ ks) [] = sym (nothing_there (place (eq_by_cmp R q) (k ∷ ks)))
find-zip R q (k ∷ ks) (x ∷ xs) =
    elim (eq_by_cmp R q k) as (λ b. cond b (Some x) (find R q (zip ks xs)) ≡ option_and_then (slice_get (x ∷ xs)) (cond b (Some 0) (option_map (λ n. suc n) (place (eq_by_cmp R q) ks)))) [
      | true ↦ refl
      | false ↦ find-zip R q ks xs ∙ sym (mapped_get x xs (place (eq_by_cmp R q) ks))
    ]

some_suc : (r : Option ℕ) (n : ℕ) → option_map (λ m. suc m) r ≡ Some n → (m : ℕ) × (r ≡ Some m) × (n ≡ suc m)
some_suc None n h = absurd cc
some_suc (Some m) n h = (m, refl, cc)

-- a place is one of the list's
pub place-within : {K : Type 0} (t : K → Bool) (ks : List K) (n : ℕ) → place t ks ≡ Some n → n < length ks
place-within t [] n h = absurd cc
place-within t (k ∷ ks) n h =
    elim (t k) as (λ b. cond b (Some 0) (option_map (λ m. suc m) (place t ks)) ≡ Some n → n < suc (length ks)) [
      | true ↦ λ e. let z : 0 ≡ n = cc in omega arith
      | false ↦ λ e. let s = some_suc (place t ks) n e in let below : s.0 < length ks = place-within t ks s.0 s.1 in let is : n ≡ suc s.0 = s.2 in omega arith
    ] h

tied_itself : {K : Type 0} {R : K → K → Ordering} → IsTotalOrder R → (x : K) → eq_by_cmp R x x ≡ true
tied_itself o x = (eq_by_cmp_equiv o).refl x

-- a row that is put at the place of a key is found at that key, and nowhere else
module _ {K X : Type 0} {R : K → K → Ordering} (o : IsTotalOrder R) (a : IsAntisymmetric R) where
  find-zip-set : (q p : K) (v : X) (ks : List K) (xs : List X) (n : ℕ) → place (eq_by_cmp R q) ks ≡ Some n → n < length xs
      → find R p (zip ks (slice_set xs n v)) ≡ cond (eq_by_cmp R p q) (Some v) (find R p (zip ks xs))
  find-zip-set q p v [] xs n h l = absurd cc
  find-zip-set q p v (k ∷ ks) [] n h l = absurd (omega arith)
  find-zip-set q p v (k ∷ ks) (x ∷ xs) n h l =
      elim (eq_by_cmp R q k) as (λ b. eq_by_cmp R q k ≡ b → cond b (Some 0) (option_map (λ m. suc m) (place (eq_by_cmp R q) ks)) ≡ Some n
      → find R p (zip (k ∷ ks) (slice_set (x ∷ xs) n v)) ≡ cond (eq_by_cmp R p q) (Some v) (cond (eq_by_cmp R p k) (Some x) (find R p (zip ks xs)))) [
        | true ↦ λ t e.
            let z : n ≡ 0 = cc in
            let same : q ≡ k = a q k (is_equal _ t) in
            rw (z, same) (elim (eq_by_cmp R p k) as (λ b. cond b (Some v) (find R p (zip ks xs)) ≡ cond b (Some v) (cond b (Some x) (find R p (zip ks xs)))) [ true ↦ refl | false ↦ refl ])
        | false ↦ λ t e.
            let s = some_suc (place (eq_by_cmp R q) ks) n e in
            let is : n ≡ suc s.0 = s.2 in
            let below : s.0 < length xs = omega arith in
            let rest : find R p (zip ks (slice_set xs s.0 v)) ≡ cond (eq_by_cmp R p q) (Some v) (find R p (zip ks xs)) = find-zip-set q p v ks xs s.0 s.1 below in
            rw is (ap (cond (eq_by_cmp R p k) (Some x)) rest
            ∙ elim (eq_by_cmp R p k) as (λ b. eq_by_cmp R p k ≡ b → cond b (Some x) (cond (eq_by_cmp R p q) (Some v) (find R p (zip ks xs))) ≡ cond (eq_by_cmp R p q) (Some v) (cond b (Some x) (find R p (zip ks xs)))) [
              | true ↦ λ u.
                  let pk : p ≡ k = a p k (is_equal _ u) in
                  let apart : eq_by_cmp R p q ≡ false = (eq_by_cmp_equiv o).symm p q ∙ ap (eq_by_cmp R q) pk ∙ t in
                  rw apart refl
              | false ↦ λ u. refl
            ] refl)
      ] refl h

  -- the map of rows in the order of their keys, at a key
  pub get-dense : (ks : List K) (xs : List X) (q : K) → get (from_entries {R = R} (zip ks xs)) q ≡ option_and_then (slice_get xs) (place (eq_by_cmp R q) ks)
  get-dense ks xs q = get-from_entries o (zip ks xs) q ∙ find-zip R q ks xs

  -- a row in place of another is put into the map
  pub insert-dense : (ks : List K) (xs : List X) (q : K) (v : X) (n : ℕ) → place (eq_by_cmp R q) ks ≡ Some n → n < length xs
      → from_entries {R = R} (zip ks (slice_set xs n v)) ≡ insert (from_entries (zip ks xs)) q v
  insert-dense ks xs q v n h l = same_map o a _ _ (λ p.
      get-from_entries o (zip ks (slice_set xs n v)) p ∙ find-zip-set q p v ks xs n h l
      ∙ sym (get-insert o (from_entries (zip ks xs)) q v p ∙ ap (cond (eq_by_cmp R p q) (Some v)) (get-from_entries o (zip ks xs) p)))

within_is_some : {X : Type 0} (xs : List X) (n : ℕ) → n < length xs → is_some (slice_get xs n) ≡ true
within_is_some [] n h = absurd (omega arith)
within_is_some (x ∷ xs) zero h = refl
within_is_some (x ∷ xs) (suc n) h = within_is_some xs n (omega arith)

-- with a row for each key the map has exactly these keys
pub contains-dense : {K X : Type 0} {R : K → K → Ordering} → IsTotalOrder R → IsAntisymmetric R → (ks : List K) (xs : List X) → length xs ≡ length ks → (q : K)
    → contains_key (from_entries {R = R} (zip ks xs)) q ≡ is_some (place (eq_by_cmp R q) ks)
contains-dense {R = R} o a ks xs even q =
    ap is_some (get-dense o a ks xs q)
    ∙ elim (place (eq_by_cmp R q) ks) as (λ r. place (eq_by_cmp R q) ks ≡ r → is_some (option_and_then (slice_get xs) r) ≡ is_some r) [
      | None ↦ λ e. refl
      | Some n ↦ λ e. let below : n < length ks = place-within (eq_by_cmp R q) ks n e in within_is_some xs n (omega arith)
    ] refl

-- ---- places in a grid

map_zero : (r : Option ℕ) → option_map (λ p. 0 + p) r ≡ r
map_zero None = refl
map_zero (Some n) = ap Some (omega arith)

map_next : (n : ℕ) (r : Option ℕ) → option_map (λ m. suc m) (option_map (λ p. n + p) r) ≡ option_map (λ p. suc n + p) r
map_next n None = refl
map_next n (Some p) = ap Some (let e : suc (n + p) ≡ suc n + p = omega arith in e)

-- the place in a block of keys with one outer key, and else in what follows it
in_block : {K : Type 0} (test : K → Bool) (key : ℕ → K) (is_outer : Bool) (inner low count : ℕ) (rest : List K)
    → ((j : ℕ) → test (key j) ≡ (is_outer && eqb inner j))
    → place test (map key (range_with_len low count) ++ rest)
    ≡ cond (is_outer && (nat_le low inner && nat_lt inner (low + count))) (Some (inner - low)) (option_map (λ p. count + p) (place test rest))
in_block test key is_outer inner low zero rest h =
    elim is_outer as (λ b. place test rest ≡ cond (b && (nat_le low inner && nat_lt inner (low + 0))) (Some (inner - low)) (option_map (λ p. 0 + p) (place test rest))) [
      | true ↦ let out : (nat_le low inner && nat_lt inner (low + 0)) ≡ false = grind (arith, nat_tests) in rw out (sym (map_zero (place test rest)))
      | false ↦ sym (map_zero (place test rest))
    ]
in_block test key true inner low (suc count) rest h =
    let here : test (key low) ≡ eqb inner low = h low in
    let later = in_block test key true inner (low + 1) count rest h in
    rw (here, later) (elim (eqb inner low) as (λ b. eqb inner low ≡ b → cond b (Some 0) (option_map (λ m. suc m) (cond (nat_le (low + 1) inner && nat_lt inner (low + 1 + count)) (Some (inner - (low + 1))) (option_map (λ p. count + p) (place test rest))))
    ≡ cond (nat_le low inner && nat_lt inner (low + suc count)) (Some (inner - low)) (option_map (λ p. suc count + p) (place test rest))) [
      | true ↦ λ e.
          let inside : (nat_le low inner && nat_lt inner (low + suc count)) ≡ true = grind (arith, nat_tests) in
          rw inside (ap Some (grind (arith, nat_tests)))
      | false ↦ λ e.
          elim (nat_le (low + 1) inner && nat_lt inner (low + 1 + count)) as (λ b. (nat_le (low + 1) inner && nat_lt inner (low + 1 + count)) ≡ b → option_map (λ m. suc m) (cond b (Some (inner - (low + 1))) (option_map (λ p. count + p) (place test rest)))
          ≡ cond (nat_le low inner && nat_lt inner (low + suc count)) (Some (inner - low)) (option_map (λ p. suc count + p) (place test rest))) [
            | true ↦ λ f.
                let inside : (nat_le low inner && nat_lt inner (low + suc count)) ≡ true = grind (arith, nat_tests) in
                rw inside (ap Some (grind (arith, nat_tests)))
            | false ↦ λ f.
                let out : (nat_le low inner && nat_lt inner (low + suc count)) ≡ false = grind (arith, nat_tests) in
                rw out (map_next count (place test rest))
          ] refl
    ] refl)
in_block test key false inner low (suc count) rest h =
    let here : test (key low) ≡ false = h low in
    let later = in_block test key false inner (low + 1) count rest h in
    rw (here, later) (map_next count (place test rest))

over : (inside : Bool) (count inner : ℕ) (r : Option ℕ)
    → cond inside (option_map (λ p. suc p * count + inner) r) None ≡ option_map (λ p. count + p) (cond inside (option_map (λ p. p * count + inner) r) None)
over false count inner r = refl
over true count inner None = refl
over true count inner (Some p) = ap Some (let e : suc p * count + inner ≡ count + (p * count + inner) = grind arith in e)

-- the place of a key of the grid: the outer key's place, times the count, and the inner number's
pub place-grid : {O K : Type 0} (test : K → Bool) (outer_test : O → Bool) (key : O → ℕ → K) (inner count : ℕ) (os : List O)
    → ((o : O) (j : ℕ) → test (key o j) ≡ (outer_test o && eqb inner j))
    → place test (grid key count os)
    ≡ cond (nat_le 1 inner && nat_le inner count) (option_map (λ p. p * count + (inner - 1)) (place outer_test os)) None
place-grid test outer_test key inner count [] h =
    elim (nat_le 1 inner && nat_le inner count) as (λ b. None ≡ cond b (option_map (λ p. p * count + (inner - 1)) None) None) [ true ↦ refl | false ↦ refl ]
place-grid test outer_test key inner count (o ∷ os) h =
    let bound : nat_lt inner (1 + count) ≡ nat_le inner count = grind (arith, nat_tests) in
    let inside = nat_le 1 inner && nat_le inner count in
    let rest = place-grid test outer_test key inner count os h in
    in_block test (key o) (outer_test o) inner 1 count (grid key count os) (h o)
    ∙ rw (bound, rest) (elim (outer_test o) as (λ b. cond (b && inside) (Some (inner - 1)) (option_map (λ p. count + p) (cond inside (option_map (λ p. p * count + (inner - 1)) (place outer_test os)) None))
    ≡ cond inside (option_map (λ p. p * count + (inner - 1)) (cond b (Some 0) (option_map (λ m. suc m) (place outer_test os)))) None) [
      | true ↦ elim inside as (λ i. cond i (Some (inner - 1)) (option_map (λ p. count + p) (cond i (option_map (λ p. p * count + (inner - 1)) (place outer_test os)) None))
          ≡ cond i (Some (0 * count + (inner - 1))) None) [
            | true ↦ ap Some (let e : inner - 1 ≡ 0 * count + (inner - 1) = grind arith in e)
            | false ↦ refl
          ]
      | false ↦ sym (over inside count (inner - 1) (place outer_test os) ∙ refl)
          ∙ elim inside as (λ i. cond i (option_map (λ p. suc p * count + (inner - 1)) (place outer_test os)) None
          ≡ cond i (option_map (λ p. p * count + (inner - 1)) (option_map (λ m. suc m) (place outer_test os))) None) [
            | true ↦ elim (place outer_test os) as (λ r. option_map (λ p. suc p * count + (inner - 1)) r ≡ option_map (λ p. p * count + (inner - 1)) (option_map (λ m. suc m) r)) [ None ↦ refl | Some n ↦ refl ]
            | false ↦ refl
          ]
    ])

same_list : {X : Type 0} (xs : List X) → map (λ x. x) xs ++ [] ≡ xs
same_list [] = refl
same_list (x ∷ xs) = ap (λ l. x ∷ l) (same_list xs)

-- numbers from 1 are at the index that is one less
pub place-numbers : (test : ℕ → Bool) (q count : ℕ) → ((j : ℕ) → test j ≡ eqb q j)
    → place test (range_with_len 1 count) ≡ cond (nat_le 1 q && nat_le q count) (Some (q - 1)) None
place-numbers test q count h =
    let bound : nat_lt q (1 + count) ≡ nat_le q count = grind (arith, nat_tests) in
    ap (place test) (sym (same_list (range_with_len 1 count))) ∙ in_block test (λ j. j) true q 1 count [] h ∙ rw bound refl

pub length-grid : {O K : Type 0} (key : O → ℕ → K) (count : ℕ) (os : List O) → length (grid key count os) ≡ length os * count
length-grid key count [] = let e : 0 ≡ 0 * count = grind arith in e
length-grid key count (o ∷ os) =
    length-append (map (key o) (range_with_len 1 count)) (grid key count os)
    ∙ ap (λ n. n + length (grid key count os)) (length-map-range_with_len (key o) 1 count)
    ∙ ap (λ n. count + n) (length-grid key count os)
    ∙ (let e : count + length os * count ≡ suc (length os) * count = grind arith in e)
