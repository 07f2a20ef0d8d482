-- A test of each entry of a list, against the test of each row of the table that they make.
use Rattle.std.proofs.Common.{◌≡◌, ◌↔◌, ℕ, zero, suc, ◌<◌, Bool, true, false, cond, ◌&&◌, List, [], ◌∷◌, T, length, Some, None, refl, sym, ap, subst, ◌∙◌, arith, IsTrue}
use Rattle.std.specs.List.{list_all, AllByRecursion, zip, slice_get}
use Rattle.std.specs.List.Sorted.{IsStrictlySortedBy}
use Rattle.std.specs.Option.{option_and_then}
use Rattle.std.specs.Map.{keys_of}
use Rattle.std.specs.declared.cmp.Ordering.{Ordering}
use Rattle.std.specs.declared.cmp.Ordering.TheVariants.{Less, Equal, Greater}
use Rattle.std.specs.Ordering.{eq_by_cmp, is_eq, is_lt, ordering_reverse}
use Rattle.std.specs.Cmp.{IsTotalOrder, eq_by_cmp_equiv}
use Rattle.std.specs.FinMap as map
use Rattle.std.specs.FinMap.{from_entries, get-from_entries, IsAntisymmetric}
use Rattle.std.specs.FinMap.Entries.{find, is_sorted, below_all}
use Rattle.std.proofs.lemmas.Map.Keys.{sorted_head, sorted_tail}
use Rattle.schema.specs.Dense.{place}
use Rattle.schema.specs.EachRow.{EachRow}
use Rattle.schema.proofs.Places.{get-dense}

first : (b c : Bool) → IsTrue (b && c) → IsTrue b
first true c h = refl
first false c h = h

second : (b c : Bool) → IsTrue (b && c) → IsTrue c
second true c h = h
second false c h = absurd cc

-- a comparison that passes the test is of equals
pub is_equal : (r : Ordering) → is_eq r ≡ true → r ≡ Equal
is_equal Less h = cc
is_equal Equal h = refl
is_equal Greater h = cc

-- a table's entries are in order
all_below : {K X : Type 0} (R : K → K → Ordering) (k : K) (es : List (K × X)) → IsTrue (below_all R k es) → AllByRecursion (λ q. R k q ≡ Less) (keys_of es)
all_below R k [] h = tt
all_below R k (e ∷ es) h = (less _ (first _ _ h), all_below R k es (second _ _ h))
  where
    less : (o : Ordering) → IsTrue (is_lt o) → o ≡ Less
    less Less h = refl
    less Equal h = absurd cc
    less Greater h = absurd cc

strictly : {K X : Type 0} (R : K → K → Ordering) (es : List (K × X)) → IsTrue (is_sorted R es) → IsStrictlySortedBy R (keys_of es)
unfolding IsStrictlySortedBy
strictly R [] h = tt
strictly R (e ∷ es) h = (all_below R e.0 es (first _ _ h), strictly R es (second _ _ h))

from_T : (b : Bool) → T b → IsTrue b
from_T true h = refl
from_T false h = absurd h

pub keys_ascend : {K X : Type 0} (R : K → K → Ordering) (m : map.FinMap R X) → IsStrictlySortedBy R (keys_of (map.entries m))
keys_ascend R m = strictly R (map.entries m) (from_T _ (map.entries_sorted m))

later_is_other : {K : Type 0} {R : K → K → Ordering} → IsTotalOrder R → (k q : K) → R k q ≡ Less → eq_by_cmp R q k ≡ false
later_is_other o k q h = ap is_eq (o.antisymm q k ∙ ap ordering_reverse h)

module _ {K X : Type 0} {R : K → K → Ordering} (o : IsTotalOrder R) (a : IsAntisymmetric R) where
  passes-found : (test : K → X → Bool) (es : List (K × X)) → IsTrue (list_all (λ e. test e.0 e.1) es) → (key : K) (row : X) → find R key es ≡ Some row → IsTrue (test key row)
  passes-found test [] h key row found = absurd cc
  passes-found test (e ∷ es) h key row found =
      elim (eq_by_cmp R key e.0) as (λ b. eq_by_cmp R key e.0 ≡ b → cond b (Some e.1) (find R key es) ≡ Some row → IsTrue (test key row)) [
        | true ↦ λ t f.
            let same_key : key ≡ e.0 = a key e.0 (is_equal _ t) in
            let same_row : e.1 ≡ row = cc in
            let here : IsTrue (test e.0 e.1) = first _ _ h in
            rw (same_key, ← same_row) here
        | false ↦ λ t f. passes-found test es (second _ _ h) key row f
      ] refl found

  -- what is found past the first entry is found behind it
  found_later : (k : K) (x : X) (es : List (K × X)) → AllByRecursion (λ q. R k q ≡ Less) (keys_of es) → (key : K) (row : X) → find R key es ≡ Some row
      → find R key ((k, x) ∷ es) ≡ Some row
  found_later k x es below key row found =
      elim (eq_by_cmp R key k) as (λ b. eq_by_cmp R key k ≡ b → cond b (Some x) (find R key es) ≡ Some row) [
        | true ↦ λ t. absurd (not_below k key es below row (a key k (is_equal _ t)) found)
        | false ↦ λ t. found
      ] refl
    where
      not_below : (k key : K) (es : List (K × X)) → AllByRecursion (λ q. R k q ≡ Less) (keys_of es) → (row : X) → key ≡ k → find R key es ≡ Some row → ⊥
      not_below k key [] below row same found = cc
      not_below k key (e ∷ es) below row same found =
          let other : eq_by_cmp R e.0 k ≡ false = later_is_other o k e.0 below.0 in
          let apart : eq_by_cmp R key e.0 ≡ false = (eq_by_cmp_equiv o).symm key e.0 ∙ ap (eq_by_cmp R e.0) same ∙ other in
          not_below k key es below.1 row same (subst (λ b. cond b (Some e.1) (find R key es) ≡ Some row) apart found)

  passes-all : (test : K → X → Bool) (es : List (K × X)) → IsStrictlySortedBy R (keys_of es) → ((key : K) (row : X) → find R key es ≡ Some row → IsTrue (test key row))
      → IsTrue (list_all (λ e. test e.0 e.1) es)
  passes-all test [] sorted h = refl
  passes-all test (e ∷ es) sorted h =
      let itself : eq_by_cmp R e.0 e.0 ≡ true = (eq_by_cmp_equiv o).refl e.0 in
      let here : IsTrue (test e.0 e.1) = h e.0 e.1 (rw itself refl) in
      let rest : IsTrue (list_all (λ e. test e.0 e.1) es) = passes-all test es (sorted_tail R e.0 (keys_of es) sorted) (λ key row f. h key row (found_later e.0 e.1 es (sorted_head R e.0 (keys_of es) sorted) key row f)) in
      rw here rest

  -- a test of the entries in order is the test of each row
  pub EachRow-entries : (test : K → X → Bool) (es : List (K × X)) → IsStrictlySortedBy R (keys_of es)
      → IsTrue (list_all (λ e. test e.0 e.1) es) ↔ EachRow {R = R} test (from_entries es)
  EachRow-entries test es sorted = (
    λ h key row found. passes-found test es h key row (sym (get-from_entries o es key) ∙ found),
    λ h. passes-all test es sorted (λ key row found. h key row (get-from_entries o es key ∙ found)),
  )

  -- and so is a test of a table's entries
  pub EachRow-table : (test : K → X → Bool) (m : map.FinMap R X) → IsTrue (list_all (λ e. test e.0 e.1) (map.entries m)) ↔ EachRow test m
  EachRow-table test m =
      let same = λ (key : K). map.get-entries m key ∙ sym (get-from_entries o (map.entries m) key) in
      let each = EachRow-entries test (map.entries m) (keys_ascend R m) in
      (λ h key row found. each.0 h key row (sym (same key) ∙ found), λ h. each.1 (λ key row found. h key row (same key ∙ found)))

passes-at : {X : Type 0} (test : X → Bool) (xs : List X) (n : ℕ) (x : X) → IsTrue (list_all test xs) → slice_get xs n ≡ Some x → IsTrue (test x)
passes-at test [] n x h found = absurd cc
passes-at test (y ∷ ys) zero x h found = let same : y ≡ x = cc in subst (λ z. IsTrue (test z)) same (first _ _ h)
passes-at test (y ∷ ys) (suc n) x h found = passes-at test ys n x (second _ _ h) found

passes-each : {X : Type 0} (test : X → Bool) (xs : List X) → ((n : ℕ) (x : X) → slice_get xs n ≡ Some x → IsTrue (test x)) → IsTrue (list_all test xs)
passes-each test [] h = refl
passes-each test (y ∷ ys) h = let here : IsTrue (test y) = h zero y refl in rw here (passes-each test ys (λ n x e. h (suc n) x e))

within_of : {X : Type 0} (xs : List X) (n : ℕ) (x : X) → slice_get xs n ≡ Some x → n < length xs
within_of [] n x h = absurd cc
within_of (y ∷ ys) zero x h = omega arith
within_of (y ∷ ys) (suc n) x h = let rest : n < length ys = within_of ys n x h in omega arith

module _ {K X : Type 0} {R : K → K → Ordering} (o : IsTotalOrder R) (a : IsAntisymmetric R) where
  -- a test of rows in key order is the test of each row
  pub EachRow-dense : (test : X → Bool) (ks : List K) (xs : List X) → length xs ≡ length ks
      → (key_at : ℕ → K) → ((n : ℕ) → n < length ks → place (eq_by_cmp R (key_at n)) ks ≡ Some n)
      → IsTrue (list_all test xs) ↔ EachRow {R = R} (λ _ row. test row) (from_entries (zip ks xs))
  EachRow-dense test ks xs even key_at placed = (
    λ h key row found.
        let there : option_and_then (slice_get xs) (place (eq_by_cmp R key) ks) ≡ Some row = sym (get-dense o a ks xs key) ∙ found in
        elim (place (eq_by_cmp R key) ks) as (λ r. option_and_then (slice_get xs) r ≡ Some row → IsTrue (test row)) [
          | None ↦ λ e. absurd cc
          | Some n ↦ λ e. passes-at test xs n row h e
        ] there,
    λ h. passes-each test xs (λ n x e.
        let below : n < length xs = within_of xs n x e in
        h (key_at n) x (get-dense o a ks xs (key_at n) ∙ ap (option_and_then (slice_get xs)) (placed n (omega arith)) ∙ e)),
  )
