-- Properties of a table's rows after all were changed, each in its place, and after one was removed.
use Rattle.std.proofs.Common.{◌≡◌, ◌≢◌, ℕ, suc, ◌+◌, Bool, true, false, cond, not, ◌&&◌, List, [], ◌∷◌, map, length, Option, Some, None, IsTrue, T, refl, sym, ap, subst, ◌∙◌, arith}
use Rattle.std.specs.Prelude.{ℤ, pos, ◌+ℤ◌}
use Rattle.std.specs.List.{filter, list_all, sum_by, AllByRecursion}
use Rattle.std.specs.Option.{option_map}
use Rattle.std.proofs.lemmas.Int.{ints}
use Rattle.std.proofs.lemmas.Cmp.{tied_itself}
use Rattle.std.proofs.lemmas.List.Sums.{sum_by-cons}
use Rattle.std.specs.declared.cmp.Ordering.{Ordering}
use Rattle.std.specs.declared.cmp.Ordering.TheVariants.{Less, Equal, Greater}
use Rattle.std.specs.Ordering.{eq_by_cmp, is_eq, is_lt}
use Rattle.std.specs.Cmp.{IsTotalOrder, eq_by_cmp_equiv}
use Rattle.std.specs.FinMap.{FinMap, get, remove, retain_keys, entries, entries_sorted, entries-from_sorted, get-remove, get-retain_keys, same_map, IsAntisymmetric}
use Rattle.std.specs.FinMap.Entries.{is_sorted, below_all}
use Rattle.schema.specs.MapRows.{mapped, map_rows}
use Rattle.schema.specs.Sums.{sum_entries}
use Rattle.schema.specs.Database.{rows_where}
use Rattle.schema.proofs.TableWrites.{get-map_rows}
use Rattle.groups.proofs.Parts.{entries-where}

-- ---- two keys

-- a key is the other, and compares equal, or is another
pub same_or_other : {K : Type 0} {R : K → K → Ordering} → IsTotalOrder R → IsAntisymmetric R → (q k : K) → {G : Type 0}
    → (q ≡ k → eq_by_cmp R q k ≡ true → G) → (q ≢ k → eq_by_cmp R q k ≡ false → G) → G
same_or_other {R = R} o a q k {G} same other =
    elim (R q k) as (λ r. R q k ≡ r → G) [
      | Less ↦ λ e. other (λ s. let tied = tied_itself o k in absurd cc) (ap is_eq e)
      | Equal ↦ λ e. same (a q k e) (ap is_eq e)
      | Greater ↦ λ e. other (λ s. let tied = tied_itself o k in absurd cc) (ap is_eq e)
    ] refl

-- ---- entries that are changed

module _ {K X Y : Type 0} (f : K → X → Y) where
  pub length-mapped : (es : List (K × X)) → length (mapped f es) ≡ length es
  length-mapped [] = refl
  length-mapped (e ∷ es) = ap (λ n. suc n) (length-mapped es)

  -- what is read of each entry and doesn't change
  pub map-mapped : {Z : Type 0} (g : K × Y → Z) (h : K × X → Z) → ((k : K) (x : X) → g (k, f k x) ≡ h (k, x)) → (es : List (K × X)) → map g (mapped f es) ≡ map h es
  map-mapped g h same [] = refl
  map-mapped g h same (e ∷ es) = ap (λ z. z ∷ map g (mapped f es)) (same e.0 e.1) ∙ ap (λ l. h e ∷ l) (map-mapped g h same es)

  filter-mapped : (test : K → Bool) (es : List (K × X)) → filter (λ e. test e.0) (mapped f es) ≡ mapped f (filter (λ e. test e.0) es)
  filter-mapped test [] = refl
  filter-mapped test (e ∷ es) =
      let rest : filter (λ (e : K × Y). test e.0) (mapped f es) ≡ mapped f (filter (λ (e : K × X). test e.0) es) = filter-mapped test es in
      elim (test e.0) as (λ b. cond b ((e.0, f e.0 e.1) ∷ filter (λ (e : K × Y). test e.0) (mapped f es)) (filter (λ (e : K × Y). test e.0) (mapped f es)) ≡ mapped f (cond b (e ∷ filter (λ (e : K × X). test e.0) es) (filter (λ (e : K × X). test e.0) es))) [
        | true ↦ ap (λ l. (e.0, f e.0 e.1) ∷ l) rest
        | false ↦ rest
      ]

  below-mapped : (R : K → K → Ordering) (x : K) (es : List (K × X)) → below_all R x (mapped f es) ≡ below_all R x es
  below-mapped R x [] = refl
  below-mapped R x (e ∷ es) = ap (λ b. is_lt (R x e.0) && b) (below-mapped R x es)

  sorted-mapped : (R : K → K → Ordering) (es : List (K × X)) → is_sorted R (mapped f es) ≡ is_sorted R es
  sorted-mapped R [] = refl
  sorted-mapped R (e ∷ es) = ap (λ b. b && is_sorted R (mapped f es)) (below-mapped R e.0 es) ∙ ap (λ b. below_all R e.0 es && b) (sorted-mapped R es)

  -- ---- and what they weigh together

  module _ (v : K → Y → ℤ) (w : K → X → ℤ) where
    -- where each weighs as much as before
    pub sum_entries-kept : ((k : K) (x : X) → v k (f k x) ≡ w k x) → (es : List (K × X)) → sum_entries v (mapped f es) ≡ sum_entries w es
    sum_entries-kept same [] = refl
    sum_entries-kept same (e ∷ es) = ap (λ z. z +ℤ sum_entries v (mapped f es)) (same e.0 e.1) ∙ ap (λ z. w e.0 e.1 +ℤ z) (sum_entries-kept same es)

    -- where those that pass the test weigh more by their amount
    pub sum_entries-grown : (known : K → X → Bool) (test : K → Bool) (amount : X → ℕ)
        → ((k : K) (x : X) → IsTrue (known k x) → v k (f k x) ≡ w k x +ℤ cond (test k) (pos (amount x)) (pos 0))
        → (es : List (K × X)) → IsTrue (list_all (λ e. known e.0 e.1) es)
        → sum_entries v (mapped f es) ≡ sum_entries w es +ℤ pos (sum_by (λ e. amount e.1) (filter (λ e. test e.0) es))
    sum_entries-grown known test amount grows [] all = refl
    sum_entries-grown known test amount grows (e ∷ es) all =
        let own = filter (λ (e : K × X). test e.0) es in
        let here : v e.0 (f e.0 e.1) ≡ w e.0 e.1 +ℤ cond (test e.0) (pos (amount e.1)) (pos 0) = grows e.0 e.1 (first _ _ all) in
        let rest : sum_entries v (mapped f es) ≡ sum_entries w es +ℤ pos (sum_by (λ (e : K × X). amount e.1) own) = sum_entries-grown known test amount grows es (second _ _ all) in
        elim (test e.0) as (λ b. v e.0 (f e.0 e.1) ≡ w e.0 e.1 +ℤ cond b (pos (amount e.1)) (pos 0)
        → v e.0 (f e.0 e.1) +ℤ sum_entries v (mapped f es) ≡ (w e.0 e.1 +ℤ sum_entries w es) +ℤ pos (sum_by (λ (e : K × X). amount e.1) (cond b (e ∷ own) own))) [
          | true ↦ λ h. let more : sum_by (λ (e : K × X). amount e.1) (e ∷ own) ≡ amount e.1 + sum_by (λ (e : K × X). amount e.1) own = sum_by-cons (λ (e : K × X). amount e.1) e own in omega (arith, ints, h, rest, more)
          | false ↦ λ h. omega (arith, ints, h, rest)
        ] here
      where
        first : (b c : Bool) → IsTrue (b && c) → IsTrue b
        first true c h = refl
        first false c h = h

        second : (b c : Bool) → IsTrue (b && c) → IsTrue c
        second true c h = h
        second false c h = absurd cc

  -- ---- the table of changed rows

  pub entries-map_rows : {R : K → K → Ordering} (m : FinMap R X) → entries (map_rows f m) ≡ mapped f (entries m)
  unfolding map_rows
  entries-map_rows {R} m = entries-from_sorted R (mapped f (entries m)) (subst T (sym (sorted-mapped R (entries m))) (entries_sorted m))

  pub rows_where-map_rows : {R : K → K → Ordering} (test : K → Bool) (m : FinMap R X) → rows_where test (map_rows f m) ≡ mapped f (rows_where test m)
  rows_where-map_rows test m = ap (filter (λ (e : K × Y). test e.0)) (entries-map_rows m) ∙ filter-mapped test (entries m)

  -- each row was there before it was changed
  pub row_before : {R : K → K → Ordering} → IsAntisymmetric R → (m : FinMap R X) (q : K) (y : Y) → get (map_rows f m) q ≡ Some y → (x : X) × (get m q ≡ Some x) × (f q x ≡ y)
  row_before {R} a m q y found =
      elim (get m q) as (λ r. get m q ≡ r → option_map (f q) r ≡ Some y → (x : X) × (get m q ≡ Some x) × (f q x ≡ y)) [
        | None ↦ λ e h. absurd cc
        | Some x ↦ λ e h. (x, e, cc)
      ] refl (sym (get-map_rows R f a m q) ∙ found)

-- ---- a row that is removed

-- elements that pass a test pass another, which then takes none of them away
pub filter-within : {X : Type 0} (test other : X → Bool) (xs : List X) → AllByRecursion (λ x. test x ≡ true → other x ≡ true) xs → filter test (filter other xs) ≡ filter test xs
filter-within test other [] all = refl
filter-within {X} test other (x ∷ xs) all =
    let rest : filter test (filter other xs) ≡ filter test xs = filter-within test other xs all.1 in
    elim (other x) as (λ b. (test x ≡ true → b ≡ true) → filter test (cond b (x ∷ filter other xs) (filter other xs)) ≡ cond (test x) (x ∷ filter test xs) (filter test xs)) [
      | true ↦ λ h. ap (λ l. cond (test x) (x ∷ l) l) rest
      | false ↦ λ h. elim (test x) as (λ b. test x ≡ b → filter test (filter other xs) ≡ cond b (x ∷ filter test xs) (filter test xs)) [
        | true ↦ λ e. let clash : false ≡ true = h e in absurd cc
        | false ↦ λ e. rest
      ] refl
    ] all.0

pub all_of : {X : Type 0} (P : X → Type 0) → ((x : X) → P x) → (xs : List X) → AllByRecursion P xs
all_of P h [] = tt
all_of P h (x ∷ xs) = (h x, all_of P h xs)

module _ {K X : Type 0} {R : K → K → Ordering} (o : IsTotalOrder R) (a : IsAntisymmetric R) where
  turned : (b : Bool) (r : Option X) → cond (not b) r None ≡ cond b None r
  turned true r = refl
  turned false r = refl

  remove-is : (m : FinMap R X) (k : K) → remove m k ≡ retain_keys m (λ x. not (eq_by_cmp R k x))
  remove-is m k = same_map o a (remove m k) (retain_keys m (λ x. not (eq_by_cmp R k x))) (λ q.
      get-remove o m k q
      ∙ ap (λ b. cond b None (get m q)) (sym ((eq_by_cmp_equiv o).symm k q))
      ∙ sym (turned (eq_by_cmp R k q) (get m q))
      ∙ sym (get-retain_keys m (λ x. not (eq_by_cmp R k x)) q (λ x tied. ap (λ y. not (eq_by_cmp R k y)) (sym (a q x tied)))))

  -- the entries of the others
  pub entries-remove : (m : FinMap R X) (k : K) → entries (remove m k) ≡ filter (λ e. not (eq_by_cmp R k e.0)) (entries m)
  entries-remove m k = ap entries (remove-is m k) ∙ entries-where o a m (λ x. not (eq_by_cmp R k x))

  -- a test that the key fails finds the same rows
  pub rows_where-remove_outside : (test : K → Bool) (m : FinMap R X) (k : K) → test k ≡ false → rows_where test (remove m k) ≡ rows_where test m
  rows_where-remove_outside test m k fails =
      ap (filter (λ (e : K × X). test e.0)) (entries-remove m k)
      ∙ filter-within (λ (e : K × X). test e.0) (λ (e : K × X). not (eq_by_cmp R k e.0)) (entries m)
      (all_of (λ (e : K × X). test e.0 ≡ true → not (eq_by_cmp R k e.0) ≡ true)
      (λ e passes. same_or_other o a k e.0
      (λ same tied. let clash : test k ≡ true = ap test same ∙ passes in absurd cc)
      (λ apart other. ap not other)) (entries m))
