-- The oldest new order of a district: it is there, and without it the others keep their numbers, which have no gap.
use Rattle.std.proofs.Common.{◌≡◌, ◌≢◌, ℕ, ◌+◌, ◌≤◌, Bool, true, false, cond, not, ◌&&◌, T, List, [], ◌∷◌, length, min, Some, IsTrue, is_some, refl, sym, ap, subst, ◌∙◌, arith}
use Rattle.std.specs.List.{filter, AllByRecursion}
use Rattle.std.specs.List.Sorted.{IsStrictlySortedBy}
use Rattle.std.specs.Map.{keys_of}
use Rattle.std.proofs.lemmas.Bool.Decides.{nat_tests}
use Rattle.std.proofs.lemmas.Map.Keys.{sorted_head, sorted_tail}
use Rattle.std.specs.declared.cmp.Ordering.{Ordering}
use Rattle.std.specs.declared.cmp.Ordering.TheVariants.{Less, Equal, Greater}
use Rattle.std.specs.Ordering.{eq_by_cmp, is_eq, is_lt}
use Rattle.std.specs.Cmp.{eq_by_cmp_equiv}
use Rattle.std.specs.FinMap.{FinMap, contains_key, remove, entries, entries_sorted, get-entries}
use Rattle.std.specs.FinMap.Entries.{find, is_sorted, below_all}
use Rattle.rows.specs.Keys.{order_cmp}
use Rattle.rows.specs.declared.keys.DistrictKey.{DistrictKey}
use Rattle.rows.specs.declared.keys.OrderKey.{OrderKey}
use Rattle.schema.specs.Database.{rows_where, is_of_district}
use Rattle.schema.specs.Consistency.{numbers, greatest, least}
use Rattle.schema.specs.OrderRows.{smallest}
use Rattle.schema.proofs.KeyOrders.{orders_total, orders_exact}
use Rattle.schema.proofs.OrderedParts.{from_later}
use Rattle.machine.specs.NewOrder.{order_key}
use Rattle.machine.proofs.RowsAdded.{has_no_gap}
use Rattle.machine.proofs.RowsChanged.{entries-remove, filter-within}

-- ---- numbers that rise

abbrev pub Above : ℕ → List ℕ → Type 0
Above n ns = AllByRecursion (λ m. n + 1 ≤ m) ns

abbrev pub Rises : List ℕ → Type 0
Rises [] = Unit {0}
Rises (n ∷ ns) = Above n ns × Rises ns

least_first : (n : ℕ) (ns : List ℕ) → Above n ns → least n ns ≡ n
least_first n [] h = refl
least_first n (m ∷ ms) h =
    let here : n + 1 ≤ m = h.0 in
    let same : min n m ≡ n = omega arith in
    ap (λ k. least k ms) same ∙ least_first n ms h.1

-- without the least the greatest is as before
pub greatest-rest : (n : ℕ) (ns : List ℕ) → Above n ns → ns ≢ [] → greatest ns ≡ greatest (n ∷ ns)
greatest-rest n [] h some = absurd (some refl)
greatest-rest n (m ∷ ms) h some = let here : n + 1 ≤ m = h.0 in omega arith

-- rising numbers are spread at least as wide as they are many
spread : (n : ℕ) (ns : List ℕ) → Above n ns → Rises ns → n + length ns ≤ greatest (n ∷ ns)
spread n [] h rises = omega arith
spread n (m ∷ ms) h rises =
    let here : n + 1 ≤ m = h.0 in
    let rest : m + length ms ≤ greatest (m ∷ ms) = spread m ms rises.0 rises.1 in
    omega arith

-- and they have no gap where they had none with the least
pub gap-rest : (n : ℕ) (ns : List ℕ) → Above n ns → Rises ns → has_no_gap (n ∷ ns) → has_no_gap ns
gap-rest n [] h rises gapless = tt
gap-rest n (m ∷ ms) h rises gapless =
    let here : n + 1 ≤ m = h.0 in
    let low : least n (m ∷ ms) ≡ n = least_first n (m ∷ ms) h in
    let next : least m ms ≡ m = least_first m ms rises.0 in
    let wide : m + length ms ≤ greatest (m ∷ ms) = spread m ms rises.0 rises.1 in
    let all : greatest (n ∷ m ∷ ms) + 1 ≡ least n (m ∷ ms) + length (n ∷ m ∷ ms) = gapless in
    omega arith

-- ---- the numbers of a district rise

numbers_above : {X : Type 0} (home : DistrictKey) (low : ℕ) (es : List (OrderKey × X)) → AllByRecursion (λ k. IsTrue (is_of_district home k) → low + 1 ≤ k.o_id) (keys_of es)
    → Above low (numbers (filter (λ e. is_of_district home e.0) es))
numbers_above home low [] h = tt
numbers_above {X} home low (e ∷ es) h =
    elim (is_of_district home e.0) as (λ b. is_of_district home e.0 ≡ b → Above low (numbers (cond b (e ∷ filter (λ (e : OrderKey × X). is_of_district home e.0) es) (filter (λ (e : OrderKey × X). is_of_district home e.0) es)))) [
      | true ↦ λ there. (h.0 there, numbers_above home low es h.1)
      | false ↦ λ there. numbers_above home low es h.1
    ] refl

numbers_rise : {X : Type 0} (home : DistrictKey) (es : List (OrderKey × X)) → IsStrictlySortedBy order_cmp (keys_of es) → Rises (numbers (filter (λ e. is_of_district home e.0) es))
numbers_rise home [] sorted = tt
numbers_rise {X} home (e ∷ es) sorted =
    let rest = numbers_rise home es (sorted_tail order_cmp e.0 (keys_of es) sorted) in
    elim (is_of_district home e.0) as (λ b. is_of_district home e.0 ≡ b → Rises (numbers (cond b (e ∷ filter (λ (e : OrderKey × X). is_of_district home e.0) es) (filter (λ (e : OrderKey × X). is_of_district home e.0) es)))) [
      | true ↦ λ there. (numbers_above home e.0.o_id es (from_later home e.0 (keys_of es) there (sorted_head order_cmp e.0 (keys_of es) sorted)), rest)
      | false ↦ λ there. rest
    ] refl

-- ---- the oldest

same_numbers : (a b : OrderKey) → a.w_id ≡ b.w_id → a.d_id ≡ b.d_id → a.o_id ≡ b.o_id → a ≡ b
same_numbers a b w d o =
    let all : (a.w_id, (a.d_id, a.o_id)) ≡ (b.w_id, (b.d_id, b.o_id)) = cc in
    ap (λ (p : ℕ × (ℕ × ℕ)). record { w_id = p.0; d_id = p.1.0; o_id = p.1.1 }) all

key_is : (home : DistrictKey) (key : OrderKey) → IsTrue (is_of_district home key) → order_key home key.o_id ≡ key
key_is home key there =
    same_numbers (order_key home key.o_id) key (grind (arith, nat_tests)) (grind (arith, nat_tests)) refl

-- a key of a greater number is another
later_is_other : (home : DistrictKey) (n : ℕ) (k : OrderKey) → n + 1 ≤ k.o_id → eq_by_cmp order_cmp (order_key home n) k ≡ false
later_is_other home n k later =
    elim (eq_by_cmp order_cmp (order_key home n) k) as (λ b. eq_by_cmp order_cmp (order_key home n) k ≡ b → b ≡ false) [
      | true ↦ λ e.
          let same : order_key home n ≡ k = orders_exact (order_key home n) k (is_equal _ e) in
          let number : n ≡ k.o_id = ap (λ (x : OrderKey). x.o_id) same in
          absurd (omega arith)
      | false ↦ λ e. refl
    ] refl
  where
    is_equal : (r : Ordering) → is_eq r ≡ true → r ≡ Equal
    is_equal Less h = cc
    is_equal Equal h = refl
    is_equal Greater h = cc

others_stay : {X : Type 0} (home : DistrictKey) (n : ℕ) (es : List (OrderKey × X)) → AllByRecursion (λ k. IsTrue (is_of_district home k) → n + 1 ≤ k.o_id) (keys_of es)
    → AllByRecursion (λ e. is_of_district home e.0 ≡ true → not (eq_by_cmp order_cmp (order_key home n) e.0) ≡ true) es
others_stay home n [] h = tt
others_stay home n (e ∷ es) h = (λ there. ap not (later_is_other home n e.0 (h.0 there)), others_stay home n es h.1)

-- the oldest is the first of the district's, and the others are those that are not it
pub oldest_goes : {X : Type 0} (home : DistrictKey) (n : ℕ) (es : List (OrderKey × X)) → IsStrictlySortedBy order_cmp (keys_of es)
    → smallest (numbers (filter (λ e. is_of_district home e.0) es)) ≡ Some n
    → numbers (filter (λ e. is_of_district home e.0) es) ≡ n ∷ numbers (filter (λ e. is_of_district home e.0) (filter (λ e. not (eq_by_cmp order_cmp (order_key home n) e.0)) es))
oldest_goes home n [] sorted is = absurd cc
oldest_goes {X} home n (e ∷ es) sorted is =
    let of_home = λ (e : OrderKey × X). is_of_district home e.0 in
    let stays = λ (e : OrderKey × X). not (eq_by_cmp order_cmp (order_key home n) e.0) in
    let tail = sorted_tail order_cmp e.0 (keys_of es) sorted in
    elim (of_home e) as (λ b. of_home e ≡ b → smallest (numbers (cond b (e ∷ filter of_home es) (filter of_home es))) ≡ Some n
    → numbers (cond b (e ∷ filter of_home es) (filter of_home es)) ≡ n ∷ numbers (filter of_home (cond (stays e) (e ∷ filter stays es) (filter stays es)))) [
      | true ↦ λ there first.
          let later = from_later home e.0 (keys_of es) there (sorted_head order_cmp e.0 (keys_of es) sorted) in
          let least_is : least e.0.o_id (numbers (filter of_home es)) ≡ e.0.o_id = least_first e.0.o_id (numbers (filter of_home es)) (numbers_above home e.0.o_id es later) in
          let some : Some (least e.0.o_id (numbers (filter of_home es))) ≡ Some n = first in
          let number : e.0.o_id ≡ n = cc in
          let it : eq_by_cmp order_cmp (order_key home n) e.0 ≡ true = ap (λ m. eq_by_cmp order_cmp (order_key home m) e.0) (sym number) ∙ ap (λ k. eq_by_cmp order_cmp k e.0) (key_is home e.0 there) ∙ (eq_by_cmp_equiv orders_total).refl e.0 in
          let gone : stays e ≡ false = ap not it in
          let above : AllByRecursion (λ k. IsTrue (is_of_district home k) → n + 1 ≤ k.o_id) (keys_of es) = subst (λ m. AllByRecursion (λ (k : OrderKey). IsTrue (is_of_district home k) → m + 1 ≤ k.o_id) (keys_of es)) number later in
          ap (λ m. m ∷ numbers (filter of_home es)) number
          ∙ ap (λ (l : List (OrderKey × X)). n ∷ numbers l) (sym (filter-within of_home stays es (others_stay home n es above)))
          ∙ ap (λ b. n ∷ numbers (filter of_home (cond b (e ∷ filter stays es) (filter stays es)))) (sym gone)
      | false ↦ λ there first.
          oldest_goes home n es tail first
          ∙ elim (stays e) as (λ b. n ∷ numbers (filter of_home (filter stays es)) ≡ n ∷ numbers (filter of_home (cond b (e ∷ filter stays es) (filter stays es)))) [
            | true ↦ ap (λ b. n ∷ numbers (cond b (e ∷ filter of_home (filter stays es)) (filter of_home (filter stays es)))) (sym there)
            | false ↦ refl
          ]
    ] refl is

-- and it is there
oldest_found : {X : Type 0} (home : DistrictKey) (n : ℕ) (es : List (OrderKey × X)) → IsStrictlySortedBy order_cmp (keys_of es)
    → smallest (numbers (filter (λ e. is_of_district home e.0) es)) ≡ Some n → is_some (find order_cmp (order_key home n) es) ≡ true
oldest_found home n [] sorted is = absurd cc
oldest_found {X} home n (e ∷ es) sorted is =
    let of_home = λ (e : OrderKey × X). is_of_district home e.0 in
    elim (of_home e) as (λ b. of_home e ≡ b → smallest (numbers (cond b (e ∷ filter of_home es) (filter of_home es))) ≡ Some n → is_some (find order_cmp (order_key home n) (e ∷ es)) ≡ true) [
      | true ↦ λ there first.
          let later = from_later home e.0 (keys_of es) there (sorted_head order_cmp e.0 (keys_of es) sorted) in
          let least_is : least e.0.o_id (numbers (filter of_home es)) ≡ e.0.o_id = least_first e.0.o_id (numbers (filter of_home es)) (numbers_above home e.0.o_id es later) in
          let some : Some (least e.0.o_id (numbers (filter of_home es))) ≡ Some n = first in
          let number : e.0.o_id ≡ n = cc in
          let it : eq_by_cmp order_cmp (order_key home n) e.0 ≡ true = ap (λ m. eq_by_cmp order_cmp (order_key home m) e.0) (sym number) ∙ ap (λ k. eq_by_cmp order_cmp k e.0) (key_is home e.0 there) ∙ (eq_by_cmp_equiv orders_total).refl e.0 in
          ap (λ b. is_some (cond b (Some e.1) (find order_cmp (order_key home n) es))) it
      | false ↦ λ there first.
          let rest : is_some (find order_cmp (order_key home n) es) ≡ true = oldest_found home n es (sorted_tail order_cmp e.0 (keys_of es) sorted) first in
          elim (eq_by_cmp order_cmp (order_key home n) e.0) as (λ b. is_some (cond b (Some e.1) (find order_cmp (order_key home n) es)) ≡ true) [ true ↦ refl | false ↦ rest ]
    ] refl is

-- ---- of a table

front : (b c : Bool) → IsTrue (b && c) → IsTrue b
front true c h = refl
front false c h = h

back : (b c : Bool) → IsTrue (b && c) → IsTrue c
back true c h = h
back false c h = absurd cc

-- a table's entries are in order
all_below : {K X : Type 0} (R : K → K → Ordering) (k : K) (es : List (K × X)) → IsTrue (below_all R k es) → AllByRecursion (λ q. R k q ≡ Less) (keys_of es)
all_below R k [] h = tt
all_below R k (e ∷ es) h = (less _ (front _ _ h), all_below R k es (back _ _ h))
  where
    less : (r : Ordering) → IsTrue (is_lt r) → r ≡ Less
    less Less h = refl
    less Equal h = absurd cc
    less Greater h = absurd cc

strictly : {K X : Type 0} (R : K → K → Ordering) (es : List (K × X)) → IsTrue (is_sorted R es) → IsStrictlySortedBy R (keys_of es)
unfolding IsStrictlySortedBy
strictly R [] h = tt
strictly R (e ∷ es) h = (all_below R e.0 es (front _ _ h), strictly R es (back _ _ h))

from_T : (b : Bool) → T b → IsTrue b
from_T true h = refl
from_T false h = absurd h

module _ {X : Type 0} (home : DistrictKey) (n : ℕ) (m : FinMap order_cmp X)
    (oldest : smallest (numbers (rows_where (is_of_district home) m)) ≡ Some n) where
  in_order : IsStrictlySortedBy order_cmp (keys_of (entries m))
  in_order = strictly order_cmp (entries m) (from_T _ (entries_sorted m))

  -- the numbers that were there are the oldest and those that are left
  pub numbers-without_oldest : numbers (rows_where (is_of_district home) m) ≡ n ∷ numbers (rows_where (is_of_district home) (remove m (order_key home n)))
  numbers-without_oldest =
      oldest_goes home n (entries m) in_order oldest
      ∙ ap (λ (l : List (OrderKey × X)). n ∷ numbers (filter (λ e. is_of_district home e.0) l)) (sym (entries-remove orders_total orders_exact m (order_key home n)))

  pub oldest_is_there : IsTrue (contains_key m (order_key home n))
  oldest_is_there = ap is_some (get-entries m (order_key home n)) ∙ oldest_found home n (entries m) in_order oldest

  pub numbers_rise-with_oldest : Rises (n ∷ numbers (rows_where (is_of_district home) (remove m (order_key home n))))
  numbers_rise-with_oldest = subst Rises numbers-without_oldest (numbers_rise home (entries m) in_order)
