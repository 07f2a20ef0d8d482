-- To count the distinct items that are short is to count the rows of STOCK that are low.
use Rattle.std.proofs.Common.{◌≡◌, ℕ, ◌+◌, Bool, true, false, cond, ◌&&◌, ◌||◌, ◌==◌, nat_lt, eqb, T, List, [], ◌∷◌, count_by, Option, Some, None, refl, sym, ap, ◌∙◌, arith, IsPermutation, IsSorted, nat_cmp}
use Rattle.std.specs.List.{list_any, dedup, dedup_from, AllByRecursion}
use Rattle.std.specs.List.Sorted.{IsStrictlySortedBy}
use Rattle.std.proofs.lemmas.Bool.{eqb-true}
use Rattle.std.proofs.lemmas.Bool.Decides.{nat_tests}
use Rattle.std.proofs.lemmas.List.Sums.{sum_by-cons}
use Rattle.std.proofs.lemmas.List.Sorted.{list_any-IsPermutation}
use Rattle.std.proofs.lemmas.Map.Keys.{sorted_head, sorted_tail, sorted_from_strictly_increasing, IsStrictlyIncreasing-dedup}
use Rattle.std.specs.declared.cmp.Ordering.{Ordering}
use Rattle.std.specs.declared.cmp.Ordering.TheVariants.{Less, Equal, Greater}
use Rattle.std.specs.Ordering.{is_eq, is_lt, eq_by_cmp, ordering_then}
use Rattle.std.specs.Cmp.{IsTotalOrder}
use Rattle.std.specs.FinMap as table
use Rattle.std.specs.FinMap.Entries.{find, is_sorted, below_all}
use Rattle.rows.specs.declared.keys.StockKey.{StockKey}
use Rattle.rows.specs.declared.records.Stock.{Stock}
use Rattle.rows.specs.Keys.{stock_cmp}
use Rattle.schema.specs.Scale.{stock_key}
use Rattle.schema.specs.Database.{Database}
use Rattle.schema.proofs.KeyOrders.{stocks_total}
use Rattle.machine.specs.StockLevel.{is_below, is_low, is_one_of, is_short, low_stock}

-- ---- counts

abbrev one : Bool → ℕ
one b = cond b 1 0

count-cons : {X : Type 0} (p : X → Bool) (x : X) (xs : List X) → count_by p (x ∷ xs) ≡ one (p x) + count_by p xs
count-cons p x xs = sum_by-cons (λ y. one (p y)) x xs

-- tests that agree count alike
count-agree : {X : Type 0} (p q : X → Bool) → ((x : X) → p x ≡ q x) → (xs : List X) → count_by p xs ≡ count_by q xs
count-agree p q same [] = refl
count-agree p q same (x ∷ xs) =
    let rest : count_by p xs ≡ count_by q xs = count-agree p q same xs in
    let here : one (p x) ≡ one (q x) = ap one (same x) in
    omega (arith, count-cons p x xs, count-cons q x xs, here, rest)

count-none : {X : Type 0} (p : X → Bool) → ((x : X) → p x ≡ false) → (xs : List X) → count_by p xs ≡ 0
count-none p none [] = refl
count-none p none (x ∷ xs) =
    let rest : count_by p xs ≡ 0 = count-none p none xs in
    let here : one (p x) ≡ 0 = ap one (none x) in
    omega (arith, count-cons p x xs, here, rest)

-- what passes one of two tests, and never both
count-split : {X : Type 0} (p q r : X → Bool) → ((x : X) → one (p x) ≡ one (q x) + one (r x)) → (xs : List X) → count_by p xs ≡ count_by q xs + count_by r xs
count-split p q r parted [] = refl
count-split p q r parted (x ∷ xs) =
    let rest : count_by p xs ≡ count_by q xs + count_by r xs = count-split p q r parted xs in
    let here : one (p x) ≡ one (q x) + one (r x) = parted x in
    omega (arith, count-cons p x xs, count-cons q x xs, count-cons r x xs, here, rest)

-- ---- a test of the row at one key

abbrev passes : {X : Type 0} → (X → Bool) → Option X → Bool
passes f (Some x) = f x
passes f None = false

first : (b c : Bool) → T (b && c) → T b
first true c h = tt
first false c h = h

second : (b c : Bool) → T (b && c) → T c
second true c h = h
second false c h = absurd h

is_less : (r : Ordering) → T (is_lt r) → r ≡ Less
is_less Less h = refl
is_less Equal h = absurd h
is_less Greater h = absurd h

is_equal : (r : Ordering) → is_eq r ≡ true → r ≡ Equal
is_equal Less h = absurd cc
is_equal Equal h = refl
is_equal Greater h = absurd cc

module _ {K X : Type 0} {R : K → K → Ordering} (o : IsTotalOrder R) (q : K) (f : X → Bool) (p : K × X → Bool)
    (p_is : (e : K × X) → p e ≡ (eq_by_cmp R q e.0 && f e.1)) where
  -- no later key ties
  none_later : (k : K) → R q k ≡ Equal → (es : List (K × X)) → T (below_all R k es) → count_by p es ≡ 0
  none_later k tied [] below = refl
  none_later k tied (e ∷ es) below =
      let rest : count_by p es ≡ 0 = none_later k tied es (second (is_lt (R k e.0)) (below_all R k es) below) in
      let less : R q e.0 ≡ Less = o.congr q k e.0 tied ∙ is_less (R k e.0) (first (is_lt (R k e.0)) (below_all R k es) below) in
      let other : p e ≡ false = p_is e ∙ ap (λ r. is_eq r && f e.1) less in
      let here : one (p e) ≡ 0 = ap one other in
      omega (arith, count-cons p e es, here, rest)

  -- of entries in order one at most has the key
  count_at : (es : List (K × X)) → T (is_sorted R es) → count_by p es ≡ one (passes f (find R q es))
  count_at [] sorted = refl
  count_at (e ∷ es) sorted =
      let below : T (below_all R e.0 es) = first (below_all R e.0 es) (is_sorted R es) sorted in
      let rest : count_by p es ≡ one (passes f (find R q es)) = count_at es (second (below_all R e.0 es) (is_sorted R es) sorted) in
      elim (eq_by_cmp R q e.0) as (λ b. eq_by_cmp R q e.0 ≡ b → count_by p (e ∷ es) ≡ one (passes f (cond b (Some e.1) (find R q es)))) [
        | true ↦ λ t.
            let none : count_by p es ≡ 0 = none_later e.0 (is_equal (R q e.0) t) es below in
            let here : one (p e) ≡ one (f e.1) = ap one (p_is e ∙ ap (λ b. b && f e.1) t) in
            omega (arith, count-cons p e es, here, none)
        | false ↦ λ t.
            let here : one (p e) ≡ 0 = ap one (p_is e ∙ ap (λ b. b && f e.1) t) in
            omega (arith, count-cons p e es, here, rest)
      ] refl

-- ---- one item more

-- the key of an item's row
stock_test : (w i : ℕ) (key : StockKey) → eq_by_cmp stock_cmp (stock_key w i) key ≡ ((key.w_id == w) && (i == key.i_id))
stock_test w i key =
    elim (nat_cmp w key.w_id) as (λ r. nat_cmp w key.w_id ≡ r → is_eq (ordering_then r (nat_cmp i key.i_id)) ≡ ((key.w_id == w) && (i == key.i_id))) [
      | Less ↦ λ e. let other : (key.w_id == w) ≡ false = grind (arith, nat_tests) in rw other refl
      | Equal ↦ λ e. let same : (key.w_id == w) ≡ true = grind (arith, nat_tests) in rw same (grind (arith, nat_tests))
      | Greater ↦ λ e. let other : (key.w_id == w) ≡ false = grind (arith, nat_tests) in rw other refl
    ] refl

turned : (a b c : Bool) → (a && (b && c)) ≡ ((a && c) && b)
turned true true true = refl
turned true true false = refl
turned true false true = refl
turned true false false = refl
turned false b c = refl

either : (a b c d : Bool) → (c ≡ true → d ≡ false) → one (a && (b && (c || d))) ≡ one (a && (b && c)) + one (a && (b && d))
either false b c d h = refl
either true false c d h = refl
either true true true d h = rw (h refl) refl
either true true false d h = omega arith

nothing : (a b : Bool) → (a && (b && false)) ≡ false
nothing true true = refl
nothing true false = refl
nothing false b = refl

-- a number below all of them is none of them
none_of : (i : ℕ) (items : List ℕ) → AllByRecursion (λ j. nat_cmp i j ≡ Less) items → is_one_of items i ≡ false
none_of i [] below = refl
none_of i (j ∷ items) below =
    let less : nat_cmp i j ≡ Less = below.0 in
    let other : (j == i) ≡ false = grind (arith, nat_tests) in
    rw other (none_of i items below.1)

module _ (t : Database) (w threshold : ℕ) where
  abbrev rows : List (StockKey × Stock)
  rows = table.entries t.stocks

  -- the row of one item
  abbrev is_its : ℕ → StockKey × Stock → Bool
  is_its i e = (e.0.w_id == w) && (nat_lt e.1.quantity threshold && (i == e.0.i_id))

  short_one : (i : ℕ) → one (is_short t w threshold i) ≡ count_by (is_its i) rows
  short_one i =
      let found = count_at stocks_total (stock_key w i) (λ (row : Stock). nat_lt row.quantity threshold) (is_its i)
      (λ e. turned (e.0.w_id == w) (nat_lt e.1.quantity threshold) (i == e.0.i_id) ∙ ap (λ b. b && nat_lt e.1.quantity threshold) (sym (stock_test w i e.0)))
      rows (table.entries_sorted t.stocks) in
      ap one (same (table.get t.stocks (stock_key w i)) ∙ ap (passes (λ (row : Stock). nat_lt row.quantity threshold)) (table.get-entries t.stocks (stock_key w i))) ∙ sym found
    where
      same : (row : Option Stock) → is_below threshold row ≡ passes (λ (row : Stock). nat_lt row.quantity threshold) row
      same (Some row) = refl
      same None = refl

  -- of distinct items each has a row of its own
  short_each : (items : List ℕ) → IsStrictlySortedBy nat_cmp items → count_by (is_short t w threshold) items ≡ low_stock t w threshold items
  short_each [] sorted = sym (count-none (is_low w threshold []) (λ e. nothing (e.0.w_id == w) (nat_lt e.1.quantity threshold)) rows)
  short_each (i ∷ items) sorted =
      let rest : count_by (is_short t w threshold) items ≡ count_by (is_low w threshold items) rows = short_each items (sorted_tail nat_cmp i items sorted) in
      let fresh : is_one_of items i ≡ false = none_of i items (sorted_head nat_cmp i items sorted) in
      let parted : count_by (is_low w threshold (i ∷ items)) rows ≡ count_by (is_its i) rows + count_by (is_low w threshold items) rows =
      count-split (is_low w threshold (i ∷ items)) (is_its i) (is_low w threshold items)
      (λ e. either (e.0.w_id == w) (nat_lt e.1.quantity threshold) (i == e.0.i_id) (is_one_of items e.0.i_id)
      (λ same. ap (is_one_of items) (sym (eqb-true i e.0.i_id same)) ∙ fresh)) rows in
      let here : one (is_short t w threshold i) ≡ count_by (is_its i) rows = short_one i in
      omega (arith, count-cons (is_short t w threshold) i items, here, rest, parted)

  -- the same items name the same rows
  low_alike : (items others : List ℕ) → ((i : ℕ) → is_one_of items i ≡ is_one_of others i) → low_stock t w threshold items ≡ low_stock t w threshold others
  low_alike items others alike = count-agree _ _ (λ (e : StockKey × Stock). ap (λ b. (e.0.w_id == w) && (nat_lt e.1.quantity threshold && b)) (alike e.0.i_id)) rows

-- ---- items that are sorted, and each kept once

twice : (a b c : Bool) → a ≡ b → (a || c) ≡ (a || (b || c))
twice true b c h = refl
twice false true c h = absurd cc
twice false false c h = refl

any-dedup_from : (p : ℕ → Bool) (x : ℕ) (xs : List ℕ) → list_any p (dedup_from eqb x xs) ≡ (p x || list_any p xs)
any-dedup_from p x [] = refl
any-dedup_from p x (y ∷ ys) =
    elim (eqb y x) as (λ b. eqb y x ≡ b → list_any p (cond b (dedup_from eqb x ys) (x ∷ dedup_from eqb y ys)) ≡ (p x || (p y || list_any p ys))) [
      | true ↦ λ e. any-dedup_from p x ys ∙ twice (p x) (p y) (list_any p ys) (ap p (sym (eqb-true y x e)))
      | false ↦ λ e. ap (λ b. p x || b) (any-dedup_from p y ys)
    ] refl

any-dedup : (p : ℕ → Bool) (xs : List ℕ) → list_any p (dedup eqb xs) ≡ list_any p xs
any-dedup p [] = refl
any-dedup p (x ∷ xs) = any-dedup_from p x xs

-- the distinct items that are short are as many as the rows that are low
pub short_counted : (t : Database) (w threshold : ℕ) (items sorted kept : List ℕ) → IsPermutation items sorted → IsSorted nat_cmp sorted → kept ≡ dedup eqb sorted
    → count_by (is_short t w threshold) kept ≡ low_stock t w threshold items
short_counted t w threshold items sorted kept moved in_order is =
    ap (count_by (is_short t w threshold)) is
    ∙ short_each t w threshold (dedup eqb sorted) (sorted_from_strictly_increasing (dedup eqb sorted) (IsStrictlyIncreasing-dedup sorted in_order))
    ∙ low_alike t w threshold (dedup eqb sorted) items (λ i. any-dedup (λ j. j == i) sorted ∙ sym (list_any-IsPermutation (λ j. j == i) items sorted moved))
