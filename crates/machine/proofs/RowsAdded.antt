-- How one more row, at a key without a row, changes the properties of a table's rows.
use Rattle.std.proofs.Common.{◌≡◌, ◌≢◌, ℕ, suc, ◌+◌, ◌≤◌, Bool, true, false, cond, List, [], ◌∷◌, ◌++◌, map, length, max, min, Some, None, refl, sym, ap, subst, ◌∙◌, arith, length-append}
use Rattle.std.specs.List.{filter, sum_by}
use Rattle.std.proofs.lemmas.List.{map-append}
use Rattle.std.proofs.lemmas.List.Elements.{filter-append}
use Rattle.std.proofs.lemmas.List.Sums.{sum_by-append, sum_by-cons}
use Rattle.std.specs.declared.cmp.Ordering.{Ordering}
use Rattle.std.specs.declared.cmp.Ordering.TheVariants.{Less, Equal, Greater}
use Rattle.std.specs.Ordering.{is_eq}
use Rattle.std.specs.Cmp.{IsTotalOrder}
use Rattle.std.specs.FinMap.{FinMap, get, insert, entries, entries-insert, get-entries}
use Rattle.std.specs.FinMap.Entries.{put, find, by_order}
use Rattle.schema.specs.Consistency.{greatest, least}

-- the new list has one element more than the old, somewhere among them
pub record IsAdded {X : Type 0} (x : X) (old new : List X) : Type 0 where
  pub before : List X
  pub after : List X
  pub old_is : old ≡ before ++ after
  pub new_is : new ≡ before ++ x ∷ after

added-later : {X : Type 0} (x y : X) (old new : List X) → IsAdded x old new → IsAdded x (y ∷ old) (y ∷ new)
added-later x y old new a = record { before = y ∷ a.before; after = a.after; old_is = ap (λ l. y ∷ l) a.old_is; new_is = ap (λ l. y ∷ l) a.new_is }

-- ---- a row that is put in

added-put : {K X : Type 0} (R : K → K → Ordering) (k : K) (v : X) (es : List (K × X)) → find R k es ≡ None → IsAdded (k, v) es (put R k v es)
added-put R k v [] none = record { before = []; after = []; old_is = refl; new_is = refl }
added-put {K} {X} R k v (e ∷ es) none =
    elim (R k e.0) as (λ r. cond (is_eq r) (Some e.1) (find R k es) ≡ None → IsAdded (k, v) (e ∷ es) (by_order r ((k, v) ∷ e ∷ es) ((e.0, v) ∷ es) (e ∷ put R k v es))) [
      | Less ↦ λ f. record { before = []; after = e ∷ es; old_is = refl; new_is = refl }
      | Equal ↦ λ f. absurd cc
      | Greater ↦ λ f. added-later (k, v) e es (put R k v es) (added-put R k v es f)
    ] none

pub added-insert : {K X : Type 0} {R : K → K → Ordering} → IsTotalOrder R → (m : FinMap R X) (k : K) (v : X) → get m k ≡ None → IsAdded (k, v) (entries m) (entries (insert m k v))
added-insert {R = R} o m k v none = subst (IsAdded (k, v) (entries m)) (sym (entries-insert o m k v)) (added-put R k v (entries m) (sym (get-entries m k) ∙ none))

-- ---- properties of a list

module _ {X : Type 0} (x : X) (old new : List X) (a : IsAdded x old new) where
  pub added-filter_inside : (test : X → Bool) → test x ≡ true → IsAdded x (filter test old) (filter test new)
  added-filter_inside test passes = record {
    before = filter test a.before;
    after = filter test a.after;
    old_is = ap (filter test) a.old_is ∙ filter-append test a.before a.after;
    new_is = ap (filter test) a.new_is ∙ filter-append test a.before (x ∷ a.after)
        ∙ ap (λ b. filter test a.before ++ cond b (x ∷ filter test a.after) (filter test a.after)) passes;
  }

  pub added-filter_outside : (test : X → Bool) → test x ≡ false → filter test new ≡ filter test old
  added-filter_outside test fails =
      ap (filter test) a.new_is ∙ filter-append test a.before (x ∷ a.after)
      ∙ ap (λ b. filter test a.before ++ cond b (x ∷ filter test a.after) (filter test a.after)) fails
      ∙ sym (ap (filter test) a.old_is ∙ filter-append test a.before a.after)

  pub added-map : {Y : Type 0} (f : X → Y) → IsAdded (f x) (map f old) (map f new)
  added-map f = record {
    before = map f a.before;
    after = map f a.after;
    old_is = ap (map f) a.old_is ∙ map-append f a.before a.after;
    new_is = ap (map f) a.new_is ∙ map-append f a.before (x ∷ a.after);
  }

  pub length-added : length new ≡ length old + 1
  length-added =
      let had : length old ≡ length a.before + length a.after = ap length a.old_is ∙ length-append a.before a.after in
      let has : length new ≡ length a.before + suc (length a.after) = ap length a.new_is ∙ length-append a.before (x ∷ a.after) in
      omega arith

  pub sum_by-added : (f : X → ℕ) → sum_by f new ≡ sum_by f old + f x
  sum_by-added f =
      let had : sum_by f old ≡ sum_by f a.before + sum_by f a.after = ap (sum_by f) a.old_is ∙ sum_by-append f a.before a.after in
      let has : sum_by f new ≡ sum_by f a.before + sum_by f (x ∷ a.after) = ap (sum_by f) a.new_is ∙ sum_by-append f a.before (x ∷ a.after) in
      let more : sum_by f (x ∷ a.after) ≡ f x + sum_by f a.after = sum_by-cons f x a.after in
      omega arith

-- ---- the greatest and the least of some numbers

greatest-append : (ms ns : List ℕ) → greatest (ms ++ ns) ≡ max (greatest ms) (greatest ns)
greatest-append [] ns = omega arith
greatest-append (m ∷ ms) ns = let rest = greatest-append ms ns in omega arith

pub greatest-added : (n : ℕ) (old new : List ℕ) → IsAdded n old new → greatest new ≡ max n (greatest old)
greatest-added n old new a =
    let had : greatest old ≡ max (greatest a.before) (greatest a.after) = ap greatest a.old_is ∙ greatest-append a.before a.after in
    let has : greatest new ≡ max (greatest a.before) (max n (greatest a.after)) = ap greatest a.new_is ∙ greatest-append a.before (n ∷ a.after) in
    omega arith

least_of_min : (n m : ℕ) (ns : List ℕ) → least (min n m) ns ≡ min m (least n ns)
least_of_min n m [] = omega arith
least_of_min n m (k ∷ ns) =
    let turned : min (min n m) k ≡ min (min n k) m = omega arith in
    ap (λ l. least l ns) turned ∙ least_of_min (min n k) m ns

least-put : (first n : ℕ) (ms ns : List ℕ) → least first (ms ++ n ∷ ns) ≡ min n (least first (ms ++ ns))
least-put first n [] ns = least_of_min first n ns
least-put first n (m ∷ ms) ns = least-put (min first m) n ms ns

least-le : (first : ℕ) (ns : List ℕ) → least first ns ≤ first
least-le first [] = omega arith
least-le first (n ∷ ns) = let rest = least-le (min first n) ns in omega arith

-- numbers without a gap
abbrev pub has_no_gap : List ℕ → Type 0
has_no_gap [] = Unit {0}
has_no_gap (n ∷ ns) = greatest (n ∷ ns) + 1 ≡ least n ns + length (n ∷ ns)

not_empty : {X : Type 0} (x : X) (xs : List X) → x ∷ xs ≢ []
not_empty x xs e = absurd cc

gap-put : (n : ℕ) (ms ns : List ℕ) → (ms ++ ns ≢ [] → n ≡ greatest (ms ++ ns) + 1) → has_no_gap (ms ++ ns) → has_no_gap (ms ++ n ∷ ns)
gap-put n [] [] next h = omega arith
gap-put n [] (k ∷ ns) next h =
    let is : n ≡ max k (greatest ns) + 1 = next (not_empty k ns) in
    let low : min n k ≡ k = omega arith in
    let same : least (min n k) ns ≡ least k ns = ap (λ l. least l ns) low in
    omega arith
gap-put n (m ∷ ms) ns next h =
    let is : n ≡ max m (greatest (ms ++ ns)) + 1 = next (not_empty m (ms ++ ns)) in
    let low : least m (ms ++ ns) ≤ m = least-le m (ms ++ ns) in
    let bottom : least m (ms ++ n ∷ ns) ≡ min n (least m (ms ++ ns)) = least-put m n ms ns in
    let top : greatest (ms ++ n ∷ ns) ≡ max n (greatest (ms ++ ns)) = greatest-added n (ms ++ ns) (ms ++ n ∷ ns) (record { before = ms; after = ns; old_is = refl; new_is = refl }) in
    let many : length (ms ++ n ∷ ns) ≡ length (ms ++ ns) + 1 = length-added n (ms ++ ns) (ms ++ n ∷ ns) (record { before = ms; after = ns; old_is = refl; new_is = refl }) in
    omega arith

-- the number after the greatest leaves no gap
pub gap-added : (n : ℕ) (old new : List ℕ) → IsAdded n old new → (old ≢ [] → n ≡ greatest old + 1) → has_no_gap old → has_no_gap new
gap-added n old new a next h =
    subst has_no_gap (sym a.new_is)
    (gap-put n a.before a.after (λ some. subst (λ l. n ≡ greatest l + 1) a.old_is (next (λ e. some (sym a.old_is ∙ e)))) (subst has_no_gap a.old_is h))
