-- Rows that are kept in a list, in the order of their numbers: what a read and a write of the list are of its table.
use Rattle.std.proofs.Common.{◌≡◌, ℕ, suc, ◌<◌, ◌≤◌, Bool, true, false, cond, not, ◌&&◌, List, [], ◌∷◌, length, get_or, set, Option, Some, None, IsTrue, IsFalse, is_some, nat_eq, nat_lt, refl, sym, ap, subst, ◌∙◌, T, arith}
use Rattle.std.specs.declared.cmp.Ordering.{Ordering}
use Rattle.std.specs.declared.cmp.Ordering.TheVariants.{Less, Equal, Greater}
use Rattle.std.specs.Ordering.{nat_cmp, eq_by_cmp, is_eq, is_lt}
use Rattle.std.specs.Cmp.{nat_cmp_total, eq_by_cmp_equiv}
use Rattle.std.specs.List.{AllByRecursion}
use Rattle.std.specs.List as list
use Rattle.std.specs.List.Sorted.{IsStrictlySortedBy}
use Rattle.std.specs.Map.{keys_of}
use Rattle.std.specs.Option.{option_map}
use Rattle.std.specs.FinMap.{FinMap, get, contains_key, from_entries, insert, remove, get-from_entries, get-insert, get-remove, same_map, nat_cmp-IsAntisymmetric}
use Rattle.std.specs.FinMap.Entries.{find, put, where_key, is_sorted, below_all, find-put, find-where_key, is_sorted-put, is_sorted-where_key}
use Rattle.std.proofs.lemmas.Bool.Decides.{nat_tests}
use Rattle.std.proofs.lemmas.Map.Keys.{sorted_head, sorted_tail}
use Rattle.schema.specs.NumberedRows.{place_in, is_in, StandsAt, BelongsAt}

-- ---- what tests say

both : (b c : Bool) → T b → T c → T (b && c)
both true c h k = k
both false c h k = h

first : (b c : Bool) → T (b && c) → T b
first true c h = tt
first false c h = h

second : (b c : Bool) → T (b && c) → T c
second true c h = h
second false c h = absurd h

less : (r : Ordering) → T (is_lt r) → r ≡ Less
less Less h = refl
less Equal h = absurd h
less Greater h = absurd h

lower : (n x : ℕ) → n < x → nat_cmp n x ≡ Less
lower n x h = grind (arith, nat_tests)

equal : (n x : ℕ) → x ≡ n → nat_cmp n x ≡ Equal
equal n x h = grind (arith, nat_tests)

greater : (n x : ℕ) → x < n → nat_cmp n x ≡ Greater
greater n x h = grind (arith, nat_tests)

rises : (n x : ℕ) → nat_cmp n x ≡ Less → n < x
rises n x h = grind (arith, nat_tests)

other_above : (n x : ℕ) → x < n → eq_by_cmp nat_cmp n x ≡ false
other_above n x h = ap is_eq (greater n x h)

other_below : (n x : ℕ) → n < x → eq_by_cmp nat_cmp n x ≡ false
other_below n x h = ap is_eq (lower n x h)

equal_here : (n x : ℕ) → x ≡ n → eq_by_cmp nat_cmp n x ≡ true
equal_here n x h = ap is_eq (equal n x h)

apart : (n x : ℕ) → n < x → nat_eq x n ≡ true → ⊥
apart n x h same = let other : x ≡ n = grind (arith, nat_tests) in absurd (omega arith)

together : (n x : ℕ) → x ≡ n → nat_eq x n ≡ false → ⊥
together n x h other = let same : nat_eq x n ≡ true = grind (arith, nat_tests) in absurd cc

-- a row's number is below another, the same, or above it
by_number : (G : Type 0) (a n : ℕ) → (a < n → G) → (a ≡ n → G) → (n < a → G) → G
by_number G a n below same above =
    elim (nat_lt a n) as (λ b. nat_lt a n ≡ b → G) [
      | true ↦ λ e. below (grind (arith, nat_tests))
      | false ↦ λ e. elim (nat_eq a n) as (λ b. nat_eq a n ≡ b → G) [
        | true ↦ λ s. same (grind (arith, nat_tests))
        | false ↦ λ s. above (grind (arith, nat_tests))
      ] refl
    ] refl

module _ {X : Type 0} where
  -- ---- one step of the scan

  place_more : (n : ℕ) (e : ℕ × X) (es : List (ℕ × X)) → e.0 < n → place_in n (e ∷ es) ≡ suc (place_in n es)
  place_more n e es h = let low : nat_lt e.0 n ≡ true = grind (arith, nat_tests) in rw low refl

  is_in_more : (n : ℕ) (e : ℕ × X) (es : List (ℕ × X)) → e.0 < n → is_in n (e ∷ es) ≡ is_in n es
  is_in_more n e es h = let low : nat_lt e.0 n ≡ true = grind (arith, nat_tests) in rw low refl

  place_here : (n : ℕ) (e : ℕ × X) (es : List (ℕ × X)) → n ≤ e.0 → place_in n (e ∷ es) ≡ 0
  place_here n e es h = let high : nat_lt e.0 n ≡ false = grind (arith, nat_tests) in rw high refl

  is_in_here : (n : ℕ) (e : ℕ × X) (es : List (ℕ × X)) → n ≤ e.0 → is_in n (e ∷ es) ≡ nat_eq e.0 n
  is_in_here n e es h = let high : nat_lt e.0 n ≡ false = grind (arith, nat_tests) in rw high refl

  -- ---- the place is in the list

  place_within : (n : ℕ) (es : List (ℕ × X)) → place_in n es ≤ length es
  place_within n [] = omega arith
  place_within n (e ∷ es) =
      elim (nat_lt e.0 n) as (λ b. cond b (suc (place_in n es)) 0 ≤ suc (length es)) [
        | true ↦ omega (arith, place_within n es)
        | false ↦ omega arith
      ]

  place_of_one : (n : ℕ) (es : List (ℕ × X)) → IsTrue (is_in n es) → place_in n es < length es
  place_of_one n [] h = absurd cc
  place_of_one n (e ∷ es) h =
      elim (nat_lt e.0 n) as (λ b. IsTrue (cond b (is_in n es) (nat_eq e.0 n)) → cond b (suc (place_in n es)) 0 < suc (length es)) [
        | true ↦ λ k. omega (arith, place_of_one n es k)
        | false ↦ λ k. omega arith
      ] h

  -- ---- the order, as a test

  below_from : (x : ℕ) (es : List (ℕ × X)) → AllByRecursion (λ k. nat_cmp x k ≡ Less) (keys_of es) → T (below_all nat_cmp x es)
  below_from x [] h = tt
  below_from x (e ∷ es) h = subst (λ r. T (is_lt r && below_all nat_cmp x es)) (sym h.0) (below_from x es h.1)

  is_sorted-from : (es : List (ℕ × X)) → IsStrictlySortedBy nat_cmp (keys_of es) → T (is_sorted nat_cmp es)
  is_sorted-from [] h = tt
  is_sorted-from (e ∷ es) h =
      both _ _ (below_from e.0 es (sorted_head nat_cmp e.0 (keys_of es) h)) (is_sorted-from es (sorted_tail nat_cmp e.0 (keys_of es) h))

  below_to : (x : ℕ) (es : List (ℕ × X)) → T (below_all nat_cmp x es) → AllByRecursion (λ k. nat_cmp x k ≡ Less) (keys_of es)
  below_to x [] h = tt
  below_to x (e ∷ es) h = (less _ (first _ _ h), below_to x es (second _ _ h))

  is_sorted-to : (es : List (ℕ × X)) → T (is_sorted nat_cmp es) → IsStrictlySortedBy nat_cmp (keys_of es)
  unfolding IsStrictlySortedBy
  is_sorted-to [] h = tt
  is_sorted-to (e ∷ es) h = (below_to e.0 es (first _ _ h), is_sorted-to es (second _ _ h))

  -- ---- a read

  -- the row at the index of a number that is present
  row_there : (n : ℕ) (es : List (ℕ × X)) (d : ℕ × X) → IsTrue (is_in n es) → find nat_cmp n es ≡ Some (get_or es (place_in n es) d).1
  row_there n [] d h = absurd cc
  row_there n (e ∷ es) d h =
      by_number _ e.0 n
      (λ low. rw (place_more n e es low, other_above n e.0 low) (row_there n es d (sym (is_in_more n e es low) ∙ h)))
      (λ same. rw (place_here n e es (omega arith), equal_here n e.0 same) refl)
      (λ high. absurd (apart n e.0 high (sym (is_in_here n e es (omega arith)) ∙ h)))

  number_there : (n : ℕ) (es : List (ℕ × X)) (d : ℕ × X) → IsTrue (is_in n es) → (get_or es (place_in n es) d).0 ≡ n
  number_there n [] d h = absurd cc
  number_there n (e ∷ es) d h =
      by_number _ e.0 n
      (λ low. rw (place_more n e es low) (number_there n es d (sym (is_in_more n e es low) ∙ h)))
      (λ same. rw (place_here n e es (omega arith)) same)
      (λ high. absurd (apart n e.0 high (sym (is_in_here n e es (omega arith)) ∙ h)))

  -- no row from a higher number on has the number
  none_above : (n x : ℕ) (es : List (ℕ × X)) → n < x → AllByRecursion (λ k. nat_cmp x k ≡ Less) (keys_of es) → find nat_cmp n es ≡ None
  none_above n x [] low above = refl
  none_above n x (e ∷ es) low above =
      let next : x < e.0 = rises x e.0 above.0 in
      rw (other_below n e.0 (omega arith)) (none_above n x es low above.1)

  row_missing : (n : ℕ) (es : List (ℕ × X)) → IsStrictlySortedBy nat_cmp (keys_of es) → IsFalse (is_in n es) → find nat_cmp n es ≡ None
  row_missing n [] sorted h = refl
  row_missing n (e ∷ es) sorted h =
      by_number _ e.0 n
      (λ low. rw (other_above n e.0 low) (row_missing n es (sorted_tail nat_cmp e.0 (keys_of es) sorted) (sym (is_in_more n e es low) ∙ h)))
      (λ same. absurd (together n e.0 same (sym (is_in_here n e es (omega arith)) ∙ h)))
      (λ high. rw (other_below n e.0 high) (none_above n e.0 es high (sorted_head nat_cmp e.0 (keys_of es) sorted)))

  -- ---- a write

  inserted : (n : ℕ) (v : X) (es : List (ℕ × X)) → IsFalse (is_in n es) → list.insert es (place_in n es) (n, v) ≡ put nat_cmp n v es
  inserted n v [] h = refl
  inserted n v (e ∷ es) h =
      by_number _ e.0 n
      (λ low. rw (place_more n e es low, greater n e.0 low) (ap (λ l. e ∷ l) (inserted n v es (sym (is_in_more n e es low) ∙ h))))
      (λ same. absurd (together n e.0 same (sym (is_in_here n e es (omega arith)) ∙ h)))
      (λ high. rw (place_here n e es (omega arith), lower n e.0 high) refl)

  replaced : (n : ℕ) (v : X) (es : List (ℕ × X)) → IsTrue (is_in n es) → set es (place_in n es) (n, v) ≡ put nat_cmp n v es
  replaced n v [] h = absurd cc
  replaced n v (e ∷ es) h =
      by_number _ e.0 n
      (λ low. rw (place_more n e es low, greater n e.0 low) (ap (λ l. e ∷ l) (replaced n v es (sym (is_in_more n e es low) ∙ h))))
      (λ same. rw (place_here n e es (omega arith), equal n e.0 same) (ap (λ k. (k, v) ∷ es) (sym same)))
      (λ high. absurd (apart n e.0 high (sym (is_in_here n e es (omega arith)) ∙ h)))

  -- every row but that of the number
  abbrev others : ℕ → List (ℕ × X) → List (ℕ × X)
  others n = where_key nat_cmp (λ k. not (eq_by_cmp nat_cmp n k))

  all_above : (n : ℕ) (es : List (ℕ × X)) → AllByRecursion (λ k. nat_cmp n k ≡ Less) (keys_of es) → others n es ≡ es
  all_above n [] above = refl
  all_above n (e ∷ es) above = rw above.0 (ap (λ l. e ∷ l) (all_above n es above.1))

  removed : (n : ℕ) (es : List (ℕ × X)) → IsStrictlySortedBy nat_cmp (keys_of es) → IsTrue (is_in n es) → list.remove es (place_in n es) ≡ others n es
  removed n [] sorted h = absurd cc
  removed n (e ∷ es) sorted h =
      by_number _ e.0 n
      (λ low. rw (place_more n e es low, other_above n e.0 low) (ap (λ l. e ∷ l) (removed n es (sorted_tail nat_cmp e.0 (keys_of es) sorted) (sym (is_in_more n e es low) ∙ h))))
      (λ same. rw (place_here n e es (omega arith), equal_here n e.0 same)
      (sym (all_above n es (subst (λ k. AllByRecursion (λ q. nat_cmp k q ≡ Less) (keys_of es)) same (sorted_head nat_cmp e.0 (keys_of es) sorted)))))
      (λ high. absurd (apart n e.0 high (sym (is_in_here n e es (omega arith)) ∙ h)))

  -- ---- the table of the rows

  abbrev rows_of : List (ℕ × X) → FinMap nat_cmp X
  rows_of es = from_entries es

  -- the place is within the rows
  pub place_of_row : (n place : ℕ) (es : List (ℕ × X)) → StandsAt n es place → place < length es
  place_of_row n place es at = omega (arith, at.place_is, place_of_one n es at.is_there)

  pub place_for_row : (n place : ℕ) (es : List (ℕ × X)) → BelongsAt n es place → place ≤ length es
  place_for_row n place es at = omega (arith, at.place_is, place_within n es)

  -- what the table has at the number
  pub read_there : (n place : ℕ) (es : List (ℕ × X)) (d : ℕ × X) → StandsAt n es place → get (rows_of es) n ≡ Some (get_or es place d).1
  read_there n place es d at =
      get-from_entries nat_cmp_total es n ∙ row_there n es d at.is_there ∙ ap (λ p. Some (get_or es p d).1) (sym at.place_is)

  pub read_missing : (n place : ℕ) (es : List (ℕ × X)) → IsStrictlySortedBy nat_cmp (keys_of es) → BelongsAt n es place → get (rows_of es) n ≡ None
  read_missing n place es sorted at = get-from_entries nat_cmp_total es n ∙ row_missing n es sorted at.is_missing

  pub not_missing : (n place : ℕ) (es : List (ℕ × X)) → IsStrictlySortedBy nat_cmp (keys_of es) → BelongsAt n es place → IsTrue (contains_key (rows_of es) n) → ⊥
  not_missing n place es sorted at there =
      let none : is_some (get (rows_of es) n) ≡ false = ap is_some (read_missing n place es sorted at) in
      absurd cc

  put_table : (n : ℕ) (v : X) (es : List (ℕ × X)) → rows_of (put nat_cmp n v es) ≡ insert (rows_of es) n v
  put_table n v es = same_map nat_cmp_total nat_cmp-IsAntisymmetric _ _ (λ q.
      get-from_entries nat_cmp_total (put nat_cmp n v es) q ∙ find-put nat_cmp nat_cmp_total q n v es
      ∙ sym (get-insert nat_cmp_total (rows_of es) n v q ∙ ap (cond (eq_by_cmp nat_cmp q n) (Some v)) (get-from_entries nat_cmp_total es q)))

  put_order : (n : ℕ) (v : X) (es : List (ℕ × X)) → IsStrictlySortedBy nat_cmp (keys_of es) → IsStrictlySortedBy nat_cmp (keys_of (put nat_cmp n v es))
  put_order n v es sorted = is_sorted-to _ (is_sorted-put nat_cmp nat_cmp_total n v es (is_sorted-from es sorted))

  -- a row that is inserted at a number that is absent
  inserted_rows : (n place : ℕ) (v : X) (es fs : List (ℕ × X)) → BelongsAt n es place → fs ≡ list.insert es place (n, v) → fs ≡ put nat_cmp n v es
  inserted_rows n place v es fs at is = is ∙ ap (λ p. list.insert es p (n, v)) at.place_is ∙ inserted n v es at.is_missing

  pub inserted_table : (n place : ℕ) (v : X) (es fs : List (ℕ × X)) → BelongsAt n es place → fs ≡ list.insert es place (n, v) → rows_of fs ≡ insert (rows_of es) n v
  inserted_table n place v es fs at is = ap rows_of (inserted_rows n place v es fs at is) ∙ put_table n v es

  pub inserted_order : (n place : ℕ) (v : X) (es fs : List (ℕ × X)) → IsStrictlySortedBy nat_cmp (keys_of es) → BelongsAt n es place → fs ≡ list.insert es place (n, v)
      → IsStrictlySortedBy nat_cmp (keys_of fs)
  inserted_order n place v es fs sorted at is =
      subst (λ l. IsStrictlySortedBy nat_cmp (keys_of l)) (sym (inserted_rows n place v es fs at is)) (put_order n v es sorted)

  -- a row that is put in place of another, x
  replaced_rows : (n place : ℕ) (v : X) (es : List (ℕ × X)) (x : ℕ × X) → StandsAt n es place → x ≡ get_or es place x → set es place (x.0, v) ≡ put nat_cmp n v es
  replaced_rows n place v es x at is =
      ap (λ k. set es place (k, v)) (ap (λ e. e.0) (is ∙ ap (λ p. get_or es p x) at.place_is) ∙ number_there n es x at.is_there)
      ∙ ap (λ p. set es p (n, v)) at.place_is ∙ replaced n v es at.is_there

  pub replaced_table : (n place : ℕ) (v : X) (es : List (ℕ × X)) (x : ℕ × X) → StandsAt n es place → x ≡ get_or es place x
      → rows_of (set es place (x.0, v)) ≡ insert (rows_of es) n v
  replaced_table n place v es x at is = ap rows_of (replaced_rows n place v es x at is) ∙ put_table n v es

  pub replaced_order : (n place : ℕ) (v : X) (es : List (ℕ × X)) (x : ℕ × X) → IsStrictlySortedBy nat_cmp (keys_of es) → StandsAt n es place → x ≡ get_or es place x
      → IsStrictlySortedBy nat_cmp (keys_of (set es place (x.0, v)))
  replaced_order n place v es x sorted at is =
      subst (λ l. IsStrictlySortedBy nat_cmp (keys_of l)) (sym (replaced_rows n place v es x at is)) (put_order n v es sorted)

  -- a row that is removed
  others_table : (n : ℕ) (es : List (ℕ × X)) → rows_of (others n es) ≡ remove (rows_of es) n
  others_table n es = same_map nat_cmp_total nat_cmp-IsAntisymmetric _ _ (λ q.
      get-from_entries nat_cmp_total (others n es) q
      ∙ find-where_key nat_cmp (λ k. not (eq_by_cmp nat_cmp n k)) q (λ x tied. ap (λ k. not (eq_by_cmp nat_cmp n k)) (sym (nat_cmp-IsAntisymmetric q x tied))) es
      ∙ turned (eq_by_cmp nat_cmp n q) (find nat_cmp q es) None
      ∙ ap (λ b. cond b None (find nat_cmp q es)) ((eq_by_cmp_equiv nat_cmp_total).symm n q)
      ∙ sym (get-remove nat_cmp_total (rows_of es) n q ∙ ap (cond (eq_by_cmp nat_cmp q n) None) (get-from_entries nat_cmp_total es q)))
    where
      turned : {A : Type 0} (b : Bool) (x y : A) → cond (not b) x y ≡ cond b y x
      turned true x y = refl
      turned false x y = refl

  removed_rows : (n place : ℕ) (es fs : List (ℕ × X)) → IsStrictlySortedBy nat_cmp (keys_of es) → StandsAt n es place → fs ≡ list.remove es place → fs ≡ others n es
  removed_rows n place es fs sorted at is = is ∙ ap (list.remove es) at.place_is ∙ removed n es sorted at.is_there

  pub removed_table : (n place : ℕ) (es fs : List (ℕ × X)) → IsStrictlySortedBy nat_cmp (keys_of es) → StandsAt n es place → fs ≡ list.remove es place → rows_of fs ≡ remove (rows_of es) n
  removed_table n place es fs sorted at is = ap rows_of (removed_rows n place es fs sorted at is) ∙ others_table n es

  pub removed_order : (n place : ℕ) (es fs : List (ℕ × X)) → IsStrictlySortedBy nat_cmp (keys_of es) → StandsAt n es place → fs ≡ list.remove es place → IsStrictlySortedBy nat_cmp (keys_of fs)
  removed_order n place es fs sorted at is =
      subst (λ l. IsStrictlySortedBy nat_cmp (keys_of l)) (sym (removed_rows n place es fs sorted at is))
      (is_sorted-to _ (is_sorted-where_key nat_cmp (λ k. not (eq_by_cmp nat_cmp n k)) es (is_sorted-from es sorted)))

  -- a row, x, that is changed in its place
  at_other : (f : X → X) (n q : ℕ) (r : Option X) → nat_eq q n ≡ false → r ≡ option_map (λ row. cond (nat_eq q n) (f row) row) r
  at_other f n q None other = refl
  at_other f n q (Some row) other = rw other refl

  pub changed_rows : (f : X → X) (n place : ℕ) (es : List (ℕ × X)) (x : ℕ × X) → StandsAt n es place → x ≡ get_or es place x
      → (q : ℕ) → get (rows_of (set es place (x.0, f x.1))) q ≡ option_map (λ row. cond (nat_eq q n) (f row) row) (get (rows_of es) q)
  changed_rows f n place es x at is q =
      ap (λ m. get m q) (replaced_table n place (f x.1) es x at is) ∙ get-insert nat_cmp_total (rows_of es) n (f x.1) q
      ∙ by_number _ q n
      (λ low. rw (other_below q n low) (at_other f n q (get (rows_of es) q) (grind (arith, nat_tests))))
      (λ same.
      let found : get (rows_of es) q ≡ Some x.1 = ap (get (rows_of es)) same ∙ read_there n place es x at ∙ ap (λ e. Some e.1) (sym is) in
      let equal : nat_eq q n ≡ true = grind (arith, nat_tests) in
      rw (equal_here q n (sym same), found, equal) refl)
      (λ high. rw (other_above q n high) (at_other f n q (get (rows_of es) q) (grind (arith, nat_tests))))

  -- and one that isn't there
  pub unchanged_rows : (f : X → X) (n place : ℕ) (es : List (ℕ × X)) → IsStrictlySortedBy nat_cmp (keys_of es) → BelongsAt n es place
      → (q : ℕ) → get (rows_of es) q ≡ option_map (λ row. cond (nat_eq q n) (f row) row) (get (rows_of es) q)
  unchanged_rows f n place es sorted at q =
      by_number _ q n
      (λ low. at_other f n q (get (rows_of es) q) (grind (arith, nat_tests)))
      (λ same. let none : get (rows_of es) q ≡ None = ap (get (rows_of es)) same ∙ read_missing n place es sorted at in rw none refl)
      (λ high. at_other f n q (get (rows_of es) q) (grind (arith, nat_tests)))
