-- Tables whose keys stand warehouse by warehouse: a warehouse's part of the rows is its part of the table, and one part more
-- behind the rows is its part more of the table.
use Rattle.std.proofs.Common.{◌≡◌, ℕ, zero, suc, ◌+◌, ◌*◌, ◌<◌, true, false, cond, List, [], ◌∷◌, ◌++◌, length, take, drop, Option, Some, None, refl, sym, ap, ◌∙◌, arith, length-append}
use Rattle.std.specs.List.{flat_map, zip, range_with_len, AllByRecursion}
use Rattle.std.specs.Option.{option_or}
use Rattle.std.specs.declared.cmp.Ordering.{Ordering}
use Rattle.std.specs.declared.cmp.Ordering.TheVariants.{Less, Equal, Greater}
use Rattle.std.specs.Ordering.{eq_by_cmp, is_eq}
use Rattle.std.specs.Cmp.{IsTotalOrder}
use Rattle.std.specs.FinMap.{FinMap, get, retain_keys, from_entries, get-from_entries, same_map, IsAntisymmetric}
use Rattle.std.specs.FinMap.Entries.{find, find-where_key}
use Rattle.std.proofs.lemmas.Bool.Decides.{nat_tests}
use Rattle.std.proofs.lemmas.Grind.{flat_map-append}
use Rattle.std.proofs.lemmas.List.{append-nil}
use Rattle.schema.specs.Database.{Database}
use Rattle.partitions.specs.Parts.{Part, is_of, rows_of_all}
use Rattle.partitions.specs.Splits.{chunk, entries_at}
use Rattle.partitions.proofs.Wholes.{nothing_last, find-append, get-whole_more}
use Rattle.partitions.proofs.PartLaws.{get-part}

is_equal : (r : Ordering) → is_eq r ≡ true → r ≡ Equal
is_equal Less h = cc
is_equal Equal h = refl
is_equal Greater h = cc

zip-drop : {K X : Type 0} (ks ls : List K) (xs : List X) → zip (ks ++ ls) xs ≡ zip ks (take (length ks) xs) ++ zip ls (drop (length ks) xs)
zip-drop [] ls xs = refl
zip-drop (k ∷ ks) [] [] = refl
zip-drop (k ∷ ks) (l ∷ ls) [] = refl
zip-drop (k ∷ ks) ls (x ∷ xs) = ap (λ es. (k, x) ∷ es) (zip-drop ks ls xs)

zip-append : {K X : Type 0} (ks ls : List K) (xs ys : List X) → length xs ≡ length ks → zip (ks ++ ls) (xs ++ ys) ≡ zip ks xs ++ zip ls ys
zip-append [] ls [] ys h = refl
zip-append [] ls (x ∷ xs) ys h = absurd (omega arith)
zip-append (k ∷ ks) ls [] ys h = absurd (omega arith)
zip-append (k ∷ ks) ls (x ∷ xs) ys h = ap (λ es. (k, x) ∷ es) (zip-append ks ls xs ys (omega arith))

drop-none : {X : Type 0} (n : ℕ) → drop {A = X} n [] ≡ []
drop-none zero = refl
drop-none (suc n) = refl

drop-drop : {X : Type 0} (n m : ℕ) (xs : List X) → drop m (drop n xs) ≡ drop (n + m) xs
drop-drop zero m xs = ap (λ k. drop k xs) (let e : m ≡ 0 + m = omega arith in e)
drop-drop (suc n) m [] = drop-none m ∙ sym (drop-none (suc n + m))
drop-drop (suc n) m (x ∷ xs) = drop-drop n m xs ∙ ap (λ k. drop k (x ∷ xs)) (let e : suc (n + m) ≡ suc n + m = omega arith in e)

range_more : (low n : ℕ) → range_with_len low (n + 1) ≡ range_with_len low n ++ (low + n) ∷ []
range_more low zero = ap (λ k. k ∷ []) (let e : low ≡ low + 0 = omega arith in e)
range_more low (suc n) = ap (range_with_len low) (let e : suc n + 1 ≡ suc (n + 1) = omega arith in e)
    ∙ ap (λ l. low ∷ l) (range_more (low + 1) n ∙ ap (λ k. range_with_len (low + 1) n ++ k ∷ []) (let e : low + 1 + n ≡ low + suc n = omega arith in e))

-- keys of a warehouse
abbrev pub AreOf : {K : Type 0} → (K → ℕ) → ℕ → List K → Type 0
AreOf own w ks = AllByRecursion (λ k. own k ≡ w) ks

-- the keys of so many warehouses from one on
abbrev pub keys_from : {K : Type 0} → (ℕ → List K) → ℕ → ℕ → List K
keys_from keys_of low n = flat_map keys_of (range_with_len low n)

pub length-keys_from : {K : Type 0} (keys_of : ℕ → List K) (each : ℕ) → ((w : ℕ) → length (keys_of w) ≡ each) → (low n : ℕ) → length (keys_from keys_of low n) ≡ n * each
length-keys_from keys_of each long low zero = let e : 0 ≡ 0 * each = grind arith in e
length-keys_from keys_of each long low (suc n) =
    length-append (keys_of low) (keys_from keys_of (low + 1) n) ∙ ap (λ k. k + length (keys_from keys_of (low + 1) n)) (long low) ∙ ap (λ k. each + k) (length-keys_from keys_of each long (low + 1) n)
    ∙ (let e : each + n * each ≡ suc n * each = grind arith in e)

apart : {X : Type 0} (home own : ℕ) (r : Option X) → (¬ (own ≡ home) → r ≡ None) → cond (is_of home own) r None ≡ r
apart home own r h =
    elim (is_of home own) as (λ b. is_of home own ≡ b → cond b r None ≡ r) [
      | true ↦ λ e. refl
      | false ↦ λ e. sym (h (λ same. grind (arith, nat_tests)))
    ] refl

module _ {K X : Type 0} {R : K → K → Ordering} (o : IsTotalOrder R) (a : IsAntisymmetric R) (own : K → ℕ) where
  none_elsewhere : (w : ℕ) (ks : List K) (xs : List X) (q : K) → AreOf own w ks → ¬ (own q ≡ w) → find R q (zip ks xs) ≡ None
  none_elsewhere w [] xs q h other = refl
  none_elsewhere w (k ∷ ks) [] q h other = refl
  none_elsewhere w (k ∷ ks) (x ∷ xs) q h other =
      elim (eq_by_cmp R q k) as (λ b. eq_by_cmp R q k ≡ b → cond b (Some x) (find R q (zip ks xs)) ≡ None) [
        | true ↦ λ e. absurd (other (ap own (a q k (is_equal _ e)) ∙ h.0))
        | false ↦ λ e. none_elsewhere w ks xs q h.1 other
      ] refl

  module _ (keys_of : ℕ → List K) (each : ℕ) (long : (w : ℕ) → length (keys_of w) ≡ each) (owned : (w : ℕ) → AreOf own w (keys_of w)) where
    split_first : (low n : ℕ) (rows : List X) → zip (keys_from keys_of low (suc n)) rows ≡ zip (keys_of low) (take each rows) ++ zip (keys_from keys_of (low + 1) n) (drop each rows)
    split_first low n rows = zip-drop (keys_of low) (keys_from keys_of (low + 1) n) rows ∙ ap (λ k. zip (keys_of low) (take k rows) ++ zip (keys_from keys_of (low + 1) n) (drop k rows)) (long low)

    found_first : (low n : ℕ) (rows : List X) (q : K) → find R q (zip (keys_from keys_of low (suc n)) rows) ≡ option_or (find R q (zip (keys_of low) (take each rows))) (find R q (zip (keys_from keys_of (low + 1) n) (drop each rows)))
    found_first low n rows q = ap (find R q) (split_first low n rows) ∙ find-append R q (zip (keys_of low) (take each rows)) (zip (keys_from keys_of (low + 1) n) (drop each rows))

    none_below : (low n : ℕ) (rows : List X) (q : K) → own q < low → find R q (zip (keys_from keys_of low n) rows) ≡ None
    none_below low zero rows q below = refl
    none_below low (suc n) rows q below =
        let first : find R q (zip (keys_of low) (take each rows)) ≡ None = none_elsewhere low (keys_of low) (take each rows) q (owned low) (λ same. omega arith) in
        found_first low n rows q ∙ ap (λ r. option_or r (find R q (zip (keys_from keys_of (low + 1) n) (drop each rows)))) first ∙ none_below (low + 1) n (drop each rows) q (omega arith)

    found_in_chunk : (low n place : ℕ) (rows : List X) (q : K) → own q ≡ low + place → place < n → find R q (zip (keys_from keys_of low n) rows) ≡ find R q (zip (keys_of (low + place)) (chunk each place rows))
    found_in_chunk low zero place rows q is below = absurd (omega arith)
    found_in_chunk low (suc n) zero rows q is below =
        let rest : find R q (zip (keys_from keys_of (low + 1) n) (drop each rows)) ≡ None = none_below (low + 1) n (drop each rows) q (omega arith) in
        let z : 0 ≡ 0 * each = grind arith in
        let l : low ≡ low + 0 = omega arith in
        found_first low n rows q ∙ ap (option_or (find R q (zip (keys_of low) (take each rows)))) rest ∙ nothing_last _
        ∙ ap (λ k. find R q (zip (keys_of low) (take each (drop k rows)))) z ∙ ap (λ k. find R q (zip (keys_of k) (take each (drop (0 * each) rows)))) l
    found_in_chunk low (suc n) (suc place) rows q is below =
        let first : find R q (zip (keys_of low) (take each rows)) ≡ None = none_elsewhere low (keys_of low) (take each rows) q (owned low) (λ same. omega arith) in
        let l : low + 1 + place ≡ low + suc place = omega arith in
        let m : each + place * each ≡ suc place * each = grind arith in
        found_first low n rows q ∙ ap (λ r. option_or r (find R q (zip (keys_from keys_of (low + 1) n) (drop each rows)))) first
        ∙ found_in_chunk (low + 1) n place (drop each rows) q (omega arith) (omega arith)
        ∙ ap (λ k. find R q (zip (keys_of k) (take each (drop (place * each) (drop each rows))))) l
        ∙ ap (λ xs. find R q (zip (keys_of (low + suc place)) (take each xs))) (drop-drop each (place * each) rows ∙ ap (λ k. drop k rows) m)

    -- a warehouse's chunk of the rows, at its keys, is its part of the table
    pub chunk_part : (keys : List K) (n : ℕ) → keys ≡ keys_from keys_of 1 n → (rows : List X) (place : ℕ) → place < n
        → from_entries {R = R} (zip (keys_of (place + 1)) (chunk each place rows)) ≡ retain_keys (from_entries (zip keys rows)) (λ key. is_of (place + 1) (own key))
    chunk_part keys n same rows place below = same_map o a _ _ (λ q.
        get-from_entries o (zip (keys_of (place + 1)) (chunk each place rows)) q
        ∙ elim (is_of (place + 1) (own q)) as (λ b. is_of (place + 1) (own q) ≡ b → find R q (zip (keys_of (place + 1)) (chunk each place rows)) ≡ cond b (find R q (zip keys rows)) None) [
          | true ↦ λ e.
              let is : own q ≡ 1 + place = grind (arith, nat_tests) in
              let turned : 1 + place ≡ place + 1 = omega arith in
              sym (ap (λ ks. find R q (zip ks rows)) same ∙ found_in_chunk 1 n place rows q is below ∙ ap (λ w. find R q (zip (keys_of w) (chunk each place rows))) turned)
          | false ↦ λ e. none_elsewhere (place + 1) (keys_of (place + 1)) (chunk each place rows) q (owned (place + 1)) (λ is. grind (arith, nat_tests))
        ] refl
        ∙ ap (λ r. cond (is_of (place + 1) (own q)) r None) (sym (get-from_entries o (zip keys rows) q))
        ∙ sym (get-part o a (from_entries (zip keys rows)) (λ key. is_of (place + 1) (own key)) q))

    -- the next part's rows, at their keys behind those of the parts before it
    pub one_part_more : (table : Database → FinMap R X) (before : List Part) (p : Part) (n : ℕ) (rows more : List X) → length rows ≡ n * each → p.home ≡ n + 1
        → table p.tables ≡ from_entries (zip (keys_of (n + 1)) more)
        → from_entries {R = R} (zip (keys_from keys_of 1 n) rows) ≡ rows_of_all own table before
        → from_entries {R = R} (zip (keys_from keys_of 1 (n + 1)) (rows ++ more)) ≡ rows_of_all own table (before ++ p ∷ [])
    one_part_more table before p n rows more even home is so_far = same_map o a _ _ (λ q.
        let next : 1 + n ≡ n + 1 = omega arith in
        let keys : keys_from keys_of 1 (n + 1) ≡ keys_from keys_of 1 n ++ keys_of (n + 1) =
        ap (flat_map keys_of) (range_more 1 n) ∙ flat_map-append keys_of (range_with_len 1 n) ((1 + n) ∷ []) ∙ ap (λ l. keys_from keys_of 1 n ++ l) (append-nil (keys_of (1 + n)) ∙ ap keys_of next) in
        let at_part : cond (is_of p.home (own q)) (get (table p.tables) q) None ≡ find R q (zip (keys_of (n + 1)) more) =
        ap (λ r. cond (is_of p.home (own q)) r None) (ap (λ m. get m q) is ∙ get-from_entries o (zip (keys_of (n + 1)) more) q)
        ∙ apart p.home (own q) (find R q (zip (keys_of (n + 1)) more)) (λ other. none_elsewhere (n + 1) (keys_of (n + 1)) more q (owned (n + 1)) (λ e. other (e ∙ sym home))) in
        get-from_entries o (zip (keys_from keys_of 1 (n + 1)) (rows ++ more)) q
        ∙ ap (λ ks. find R q (zip ks (rows ++ more))) keys
        ∙ ap (find R q) (zip-append (keys_from keys_of 1 n) (keys_of (n + 1)) rows more (even ∙ sym (length-keys_from keys_of each long 1 n)))
        ∙ find-append R q (zip (keys_from keys_of 1 n) rows) (zip (keys_of (n + 1)) more)
        ∙ ap (λ r. option_or r (find R q (zip (keys_of (n + 1)) more))) (sym (get-from_entries o (zip (keys_from keys_of 1 n) rows) q) ∙ ap (λ m. get m q) so_far)
        ∙ ap (option_or (get (rows_of_all own table before) q)) (sym at_part)
        ∙ sym (get-whole_more o a own table before p q))

  -- a warehouse's entries are its part of the table
  pub entries_part : (place : ℕ) (es : List (K × X)) → from_entries {R = R} (entries_at own place es) ≡ retain_keys (from_entries es) (λ key. is_of (place + 1) (own key))
  entries_part place es = same_map o a _ _ (λ q.
      get-from_entries o (entries_at own place es) q
      ∙ find-where_key R (λ key. is_of (place + 1) (own key)) q (λ x e. ap (λ k. is_of (place + 1) (own k)) (sym (a q x e))) es
      ∙ ap (λ r. cond (is_of (place + 1) (own q)) r None) (sym (get-from_entries o es q))
      ∙ sym (get-part o a (from_entries es) (λ key. is_of (place + 1) (own key)) q))
