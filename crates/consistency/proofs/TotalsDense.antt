-- Tables whose rows are in key order: what holds for each row, and the sums over the rows.
use Rattle.std.proofs.Common.{◌≡◌, ◌↔◌, ℕ, zero, suc, ◌<◌, true, false, cond, List, [], ◌∷◌, length, Option, Some, None, refl, sym, ap, subst, ◌∙◌, arith}
use Rattle.std.proofs.lemmas.Int.{ints}
use Rattle.std.proofs.lemmas.Option.{slice_get_within}
use Rattle.std.specs.Prelude.{ℤ, pos, ◌+ℤ◌}
use Rattle.std.specs.List.{zip, slice_get}
use Rattle.std.specs.List.Sorted.{IsStrictlySortedBy}
use Rattle.std.specs.Option.{option_map, option_and_then}
use Rattle.std.specs.declared.cmp.Ordering.{Ordering}
use Rattle.std.specs.declared.cmp.Ordering.TheVariants.{Less, Equal, Greater}
use Rattle.std.specs.Ordering.{eq_by_cmp, is_eq}
use Rattle.std.specs.Cmp.{IsTotalOrder, eq_by_cmp_equiv}
use Rattle.std.specs.FinMap.{get, insert, from_entries, IsAntisymmetric}
use Rattle.schema.specs.Dense.{place}
use Rattle.schema.specs.Sums.{sum_entries, weight_at, sum_rows}
use Rattle.schema.proofs.Places.{get-dense, place-within}
use Rattle.schema.proofs.OrderedParts.{entries-ordered}
use Rattle.schema.proofs.TableSums.{sum_rows-insert}

is_equal : (r : Ordering) → is_eq r ≡ true → r ≡ Equal
is_equal Less h = cc
is_equal Equal h = refl
is_equal Greater h = cc

some_suc : (r : Option ℕ) (n : ℕ) → option_map (λ m. suc m) r ≡ Some n → (m : ℕ) × (r ≡ Some m) × (n ≡ suc m)
some_suc None n h = absurd cc
some_suc (Some m) n h = (m, refl, cc)

no_entries : {K : Type 0} (R : K → K → Ordering) → IsStrictlySortedBy R []
unfolding IsStrictlySortedBy
no_entries R = tt

module _ {K : Type 0} {R : K → K → Ordering} (o : IsTotalOrder R) (a : IsAntisymmetric R) where
  behind : (q k : K) (ks : List K) (n : ℕ) → place (eq_by_cmp R q) (k ∷ ks) ≡ Some (suc n) → (eq_by_cmp R q k ≡ false) × (place (eq_by_cmp R q) ks ≡ Some n)
  behind q k ks n h =
      elim (eq_by_cmp R q k) as (λ b. cond b (Some 0) (option_map (λ m. suc m) (place (eq_by_cmp R q) ks)) ≡ Some (suc n) → (b ≡ false) × (place (eq_by_cmp R q) ks ≡ Some n)) [
        | true ↦ λ e. let z : 0 ≡ suc n = cc in absurd (omega arith)
        | false ↦ λ e.
            let s = some_suc (place (eq_by_cmp R q) ks) (suc n) e in
            let same : s.0 ≡ n = let is : suc n ≡ suc s.0 = s.2 in omega arith in
            (refl, s.1 ∙ ap Some same)
      ] h

  foremost : (q k : K) (ks : List K) → place (eq_by_cmp R q) (k ∷ ks) ≡ Some 0 → q ≡ k
  foremost q k ks h =
      elim (eq_by_cmp R q k) as (λ b. eq_by_cmp R q k ≡ b → cond b (Some 0) (option_map (λ m. suc m) (place (eq_by_cmp R q) ks)) ≡ Some 0 → q ≡ k) [
        | true ↦ λ t e. a q k (is_equal _ t)
        | false ↦ λ t e. let s = some_suc (place (eq_by_cmp R q) ks) 0 e in let is : 0 ≡ suc s.0 = s.2 in absurd (omega arith)
      ] refl h

  -- keys at the same index are equal
  pub place-exact : (p q : K) (ks : List K) (n : ℕ) → place (eq_by_cmp R p) ks ≡ Some n → place (eq_by_cmp R q) ks ≡ Some n → p ≡ q
  place-exact p q [] n h g = absurd cc
  place-exact p q (k ∷ ks) zero h g = foremost p k ks h ∙ sym (foremost q k ks g)
  place-exact p q (k ∷ ks) (suc n) h g = place-exact p q ks n (behind p k ks n h).1 (behind q k ks n g).1

  -- if each index has its own key, the first key does not occur again
  stands_once : (k : K) (ks : List K) (key_at : ℕ → K) → ((n : ℕ) → n < length (k ∷ ks) → place (eq_by_cmp R (key_at n)) (k ∷ ks) ≡ Some n)
      → place (eq_by_cmp R k) ks ≡ None
  stands_once k ks key_at placed =
      elim (place (eq_by_cmp R k) ks) as (λ r. place (eq_by_cmp R k) ks ≡ r → r ≡ None) [
        | None ↦ λ e. refl
        | Some n ↦ λ e.
            let below : n < length ks = place-within (eq_by_cmp R k) ks n e in
            let there = behind (key_at (suc n)) k ks n (placed (suc n) (omega arith)) in
            let same : key_at (suc n) ≡ k = place-exact (key_at (suc n)) k ks n there.1 e in
            let itself : eq_by_cmp R k k ≡ true = (eq_by_cmp_equiv o).refl k in
            let apart : eq_by_cmp R k k ≡ false = ap (λ q. eq_by_cmp R q k) (sym same) ∙ there.0 in
            absurd cc
      ] refl

  -- what holds of each row of the table, holds at each place
  pub each-dense : {X : Type 0} (P : K → X → Type 0) (ks : List K) (xs : List X) → length xs ≡ length ks
      → (key_at : ℕ → K) → ((n : ℕ) → n < length ks → place (eq_by_cmp R (key_at n)) ks ≡ Some n)
      → ((key : K) (row : X) → get (from_entries {R = R} (zip ks xs)) key ≡ Some row → P key row) ↔ ((n : ℕ) (row : X) → slice_get xs n ≡ Some row → P (key_at n) row)
  each-dense P ks xs even key_at placed = (
    λ h n row e.
        let below : n < length xs = slice_get_within xs n row e in
        h (key_at n) row (get-dense o a ks xs (key_at n) ∙ ap (option_and_then (slice_get xs)) (placed n (omega arith)) ∙ e),
    λ h key row found.
        elim (place (eq_by_cmp R key) ks) as (λ r. place (eq_by_cmp R key) ks ≡ r → option_and_then (slice_get xs) r ≡ Some row → P key row) [
          | None ↦ λ e there. absurd cc
          | Some n ↦ λ e there.
              let below : n < length ks = place-within (eq_by_cmp R key) ks n e in
              subst (λ k. P k row) (place-exact (key_at n) key ks n (placed n below) e) (h n row there)
        ] refl (sym (get-dense o a ks xs key) ∙ found),
  )

  -- the sum over the table is that over the rows in their order
  pub sum-dense : {X : Type 0} (w : K → X → ℤ) (ks : List K) (xs : List X)
      → (key_at : ℕ → K) → ((n : ℕ) → n < length ks → place (eq_by_cmp R (key_at n)) ks ≡ Some n)
      → sum_rows w (from_entries {R = R} (zip ks xs)) ≡ sum_entries w (zip ks xs)
  sum-dense w [] xs key_at placed = ap (sum_entries w) (entries-ordered o [] (no_entries R))
  sum-dense w (k ∷ ks) [] key_at placed = ap (sum_entries w) (entries-ordered o [] (no_entries R))
  sum-dense w (k ∷ ks) (x ∷ xs) key_at placed =
      let others = from_entries {R = R} (zip ks xs) in
      let rest : sum_rows w others ≡ sum_entries w (zip ks xs) =
      sum-dense w ks xs (λ n. key_at (suc n)) (λ n below. (behind (key_at (suc n)) k ks n (placed (suc n) (omega arith))).1) in
      let fresh : get others k ≡ None = get-dense o a ks xs k ∙ ap (option_and_then (slice_get xs)) (stands_once k ks key_at placed) in
      let nothing : weight_at w k (get others k) ≡ pos 0 = ap (weight_at w k) fresh in
      let put : (sum_rows w (insert others k x) +ℤ weight_at w k (get others k)) ≡ (sum_rows w others +ℤ w k x) = sum_rows-insert o a w others k x in
      let all : sum_rows w (insert others k x) ≡ (w k x +ℤ sum_entries w (zip ks xs)) = omega (arith, ints) in
      all
