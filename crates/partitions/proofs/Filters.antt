-- Entries of all warehouses, of which those of the last are split off.
use Rattle.std.proofs.Common.{◌≡◌, ℕ, zero, suc, ◌+◌, ◌-◌, ◌≤◌, Bool, true, false, cond, ◌&&◌, nat_le, nat_lt, List, [], ◌∷◌, refl, ap, ◌∙◌, arith}
use Rattle.std.specs.List.{filter}
use Rattle.std.proofs.lemmas.Bool.Decides.{nat_tests}
use Rattle.partitions.specs.Parts.{is_of}
use Rattle.partitions.specs.Splits.{entries_at, AreOfWarehouses}

filter_twice : {X : Type 0} (p q r : X → Bool) (xs : List X) → ((x : X) → (q x && p x) ≡ r x) → filter p (filter q xs) ≡ filter r xs
filter_twice p q r [] h = refl
filter_twice p q r (x ∷ xs) h =
    let rest : filter p (filter q xs) ≡ filter r xs = filter_twice p q r xs h in
    elim (q x) as (λ b. (b && p x) ≡ r x → filter p (cond b (x ∷ filter q xs) (filter q xs)) ≡ cond (r x) (x ∷ filter r xs) (filter r xs)) [
      | true ↦ λ e. rw (← e) (elim (p x) as (λ b. cond b (x ∷ filter p (filter q xs)) (filter p (filter q xs)) ≡ cond b (x ∷ filter r xs) (filter r xs)) [ true ↦ ap (λ l. x ∷ l) rest | false ↦ rest ])
      | false ↦ λ e. rw (← e) rest
    ] (h x)

module _ {K X : Type 0} (own : K → ℕ) where
  -- all are of the warehouses up to the last
  pub all_up_to : (many : ℕ) (rows : List (K × X)) → AreOfWarehouses own many rows → filter (λ e. nat_le (own e.0) many) rows ≡ rows
  all_up_to many [] h = refl
  all_up_to many (e ∷ es) h =
      let here = h zero e (omega arith) in
      let high : own e.0 ≤ many = here.1 in
      let passes : nat_le (own e.0) many ≡ true = grind (arith, nat_tests) in
      rw passes (ap (λ l. e ∷ l) (all_up_to many es (λ k d l. h (suc k) d (omega arith))))

  -- of those up to the first there are only those of the first
  pub first_left : (many : ℕ) (rows : List (K × X)) → AreOfWarehouses own many rows → filter (λ e. nat_le (own e.0) 1) rows ≡ entries_at own 0 rows
  first_left many [] h = refl
  first_left many (e ∷ es) h =
      let here = h zero e (omega arith) in
      let low : 1 ≤ own e.0 = here.0 in
      let passes : nat_le (own e.0) 1 ≡ is_of (0 + 1) (own e.0) = grind (arith, nat_tests) in
      let rest : filter (λ e. nat_le (own e.0) 1) es ≡ entries_at own 0 es = first_left many es (λ k d l. h (suc k) d (omega arith)) in
      ap (λ b. cond b (e ∷ filter (λ e. nat_le (own e.0) 1) es) (filter (λ e. nat_le (own e.0) 1) es)) passes
      ∙ ap (λ l. cond (is_of (0 + 1) (own e.0)) (e ∷ l) l) rest

  -- from a warehouse on, of those up to it: its own
  pub last_split : (w : ℕ) (rows : List (K × X)) → 1 ≤ w → filter (λ e. nat_le w (own e.0)) (filter (λ e. nat_le (own e.0) w) rows) ≡ entries_at own (w - 1) rows
  last_split w rows low =
      filter_twice (λ e. nat_le w (own e.0)) (λ e. nat_le (own e.0) w) (λ e. is_of (w - 1 + 1) (own e.0)) rows (λ e.
      let records : (nat_le (own e.0) w && nat_le w (own e.0)) ≡ is_of (w - 1 + 1) (own e.0) = grind (arith, nat_tests) in records)

  -- and before it: those of the others
  pub others_left : (w : ℕ) (rows : List (K × X)) → 1 ≤ w → filter (λ e. nat_lt (own e.0) w) (filter (λ e. nat_le (own e.0) w) rows) ≡ filter (λ e. nat_le (own e.0) (w - 1)) rows
  others_left w rows low =
      filter_twice (λ e. nat_lt (own e.0) w) (λ e. nat_le (own e.0) w) (λ e. nat_le (own e.0) (w - 1)) rows (λ e.
      let records : (nat_le (own e.0) w && nat_lt (own e.0) w) ≡ nat_le (own e.0) (w - 1) = grind (arith, nat_tests) in records)
