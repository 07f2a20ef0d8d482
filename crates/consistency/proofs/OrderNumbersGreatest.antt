-- The greatest and the least of a district's numbers, against what iterators find.
use Rattle.std.proofs.Common.{◌≡◌, ◌≢◌, ◌↔◌, ◌==◌, ℕ, ◌+◌, ◌-◌, ◌≤◌, Bool, List, [], ◌∷◌, length, max, min, Option, Some, None, MatchOption, IsTrue, refl, sym, ap, subst, ◌∙◌, arith, unwrap_or}
use Rattle.std.specs.List.{reduce, fold}
use Rattle.rows.specs.declared.keys.OrderKey.{OrderKey}
use Rattle.std.specs.FinMap as map
use Rattle.rows.specs.declared.keys.DistrictKey.{DistrictKey}
use Rattle.rows.specs.declared.records.District.{District}
use Rattle.schema.specs.Database.{Database}
use Rattle.schema.specs.Consistency.{orders_of, new_orders_of, numbers, greatest, least}
use Rattle.schema.specs.Consistency.{NextOrderFollows}
use Rattle.consistency.specs.OrderNumbers.{OfRow}
use Rattle.consistency.proofs.OrderNumbersRules.{same_number, of_row}

greatest_of_fold : (n : ℕ) (ns : List ℕ) → fold max n ns ≡ max n (greatest ns)
greatest_of_fold n [] = omega arith
greatest_of_fold n (m ∷ ms) = greatest_of_fold (max n m) ms ∙ omega arith

pub greatest_of_reduce : (ns : List ℕ) → unwrap_or (reduce max ns) 0 ≡ greatest ns
greatest_of_reduce [] = refl
greatest_of_reduce (n ∷ ns) = greatest_of_fold n ns

pub least_of_fold : (n : ℕ) (ns : List ℕ) → fold min n ns ≡ least n ns
least_of_fold n [] = refl
least_of_fold n (m ∷ ms) = least_of_fold (min n m) ms

-- the next number follows the greatest, or is the first where there are none
pub follows_orders : (ns : List ℕ) (r : Option ℕ) (next : ℕ) → 1 ≤ next → r ≡ reduce max ns → IsTrue (unwrap_or r 0 == next - 1) ↔ (next ≡ greatest ns + 1)
follows_orders ns r next some is =
    let found : unwrap_or r 0 ≡ greatest ns = ap (λ o. unwrap_or o 0) is ∙ greatest_of_reduce ns in
    let same = same_number (unwrap_or r 0) (next - 1) in
    (λ h. let e : unwrap_or r 0 ≡ next - 1 = same.0 h in omega arith, λ h. same.1 (omega (arith, h)))

-- the next number follows the greatest, where there is one
pub follows_new_orders : {X : Type 0} (rows : List (OrderKey × X)) (r : Option ℕ) (next : ℕ) (b : Bool) → 1 ≤ next → r ≡ reduce max (numbers rows)
    → MatchOption r (IsTrue b) (λ n. b ≡ (n == next - 1)) → IsTrue b ↔ (rows ≢ [] → next ≡ greatest (numbers rows) + 1)
follows_new_orders [] None next b some is h = (λ _ any. absurd (any refl), λ _. h)
follows_new_orders [] (Some n) next b some is h = absurd cc
follows_new_orders (row ∷ rows) None next b some is h = absurd cc
follows_new_orders (row ∷ rows) (Some n) next b some is h =
    let found : n ≡ greatest (numbers (row ∷ rows)) = ap (λ o. unwrap_or o 0) is ∙ greatest_of_reduce (numbers (row ∷ rows)) in
    let same = same_number n (next - 1) in (
      λ t _. let e : n ≡ next - 1 = same.0 (sym h ∙ t) in omega arith,
      λ f. let e : next ≡ greatest (numbers (row ∷ rows)) + 1 = f (λ e. absurd cc) in h ∙ same.1 (omega arith),
    )

module _ (t : Database) (home : DistrictKey) (there : District) (known : Some there ≡ map.get t.districts home) (next : ℕ) (is : next ≡ there.next_o_id) (known_some : 1 ≤ there.next_o_id)
    (order : Option ℕ) (of_orders : order ≡ reduce max (numbers (orders_of t home))) where
  -- the first part of the condition holds, and the second is tested
  pub next_rule : (new_order : Option ℕ) → new_order ≡ reduce max (numbers (new_orders_of t home)) → unwrap_or order 0 ≡ next - 1
      → (b : Bool) → MatchOption new_order (IsTrue b) (λ n. b ≡ (n == next - 1)) → IsTrue b ↔ OfRow t home (NextOrderFollows t home)
  next_rule new_order of_new_orders last b tested =
      let row = of_row t home there known (NextOrderFollows t home) in
      let some : 1 ≤ next = omega arith in
      let new = follows_new_orders (new_orders_of t home) new_order next b some of_new_orders tested in
      let first : there.next_o_id ≡ greatest (numbers (orders_of t home)) + 1 = sym is ∙ (follows_orders (numbers (orders_of t home)) order next some of_orders).0 ((same_number _ _).1 last) in
      (λ h. row.1 (first, λ any. sym is ∙ new.0 h any), λ h. new.1 (λ any. is ∙ (row.0 h).1 any))

  -- or the first part fails
  pub next_fails : (last : ℕ) → last ≡ unwrap_or order 0 → (last ≡ next - 1 → ⊥) → IsTrue (last == next - 1) ↔ OfRow t home (NextOrderFollows t home)
  next_fails last found other =
      let row = of_row t home there known (NextOrderFollows t home) in
      let some : 1 ≤ next = omega arith in (
        λ h. absurd (other ((same_number last (next - 1)).0 h)),
        λ h. absurd (other (found ∙ (same_number _ _).0 ((follows_orders (numbers (orders_of t home)) order next some of_orders).1 (is ∙ (row.0 h).0)))),
      )

-- ---- numbers without a gap

abbrev no_gap : List ℕ → Type 0
no_gap [] = Unit {0}
no_gap (n ∷ ns) = greatest (n ∷ ns) + 1 ≡ least n ns + length (n ∷ ns)

no_gap_at : (ns : List ℕ) → no_gap ns ↔ ((first : ℕ) (others : List ℕ) → ns ≡ first ∷ others → greatest (first ∷ others) + 1 ≡ least first others + length (first ∷ others))
no_gap_at [] = (λ h first others e. absurd cc, λ h. tt)
no_gap_at (n ∷ ns) = (λ h first others e. subst no_gap e h, λ h. h n ns refl)

-- the greatest, the least and the count of a list that is not empty determine whether it has a gap
pub gap_rule : (ns : List ℕ) (g l count : ℕ) → Some g ≡ reduce max ns → Some l ≡ reduce min ns → count ≡ length ns
    → IsTrue (g + 1 == l + count) ↔ ((first : ℕ) (others : List ℕ) → ns ≡ first ∷ others → greatest (first ∷ others) + 1 ≡ least first others + length (first ∷ others))
gap_rule [] g l count is_g is_l is = absurd cc
gap_rule (n ∷ ns) g l count is_g is_l is =
    let top : g ≡ greatest (n ∷ ns) = ap (λ o. unwrap_or o 0) is_g ∙ greatest_of_reduce (n ∷ ns) in
    let bottom : l ≡ least n ns = ap (λ o. unwrap_or o 0) is_l ∙ least_of_fold n ns in
    let same = same_number (g + 1) (l + count) in
    let here = no_gap_at (n ∷ ns) in (
      λ h. here.0 (let e : g + 1 ≡ l + count = same.0 h in omega arith),
      λ h. same.1 (let e : greatest (n ∷ ns) + 1 ≡ least n ns + length (n ∷ ns) = here.1 h in omega arith),
    )
