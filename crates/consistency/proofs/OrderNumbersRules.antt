-- The numbers from 1 on, and the districts of a scale.
use Rattle.std.proofs.Common.{◌≡◌, ℕ, suc, ◌+◌, ◌-◌, ◌<◌, ◌≤◌, Bool, IsTrue, IsFalse, is_some, MatchBool, ◌==◌, ◌↔◌, ◌&&◌, slice_index_or, true, false, List, ◌∷◌, length, Option, Some, None, refl, sym, ap, subst, ◌∙◌, arith}
use Rattle.std.specs.List.{range_with_len, AllWithin, HoldsAt}
use Rattle.std.specs.declared.ops.RangeInclusive.{RangeInclusive}
use Rattle.std.specs.Range.{range_inclusive_start, range_inclusive_end, range_inclusive_exhausted, range_inclusive_left, range_inclusive_len, range_inclusive_steps}
use Rattle.std.proofs.lemmas.Iterator.{YieldsList}
use Rattle.std.proofs.lemmas.Iterator.Consumers.{YieldsList-from_shown}
use Rattle.std.proofs.lemmas.List.FromFn.{length-range_with_len, get_or-range_with_len}
use Rattle.std.proofs.lemmas.Bool.Decides.{nat_tests}
use Rattle.std.specs.FinMap as map
use Rattle.rows.specs.Ranged.{is_between}
use Rattle.rows.specs.declared.keys.DistrictKey.{DistrictKey}
use Rattle.rows.specs.declared.records.District.{District}
use Rattle.schema.specs.Scale.{has_district}
use Rattle.schema.specs.Database.{Database, IsWithinScale}
use Rattle.consistency.specs.OrderNumbers.{OfRow}

-- ---- what a range that includes its end gives

abbrev steps : RangeInclusive ℕ → Option ℕ → RangeInclusive ℕ → Type 0
steps = range_inclusive_steps (λ x y. y - x) (λ x y. y ≡ x + 1)

abbrev left : RangeInclusive ℕ → ℕ
left s = range_inclusive_left (λ x y. y - x) s

abbrev shown : RangeInclusive ℕ → List ℕ
shown s = range_with_len (range_inclusive_start s) (left s)

none_left : (s t : RangeInclusive ℕ) → steps s None t → length (shown s) ≡ 0
none_left s t h = length-range_with_len (range_inclusive_start s) (left s) ∙ h.1.0

rest_shown : (a b : ℕ) (gone : Bool) (x n : ℕ) → n ≡ range_inclusive_len (λ x y. y - x) a b gone → (gone ≡ false → a ≡ x + 1) → range_with_len (x + 1) n ≡ range_with_len a n
rest_shown a b true x n is follows = rw is refl
rest_shown a b false x n is follows = ap (λ k. range_with_len k n) (sym (follows refl))

one_shown : (s : RangeInclusive ℕ) (x : ℕ) (t : RangeInclusive ℕ) → steps s (Some x) t → shown s ≡ x ∷ shown t
one_shown s x t h =
    let more : left s ≡ suc (left t) = omega (arith, h.1.1) in
    ap (range_with_len (range_inclusive_start s)) more
    ∙ ap (λ k. k ∷ range_with_len (range_inclusive_start s + 1) (left t)) (sym h.1.0)
    ∙ ap (λ l. x ∷ l) (rest_shown (range_inclusive_start t) (range_inclusive_end t) (range_inclusive_exhausted t) (range_inclusive_start s) (left t) refl h.1.2)

all_left : (a b : ℕ) (gone : Bool) (top : ℕ) → a ≡ 1 → b ≡ top → gone ≡ false → range_inclusive_len (λ x y. y - x) a b gone ≡ top
all_left a b true top first last new = cc
all_left a b false top first last new = omega arith

pub YieldsList-from_inclusive : (s : RangeInclusive ℕ) (top : ℕ) → range_inclusive_start s ≡ 1 → range_inclusive_end s ≡ top → range_inclusive_exhausted s ≡ false
    → YieldsList steps (λ x. x) s (range_with_len 1 top)
YieldsList-from_inclusive s top first last new =
    subst (YieldsList steps (λ x. x) s)
    (ap (λ a. range_with_len a (left s)) first ∙ ap (range_with_len 1) (all_left (range_inclusive_start s) (range_inclusive_end s) (range_inclusive_exhausted s) top first last new))
    (YieldsList-from_shown steps (λ x. x) shown none_left one_shown s)

-- ---- what holds of each number

-- what `all` found of each number from 1 to top
pub passed_each : (P : ℕ → Type 0) (top : ℕ) (r : Bool)
    → MatchBool r (AllWithin P (range_with_len 1 top) 0 (length (range_with_len 1 top))) ((k : ℕ) × (k < length (range_with_len 1 top)) × HoldsAt (λ _. Unit {0}) (range_with_len 1 top) k)
    → IsTrue r → (n : ℕ) → IsTrue (is_between 1 top n) → P n
passed_each P top false h is = absurd cc
passed_each P top true h is = λ n inside.
    let within : (1 ≤ n) × (n ≤ top) = grind (arith, nat_tests) in
    let place : n - 1 < length (range_with_len 1 top) = omega (arith, length-range_with_len 1 top) in
    let here : slice_index_or (range_with_len 1 top) (n - 1) 0 ≡ n = get_or-range_with_len 1 top (n - 1) 0 (omega arith) ∙ omega arith in
    subst P here (h (n - 1) 0 (omega arith) place)

pub left_half : (b c : Bool) → IsTrue (b && c) → IsTrue b
left_half true c h = refl
left_half false c h = h

pub right_half : (b c : Bool) → IsTrue (b && c) → IsTrue c
right_half true c h = h
right_half false c h = absurd cc

pub same_number : (a b : ℕ) → IsTrue (a == b) ↔ (a ≡ b)
same_number a b = (λ h. grind (arith, nat_tests), λ h. grind (arith, nat_tests))

-- ---- what holds of each district

-- a test of each district of the scale is a test of each row of DISTRICT
pub districts_rule : (t : Database) → IsWithinScale t → (holds : DistrictKey → District → Type 0) (r : Bool)
    → (IsTrue r → (home : DistrictKey) → IsTrue (has_district t.scale home) → OfRow t home (holds home))
    → (IsFalse r → (home : DistrictKey) × IsTrue (has_district t.scale home) × ¬ OfRow t home (holds home))
    → IsTrue r ↔ ((home : DistrictKey) (row : District) → map.get t.districts home ≡ Some row → holds home row)
districts_rule t within holds r passed failed = (
  λ is home row found. passed is home (sym (within.districts home) ∙ ap is_some found) row found,
  λ h. elim r as (λ b. (IsFalse b → (home : DistrictKey) × IsTrue (has_district t.scale home) × ¬ OfRow t home (holds home)) → IsTrue b) [
    | true ↦ λ f. refl
    | false ↦ λ f. let bad = f refl in absurd (bad.2 (h bad.0))
  ] failed,
)

-- what holds of the district's row, where it is known
pub of_row : (t : Database) (home : DistrictKey) (there : District) → Some there ≡ map.get t.districts home → (holds : District → Type 0) → OfRow t home holds ↔ holds there
of_row t home there is holds = (λ h. h there (sym is), λ h row found. let same : there ≡ row = cc in subst holds same h)

-- a district of the scale has a row
row_there : (t : Database) → IsWithinScale t → (home : DistrictKey) → IsTrue (has_district t.scale home) → (row : District) × (map.get t.districts home ≡ Some row)
row_there t within home inside =
    elim (map.get t.districts home) as (λ r. IsTrue (is_some r) → (row : District) × (r ≡ Some row)) [
      | None ↦ λ h. absurd cc
      | Some row ↦ λ h. (row, refl)
    ] (within.districts home ∙ inside)

-- the same test, where it doesn't read the row
pub districts_only_rule : (t : Database) → IsWithinScale t → (holds : DistrictKey → Type 0) (r : Bool)
    → (IsTrue r → (home : DistrictKey) → IsTrue (has_district t.scale home) → holds home)
    → (IsFalse r → (home : DistrictKey) × IsTrue (has_district t.scale home) × ¬ holds home)
    → IsTrue r ↔ ((home : DistrictKey) (row : District) → map.get t.districts home ≡ Some row → holds home)
districts_only_rule t within holds r passed failed =
    districts_rule t within (λ home _. holds home) r
    (λ is home inside row found. passed is home inside)
    (λ is. let bad = failed is in let there = row_there t within bad.0 bad.1 in (bad.0, bad.1, λ h. bad.2 (h there.0 there.1)))
