-- The places of a completion meeting report one after another.
use Rattle.std.proofs.Common.{◌≡◌, ◌≤◌, ◌+◌, ◌-◌, ◌++◌, ℕ, zero, suc, List, [], ◌∷◌, Option, Some, None, length, replicate, refl, sym, ap, ◌∙◌, arith, slice_get, slice_set}
use Rattle.rendezvous.specs.Awaited.{awaited_from}
use Rattle.world.specs.Completions.{AwaitsFrom}
use Rattle.world.specs.declared.desk.Active.TheVariants.{Ending}
use Rattle.world.specs.Following.{ending}

abbrev pub reported_to : ℕ → ℕ → List (Option (Unit {0}))
reported_to next left = replicate next (Some tt) ++ replicate left None

-- the next place has not reported
next_waits : (next left : ℕ) → slice_get (reported_to next (suc left)) next ≡ Some None
next_waits zero left = refl
next_waits (suc next) left = next_waits next left

-- then one more has
next_reports : (next left : ℕ) → slice_set (reported_to next (suc left)) next (Some tt) ≡ reported_to (suc next) left
next_reports zero left = refl
next_reports (suc next) left = ap (λ l. Some tt ∷ l) (next_reports next left)

-- as many are awaited as have not reported
awaited_are : (n next left : ℕ) → length (awaited_from n (reported_to next left)) ≡ left
awaited_are n zero zero = refl
awaited_are n zero (suc left) = ap suc (awaited_are (n + 1) zero left)
awaited_are n (suc next) left = awaited_are (n + 1) next left

at_least_one : (n : ℕ) (l : List ℕ) → length l ≡ n → (l ≡ [] → ⊥) → 1 ≤ n
at_least_one n [] long some = absurd (some refl)
at_least_one n (x ∷ l) long some = omega (arith, long)

module _ (next left : ℕ) (reports : List (Option (Unit {0}))) (has : AwaitsFrom next left reports) where
  one_more : suc (left - 1) ≡ left
  one_more = omega (arith, has.some)

  are : reports ≡ reported_to next (suc (left - 1))
  are = has.reports_are ∙ ap (reported_to next) (sym one_more)

  pub waits_next : slice_get reports next ≡ Some None
  waits_next = ap (λ (l : List (Option (Unit {0}))). slice_get l next) are ∙ next_waits next (left - 1)

  pub reported_next : slice_set reports next (Some tt) ≡ reported_to (next + 1) (left - 1)
  reported_next =
      let later : suc next ≡ next + 1 = omega arith in
      ap (λ (l : List (Option (Unit {0}))). slice_set l next (Some tt)) are ∙ next_reports next (left - 1) ∙ ap (λ (n : ℕ). reported_to n (left - 1)) later

  pub awaited_next : length (awaited_from 0 (slice_set reports next (Some tt))) ≡ left - 1
  awaited_next = ap (λ (l : List (Option (Unit {0}))). length (awaited_from 0 l)) reported_next ∙ awaited_are 0 (next + 1) (left - 1)

  -- where another one is awaited, one is left
  pub another_left : (awaited_from 0 (slice_set reports next (Some tt)) ≡ [] → ⊥) → 1 ≤ left - 1
  another_left = at_least_one (left - 1) (awaited_from 0 (slice_set reports next (Some tt))) awaited_next

  -- else none is
  pub none_left : awaited_from 0 (slice_set reports next (Some tt)) ≡ [] → left - 1 ≡ 0
  none_left none = sym awaited_next ∙ ap (λ (l : List ℕ). length l) none

  -- what is kept once it has reported, if it was not the last
  pub awaits_then : (after : List (Option (Unit {0}))) → after ≡ slice_set reports next (Some tt) → (awaited_from 0 (slice_set reports next (Some tt)) ≡ [] → ⊥) → AwaitsFrom (next + 1) (left - 1) after
  awaits_then after is more = record { some = another_left more; few = omega (arith, has.some, has.few); reports_are = is ∙ reported_next }

module _ {J : Type 0} where
  -- with one left or more the transaction is active
  pub still_active : (left : ℕ) → 1 ≤ left → ending {J = J} left ≡ Some (Ending left)
  still_active zero some = absurd (omega (arith, some))
  still_active (suc left) some = refl
