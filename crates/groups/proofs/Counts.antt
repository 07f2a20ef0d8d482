-- How often a test holds among the groups of wants.
use Rattle.std.proofs.Common.{◌≡◌, ℕ, zero, suc, ◌+◌, ◌<◌, ◌≤◌, Bool, true, false, cond, ◌&&◌, ◌==◌, List, ◌∷◌, ◌++◌, map, count_by, refl, ap, ◌∙◌, arith}
use Rattle.std.specs.List.{range_with_len}
use Rattle.std.proofs.lemmas.Bool.Decides.{nat_tests}
use Rattle.std.proofs.lemmas.List.{map-append}
use Rattle.std.proofs.lemmas.List.Sums.{sum_by-cons, sum_by-append}
use Rattle.requests.specs.declared.group.Group.{Group}
use Rattle.groups.specs.declared.group_wants.GroupWant.{GroupWant}
use Rattle.groups.specs.Footprint.{groups_of}

abbrev pub one : Bool → ℕ
one b = cond b 1 0

pub one-le : (b : Bool) → one b ≤ 1
one-le true = omega arith
one-le false = omega arith

pub one-neither : (b : Bool) → one (b && false) ≡ 0
one-neither true = refl
one-neither false = refl

pub count-cons : (p : Group → Bool) (group : Group) (groups : List Group) → count_by p (group ∷ groups) ≡ one (p group) + count_by p groups
count-cons p group groups = sum_by-cons (λ g. one (p g)) group groups

pub count-append : (p : Group → Bool) (xs ys : List GroupWant) → count_by p (groups_of (xs ++ ys)) ≡ count_by p (groups_of xs) + count_by p (groups_of ys)
count-append p xs ys = ap (count_by p) (map-append (λ (group_want : GroupWant). group_want.group) xs ys) ∙ sum_by-append (λ g. one (p g)) (groups_of xs) (groups_of ys)

-- ---- wants that are numbered on end

module _ (group_want : ℕ → GroupWant) (p : Group → Bool) where
  -- how many of so many, from a number on, pass the test
  abbrev pub count_from : ℕ → ℕ → ℕ
  count_from from count = count_by p (groups_of (map group_want (range_with_len from count)))

  step : (from count : ℕ) → count_from from (suc count) ≡ one (p (group_want from).group) + count_from (from + 1) count
  step from count = count-cons p (group_want from).group (groups_of (map group_want (range_with_len (from + 1) count)))

  -- a test that none of them passes
  pub none_passes : ((number : ℕ) → p (group_want number).group ≡ false) → (from count : ℕ) → count_from from count ≡ 0
  none_passes none from zero = refl
  none_passes none from (suc count) =
      let here : one (p (group_want from).group) ≡ 0 = ap one (none from) in
      omega (arith, step from count, here, none_passes none (from + 1) count)

  -- a test that only one number can pass
  module _ (own : ℕ) (apart : (number : ℕ) → (own == number) ≡ false → one (p (group_want number).group) ≡ 0) where
    past : (from count : ℕ) → own < from → count_from from count ≡ 0
    past from zero below = refl
    past from (suc count) below =
        let here : one (p (group_want from).group) ≡ 0 = apart from (grind (arith, nat_tests)) in
        omega (arith, step from count, here, past (from + 1) count (omega arith))

    pub once_at_most : (from count : ℕ) → count_from from count ≤ 1
    once_at_most from zero = omega arith
    once_at_most from (suc count) =
        elim (own == from) as (λ b. (own == from) ≡ b → count_from from (suc count) ≤ 1) [
          | true ↦ λ e.
              let below : own < from + 1 = grind (arith, nat_tests) in
              omega (arith, step from count, one-le (p (group_want from).group), past (from + 1) count below)
          | false ↦ λ e. omega (arith, step from count, apart from e, once_at_most (from + 1) count)
        ] refl
