-- What holds of each element of a list, one after another, and values that are all there.
use Rattle.std.proofs.Common.{◌≡◌, Bool, true, false, ◌&&◌, ◌||◌, cond, List, [], ◌∷◌, ◌++◌, map, filter, Option, Some, None, is_some, refl, sym, ap, ◌∙◌}
use Rattle.std.specs.List.{AllByRecursion, list_all, list_any}
use Rattle.std.specs.Option.{option_map}
use Rattle.std.proofs.lemmas.Bool.{and_parts, and_from}
use Rattle.machine.specs.NewOrder.{all_there}

-- ---- each one

module _ {X : Type 0} where
  pub each_weaker : (P Q : X → Type 0) → ((x : X) → P x → Q x) → (xs : List X) → AllByRecursion P xs → AllByRecursion Q xs
  each_weaker P Q weaker [] each = tt
  each_weaker P Q weaker (x ∷ xs) each = (weaker x each.0, each_weaker P Q weaker xs each.1)

  pub each_of : (P : X → Type 0) → ((x : X) → P x) → (xs : List X) → AllByRecursion P xs
  each_of P holds [] = tt
  each_of P holds (x ∷ xs) = (holds x, each_of P holds xs)

  pub each_of_both : (P : X → Type 0) (xs ys : List X) → AllByRecursion P xs → AllByRecursion P ys → AllByRecursion P (xs ++ ys)
  each_of_both P [] ys first second = second
  each_of_both P (x ∷ xs) ys first second = (first.0, each_of_both P xs ys first.1 second)

  pub each_of_first : (P : X → Type 0) (xs ys : List X) → AllByRecursion P (xs ++ ys) → AllByRecursion P xs
  each_of_first P [] ys each = tt
  each_of_first P (x ∷ xs) ys each = (each.0, each_of_first P xs ys each.1)

  pub each_of_second : (P : X → Type 0) (xs ys : List X) → AllByRecursion P (xs ++ ys) → AllByRecursion P ys
  each_of_second P [] ys each = each
  each_of_second P (x ∷ xs) ys each = each_of_second P xs ys each.1

  pub each_both : (P Q : X → Type 0) (xs : List X) → AllByRecursion P xs → AllByRecursion Q xs → AllByRecursion (λ x. P x × Q x) xs
  each_both P Q [] first second = tt
  each_both P Q (x ∷ xs) first second = ((first.0, second.0), each_both P Q xs first.1 second.1)

  pub mapped_each : {Y : Type 0} (P : Y → Type 0) (f : X → Y) (xs : List X) → AllByRecursion (λ x. P (f x)) xs → AllByRecursion P (map f xs)
  mapped_each P f [] each = tt
  mapped_each P f (x ∷ xs) each = (each.0, mapped_each P f xs each.1)

  pub each_mapped : {Y : Type 0} (P : Y → Type 0) (f : X → Y) (xs : List X) → AllByRecursion P (map f xs) → AllByRecursion (λ x. P (f x)) xs
  each_mapped P f [] each = tt
  each_mapped P f (x ∷ xs) each = (each.0, each_mapped P f xs each.1)

  -- by a test
  pub each_tested : (test : X → Bool) (xs : List X) → list_all test xs ≡ true → AllByRecursion (λ x. test x ≡ true) xs
  each_tested test [] all = tt
  each_tested test (x ∷ xs) all = let parts = and_parts (test x) (list_all test xs) all in (parts.0, each_tested test xs parts.1)

  pub tested_each : (test : X → Bool) (xs : List X) → AllByRecursion (λ x. test x ≡ true) xs → list_all test xs ≡ true
  tested_each test [] each = refl
  tested_each test (x ∷ xs) each = and_from (test x) (list_all test xs) each.0 (tested_each test xs each.1)

  pub none_tested : (test : X → Bool) (xs : List X) → list_any test xs ≡ false → AllByRecursion (λ x. test x ≡ false) xs
  none_tested test [] none = tt
  none_tested test (x ∷ xs) none =
      elim (test x) as (λ b. test x ≡ b → (b || list_any test xs) ≡ false → AllByRecursion (λ y. test y ≡ false) (x ∷ xs)) [
        | true ↦ λ e no. absurd cc
        | false ↦ λ e no. (e, none_tested test xs no)
      ] refl none

  pub tested_none : (test : X → Bool) (xs : List X) → AllByRecursion (λ x. test x ≡ false) xs → list_any test xs ≡ false
  tested_none test [] each = refl
  tested_none test (x ∷ xs) each = ap (λ b. b || list_any test xs) each.0 ∙ tested_none test xs each.1

  -- those that pass a test
  pub each_filtered : (P : X → Type 0) (test : X → Bool) (xs : List X) → AllByRecursion P xs → AllByRecursion P (filter test xs)
  each_filtered P test [] each = tt
  each_filtered P test (x ∷ xs) each =
      elim (test x) as (λ b. AllByRecursion P (cond b (x ∷ filter test xs) (filter test xs))) [
        | true ↦ (each.0, each_filtered P test xs each.1)
        | false ↦ each_filtered P test xs each.1
      ]

  pub each_passing : (P : X → Type 0) (test : X → Bool) (xs : List X) → AllByRecursion P (filter test xs) → AllByRecursion (λ x. test x ≡ true → P x) xs
  each_passing P test [] each = tt
  each_passing P test (x ∷ xs) each =
      elim (test x) as (λ b. test x ≡ b → AllByRecursion P (cond b (x ∷ filter test xs) (filter test xs)) → AllByRecursion (λ y. test y ≡ true → P y) (x ∷ xs)) [
        | true ↦ λ e those. ((λ passes. those.0), each_passing P test xs those.1)
        | false ↦ λ e those. ((λ passes. absurd cc), each_passing P test xs those)
      ] refl each

-- ---- values that are all there

module _ {X Y : Type 0} (f : X → Option Y) where
  -- they are where each is
  pub all_there-each : (xs : List X) → is_some (all_there (map f xs)) ≡ list_all (λ x. is_some (f x)) xs
  all_there-each [] = refl
  all_there-each (x ∷ xs) =
      elim (f x) as (λ o. is_some (all_there (o ∷ map f xs)) ≡ (is_some o && list_all (λ x. is_some (f x)) xs)) [
        | None ↦ refl
        | Some y ↦
            elim (all_there (map f xs)) as (λ o. is_some (all_there (map f xs)) ≡ is_some o → is_some (option_map (λ ys. y ∷ ys) o) ≡ list_all (λ x. is_some (f x)) xs) [
              | None ↦ λ e. sym e ∙ all_there-each xs
              | Some ys ↦ λ e. sym e ∙ all_there-each xs
            ] refl
      ]

pub is_there : {X : Type 0} (o : Option X) → is_some o ≡ true → (x : X) × (o ≡ Some x)
is_there None there = absurd cc
is_there (Some x) there = (x, refl)

pub is_none : {X : Type 0} (o : Option X) → is_some o ≡ false → o ≡ None
is_none None none = refl
is_none (Some x) none = absurd cc
