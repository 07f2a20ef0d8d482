-- How many slots are taken.
use Rattle.std.proofs.Common.{◌≡◌, ℕ, ◌+◌, ◌<◌, ◌≤◌, zero, suc, Bool, true, false, List, [], ◌∷◌, length, get_or, Option, Some, None, refl, sym, ◌∙◌, ap, cond, arith}
use Rattle.std.specs.Prelude.{IfNone, IfSome, is_some, nat_lt, not, position, slice_set}
use Rattle.std.specs.List.{prefix_len}
use Rattle.std.proofs.lemmas.Bool.{ltb-false}
use Rattle.std.specs.List.{slice_get}
use Rattle.std.proofs.lemmas.List.Quantifiers.{position-Some}
use Rattle.std.proofs.lemmas.List.Sums.{sum_by-cons}
use Rattle.std.proofs.lemmas.Option.{slice_get-get_or}
use Rattle.world.specs.declared.slots.TheConstants.{MOST_ACTIVE}
use Rattle.world.specs.Slots.{count_active, first_free, is_free}

module _ {X : Type 0} where
  -- one slot more
  pub count-none : (slots : List (Option X)) → count_active (None ∷ slots) ≡ count_active slots
  count-none slots = omega (arith, sum_by-cons (λ (o : Option X). cond (is_some o) 1 0) None slots)

  pub count-some : (x : X) (slots : List (Option X)) → count_active (Some x ∷ slots) ≡ 1 + count_active slots
  count-some x slots = omega (arith, sum_by-cons (λ (o : Option X). cond (is_some o) 1 0) (Some x) slots)

  -- no more are taken than there are
  at_most_all : (slots : List (Option X)) → count_active slots ≤ length slots
  at_most_all [] = omega arith
  at_most_all (None ∷ slots) = omega (arith, at_most_all slots, count-none slots)
  at_most_all (Some x ∷ slots) = omega (arith, at_most_all slots, count-some x slots)

  -- where one is free, not all are taken
  pub one_free : (slots : List (Option X)) (slot : ℕ) → slice_get slots slot ≡ Some None → count_active slots < length slots
  one_free [] slot free = absurd (cc)
  one_free (None ∷ slots) zero free = omega (arith, at_most_all slots, count-none slots)
  one_free (Some x ∷ slots) zero free = absurd (cc)
  one_free (None ∷ slots) (suc slot) free = omega (arith, at_most_all slots, count-none slots)
  one_free (Some x ∷ slots) (suc slot) free = omega (arith, one_free slots slot free, count-some x slots)

  -- where one is taken, it is one more than without it
  pub taken_counts : (slots : List (Option X)) (slot : ℕ) (x : X) → slice_get slots slot ≡ Some (Some x) → count_active slots ≡ 1 + count_active (slice_set slots slot None)
  taken_counts [] slot x is = absurd (cc)
  taken_counts (None ∷ slots) zero x is = absurd (cc)
  taken_counts (Some y ∷ slots) zero x is = omega (arith, count-some y slots, count-none slots)
  taken_counts (None ∷ slots) (suc slot) x is = omega (arith, count-none slots, count-none (slice_set slots slot None), taken_counts slots slot x is)
  taken_counts (Some y ∷ slots) (suc slot) x is = omega (arith, count-some y slots, count-some y (slice_set slots slot None), taken_counts slots slot x is)

-- ---- the first free slot

free_is : {X : Type 0} (slot : Option X) → is_free slot ≡ true → slot ≡ None
free_is None is = refl
free_is (Some x) is = absurd (cc)

module _ {X : Type 0} where
  pub found_free : (slots : List (Option X)) (r : Option ℕ) → r ≡ first_free slots → IfSome r (λ slot. slice_get slots slot ≡ Some None)
  found_free slots None is = tt
  found_free slots (Some slot) is =
      let at = position-Some is_free slots slot None (sym is) in
      slice_get-get_or slots slot None at.0 ∙ ap (λ (o : Option X). Some o) (free_is (get_or slots slot None) at.1)

  pub found_room : (slots : List (Option X)) (r : Option ℕ) → length slots ≡ MOST_ACTIVE → r ≡ first_free slots → IfSome r (λ slot. (slot < MOST_ACTIVE) × (count_active slots < MOST_ACTIVE))
  found_room slots None many is = tt
  found_room slots (Some slot) many is =
      let at = position-Some is_free slots slot None (sym is) in
      (omega (arith, many, at.0), omega (arith, many, one_free slots slot (found_free slots (Some slot) is)))

  -- where as many are taken in front as there are, all are
  taken_in_front : (slots : List (Option X)) → length slots ≤ prefix_len (λ slot. not (is_free slot)) slots → count_active slots ≡ length slots
  taken_in_front [] all = refl
  taken_in_front (None ∷ slots) all = absurd (omega (arith, all))
  taken_in_front (Some x ∷ slots) all = omega (arith, count-some x slots, taken_in_front slots (omega (arith, all)))

  all_taken : (slots : List (Option X)) → position is_free slots ≡ None → count_active slots ≡ length slots
  all_taken slots none =
      let front = prefix_len (λ slot. not (is_free slot)) slots in
      taken_in_front slots (by (nat_lt front (length slots)) refl none)
    where
      by : (test : Bool) → nat_lt (prefix_len (λ slot. not (is_free slot)) slots) (length slots) ≡ test → cond test (Some (prefix_len (λ slot. not (is_free slot)) slots)) None ≡ None
          → length slots ≤ prefix_len (λ slot. not (is_free slot)) slots
      by true is none = absurd (cc)
      by false is none = ltb-false (prefix_len (λ slot. not (is_free slot)) slots) (length slots) is

  pub none_found : (slots : List (Option X)) (r : Option ℕ) → length slots ≡ MOST_ACTIVE → r ≡ first_free slots → IfNone r (count_active slots ≡ MOST_ACTIVE)
  none_found slots None many is = all_taken slots (sym is) ∙ many
  none_found slots (Some slot) many is = tt
