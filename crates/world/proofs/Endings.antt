-- An action has given back what it held.
use Rattle.std.proofs.Common.{◌≡◌, ℕ, ◌-◌, ◌≤◌, zero, suc, [], ◌∷◌, Some, refl, sym, ◌∙◌, ap, subst, arith}
use Rattle.std.specs.Prelude.{replicate}
use Rattle.std.specs.List.{slice_get, sum_by}
use Rattle.std.proofs.lemmas.List.Sorted.{IsPermutation-refl}
use Rattle.std.proofs.lemmas.List.Sums.{sum_by-cons}
use Rattle.std.specs.List.Sorted.{IsPermutation}
use Rattle.partitions.specs.Parts.{SharedTables}
use Rattle.world.specs.declared.desk.Active.TheVariants as active
use Rattle.world.specs.declared.world.Parts.{Parts}
use Rattle.world.specs.Flights.{Ending, InFlight, part, parts, part_met}
use Rattle.world.specs.Sound.{IsSoundWith, IsSoundActive, reported_to}
use Rattle.world.specs.Following.{ending, with_active}
use Rattle.world.proofs.OneSlot.{sound_in}
use Rattle.world.proofs.Puts.{GoesOn, joins_on}
use Rattle.world.proofs.Releases.{ending_awaits, ending_sound, nothing_met}

-- what is in hand of an action that has given back what it held
abbrev pub part_ended : ℕ → InFlight
part_ended slot = part [] [] (Ending slot ∷ [])

-- of a number that is not zero, one less
one_less_than : (left : ℕ) → 1 ≤ left → (n : ℕ) × ((left ≡ suc n) × (n ≡ left - 1))
one_less_than zero some = absurd (omega (arith, some))
one_less_than (suc n) some = (n, (refl, omega arith))

module _ {J : Type 0} (shared : SharedTables) (slot : ℕ) (w : Parts J) (h : IsSoundWith shared (part_ended slot) w) where
  -- of one more, so many are left
  ended : (n : ℕ) → slice_get w.desk.active slot ≡ Some (Some (active.Ending (suc n))) → GoesOn shared (part_ended slot) w (with_active slot (ending n) w)
  ended n is =
      let u = h.in_flight slot in
      let sound : IsSoundActive {J = J} shared slot u (Some (active.Ending (suc n))) = sound_in shared h.in_flight slot w.desk.active (Some (active.Ending (suc n))) h.active is in
      let none = parts part_met (reported_to {J = J} (ending n)) in
      let met_none : part [] [] [] ≡ none = ap (λ rs. parts part_met rs) (sym (nothing_met J n)) in
      joins_on shared (part_ended slot) w h slot (Some (active.Ending (suc n))) (ending n) is (active.Ending (suc n), refl)
      (ending_sound J shared slot u n (omega (arith, sound.1)))
      (λ weight. omega (arith, ap (λ ts. sum_by weight ts) (ending_awaits J slot n), sum_by-cons weight (Ending slot) [], sum_by-cons weight (Ending slot) (replicate n (Ending slot))))
      (subst (λ (p : InFlight). IsPermutation [] p.claims) met_none (IsPermutation-refl []))
      (subst (λ (p : InFlight). IsPermutation [] p.pending) met_none (IsPermutation-refl []))

  pub ended_goes_on : (left : ℕ) → slice_get w.desk.active slot ≡ Some (Some (active.Ending left)) → GoesOn shared (part_ended slot) w (with_active slot (ending (left - 1)) w)
  ended_goes_on left is =
      let sound : IsSoundActive {J = J} shared slot (h.in_flight slot) (Some (active.Ending left)) = sound_in shared h.in_flight slot w.desk.active (Some (active.Ending left)) h.active is in
      let less = one_less_than left sound.0 in
      subst (λ n. GoesOn shared (part_ended slot) w (with_active slot (ending n) w)) less.1.1
      (ended less.0 (is ∙ ap (λ n. Some (Some (active.Ending n))) less.1.0))
