-- What all actions of a phase have said.
use Rattle.std.proofs.Common.{◌≡◌, ℕ, zero, suc, ◌<◌, List, [], ◌∷◌, ◌++◌, length, Option, Some, None, refl, sym, ap, ◌∙◌, subst, arith}
use Rattle.std.specs.Prelude.{slice_get}
use Rattle.atomic_table.specs.Seated.{TableId}
use Rattle.transactions.specs.declared.work.Work.{Work}
use Rattle.partitions.specs.Parts.{SharedTables}
use Rattle.transactions.specs.Progresses.{works_of}
use Rattle.transactions.specs.Acting.{IsRanBy}
use Rattle.executor.specs.declared.phase_owner.AgreedPhase.{AgreedPhase}
use Rattle.executor.specs.declared.phase_owner.Said.{Said}
use Rattle.executor.specs.AgreedPhases.{AreHandles, IsOfPhase, IsHandle}
use Rattle.executor.specs.Carrying.{AreSaidIn, IsCarriedAt, IsOn, agreed_phase_of}
use Rattle.executor.specs.Flows.{FlowView}
use Rattle.executor.specs.Phases.{AreAllRans, CarriesMeeting, rans_said}

module _ {J : Type 0} where
  -- each result is of its work
  all_rans : (shared : SharedTables) (age : ℕ) (works : List Work) (items : List (Said J)) → length items ≡ length works
      → ((number : ℕ) (said : Said J) → slice_get items number ≡ Some said → (work : Work) × (slice_get works number ≡ Some work × IsRanBy shared age work said.ran)) → AreAllRans shared age works (rans_said items)
  all_rans shared age [] [] many each = tt
  all_rans shared age [] (said ∷ items) many each = absurd (omega (arith, many))
  all_rans shared age (w ∷ works) [] many each = absurd (omega (arith, many))
  all_rans shared age (w ∷ works) (said ∷ items) many each =
      let first = each zero said refl in
      let same : first.0 ≡ w = cc in
      (subst (λ (work : Work). IsRanBy shared age work said.ran) same first.1.1, all_rans shared age works items (omega (arith, many)) (λ number other at. each (suc number) other at))

  -- the transaction comes with the first
  module _ (shared : SharedTables) (slot : ℕ) (first : Said J) (rest : List (Said J)) (said : AreSaidIn shared slot (first ∷ rest)) where
    carried : IsCarriedAt said.phase.slot said.phase zero first.flow
    carried = (said.all.each zero first refl).flow_is

    -- it is there
    pub some_flow : first.flow ≡ None → ⊥
    some_flow none = subst (λ (o : Option FlowView). IsCarriedAt said.phase.slot said.phase zero o) none carried

    -- and on the phase
    is_on : (j : FlowView) → first.flow ≡ Some j → IsOn said.phase.slot said.phase j
    is_on j is = subst (λ (o : Option FlowView). IsCarriedAt said.phase.slot said.phase zero o) is carried

    -- so the phase has met
    pub has_met : (j : FlowView) → first.flow ≡ Some j → CarriesMeeting shared slot (record { flow = j; rans = rans_said (first ∷ rest) })
    has_met j is =
        let on = is_on j is in
        record {
          slot_is = on.slot_is ∙ said.slot_is;
          rans_are = subst (λ (p : AgreedPhase). AreAllRans shared p.age (works_of p.progress) (rans_said (first ∷ rest))) (sym on.agreed_phase_is)
              (all_rans shared said.phase.age (works_of said.phase.progress) (first ∷ rest) said.all.many (λ number one at. (said.all.each number one at).ran_is));
        }

  -- some action has reported
  pub some_said : (shared : SharedTables) (slot : ℕ) (items : List (Said J)) (said : AreSaidIn shared slot items) → 0 < length (works_of said.phase.progress) → 0 < length items
  some_said shared slot items said some = omega (arith, said.all.many)

  pub long_said : (items : List (Said J)) → length (rans_said items) ≡ length items
  long_said [] = refl
  long_said (said ∷ items) = ap suc (long_said items)

-- one handle more
pub one_handle_more : {X : Type 0} (value_of : X → TableId) (meeting : TableId) (handles : List (Option X)) (last : X) → AreHandles value_of meeting handles → value_of last ≡ meeting → AreHandles value_of meeting (handles ++ Some last ∷ [])
one_handle_more value_of meeting [] last are is = (is, tt)
one_handle_more value_of meeting (handle ∷ handles) last are is = (are.0, one_handle_more value_of meeting handles last are.1 is)

-- the handles but the last one, and that one
pub handles_but_last : {X : Type 0} (value_of : X → TableId) (meeting : TableId) (handles : List (Option X)) (last : Option X) → AreHandles value_of meeting (handles ++ last ∷ []) → AreHandles value_of meeting handles × IsHandle value_of meeting last
handles_but_last value_of meeting [] last are = (tt, are.0)
handles_but_last value_of meeting (handle ∷ handles) last are = let others = handles_but_last value_of meeting handles last are.1 in ((are.0, others.0), others.1)

-- a round with a place for each action of a transaction's phase
pub is_of_phase : (slot count : ℕ) (j : FlowView) → j.slot ≡ slot → count ≡ length (works_of j.progress) → IsOfPhase slot count (Some (agreed_phase_of j))
is_of_phase slot count j same many = record { about = refl; slot_is = same; places_are = many }
