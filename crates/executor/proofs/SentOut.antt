-- The actions of a phase, one after another.
use Rattle.std.proofs.Common.{◌≡◌, ℕ, zero, suc, ◌+◌, List, [], ◌∷◌, ◌++◌, append_assoc, drop, Option, Some, None, sym, ap, ◌∙◌, subst, add-one}
use Rattle.std.specs.Prelude.{slice_get}
use Rattle.transactions.specs.declared.work.Work.{Work}
use Rattle.executor.specs.declared.phase_owner.AgreedPhase.{AgreedPhase}
use Rattle.executor.specs.Begins.{act_at, acts_from}
use Rattle.executor.specs.Carrying.{ActView, IsCarriedAt}
use Rattle.executor.specs.Flows.{FlowView}

-- the first of what is left is at its place
pub stands_at : {X : Type 0} (xs : List X) (n : ℕ) (x : X) (rest : List X) → drop n xs ≡ x ∷ rest → slice_get xs n ≡ Some x
stands_at [] zero x rest is = absurd (cc)
stands_at [] (suc n) x rest is = absurd (cc)
stands_at (y ∷ xs) zero x rest is = cc
stands_at (y ∷ xs) (suc n) x rest is = stands_at xs n x rest is

next_left : {X : Type 0} (xs : List X) (n : ℕ) (x : X) (rest : List X) → drop n xs ≡ x ∷ rest → drop (suc n) xs ≡ rest
next_left [] zero x rest is = absurd (cc)
next_left [] (suc n) x rest is = absurd (cc)
next_left (y ∷ xs) zero x rest is = cc
next_left (y ∷ xs) (suc n) x rest is = next_left xs n x rest is

-- and the others are left then
pub left_then : {X : Type 0} (xs : List X) (n : ℕ) (x : X) (rest : List X) → drop n xs ≡ x ∷ rest → drop (n + 1) xs ≡ rest
left_then xs n x rest is = ap (λ k. drop k xs) (add-one n) ∙ next_left xs n x rest is

-- one action more is sent
pub sent_more : (items now all : List ActView) (slot : ℕ) (recorded : AgreedPhase) (n : ℕ) (carried left : Option FlowView) (work : Work) (works rest : List Work) (act : ActView)
    → now ≡ items ++ act ∷ [] → works ≡ work ∷ rest → act ≡ act_at slot recorded n carried work → left ≡ None
    → items ++ acts_from slot recorded n carried works ≡ all → now ++ acts_from slot recorded (n + 1) left rest ≡ all
sent_more items now all slot recorded n carried left work works rest act put is is_act none before =
    let more = acts_from slot recorded (n + 1) None rest in
    ap (λ o. now ++ acts_from slot recorded (n + 1) o rest) none ∙ ap (λ l. l ++ more) put ∙ append_assoc items (act ∷ []) more ∙ ap (λ e. items ++ e ∷ more) is_act
    ∙ ap (λ l. items ++ acts_from slot recorded n carried l) (sym is) ∙ before

-- it was the transaction's action that took it
pub carried_on : (slot : ℕ) (recorded : AgreedPhase) (n : ℕ) (left : Option FlowView) → left ≡ None → IsCarriedAt slot recorded (n + 1) left
carried_on slot recorded n left none = subst (λ o. IsCarriedAt slot recorded (n + 1) o) (sym none) (subst (λ k. IsCarriedAt slot recorded k None) (sym (add-one n)) tt)
