-- For what a transaction is refused.
use Rattle.std.proofs.Common.{◌≡◌, ℕ, List, [], ◌∷◌, Option, Some, None, sym, subst}
use Rattle.std.specs.Prelude.{All, Contains, IfSome}
use Rattle.std.proofs.lemmas.List.Elements.{All-cons, All-nil}
use Rattle.partitions.specs.Parts.{SharedTables}
use Rattle.requests.specs.declared.group.Group.{Group}
use Rattle.requests.specs.declared.request.Request.{Request}
use Rattle.requests.specs.declared.refusal.Refusal.{Refusal}
use Rattle.requests.specs.declared.refusal.Refusal.TheVariants as refusal
use Rattle.groups.specs.Footprint.{footprint, groups_of}
use Rattle.transactions.specs.declared.acting.Ran.{Ran}
use Rattle.transactions.specs.declared.acting.Ran.TheVariants as ran
use Rattle.transactions.specs.declared.work.Work.{Work}
use Rattle.transactions.specs.Acting.{IsRanBy}
use Rattle.transactions.specs.Laws.{ClaimsAreOfTheFootprint}
use Rattle.transactions.specs.Progresses.{works_of}
use Rattle.transactions.specs.SortedOut.{IsRefusedFor, refusal_of}
use Rattle.transactions.specs.Works.{all_group_wants, group_wants_of}
use Rattle.transactions.proofs.OnGroups.{first_group_want, later_group_want, of_footprint}
use Rattle.transactions.proofs.SortedOut.{IfDied, refused_by_all}
use Rattle.executor.specs.Answers.{MayBeRefused}
use Rattle.executor.specs.Flows.{CarriesFlow, FlowView}
use Rattle.executor.specs.Phases.{AreAllRans}

module _ {J : Type 0} (shared : SharedTables) (age most entries : ℕ) (request : Request) where
  -- an action that died, died on a group of its work's
  one_died : (work : Work) (own : Ran J) → ((group : Group) → Contains (groups_of (group_wants_of work)) group → Contains (groups_of (footprint request)) group)
      → IsRanBy shared age work own → IfDied (MayBeRefused most entries request) own
  one_died work (ran.Done claims found) within is = tt
  one_died work (ran.Died group holder) within is = within group is
  one_died work ran.NoMemory within is = tt

  -- so did all that died
  all_died : (works : List Work) (rans : List (Ran J)) → ((group : Group) → Contains (groups_of (all_group_wants works)) group → Contains (groups_of (footprint request)) group)
      → AreAllRans shared age works rans → All (IfDied (MayBeRefused most entries request)) rans
  all_died [] [] within all = All-nil (IfDied (MayBeRefused most entries request))
  all_died [] (own ∷ rans) within all = absurd all
  all_died (work ∷ works) [] within all = absurd all
  all_died (work ∷ works) (own ∷ rans) within all =
      All-cons (IfDied (MayBeRefused most entries request)) own rans (one_died work own (λ group is. within group (first_group_want work works group is)) all.0)
      (all_died works rans (λ group is. within group (later_group_want work works group is)) all.1)

-- NoMemory may be the reason before any action
at_first : (most entries : ℕ) (request : Request) (start : Option Refusal) → IfSome start (λ w. w ≡ refusal.NoMemory) → IfSome start (MayBeRefused most entries request)
at_first most entries request None begun = tt
at_first most entries request (Some why) begun = subst (MayBeRefused most entries request) (sym begun) tt

module _ {J : Type 0} where
  -- for what a transaction is refused when its phase has met
  pub may_be_refused : (shared : SharedTables) (most : ℕ) (j : FlowView) (rans : List (Ran J)) (start : Option Refusal) → ClaimsAreOfTheFootprint → CarriesFlow shared j
      → AreAllRans shared j.age (works_of j.progress) rans → IfSome start (λ w. w ≡ refusal.NoMemory) → IfSome (refusal_of start rans) (MayBeRefused most j.pass.reached j.request)
  may_be_refused shared most j rans start within carries are begun =
      refused_by_all (MayBeRefused most j.pass.reached j.request) tt start rans
      (all_died shared j.age most j.pass.reached j.request (works_of j.progress) rans (λ group is. of_footprint shared j.request j.progress j.held carries.reached group within is) are)
      (at_first most j.pass.reached j.request start begun)

-- and in the end, when an allocation may fail for the next step
pub may_in_the_end : (most entries : ℕ) (request : Request) (sorted : Option Refusal) (why : Refusal) → IsRefusedFor sorted why → IfSome sorted (MayBeRefused most entries request) → MayBeRefused most entries request why
may_in_the_end most entries request None why is may = subst (MayBeRefused most entries request) (sym is) tt
may_in_the_end most entries request (Some first) why is may = subst (MayBeRefused most entries request) (sym is) may
