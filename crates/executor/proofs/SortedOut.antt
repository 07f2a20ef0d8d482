-- What a phase that has met comes to.
use Rattle.std.proofs.Common.{◌≡◌, ℕ, List, [], ◌∷◌, length, None, arith, refl}
use Rattle.std.specs.Prelude.{All}
use Rattle.std.proofs.lemmas.List.Elements.{All-cons, All-nil}
use Rattle.transactions.specs.declared.work.Work.{Work}
use Rattle.transactions.specs.declared.acting.Ran.{Ran}
use Rattle.transactions.specs.declared.acting.Ran.TheVariants as ran
use Rattle.partitions.specs.Parts.{SharedTables}
use Rattle.transactions.specs.Works.{HaveAllDone}
use Rattle.transactions.specs.Acting.{AreUndoneBy}
use Rattle.executor.specs.Phases.{AreAllRans}
use Rattle.transactions.specs.SortedOut.{found_in, held_in, refusal_of}
use Rattle.transactions.proofs.SortedOut.{stays_refused}

module _ {J : Type 0} where
  -- where no action died or found no memory all have done their work
  pub all_done : (shared : SharedTables) (age : ℕ) (works : List Work) (rans : List (Ran J)) → AreAllRans shared age works rans → refusal_of None rans ≡ None
      → HaveAllDone shared works (found_in rans) (held_in rans)
  all_done shared age [] [] all none = tt
  all_done shared age [] (r ∷ rans) all none = absurd all
  all_done shared age (w ∷ works) [] all none = absurd all
  all_done shared age (w ∷ works) (ran.Done claims found ∷ rans) all none = (all.0.0, all_done shared age works rans all.1 none)
  all_done shared age (w ∷ works) (ran.Died group holder ∷ rans) all none = absurd (stays_refused _ rans none)
  all_done shared age (w ∷ works) (ran.NoMemory ∷ rans) all none = absurd (stays_refused _ rans none)

  -- all that they hold can be taken back
  pub all_undone : (shared : SharedTables) (age : ℕ) (works : List Work) (rans : List (Ran J)) → AreAllRans shared age works rans → All (AreUndoneBy age) (held_in rans)
  all_undone shared age [] [] all = All-nil (AreUndoneBy age)
  all_undone shared age [] (r ∷ rans) all = absurd all
  all_undone shared age (w ∷ works) [] all = absurd all
  all_undone shared age (w ∷ works) (ran.Done claims found ∷ rans) all = All-cons (AreUndoneBy age) claims (held_in rans) all.0.1 (all_undone shared age works rans all.1)
  all_undone shared age (w ∷ works) (ran.Died group holder ∷ rans) all = all_undone shared age works rans all.1
  all_undone shared age (w ∷ works) (ran.NoMemory ∷ rans) all = all_undone shared age works rans all.1

  -- and there are as many as actions
  pub as_many : (shared : SharedTables) (age : ℕ) (works : List Work) (rans : List (Ran J)) → AreAllRans shared age works rans → length rans ≡ length works
  as_many shared age [] [] all = refl
  as_many shared age [] (r ∷ rans) all = absurd all
  as_many shared age (w ∷ works) [] all = absurd all
  as_many shared age (w ∷ works) (r ∷ rans) all = omega (arith, as_many shared age works rans all.1)
