-- The actions of a phase do their work at once, one after another.
use Rattle.std.proofs.Common.{◌≡◌, ◌≤◌, ℕ, zero, suc, List, [], ◌∷◌, ◌++◌, length, take, append_assoc, append-nil, refl, sym, ap, subst, ◌∙◌, arith}
use Rattle.std.specs.Prelude.{All}
use Rattle.std.proofs.lemmas.List.{length-append}
use Rattle.std.proofs.lemmas.List.Elements.{All-append, All-nil, All-push, All-weaker}
use Rattle.partitions.specs.Parts.{SharedTables}
use Rattle.tickets.specs.Claims.{ClaimView}
use Rattle.transactions.specs.declared.work.Found.{Found}
use Rattle.transactions.specs.declared.work.Work.{Work}
use Rattle.transactions.specs.Works.{HasDone, HaveAllDone}
use Rattle.executor.specs.AtOnce.{HaveDoneAtOnce, HaveDoneBut, phase_of, phase_to_run}
use Rattle.executor.specs.Flows.{CarriesFlow, FlowView}
use Rattle.transactions.specs.Acting.{AreUndoneBy, CanAllBeUndone}

-- one more has done its work
done_more : (shared : SharedTables) (works : List Work) (found : List Found) (own : List (List ClaimView)) (work : Work) (one : Found) (claims : List ClaimView) → HaveAllDone shared works found own
    → HasDone shared work one claims → HaveAllDone shared (works ++ work ∷ []) (found ++ one ∷ []) (own ++ claims ∷ [])
done_more shared [] [] [] work one claims all more = (more, tt)
done_more shared (w ∷ works) (f ∷ found) (c ∷ own) work one claims all more = (all.0, done_more shared works found own work one claims all.1 more)
done_more shared [] [] (c ∷ own) work one claims all more = absurd all
done_more shared [] (f ∷ found) [] work one claims all more = absurd all
done_more shared [] (f ∷ found) (c ∷ own) work one claims all more = absurd all
done_more shared (w ∷ works) [] [] work one claims all more = absurd all
done_more shared (w ∷ works) [] (c ∷ own) work one claims all more = absurd all
done_more shared (w ∷ works) (f ∷ found) [] work one claims all more = absurd all

module _ (shared : SharedTables) (age : ℕ) (works : List Work) (before : List (List ClaimView)) where
  -- none has yet
  pub none_done : (held : List (List ClaimView)) (found : List Found) → held ≡ before → found ≡ [] → HaveDoneBut shared works (phase_to_run age works before) held found
  none_done held found same none = record {
    first = [];
    own = [];
    works_are = refl;
    held_is = same ∙ sym (append-nil before);
    done = subst (λ (f : List Found). HaveAllDone shared [] f []) (sym none) tt;
    undone = All-nil (AreUndoneBy age);
  }

  -- the next one has
  pub next_done : (last rest : List Work) (held more : List (List ClaimView)) (found further : List Found) (work : Work) (claims : List ClaimView) (one : Found) → last ≡ work ∷ rest → more ≡ held ++ claims ∷ []
      → further ≡ found ++ one ∷ [] → HasDone shared work one claims → AreUndoneBy age claims → HaveDoneBut shared last (phase_to_run age works before) held found → HaveDoneBut shared rest (phase_to_run age works before) more further
  next_done last rest held more found further work claims one is put kept done undone so_far = record {
    first = so_far.first ++ work ∷ [];
    own = so_far.own ++ claims ∷ [];
    works_are = so_far.works_are ∙ ap (λ (l : List Work). so_far.first ++ l) is ∙ sym (append_assoc so_far.first (work ∷ []) rest);
    held_is = put ∙ ap (λ (h : List (List ClaimView)). h ++ claims ∷ []) so_far.held_is ∙ append_assoc before so_far.own (claims ∷ []);
    done = subst (λ (f : List Found). HaveAllDone shared (so_far.first ++ work ∷ []) f (so_far.own ++ claims ∷ [])) (sym kept) (done_more shared so_far.first found so_far.own work one claims so_far.done done);
    undone = All-push (AreUndoneBy age) so_far.own claims so_far.undone undone;
  }

  -- no fewer are held than before
  pub more_held : (last : List Work) (held : List (List ClaimView)) (found : List Found) → HaveDoneBut shared last (phase_to_run age works before) held found → length before ≤ length held
  more_held last held found so_far = omega (arith, ap length so_far.held_is, length-append before so_far.own)

  -- what is held after those before can be taken back
  pub can_be_undone : (last : List Work) (held : List (List ClaimView)) (found : List Found) → All (AreUndoneBy age) before → HaveDoneBut shared last (phase_to_run age works before) held found → All CanAllBeUndone held
  can_be_undone last held found first so_far =
      subst (λ (h : List (List ClaimView)). All CanAllBeUndone h) (sym so_far.held_is)
      (All-weaker (AreUndoneBy age) CanAllBeUndone (λ claims h. h.0) (before ++ so_far.own) (All-append (AreUndoneBy age) before so_far.own first so_far.undone))

-- without the last ones the first ones are the same
pub take_front : {X : Type 0} (n : ℕ) (all front : List X) (last : X) → all ≡ front ++ last ∷ [] → n ≤ length front → take n all ≡ take n front
take_front n all front last is few = ap (λ l. take n l) is ∙ front_alone n front (last ∷ []) few
  where
    front_alone : {X : Type 0} (n : ℕ) (xs ys : List X) → n ≤ length xs → take n (xs ++ ys) ≡ take n xs
    front_alone zero [] [] few = refl
    front_alone zero [] (y ∷ ys) few = refl
    front_alone zero (x ∷ xs) ys few = refl
    front_alone (suc n) [] ys few = absurd (omega (arith, few))
    front_alone (suc n) (x ∷ xs) ys few = ap (λ l. x ∷ l) (front_alone n xs ys (omega (arith, few)))

-- and all that is held can be taken back
pub undone_at_once : (shared : SharedTables) (j : FlowView) (held : List (List ClaimView)) (found : List Found) → CarriesFlow shared j → HaveDoneAtOnce shared (phase_of j) held found
    → All (AreUndoneBy j.age) held
undone_at_once shared j held found carries all =
    subst (λ (h : List (List ClaimView)). All (AreUndoneBy j.age) h) (sym all.held_is) (All-append (AreUndoneBy j.age) j.held all.own carries.undone all.undone)
