-- The results of a phase's actions, collected.
use Rattle.std.proofs.Common.{◌≡◌, ◌≤◌, ◌⊎◌, inl, inr, ℕ, List, [], ◌∷◌, length, Option, Some, None, refl, sym, subst, ⊎_elim, arith}
use Rattle.std.specs.Prelude.{All, IfSome}
use Rattle.std.proofs.lemmas.List.{length-append}
use Rattle.std.proofs.lemmas.List.Elements.{All-head, All-tail}
use Rattle.requests.specs.declared.group.Group.{Group}
use Rattle.requests.specs.declared.refusal.Refusal.{Refusal}
use Rattle.requests.specs.declared.refusal.Refusal.TheVariants as refusal
use Rattle.transactions.specs.declared.acting.Ran.{Ran}
use Rattle.transactions.specs.declared.acting.Ran.TheVariants as ran
use Rattle.transactions.specs.SortedOut.{earlier_death, found_by, held_by, held_in, refusal_of, refused_by, refused_still}

module _ {J : Type 0} where
  -- an action holds the claims of one at most, and finds one thing at most
  pub one_holds : (own : Ran J) → length (held_by own) ≤ 1
  one_holds (ran.Done claims found) = omega arith
  one_holds (ran.Died group holder) = omega arith
  one_holds ran.NoMemory = omega arith

  pub one_finds : (own : Ran J) → length (found_by own) ≤ 1
  one_finds (ran.Done claims found) = omega arith
  one_finds (ran.Died group holder) = omega arith
  one_finds ran.NoMemory = omega arith

  -- no more hold something than there are
  pub few_held : (rans : List (Ran J)) → length (held_in rans) ≤ length rans
  few_held [] = omega arith
  few_held (r ∷ rans) = omega (arith, one_holds r, few_held rans, length-append (held_by r) (held_in rans))

  -- a transaction that isn't refused now wasn't refused before
  pub was_none : (why : Option Refusal) (own : Ran J) → refused_by why own ≡ None → why ≡ None
  was_none None own is = refl
  was_none (Some why) own is = absurd (cc)

  -- a transaction for whose refusal there is a reason is refused
  pub stays_refused : (why : Refusal) (rans : List (Ran J)) → refusal_of (Some why) rans ≡ None → ⊥
  stays_refused why [] is = absurd (cc)
  stays_refused why (r ∷ rans) is = stays_refused (refused_still why r) rans is

  -- so one that isn't refused had no reason to be
  pub not_refused : (start : Option Refusal) (rans : List (Ran J)) → refusal_of start rans ≡ None → start ≡ None
  not_refused None rans is = refl
  not_refused (Some why) rans is = absurd (stays_refused why rans is)

  pub none_before : (start : Option Refusal) (rans : List (Ran J)) → refusal_of start rans ≡ None → refusal_of None rans ≡ None
  none_before None rans is = is
  none_before (Some why) rans is = absurd (stays_refused why rans is)

  -- NoMemory is the reason only if no action died
  pub memory_last : (rans : List (Ran J))
      → ((refusal_of None rans ≡ None) × (refusal_of (Some refusal.NoMemory) rans ≡ Some refusal.NoMemory)) ⊎ (refusal_of (Some refusal.NoMemory) rans ≡ refusal_of None rans)
  memory_last [] = inl (refl, refl)
  memory_last (ran.Done claims found ∷ rans) = memory_last rans
  memory_last (ran.Died group holder ∷ rans) = inr refl
  memory_last (ran.NoMemory ∷ rans) = inr refl

-- ---- why it is refused

-- the death that is recorded is the one before, or this one
first_recorded : (why : Refusal) (group : Group) (holder : ℕ) → (earlier_death why group holder ≡ why) ⊎ (earlier_death why group holder ≡ refusal.Died group holder)
first_recorded (refusal.Died first older) group holder = inl refl
first_recorded refusal.NoMemory group holder = inr refl
first_recorded refusal.LogFull group holder = inr refl
first_recorded refusal.BadWarehouse group holder = inr refl
first_recorded refusal.BadDistrict group holder = inr refl
first_recorded refusal.BadLines group holder = inr refl
first_recorded refusal.BadQuantity group holder = inr refl
first_recorded refusal.BadSupply group holder = inr refl
first_recorded refusal.BadAmount group holder = inr refl
first_recorded refusal.BadThreshold group holder = inr refl
first_recorded refusal.BadCarrier group holder = inr refl
first_recorded refusal.Busy group holder = inr refl
first_recorded refusal.SessionBusy group holder = inr refl
first_recorded refusal.Closed group holder = inr refl

module _ {J : Type 0} (P : Refusal → Type 0) where
  -- this is so of the action's death, if it died
  abbrev pub IfDied : Ran J → Type 0
  IfDied (ran.Done claims found) = Unit {0}
  IfDied (ran.Died group holder) = P (refusal.Died group holder)
  IfDied ran.NoMemory = Unit {0}

  module _ (memory : P refusal.NoMemory) where
    -- then it is so of what the transaction is refused for, after one action more
    pub refused_by_one : (before : Option Refusal) (own : Ran J) → IfDied own → IfSome before P → IfSome (refused_by before own) P
    refused_by_one None (ran.Done claims found) died so = so
    refused_by_one None (ran.Died group holder) died so = died
    refused_by_one None ran.NoMemory died so = memory
    refused_by_one (Some why) (ran.Done claims found) died so = so
    refused_by_one (Some why) (ran.Died group holder) died so =
        ⊎_elim (λ (same : earlier_death why group holder ≡ why). subst P (sym same) so)
        (λ (same : earlier_death why group holder ≡ refusal.Died group holder). subst P (sym same) died) (first_recorded why group holder)
    refused_by_one (Some why) ran.NoMemory died so = so

    -- and after all of these
    pub refused_by_all : (before : Option Refusal) (rans : List (Ran J)) → All IfDied rans → IfSome before P → IfSome (refusal_of before rans) P
    refused_by_all before [] died so = so
    refused_by_all before (own ∷ rans) died so =
        refused_by_all (refused_by before own) rans (All-tail IfDied own rans died) (refused_by_one before own (All-head IfDied own rans died) so)
