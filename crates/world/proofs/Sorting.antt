-- What the actions of a phase reported is sorted out, one report after another.
use Rattle.std.proofs.Common.{◌≡◌, ◌⊎◌, inl, inr, refl, false, ℕ, ◌+◌, ◌<◌, ◌≤◌, List, [], ◌∷◌, ◌++◌, length, Option, Some, None, sym, ◌∙◌, ap, subst, arith, append-nil, append_assoc}
use Rattle.std.specs.Prelude.{IfSome, slice_set}
use Rattle.std.proofs.lemmas.List.{length-append, length-map, set-set}
use Rattle.requests.specs.declared.refusal.Refusal.{Refusal}
use Rattle.requests.specs.declared.refusal.Refusal.TheVariants as refusal
use Rattle.tickets.specs.Claims.{ClaimView}
use Rattle.transactions.specs.declared.progress.Progress.{Progress}
use Rattle.transactions.specs.declared.progress.Gathered.{Gathered}
use Rattle.transactions.specs.declared.progress.Gathered.TheVariants.{Next, Finish}
use Rattle.transactions.specs.declared.work.Found.{Found}
use Rattle.transactions.specs.Progresses.{FollowsFrom, works_of}
use Rattle.transactions.specs.declared.laws.TheConstants.{MOST_ACTIONS}
use Rattle.world.specs.declared.desk.Active.{Active}
use Rattle.world.specs.declared.flight.Flow.{Flow}
use Rattle.world.specs.declared.flight.Item.{Item}
use Rattle.world.specs.declared.flight.Report.{Report}
use Rattle.world.specs.declared.world.Parts.{Parts}
use Rattle.transactions.specs.SortedOut.{IsRefusedFor, found_by, held_by, refused_by}
use Rattle.world.specs.declared.slots.TheConstants.{MOST_ACTIVE}
use Rattle.world.specs.Following.{CarriesFirst, IfCarried, found_in, held_in, holding, putting, rans_of, refusal_of, refused, releasing, with_active}
use Rattle.world.specs.Events.{CanMeet, CanMeetFor, GathersInto, HasMet, MeetsAs, MeetsUnless, goes_on}
use Rattle.transactions.proofs.Reached.{few_actions}
use Rattle.transactions.proofs.SortedOut.{few_held, memory_last, none_before, not_refused, one_finds, one_holds, was_none}

-- the actions of the phase that follows are few
pub next_few : (progress next : Progress) (found : List Found) → HasMet progress found → FollowsFrom progress found (Next next) → length (works_of next) ≤ MOST_ACTIONS
next_few progress next found met follows =
    let held = met.2 in
    let claims = met.3 in
    omega (arith, few_actions met.0 met.1 next (held ++ claims) (follows met.0 met.1 held claims met.4 met.5))

-- what is put into a slot that was emptied before
pub put_twice : {X : Type 0} (slots mid now : List (Option X)) (slot : ℕ) (a : Option X) → mid ≡ slice_set slots slot None → now ≡ slice_set mid slot a → now ≡ slice_set slots slot a
put_twice slots mid now slot a free put = put ∙ ap (λ l. slice_set l slot a) free ∙ set-set slots slot None a

module _ {J : Type 0} where
  -- ---- one report more

  module _ (r : Report J) (rest results : List (Report J)) (is : results ≡ r ∷ rest) where
    pub held_more : (held new all : List (List ClaimView)) → new ≡ held ++ held_by r.ran → held ++ held_in results ≡ all → new ++ held_in rest ≡ all
    held_more held new all put before =
        ap (λ hs. hs ++ held_in rest) put ∙ append_assoc held (held_by r.ran) (held_in rest) ∙ ap (λ rs. held ++ held_in rs) (sym is) ∙ before

    pub room_more : (held new : List (List ClaimView)) → new ≡ held ++ held_by r.ran → length held + length results ≤ MOST_ACTIONS → length new + length rest ≤ MOST_ACTIONS
    room_more held new put room =
        omega (arith, room, ap (λ rs. length rs) is, ap (λ hs. length hs) put, length-append held (held_by r.ran), one_holds r.ran)

    pub refusal_more : (why next last : Option Refusal) → next ≡ refused_by why r.ran → refusal_of why results ≡ last → refusal_of next rest ≡ last
    refusal_more why next last recorded before = ap (λ o. refusal_of o rest) recorded ∙ ap (λ rs. refusal_of why rs) (sym is) ∙ before

    pub found_more : (why next : Option Refusal) (found new all : List Found) → next ≡ refused_by why r.ran → (next ≡ None → new ≡ found ++ found_by r.ran)
        → (why ≡ None → found ++ found_in results ≡ all) → next ≡ None → new ++ found_in rest ≡ all
    found_more why next found new all recorded put before none =
        ap (λ fs. fs ++ found_in rest) (put none) ∙ append_assoc found (found_by r.ran) (found_in rest) ∙ ap (λ rs. found ++ found_in rs) (sym is)
        ∙ before (was_none why r.ran (sym recorded ∙ none))

    pub found_room_more : (why next : Option Refusal) (found new : List Found) (capacity now : ℕ) → next ≡ refused_by why r.ran → (next ≡ None → new ≡ found ++ found_by r.ran)
        → (next ≡ None → now ≡ capacity) → (why ≡ None → length found + length results ≤ capacity) → next ≡ None → length new + length rest ≤ now
    found_room_more why next found new capacity now recorded put same room none =
        omega (
          arith,
          room (was_none why r.ran (sym recorded ∙ none)),
          ap (λ rs. length rs) is,
          ap (λ fs. length fs) (put none),
          length-append found (found_by r.ran),
          one_finds r.ran,
          same none,
        )

  -- ---- all reports

  -- the first carried the transaction, which holds what all hold
  pub carried_first : (r : Report J) (rest all : List (Report J)) (flow last : Flow J) (held : List (List ClaimView)) → all ≡ r ∷ rest → r.flow ≡ Some flow
      → held ≡ flow.transaction.held ++ held_by r.ran
      → last ≡ record flow { transaction = record flow.transaction { held = last.transaction.held } } → last.transaction.held ++ held_in {J = J} [] ≡ held ++ held_in rest
      → CarriesFirst all (λ f. last ≡ record f { transaction = holding f.transaction (held_in all) })
  carried_first r rest all flow last held is carried first only end =
      let is_held : last.transaction.held ≡ flow.transaction.held ++ held_in (r ∷ rest) =
      sym (append-nil last.transaction.held) ∙ end ∙ ap (λ hs. hs ++ held_in rest) first ∙ append_assoc flow.transaction.held (held_by r.ran) (held_in rest) in
      let whole : last ≡ record flow { transaction = holding flow.transaction (held_in (r ∷ rest)) } =
      only ∙ ap (λ (hs : List (List ClaimView)). record flow { transaction = record flow.transaction { held = hs } }) is_held in
      subst (λ (rs : List (Report J)). CarriesFirst rs (λ f. last ≡ record f { transaction = holding f.transaction (held_in rs) })) (sym is)
      (subst (λ (o : Option (Flow J)). IfCarried o (λ f. last ≡ record f { transaction = holding f.transaction (held_in (r ∷ rest)) })) (sym carried) whole)

  -- the refusal is that of all
  pub refusal_all : (r : Report J) (rest all results : List (Report J)) (why first last : Option Refusal) → all ≡ r ∷ rest → results ≡ [] → first ≡ refused_by why r.ran
      → refusal_of last results ≡ refusal_of first rest → last ≡ refusal_of why all
  refusal_all r rest all results why first last is empty recorded end =
      ap (λ rs. refusal_of last rs) (sym empty) ∙ end ∙ ap (λ o. refusal_of o rest) recorded ∙ ap (λ rs. refusal_of why rs) (sym is)

  -- and where there is none, what was found is what all found
  pub found_all : (r : Report J) (rest all results : List (Report J)) (why first last : Option Refusal) (given put found : List Found) → all ≡ r ∷ rest → results ≡ []
      → first ≡ refused_by why r.ran → refusal_of last results ≡ refusal_of first rest → (why ≡ None → given ≡ []) → (first ≡ None → put ≡ given ++ found_by r.ran)
      → (last ≡ None → found ++ found_in results ≡ put ++ found_in rest) → last ≡ None → found ≡ found_in all
  found_all r rest all results why first last given put found is empty recorded end start one more none =
      let first_none : first ≡ None = not_refused first (rans_of rest) (sym end ∙ ap (λ rs. refusal_of last rs) empty ∙ none) in
      let why_none : why ≡ None = was_none why r.ran (sym recorded ∙ first_none) in
      sym (append-nil found) ∙ ap (λ rs. found ++ found_in rs) (sym empty) ∙ more none
      ∙ ap (λ fs. fs ++ found_in rest) (one first_none ∙ ap (λ fs. fs ++ found_by r.ran) (start why_none)) ∙ ap (λ rs. found_in rs) (sym is)

  -- ---- what follows

  -- what is carried is there
  pub carried_there : (reports : List (Report J)) (P Q : Flow J → Type 0) → ((f : Flow J) → P f → Q f) → CarriesFirst reports P → CarriesFirst reports Q
  carried_there [] P Q gives h = absurd h
  carried_there (r ∷ reports) P Q gives h = by r.flow h
    where
      by : (o : Option (Flow J)) → IfCarried o P → IfCarried o Q
      by None h = absurd h
      by (Some f) h = gives f h

  -- and one thing is so of it as another is
  pub carried_both : (reports : List (Report J)) (P Q : Flow J → Type 0) (G : Type 0) → ((f : Flow J) → P f → Q f → G) → CarriesFirst reports P → CarriesFirst reports Q → G
  carried_both [] P Q G gives h k = absurd h
  carried_both (r ∷ reports) P Q G gives h k = by r.flow h k
    where
      by : (o : Option (Flow J)) → IfCarried o P → IfCarried o Q → G
      by None h k = absurd h
      by (Some f) h k = gives f h k

  -- the transaction once all is sorted out
  abbrev pub IsSorted : List (Report J) → Flow J → Type 0
  IsSorted reports last = CarriesFirst reports (λ f. last ≡ record f { transaction = holding f.transaction (held_in reports) })

  pub sorted_room : (reports : List (Report J)) (last : Flow J) → CanMeet reports → IsSorted reports last → length last.transaction.held ≤ MOST_ACTIONS
  sorted_room reports last can sorted =
      carried_both reports (CanMeetFor reports) (λ f. last ≡ record f { transaction = holding f.transaction (held_in reports) }) (length last.transaction.held ≤ MOST_ACTIONS)
      (λ f meets is.
      omega (arith, meets.room, ap (λ (x : Flow J). length x.transaction.held) is, length-append f.transaction.held (held_in reports), few_held (rans_of reports), length-map reports (λ r. r.ran))) can sorted

  -- the transaction is still in its slot
  pub sorted_slot : (reports : List (Report J)) (last : Flow J) → CanMeet reports → IsSorted reports last → last.transaction.slot < MOST_ACTIVE
  sorted_slot reports last can sorted =
      carried_both reports (CanMeetFor reports) (λ f. last ≡ record f { transaction = holding f.transaction (held_in reports) }) (last.transaction.slot < MOST_ACTIVE)
      (λ f meets is. subst (λ n. n < MOST_ACTIVE) (sym (ap (λ (x : Flow J). x.transaction.slot) is)) meets.slot) can sorted

  -- where it isn't refused, its actions have done their work
  pub sorted_done : (reports : List (Report J)) (last : Flow J) (start : Option Refusal) (found : List Found) → CanMeet reports → IsSorted reports last → refusal_of start reports ≡ None → found ≡ found_in reports
      → HasMet last.progress found
  sorted_done reports last start found can sorted none is_found =
      let from_none : refusal_of None reports ≡ None = none_before start (rans_of reports) none in
      carried_both reports (CanMeetFor reports) (λ f. last ≡ record f { transaction = holding f.transaction (held_in reports) })
      (HasMet last.progress found)
      (λ f meets is.
      subst (λ fs. HasMet last.progress fs) (sym is_found) (subst (λ (x : Flow J). HasMet x.progress (found_in reports)) (sym is) (meets.done from_none))) can sorted

  -- it is refused, where an action has died or found no memory, or there was none to gather what they found
  meets_refused : (reports : List (Report J)) (last : Flow J) (start : Option Refusal) (why : Refusal) (old new : Parts J) → IsSorted reports last
      → IfSome start (λ w. w ≡ refusal.NoMemory) → refusal_of start reports ≡ Some why → new ≡ releasing false (refused last.transaction why) old → MeetsAs reports old new
  meets_refused reports last start why old new sorted begun recorded is =
      carried_there reports (λ f. last ≡ record f { transaction = holding f.transaction (held_in reports) }) (λ f. MeetsUnless (refusal_of None reports) reports f old new)
      (λ f same. by f (is ∙ ap (λ (x : Flow J). releasing false (refused x.transaction why) old) same) start begun recorded) sorted
    where
      refused_at : (f : Flow J) → new ≡ releasing false (refused (holding f.transaction (held_in reports)) why) old → refusal_of None reports ≡ Some why → MeetsUnless (refusal_of None reports) reports f old new
      refused_at f so is_why = subst (λ o. MeetsUnless o reports f old new) (sym is_why) so

      by_memory : (f : Flow J) → new ≡ releasing false (refused (holding f.transaction (held_in reports)) why) old → refusal_of (Some refusal.NoMemory) reports ≡ Some why
          → ((refusal_of None reports ≡ None) × (refusal_of (Some refusal.NoMemory) reports ≡ Some refusal.NoMemory)) ⊎ (refusal_of (Some refusal.NoMemory) reports ≡ refusal_of None reports)
          → MeetsUnless (refusal_of None reports) reports f old new
      by_memory f so is_why (inl none) =
          let memory = none.1 in
          let same : why ≡ refusal.NoMemory = cc in
          subst (λ o. MeetsUnless o reports f old new) (sym none.0) (inl (so ∙ ap (λ w. releasing false (refused (holding f.transaction (held_in reports)) w) old) same))
      by_memory f so is_why (inr alike) = refused_at f so (sym alike ∙ is_why)

      by : (f : Flow J) → new ≡ releasing false (refused (holding f.transaction (held_in reports)) why) old → (before : Option Refusal) → IfSome before (λ w. w ≡ refusal.NoMemory)
          → refusal_of before reports ≡ Some why → MeetsUnless (refusal_of None reports) reports f old new
      by f so None begun recorded = refused_at f so recorded
      by f so (Some w) begun recorded = by_memory f so (ap (λ (r : Refusal). refusal_of (Some r) reports) (sym begun) ∙ recorded) (memory_last (rans_of reports))

  -- or what they found is gathered
  pub meets_gathered : (reports : List (Report J)) (last : Flow J) (start : Option Refusal) (found : List Found) (old new : Parts J) → IsSorted reports last
      → refusal_of start reports ≡ None → found ≡ found_in reports → GathersInto last.progress found last.transaction old new → MeetsAs reports old new
  meets_gathered reports last start found old new sorted none is_found gathers =
      let from_none : refusal_of None reports ≡ None = none_before start (rans_of reports) none in
      carried_there reports (λ f. last ≡ record f { transaction = holding f.transaction (held_in reports) }) (λ f. MeetsUnless (refusal_of None reports) reports f old new)
      (λ f same.
      subst (λ o. MeetsUnless o reports f old new) (sym from_none)
      (subst (λ (x : Flow J). GathersInto x.progress (found_in reports) x.transaction old new) same (subst (λ fs. GathersInto last.progress fs last.transaction old new) is_found gathers))) sorted

  -- the next phase begins, or an allocation fails
  pub meets_next : (reports : List (Report J)) (last : Flow J) (start : Option Refusal) (found : List Found) (next : Progress) (old new : Parts J) → IsSorted reports last
      → refusal_of start reports ≡ None → found ≡ found_in reports → FollowsFrom last.progress found (Next next)
      → (new ≡ releasing false (refused last.transaction refusal.NoMemory) old) ⊎ (new ≡ goes_on last.transaction (Next next) old) → MeetsAs reports old new
  meets_next reports last start found next old new sorted none is_found follows (inl is) = meets_gathered reports last start found old new sorted none is_found (inl is)
  meets_next reports last start found next old new sorted none is_found follows (inr is) =
      meets_gathered reports last start found old new sorted none is_found (inr (Next next, (follows, is)))

  -- and where it is refused in the end, it is so for what came of its actions, or for lack of memory for what follows
  pub meets_over : (reports : List (Report J)) (last : Flow J) (start end : Option Refusal) (why : Refusal) (old new : Parts J) → IsSorted reports last
      → IfSome start (λ w. w ≡ refusal.NoMemory) → end ≡ refusal_of start reports → IsRefusedFor end why → new ≡ releasing false (refused last.transaction why) old → MeetsAs reports old new
  meets_over reports last start (Some first) why old new sorted begun recorded for is =
      meets_refused reports last start why old new sorted begun (sym recorded ∙ ap (λ (w : Refusal). Some w) (sym for)) is
  meets_over reports last start None why old new sorted begun recorded for is =
      meets_gathered reports last start (found_in reports) old new sorted (sym recorded) refl
      (inl (subst (λ w. new ≡ releasing false (refused last.transaction w) old) for is))

  -- whatever was in the transaction's slot
  putting_over : (items : List (Item J)) (own slot : ℕ) (b a : Option (Active J)) (w : Parts J) → own ≡ slot → putting items own b (with_active slot a w) ≡ putting items own b w
  putting_over items own slot b a w same =
      ap (λ (l : List (Option (Active J))). record w { outbox = w.outbox ++ items; desk = record w.desk { active = l } })
      (subst (λ n. slice_set (slice_set w.desk.active n a) own b ≡ slice_set w.desk.active own b) same (set-set w.desk.active own a b))

  unless_active : (why : Option Refusal) (reports : List (Report J)) (f : Flow J) (slot : ℕ) (a : Option (Active J)) (old new : Parts J) → f.transaction.slot ≡ slot
      → MeetsUnless why reports f (with_active slot a old) new → MeetsUnless why reports f old new
  unless_active (Some why) reports f slot a old new same h = h ∙ putting_over _ f.transaction.slot slot _ a old same
  unless_active None reports f slot a old new same (inl h) = inl (h ∙ putting_over _ f.transaction.slot slot _ a old same)
  unless_active None reports f slot a old new same (inr h) = inr (h.0, (h.1.0, h.1.1 ∙ goes_alike h.0))
    where
      goes_alike : (g : Gathered) → goes_on (holding f.transaction (held_in reports)) g (with_active slot a old) ≡ goes_on (holding f.transaction (held_in reports)) g old
      goes_alike (Next progress) = putting_over _ f.transaction.slot slot _ a old same
      goes_alike (Finish shown) = putting_over _ f.transaction.slot slot _ a old same

  pub meets_active : (reports : List (Report J)) (slot : ℕ) (a : Option (Active J)) (old new : Parts J) → CarriesFirst reports (λ f. f.transaction.slot ≡ slot)
      → MeetsAs reports (with_active slot a old) new → MeetsAs reports old new
  meets_active [] slot a old new own h = h
  meets_active (r ∷ reports) slot a old new own h = by r.flow own h
    where
      by : (o : Option (Flow J)) → IfCarried o (λ f. f.transaction.slot ≡ slot) → IfCarried o (λ f. MeetsUnless (refusal_of None (r ∷ reports)) (r ∷ reports) f (with_active slot a old) new)
          → IfCarried o (λ f. MeetsUnless (refusal_of None (r ∷ reports)) (r ∷ reports) f old new)
      by None own h = h
      by (Some f) own h = unless_active (refusal_of None (r ∷ reports)) (r ∷ reports) f slot a old new own h
