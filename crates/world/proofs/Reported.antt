-- What the actions of a phase have reported, once all have.
use Rattle.std.proofs.Common.{◌≡◌, ◌⊎◌, inl, inr, ℕ, ◌+◌, ◌<◌, ◌≤◌, zero, suc, List, [], ◌∷◌, ◌++◌, length, Option, Some, None, refl, sym, ◌∙◌, ap, subst, arith, append-nil, append_assoc}
use Rattle.std.specs.Prelude.{All, Contains, map, slice_set}
use Rattle.std.specs.List.{slice_get}
use Rattle.std.proofs.lemmas.List.{length-append, length-map, length-set}
use Rattle.std.proofs.lemmas.List.Elements.{All-nil, All-cons, All-append}
use Rattle.std.proofs.lemmas.Option.{slice_get-map}
use Rattle.partitions.specs.Parts.{SharedTables}
use Rattle.requests.specs.declared.group.Group.{Group}
use Rattle.requests.specs.declared.refusal.Refusal.TheVariants as refusal
use Rattle.groups.specs.declared.group_wants.GroupWant.{GroupWant}
use Rattle.groups.specs.Footprint.{groups_of}
use Rattle.tickets.specs.Claims.{ClaimView, all_claims}
use Rattle.transactions.specs.Works.{HaveAllDone, HasDone, all_group_wants, group_wants_of}
use Rattle.transactions.specs.declared.work.Work.{Work}
use Rattle.transactions.specs.declared.acting.Ran.{Ran}
use Rattle.transactions.specs.declared.acting.Ran.TheVariants as ran
use Rattle.transactions.specs.Acting.{claims_of_ran, AreUndoneBy}
use Rattle.transactions.specs.Progresses.{works_of}
use Rattle.rendezvous.specs.Awaited.{reported}
use Rattle.world.specs.declared.flight.Flow.{Flow}
use Rattle.world.specs.declared.flight.Report.{Report}
use Rattle.world.specs.Flights.{part, join, parts, part_carried, part_met, unanswered_transaction}
use Rattle.transactions.specs.SortedOut.{found_by, held_by, refused_by}
use Rattle.transactions.proofs.SortedOut.{one_holds, stays_refused, IfDied}
use Rattle.world.specs.Following.{found_in, held_in, rans_of, refusal_of}
use Rattle.world.specs.Sound.{NamesOlder, ActiveTransaction, IsPlaceOf, IsWorkAt, IsSoundFlow, IsCarriedAt, IsSoundRan, IsSoundReport, IsSoundPhase}
use Rattle.world.proofs.Joins.{IsSame, same-refl, same-trans, same-join, same-middle}
use Rattle.transactions.proofs.OnGroups.{first_group_want, later_group_want}

-- ---- lists

-- the claims of some actions and then of others
pub all_claims-append : (some others : List (List ClaimView)) → all_claims (some ++ others) ≡ all_claims some ++ all_claims others
all_claims-append [] others = refl
all_claims-append (claims ∷ some) others =
    ap (λ cs. claims ++ cs) (all_claims-append some others) ∙ sym (append_assoc claims (all_claims some) (all_claims others))

-- an element of a list after one is set: the new one, or one that was there
pub put_at : {X : Type 0} (xs : List X) (k i : ℕ) (x y : X) → slice_get (slice_set xs k x) i ≡ Some y → ((i ≡ k) × (x ≡ y)) ⊎ (slice_get xs i ≡ Some y)
put_at [] k i x y is = absurd (cc)
put_at (z ∷ xs) zero zero x y is = inl (refl, cc)
put_at (z ∷ xs) zero (suc i) x y is = inr is
put_at (z ∷ xs) (suc k) zero x y is = inr is
put_at (z ∷ xs) (suc k) (suc i) x y is = by (put_at xs k i x y is)
  where
    by : ((i ≡ k) × (x ≡ y)) ⊎ (slice_get xs i ≡ Some y) → ((suc i ≡ suc k) × (x ≡ y)) ⊎ (slice_get xs i ≡ Some y)
    by (inl put) = inl (ap suc put.0, put.1)
    by (inr stood) = inr stood

pub reported-map : {R : Type 0} (rs : List R) → reported (map Some rs) ≡ rs
reported-map [] = refl
reported-map (r ∷ rs) = ap (λ ts. r ∷ ts) (reported-map rs)

module _ {J : Type 0} where
  -- ---- parts

  pub met_tokens : (rs : List (Report J)) → (parts part_met rs).tokens ≡ []
  met_tokens [] = refl
  met_tokens (r ∷ rs) = met_tokens rs

  -- one more report has met
  pub met_one_more : (slots : List (Option (Report J))) (place : ℕ) (r : Report J) → slice_get slots place ≡ Some None
      → IsSame (parts part_met (reported (slice_set slots place (Some r)))) (join (part_met r) (parts part_met (reported slots)))
  met_one_more [] place r waits = absurd (cc)
  met_one_more (None ∷ slots) zero r waits = same-refl (join (part_met r) (parts part_met (reported slots)))
  met_one_more (Some q ∷ slots) zero r waits = absurd (cc)
  met_one_more (None ∷ slots) (suc place) r waits = met_one_more slots place r waits
  met_one_more (Some q ∷ slots) (suc place) r waits =
      same-trans (join (part_met q) (parts part_met (reported (slice_set slots place (Some r)))))
      (join (part_met q) (join (part_met r) (parts part_met (reported slots))))
      (join (part_met r) (join (part_met q) (parts part_met (reported slots))))
      (same-join (part_met q) (part_met q) _ _ (same-refl (part_met q)) (met_one_more slots place r waits))
      (same-middle (part_met q) (part_met r) (parts part_met (reported slots)))

  -- what an action holds
  held_by_ran : (r : Ran J) → claims_of_ran r ≡ all_claims (held_by r)
  held_by_ran (ran.Done claims found) = sym (append-nil claims)
  held_by_ran (ran.Died group holder) = refl
  held_by_ran ran.NoMemory = refl

  -- ---- the reports of a phase

  module _ (shared : SharedTables) (slot : ℕ) (u : ActiveTransaction) where
    -- an action that ran has done this work, and all of it can be undone; or it died of an older holder, on a group that it claims for the work
    abbrev pub HasRan : Work → Ran J → Type 0
    HasRan work (ran.Done claims found) = HasDone shared work found claims × AreUndoneBy u.age claims
    HasRan work (ran.Died group holder) = Contains (groups_of (group_wants_of work)) group × (holder < u.age)
    HasRan work ran.NoMemory = Unit {0}

    -- From this place on each action has reported of its own work.
    abbrev pub HaveReported : ℕ → List Work → List (Report J) → Type 0
    HaveReported place [] [] = Unit {0}
    HaveReported place (work ∷ works) (r ∷ reports) = (IsCarriedAt slot u place r.flow × HasRan work r.ran) × HaveReported (suc place) works reports
    HaveReported place works reports = ⊥

    ran_at : (place : ℕ) (work : Work) (r : Ran J) → IsWorkAt u place work → IsSoundRan shared u place r → HasRan work r
    ran_at place work (ran.Done claims found) at h =
        let other = h.1.0 in
        let same : h.0 ≡ work = cc in
        subst (λ (w : Work). HasDone shared w found claims × AreUndoneBy u.age claims) same h.1.1
    ran_at place work (ran.Died group holder) at h =
        let other = h.1.0 in
        let same : h.0 ≡ work = cc in
        subst (λ (w : Work). Contains (groups_of (group_wants_of w)) group × (holder < u.age)) same h.1.1
    ran_at place work ran.NoMemory at h = tt

    have_reported : (place : ℕ) (works : List Work) (reports : List (Report J)) → length reports ≡ length works
        → ((i : ℕ) → slice_get (works_of u.progress) (place + i) ≡ slice_get works i)
        → ((i : ℕ) (r : Report J) → slice_get reports i ≡ Some r → IsPlaceOf u (place + i) r.place × ((r.slot ≡ slot) × IsSoundReport shared u r))
        → HaveReported place works reports
    have_reported place [] [] many at each = tt
    have_reported place [] (r ∷ reports) many at each = absurd (omega (arith, many))
    have_reported place (work ∷ works) [] many at each = absurd (omega (arith, many))
    have_reported place (work ∷ works) (r ∷ reports) many at each =
        let first = each 0 r refl in
        let zero_more : place + 0 ≡ place = omega arith in
        let one = first.1.1 in
        let here : one.number ≡ place = omega (arith, first.0, one.place) in
        let carried : IsCarriedAt slot u place r.flow = subst (λ s. IsCarriedAt s u place r.flow) first.1.0 (subst (λ n. IsCarriedAt r.slot u n r.flow) here one.flow) in
        let own : IsWorkAt u place work = subst (λ n. slice_get (works_of u.progress) n ≡ Some work) zero_more (at 0) in (
          (carried, ran_at place work r.ran own (subst (λ n. IsSoundRan shared u n r.ran) here one.ran)),
          have_reported (suc place) works reports (omega (arith, many))
              (λ i. let one_more : place + suc i ≡ suc place + i = omega arith in subst (λ n. slice_get (works_of u.progress) n ≡ slice_get works i) one_more (at (suc i)))
              (λ i q is. let e = each (suc i) q is in (omega (arith, e.0), e.1)),
        )

    -- where all places of the phase have reported
    pub phase_reported : (first k : ℕ) (slots : List (Option (Report J))) (r : Report J) (reports : List (Report J)) → IsSoundPhase shared slot u first slots → IsSoundReport shared u r
        → r.slot ≡ slot → r.place ≡ first + k → map Some reports ≡ slice_set slots k (Some r) → HaveReported 0 (works_of u.progress) reports
    phase_reported first k slots r reports at s own here all =
        let many : length reports ≡ length (works_of u.progress) =
        sym (length-map reports Some) ∙ ap (λ (l : List (Option (Report J))). length l) all ∙ length-set slots k (Some r) ∙ at.many in
        have_reported 0 (works_of u.progress) reports many (λ i. let same : 0 + i ≡ i = omega arith in ap (λ n. slice_get (works_of u.progress) n) same)
        (λ i q is. by i q (put_at slots k i (Some r) (Some q) (subst (λ (l : List (Option (Report J))). slice_get l i ≡ Some (Some q)) all (slice_get-map Some reports i ∙ ap (λ o. some_of o) is))))
      where
        some_of : Option (Report J) → Option (Option (Report J))
        some_of None = None
        some_of (Some q) = Some (Some q)

        by : (i : ℕ) (q : Report J) → ((i ≡ k) × (Some r ≡ Some q)) ⊎ (slice_get slots i ≡ Some (Some q)) → IsPlaceOf u (0 + i) q.place × ((q.slot ≡ slot) × IsSoundReport shared u q)
        by i q (inl put) =
            let both = put.1 in
            let same : r ≡ q = cc in
            subst (λ (p : Report J). IsPlaceOf u (0 + i) p.place × ((p.slot ≡ slot) × IsSoundReport shared u p)) same (omega (arith, put.0, here, at.first_is), (own, s))
        by i q (inr stood) = let recorded = at.reports i q stood in (omega (arith, recorded.0, at.first_is), recorded.1)

    -- ---- which report carries the transaction

    pub is_carried : (o : Option (Flow J)) → IsCarriedAt slot u 0 o → (flow : Flow J) × ((o ≡ Some flow) × IsSoundFlow slot u flow)
    is_carried None h = absurd h
    is_carried (Some flow) h = (flow, (refl, h))

    carries_none : (place : ℕ) (o : Option (Flow J)) → IsCarriedAt slot u (suc place) o → o ≡ None
    carries_none place None h = refl
    carries_none place (Some flow) h = absurd h

    part_later : (place : ℕ) (r : Report J) → IsCarriedAt slot u (suc place) r.flow → part_met r ≡ part (all_claims (held_by r.ran)) [] []
    part_later place r h =
        ap (λ (o : Option (Flow J)). part ((part_carried o).claims ++ claims_of_ran r.ran) (part_carried o).pending []) (carries_none place r.flow h)
        ∙ ap (λ cs. part cs [] []) (held_by_ran r.ran)

    parts_later : (place : ℕ) (works : List Work) (reports : List (Report J)) → HaveReported (suc place) works reports
        → parts part_met reports ≡ part (all_claims (held_in reports)) [] []
    parts_later place [] [] h = refl
    parts_later place [] (r ∷ reports) h = absurd h
    parts_later place (work ∷ works) [] h = absurd h
    parts_later place (work ∷ works) (r ∷ reports) h =
        (λ i. join (part_later place r h.0.0 i) (parts_later (suc place) works reports h.1 i))
        ∙ ap (λ cs. part cs [] []) (sym (all_claims-append (held_by r.ran) (held_in reports)))

    -- all that the reports have: the transaction with what it held, and what the actions hold
    pub parts_all : (works : List Work) (r : Report J) (reports : List (Report J)) (flow : Flow J) → HaveReported 0 works (r ∷ reports) → r.flow ≡ Some flow
        → parts part_met (r ∷ reports) ≡ part (all_claims (flow.transaction.held ++ held_in (r ∷ reports))) (unanswered_transaction flow.transaction ∷ []) []
    parts_all [] r reports flow h is = absurd h
    parts_all (work ∷ works) r reports flow h is =
        let t = flow.transaction in
        let own = all_claims (held_by r.ran) in
        let first : part_met r ≡ part (all_claims t.held ++ own) (unanswered_transaction t ∷ []) [] =
        ap (λ (o : Option (Flow J)). part ((part_carried o).claims ++ claims_of_ran r.ran) (part_carried o).pending []) is
        ∙ ap (λ cs. part (all_claims t.held ++ cs) (unanswered_transaction t ∷ []) []) (held_by_ran r.ran) in
        (λ i. join (first i) (parts_later 0 works reports h.1 i))
        ∙ ap (λ cs. part cs (unanswered_transaction t ∷ []) []) (
        append_assoc (all_claims t.held) own (all_claims (held_in reports))
        ∙ ap (λ cs. all_claims t.held ++ cs) (sym (all_claims-append (held_by r.ran) (held_in reports)))
        ∙ sym (all_claims-append t.held (held_in (r ∷ reports)))
        )

    -- ---- what they found and hold

    one_done : (work : Work) (works : List Work) (reports : List (Report J)) (own : Ran J) → HasRan work own
        → (refusal_of None reports ≡ None → HaveAllDone shared works (found_in reports) (held_in reports))
        → refusal_of (refused_by None own) reports ≡ None
        → HaveAllDone shared (work ∷ works) (found_by own ++ found_in reports) (held_by own ++ held_in reports)
    one_done work works reports (ran.Done claims found) has rest none = (has.0, rest none)
    one_done work works reports (ran.Died group holder) has rest none = absurd (stays_refused (refusal.Died group holder) (rans_of reports) none)
    one_done work works reports ran.NoMemory has rest none = absurd (stays_refused refusal.NoMemory (rans_of reports) none)

    pub all_done : (place : ℕ) (works : List Work) (reports : List (Report J)) → HaveReported place works reports → refusal_of None reports ≡ None
        → HaveAllDone shared works (found_in reports) (held_in reports)
    all_done place [] [] h none = tt
    all_done place [] (r ∷ reports) h none = absurd h
    all_done place (work ∷ works) [] h none = absurd h
    all_done place (work ∷ works) (r ∷ reports) h none = one_done work works reports r.ran h.0.1 (all_done (suc place) works reports h.1) none

    pub all_undo : (place : ℕ) (works : List Work) (reports : List (Report J)) → HaveReported place works reports → All (AreUndoneBy u.age) (held_in reports)
    all_undo place [] [] h = All-nil (AreUndoneBy u.age)
    all_undo place [] (r ∷ reports) h = absurd h
    all_undo place (work ∷ works) [] h = absurd h
    all_undo place (work ∷ works) (r ∷ reports) h = All-append (AreUndoneBy u.age) (held_by r.ran) (held_in reports) (one_undo r.ran h.0.1) (all_undo (suc place) works reports h.1)
      where
        one_undo : (own : Ran J) → HasRan work own → All (AreUndoneBy u.age) (held_by own)
        one_undo (ran.Done claims found) has = All-cons (AreUndoneBy u.age) claims [] has.1 (All-nil (AreUndoneBy u.age))
        one_undo (ran.Died group holder) has = All-nil (AreUndoneBy u.age)
        one_undo ran.NoMemory has = All-nil (AreUndoneBy u.age)

    -- ---- why it is refused

    -- an action that died, died of an older holder, on a group among those that the work wants
    one_fair : (group_wants : List GroupWant) (work : Work) → ((group : Group) → Contains (groups_of (group_wants_of work)) group → Contains (groups_of group_wants) group)
        → (own : Ran J) → HasRan work own → IfDied (NamesOlder (groups_of group_wants) u.age) own
    one_fair group_wants work among (ran.Done claims found) has = tt
    one_fair group_wants work among (ran.Died group holder) has = (among group has.0, has.1)
    one_fair group_wants work among ran.NoMemory has = tt

    -- so did all actions that died
    pub all_fair : (group_wants : List GroupWant) (place : ℕ) (works : List Work) (reports : List (Report J)) → HaveReported place works reports
        → ((group : Group) → Contains (groups_of (all_group_wants works)) group → Contains (groups_of group_wants) group)
        → All (IfDied (NamesOlder (groups_of group_wants) u.age)) (rans_of reports)
    all_fair group_wants place [] [] h among = All-nil (IfDied (NamesOlder (groups_of group_wants) u.age))
    all_fair group_wants place [] (r ∷ reports) h among = absurd h
    all_fair group_wants place (work ∷ works) [] h among = absurd h
    all_fair group_wants place (work ∷ works) (r ∷ reports) h among =
        All-cons (IfDied (NamesOlder (groups_of group_wants) u.age)) r.ran (rans_of reports)
        (one_fair group_wants work (λ group is. among group (first_group_want work works group is)) r.ran h.0.1)
        (all_fair group_wants (suc place) works reports h.1 (λ group is. among group (later_group_want work works group is)))

    -- those that hold claims are no more than they are
    pub few_hold : (place : ℕ) (works : List Work) (reports : List (Report J)) → HaveReported place works reports → length (held_in reports) ≤ length works
    few_hold place [] [] h = omega arith
    few_hold place [] (r ∷ reports) h = absurd h
    few_hold place (work ∷ works) [] h = absurd h
    few_hold place (work ∷ works) (r ∷ reports) h =
        omega (arith, one_holds r.ran, length-append (held_by r.ran) (held_in reports), few_hold (suc place) works reports h.1)
