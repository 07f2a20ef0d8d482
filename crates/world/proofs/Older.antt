-- No claim of a transaction conflicts with an action of its own, so an action that dies, dies of an older transaction.
use Rattle.std.proofs.Common.{◌≡◌, ◌⊎◌, inl, inr, ℕ, ◌+◌, ◌-◌, ◌<◌, ◌≤◌, ◌==◌, zero, suc, Bool, true, false, List, [], ◌∷◌, ◌++◌, length, map, Option, Some, None, refl, sym, ap, subst, ◌∙◌, ⊎_elim, arith, cond, eq-eqb}
use Rattle.std.specs.Prelude.{All, Contains}
use Rattle.std.specs.List.{slice_get, sum_by}
use Rattle.std.proofs.lemmas.List.Elements.{All-contains, Contains-append_cases, All-contains_itself, All-nil, All-weaker, Contains-append_left, Contains-append_right}
use Rattle.std.proofs.lemmas.List.Sorted.{Contains-permutation}
use Rattle.std.proofs.lemmas.List.Sums.{sum_by-append, sum_by-cons}
use Rattle.std.proofs.lemmas.Map.Views.{exact_unsigned_eq}
use Rattle.partitions.specs.Parts.{SharedTables, shared_of}
use Rattle.requests.specs.declared.group.Group.{Group}
use Rattle.groups.specs.Footprint.{groups_of, footprint}
use Rattle.tickets.specs.Claims.{ClaimView, all_claims}
use Rattle.local_locks.specs.Conflicts.{MustDie}
use Rattle.local_locks.specs.LockTableView.{HeldClaim}
use Rattle.local_locks.proofs.Members.{contains_none, contains_here}
use Rattle.rendezvous.specs.Awaited.{awaited_from, reported}
use Rattle.slices.specs.SliceView.{held_at, SliceView}
use Rattle.transactions.specs.declared.acting.Ran.{Ran}
use Rattle.transactions.specs.declared.acting.Ran.TheVariants as ran
use Rattle.transactions.specs.declared.work.Work.{Work}
use Rattle.transactions.specs.Acting.{claims_of_ran, IsBy, IsRan, IsAged}
use Rattle.transactions.specs.Laws.{TransactionsClaimEachGroupOnce}
use Rattle.transactions.specs.Progresses.{works_of}
use Rattle.transactions.specs.Works.{wants_of, group_wants_of, all_group_wants}
use Rattle.transactions.proofs.Reached.{some_actions, within}
use Rattle.transactions.proofs.GroupWanted.{works_have_a_claim_for_each_group_want}
use Rattle.world.specs.declared.desk.Active.{Active}
use Rattle.world.specs.declared.desk.Active.TheVariants as active
use Rattle.world.specs.declared.flight.Act.{Act as AnyAct}
use Rattle.world.specs.declared.flight.Flow.{Flow}
use Rattle.world.specs.declared.flight.Item.{Item}
use Rattle.world.specs.declared.flight.Item.TheVariants as item
use Rattle.world.specs.declared.flight.Message.{Message}
use Rattle.world.specs.declared.flight.Message.TheVariants.{Start, Act, Settle, Undo}
use Rattle.world.specs.declared.flight.Report.{Report}
use Rattle.world.specs.declared.world.Parts.{Parts}
use Rattle.world.specs.Flights.{Token, Acting, Committing, Ending, claims_reported, nothing, parts, part_carried, part_item, part_message, part_met, acting_from, unanswered_transaction}
use Rattle.world.specs.Parted.{joined_in}
use Rattle.world.specs.Sound.{ActiveTransactions, IsCarriedAt, IsSoundAct, IsSoundActive, IsSoundItem, IsSoundMessage, IsSoundPhase, IsSoundRan, IsSoundReport, IsSoundWith, IsWorkAt, ActiveTransaction, awaited_by_all, flight, reported_to_all, IsActiveAt, IsSoundFlow, reported_to}
use Rattle.world.proofs.Holders.{all_aged, claim_of, contains_mapped, first_acting, met_at, one_acting, one_of_all, reported_at, whose_claim, holder_active, whose_token, in_parts}
use Rattle.transactions.proofs.OnGroups.{claim_counts, claimed_once, dies_on, group_counts, one_of_works, two_of_works, counted_there, of_footprint}
use Rattle.world.proofs.OneSlot.{awaited_of, none_of_slot, of_slot, sound_in, weigh_slots, without}
use Rattle.world.proofs.Reported.{met_tokens}
use Rattle.world.proofs.Tokens.{IsFalse, acting_in_flight, acting_weighs, by_bool, commit_in_flight, ending_in_flight, is_itself, is_other, one_weighs, waiting_slot, weigh_acting, weigh_committing, weigh_ending}
use Rattle.schema.specs.Database.{Database}
use Rattle.wait_die.specs.declared.deciding.Holder.{Holder}
use Rattle.history.specs.History.{Step, UnansweredTransaction}
use Rattle.world.specs.Events.{holder_of}
use Rattle.world.specs.Worlds.{DiesOf, Fits, IsAcceptedIn, IsClaimOf, WasAccepted}

-- no more than the other, and not the same
lesser : (n m : ℕ) → n ≤ m → (n ≡ m → ⊥) → n < m
lesser n m below other = by (m - n) refl
  where
    by : (d : ℕ) → m - n ≡ d → n < m
    by zero is = absurd (other (omega (arith, is, below)))
    by (suc d) is = omega (arith, is)

-- ---- the token of an action is awaited once

acting_weighs_less : (slot place : ℕ) (ts : List Token) → sum_by (weigh_acting slot place) ts ≤ sum_by (weigh_slots (of_slot slot)) ts
acting_weighs_less slot place [] = omega arith
acting_weighs_less slot place (t ∷ ts) =
    omega (
      arith,
      one t,
      acting_weighs_less slot place ts,
      sum_by-cons (weigh_acting slot place) t ts,
      sum_by-cons (weigh_slots (of_slot slot)) t ts,
    )
  where
    both : (b c : Bool) → cond {A = ℕ} b (cond c 1 0) 0 ≤ cond {A = ℕ} b 1 0
    both true true = omega arith
    both true false = omega arith
    both false c = omega arith

    one : (t : Token) → weigh_acting slot place t ≤ weigh_slots (of_slot slot) t
    one (Acting s p) = both (slot == s) (place == p)
    one (Committing s) = omega arith
    one (Ending s) = omega arith

own_once : {R : Type 0} (slot place n : ℕ) (xs : List (Option R)) → sum_by (weigh_acting slot place) (map (Acting slot) (awaited_from n xs)) ≤ 1
own_once slot place n [] = omega arith
own_once slot place n (Some r ∷ xs) = own_once slot place (n + 1) xs
own_once slot place n (None ∷ xs) = by (sum_by (weigh_acting slot place) (map (Acting slot) (awaited_from (n + 1) xs))) refl (own_once slot place (n + 1) xs)
  where
    rest : List Token
    rest = map (Acting slot) (awaited_from (n + 1) xs)

    both : (b c : Bool) → cond {A = ℕ} b (cond c 1 0) 0 ≤ 1
    both true true = omega arith
    both true false = omega arith
    both false c = omega arith

    by : (k : ℕ) → sum_by (weigh_acting slot place) rest ≡ k → sum_by (weigh_acting slot place) rest ≤ 1 → sum_by (weigh_acting slot place) (Acting slot n ∷ rest) ≤ 1
    by zero none few = omega (arith, none, both (slot == slot) (place == n), sum_by-cons (weigh_acting slot place) (Acting slot n) rest)
    by (suc k) some few =
        let later = waiting_slot slot place (n + 1) xs (omega (arith, some)) in
        let other : (place == n) ≡ false = is_other place n (λ same. omega (arith, same, later.1.0)) in
        let weightless : weigh_acting slot place (Acting slot n) ≡ 0 =
        ap {B = ℕ} (λ b. cond b (cond (place == n) 1 0) 0) (is_itself slot) ∙ ap {B = ℕ} (λ b. cond b 1 0) other in
        omega (arith, weightless, few, sum_by-cons (weigh_acting slot place) (Acting slot n) rest)

at_most_one : {J : Type 0} (slot place : ℕ) (slots : List (Option (Active J))) (first : ℕ) (places : List (Option (Report J))) → slice_get slots slot ≡ Some (Some (active.Acting first places))
    → sum_by (weigh_acting slot place) (awaited_by_all 0 slots) ≤ 1
at_most_one slot place slots first places is =
    omega (
      arith,
      awaited_of (weigh_acting slot place) slot slots (Some (active.Acting first places)) is,
      own_once slot place first places,
      acting_weighs_less slot place (awaited_by_all 0 (without slot slots)),
      none_of_slot slot slots,
    )

-- what was reported of one phase was reported of all
reported_among : {J : Type 0} (slot : ℕ) (slots : List (Option (Active J))) (first : ℕ) (places : List (Option (Report J))) (r : Report J) → slice_get slots slot ≡ Some (Some (active.Acting first places))
    → Contains (reported places) r → Contains (reported_to_all slots) r
reported_among slot [] first places r is among = absurd (cc)
reported_among zero (a ∷ slots) first places r is among =
    let same : a ≡ Some (active.Acting first places) = cc in
    Contains-append_left (reported_to a) (reported_to_all slots) r (subst (λ o. Contains (reported_to o) r) (sym same) among)
reported_among (suc slot) (a ∷ slots) first places r is among = Contains-append_right (reported_to a) (reported_to_all slots) r (reported_among slot slots first places r is among)

module _ {J : Type 0} (shared : SharedTables) (w : Parts J) (h : IsSoundWith shared nothing w) where
  abbrev at : ActiveTransactions
  at = h.in_flight

  abbrev slots : List (Option (Active J))
  slots = w.desk.active

  sound : (slot : ℕ) (a : Option (Active J)) → slice_get slots slot ≡ Some a → IsSoundActive shared slot (at slot) a
  sound slot a there = sound_in shared at slot slots a h.active there

  -- what is in flight is what is awaited
  tokens : (weight : Token → ℕ) → sum_by weight (parts part_message w.inbox).tokens + sum_by weight (parts part_item w.outbox).tokens ≡ sum_by weight (awaited_by_all 0 slots)
  tokens weight =
      let in_inbox = parts part_message w.inbox in
      let in_outbox = parts part_item w.outbox in
      let in_meeting = parts part_met (reported_to_all slots) in
      omega (
        arith,
        h.balance.tokens weight,
        sum_by-append weight in_inbox.tokens (in_outbox.tokens ++ in_meeting.tokens),
        sum_by-append weight in_outbox.tokens in_meeting.tokens,
        ap (λ (ts : List Token). sum_by weight ts) (met_tokens (reported_to_all slots)),
      )

  -- ---- whose a claim is

  -- a phase is in flight of the transaction in this slot
  abbrev pub IsActing : ℕ → Type 0
  IsActing slot = (first : ℕ) × ((places : List (Option (Report J))) × (slice_get slots slot ≡ Some (Some (active.Acting first places))))

  -- it is to be logged, or it is over
  abbrev IsOver : ℕ → Type 0
  IsOver slot = (slice_get slots slot ≡ Some (Some active.Committing)) ⊎ ((left : ℕ) × (slice_get slots slot ≡ Some (Some (active.Ending left))))

  -- an action of its phase wanted for the claim's group, and is not to run any more
  abbrev HasRun : ℕ → ClaimView → Type 0
  HasRun slot c =
      (number : ℕ) × ((work : Work) × (IsWorkAt (at slot) number work
      × (Contains (groups_of (group_wants_of work)) c.group × (sum_by (weigh_acting slot (length (at slot).held + number)) (parts part_message w.inbox).tokens ≡ 0))))

  -- how the transaction in this slot comes by the claim
  abbrev Has : ℕ → ClaimView → Type 0
  Has slot c = (IsActing slot × (Contains (all_claims (at slot).held) c ⊎ HasRun slot c)) ⊎ IsOver slot

  -- the slot of the transaction that has it
  abbrev Whose : ClaimView → Type 0
  Whose c = (slot : ℕ) × ((c.by.age ≡ (at slot).age) × Has slot c)

  acting_at : (slot place : ℕ) → 1 ≤ sum_by (weigh_acting slot place) (awaited_by_all 0 slots) → IsActing slot
  acting_at slot place some = let there = acting_in_flight slot place slots some in (there.0, (there.1.0, there.1.1.0))

  active_of : (slot : ℕ) (c : ClaimView) → Has slot c → (a : Active J) × (slice_get slots slot ≡ Some (Some a))
  active_of slot c (inl has) = (active.Acting has.0.0 has.0.1.0, has.0.1.1)
  active_of slot c (inr (inl is)) = (active.Committing, is)
  active_of slot c (inr (inr is)) = (active.Ending is.0, is.1)

  module _ (c : ClaimView) where
    of_held : (slot : ℕ) → IsActing slot → Contains (all_claims (at slot).held) c → Whose c
    of_held slot acting is =
        let phase : IsSoundPhase shared slot (at slot) acting.0 acting.1.0 = sound slot (Some (active.Acting acting.0 acting.1.0)) acting.1.1 in
        (slot, (All-contains (IsAged (at slot).age) (all_claims (at slot).held) c (all_aged (at slot).age (at slot).held phase.undo) is, inl (acting, inl is)))

    of_carried : (slot number : ℕ) (o : Option (Flow J)) → IsCarriedAt slot (at slot) number o → IsActing slot → Contains (part_carried o).claims c → Whose c
    of_carried slot number None k acting is = contains_none c is
    of_carried slot zero (Some flow) k acting is = of_held slot acting (subst (λ (held : List (List ClaimView)). Contains (all_claims held) c) k.held is)
    of_carried slot (suc number) (Some flow) k acting is = absurd k

    of_ran : (slot number : ℕ) (one : Ran J) → IsSoundRan shared (at slot) number one → IsActing slot
        → sum_by (weigh_acting slot (length (at slot).held + number)) (parts part_message w.inbox).tokens ≡ 0 → Contains (claims_of_ran one) c → Whose c
    of_ran slot number (ran.Done claims found) k acting over is =
        let on = works_have_a_claim_for_each_group_want shared k.0 found claims k.1.1.0 in
        let group_wanted : Contains (groups_of (group_wants_of k.0)) c.group = subst (λ (gs : List Group). Contains gs c.group) on (contains_mapped (λ (claim : ClaimView). claim.group) claims c is) in
        (slot, (All-contains (IsAged (at slot).age) claims c k.1.1.1.1 is, inl (acting, inr (number, (k.0, (k.1.0, (group_wanted, over)))))))
    of_ran slot number (ran.Died group holder) k acting over is = contains_none c is
    of_ran slot number ran.NoMemory k acting over is = contains_none c is

    of_report : (r : Report J) (k : IsSoundReport shared (at r.slot) r) → IsActing r.slot
        → sum_by (weigh_acting r.slot (length (at r.slot).held + k.number)) (parts part_message w.inbox).tokens ≡ 0 → Contains (claims_reported r) c → Whose c
    of_report r k acting over is =
        ⊎_elim
        (λ (own : Contains (part_carried r.flow).claims c). of_carried r.slot k.number r.flow k.flow acting own)
        (λ (done : Contains (claims_of_ran r.ran) c). of_ran r.slot k.number r.ran k.ran acting over done)
        (Contains-append_cases (part_carried r.flow).claims (claims_of_ran r.ran) c is)

    of_ending : (slot : ℕ) → ((weight : Token → ℕ) → sum_by weight (Ending slot ∷ []) ≤ sum_by weight (awaited_by_all 0 slots)) → c.by.age ≡ (at slot).age → Whose c
    of_ending slot awaits aged =
        let there = ending_in_flight slot slots (omega (arith, awaits (weigh_ending slot), sum_by-cons (weigh_ending slot) (Ending slot) [], one_weighs slot)) in
        (slot, (aged, inr (inr (there.0, there.1.0))))

    of_message : (m : Message J) → IsSoundMessage shared at m → ((weight : Token → ℕ) → sum_by weight (part_message m).tokens ≤ sum_by weight (awaited_by_all 0 slots)) → Contains (part_message m).claims c → Whose c
    of_message (Start flow works) k awaits is =
        let slot = flow.transaction.slot in
        let place = length flow.transaction.held in
        let some : 1 ≤ length works.items = omega (arith, ap (λ (ws : List Work). length ws) k.works_are, some_actions (at slot).progress) in
        of_held slot (acting_at slot place (first_acting shared at slots c sound slot place works.items some awaits))
        (subst (λ (held : List (List ClaimView)). Contains (all_claims held) c) k.flow_is.held is)
    of_message (Act act) k awaits is = of_carried act.slot k.number act.flow k.flow (acting_at act.slot act.place (one_acting shared at slots c sound act.slot act.place awaits)) is
    of_message (Settle slot claims) k awaits is = of_ending slot awaits (All-contains (IsAged (at slot).age) claims c k.1 is)
    of_message (Undo slot claims) k awaits is = of_ending slot awaits (All-contains (IsAged (at slot).age) claims c k.1 is)

    -- a report in the outbox
    of_put : (r : Report J) → Contains w.outbox (item.Report r) → Contains (claims_reported r) c → Whose c
    of_put r there is =
        let k : IsSoundReport shared (at r.slot) r = All-contains (IsSoundItem shared at) w.outbox (item.Report r) h.outbox there in
        let weight = weigh_acting r.slot r.place in
        let one : 1 ≤ sum_by weight (parts part_item w.outbox).tokens =
        omega (arith, one_of_all part_item weight w.outbox (item.Report r) there, sum_by-cons weight (Acting r.slot r.place) [], acting_weighs r.slot r.place) in
        let acting = acting_at r.slot r.place (omega (arith, one, tokens weight)) in
        let over : sum_by weight (parts part_message w.inbox).tokens ≡ 0 = omega (arith, one, tokens weight, at_most_one r.slot r.place slots acting.0 acting.1.0 acting.1.1) in
        of_report r k acting (subst (λ n. sum_by (weigh_acting r.slot n) (parts part_message w.inbox).tokens ≡ 0) k.place over) is

    of_item : (i : Item J) → Contains w.outbox i → Contains (part_item i).claims c → Whose c
    of_item (item.Push m) there is =
        of_message m (All-contains (IsSoundItem shared at) w.outbox (item.Push m) h.outbox there)
        (λ weight. omega (arith, tokens weight, one_of_all part_item weight w.outbox (item.Push m) there)) is
    of_item (item.Report r) there is = of_put r there is
    of_item (item.Ended slot) there is = contains_none c is
    of_item (item.Commit commit) there is =
        let slot = commit.transaction.slot in
        let k = All-contains (IsSoundItem shared at) w.outbox (item.Commit commit) h.outbox there in
        let stands = commit_in_flight slot slots
        (omega (
          arith,
          tokens (weigh_committing slot),
          one_of_all part_item (weigh_committing slot) w.outbox (item.Commit commit) there,
          sum_by-cons (weigh_committing slot) (Committing slot) [],
          one_weighs slot,
        )) in
        (slot, (All-contains (IsAged (at slot).age) (all_claims commit.transaction.held) c (all_aged (at slot).age commit.transaction.held k.undo) is, inr (inl stands)))
    of_item (item.Reply recorded) there is = contains_none c is

    -- a report that has met
    of_met : Contains (parts part_met (reported_to_all slots)).claims c → Whose c
    of_met is = of_report r k acting (subst (λ n. sum_by (weigh_acting r.slot n) (parts part_message w.inbox).tokens ≡ 0) k.place (over (sum_by (weigh_acting r.slot r.place) (awaited_by_all 0 slots)) refl)) one.1.1
      where
        one : (r : Report J) × (Contains (reported_to_all slots) r × Contains (part_met r).claims c)
        one = whose_claim part_met (reported_to_all slots) c is

        r : Report J
        r = one.0

        there : (slot : ℕ) × ((first : ℕ) × ((places : List (Option (Report J))) × ((slice_get slots slot ≡ Some (Some (active.Acting first places))) × Contains (reported places) r)))
        there = met_at slots r one.1.0

        slot : ℕ
        slot = there.0

        first : ℕ
        first = there.1.0

        places : List (Option (Report J))
        places = there.1.1.0

        place : (number : ℕ) × (slice_get places number ≡ Some (Some r))
        place = reported_at places r there.1.1.1.1

        phase : IsSoundPhase shared slot (at slot) first places
        phase = sound slot (Some (active.Acting first places)) there.1.1.1.0

        recorded : (r.place ≡ first + place.0) × ((r.slot ≡ slot) × IsSoundReport shared (at slot) r)
        recorded = phase.reports place.0 r place.1

        k : IsSoundReport shared (at r.slot) r
        k = subst (λ n. IsSoundReport shared (at n) r) (sym recorded.1.0) recorded.1.1

        stands : slice_get slots r.slot ≡ Some (Some (active.Acting first places))
        stands = subst (λ n. slice_get slots n ≡ Some (Some (active.Acting first places))) (sym recorded.1.0) there.1.1.1.0

        acting : IsActing r.slot
        acting = (first, (places, stands))

        over : (some : ℕ) → sum_by (weigh_acting r.slot r.place) (awaited_by_all 0 slots) ≡ some → sum_by (weigh_acting r.slot r.place) (parts part_message w.inbox).tokens ≡ 0
        over zero none = omega (arith, none, tokens (weigh_acting r.slot r.place))
        over (suc n) some =
            let under = acting_in_flight r.slot r.place slots (omega (arith, some)) in
            let same : Some (Some (active.Acting under.0 under.1.0)) ≡ Some (Some (active.Acting first places)) = sym under.1.1.0 ∙ stands in
            let firsts : under.0 ≡ first = cc in
            let alike : under.1.0 ≡ places = cc in
            let number_is : r.place - under.0 ≡ place.0 = omega (arith, recorded.0, firsts) in
            let none : slice_get places place.0 ≡ Some None =
            subst (λ n. slice_get places n ≡ Some None) number_is (subst (λ (l : List (Option (Report J))). slice_get l (r.place - under.0) ≡ Some None) alike under.1.1.1.1) in
            let here = place.1 in
            absurd (cc)

    -- all that is in flight
    whose_is : Contains (flight w).claims c → Whose c
    whose_is is =
        let in_inbox = parts part_message w.inbox in
        let in_outbox = parts part_item w.outbox in
        let in_meeting = parts part_met (reported_to_all slots) in
        ⊎_elim
        (λ (own : Contains in_inbox.claims c).
        let one = whose_claim part_message w.inbox c own in
        of_message one.0 (All-contains (IsSoundMessage shared at) w.inbox one.0 h.inbox one.1.0)
        (λ weight. omega (arith, tokens weight, one_of_all part_message weight w.inbox one.0 one.1.0)) one.1.1)
        (λ (others : Contains (in_outbox.claims ++ in_meeting.claims) c).
        ⊎_elim
        (λ (own : Contains in_outbox.claims c). let one = whose_claim part_item w.outbox c own in of_item one.0 one.1.0 one.1.1)
        (λ (own : Contains in_meeting.claims c). of_met own)
        (Contains-append_cases in_outbox.claims in_meeting.claims c others))
        (Contains-append_cases in_inbox.claims (in_outbox.claims ++ in_meeting.claims) c is)

  -- ---- the transaction of a phase that is in flight is in flight itself

  -- in a slot whose transaction has come so far
  abbrev pub Leads : ℕ → Type 0
  Leads slot = (flow : Flow J) × (IsSoundFlow slot (at slot) flow × Contains (flight w).pending (unanswered_transaction flow.transaction))

  in_first : (m : Message J) (x : UnansweredTransaction) → Contains w.inbox m → Contains (part_message m).pending x → Contains (flight w).pending x
  in_first m x there has =
      Contains-append_left (parts part_message w.inbox).pending ((parts part_item w.outbox).pending ++ (parts part_met (reported_to_all slots)).pending) x (in_parts part_message w.inbox m x there has)

  in_second : (i : Item J) (x : UnansweredTransaction) → Contains w.outbox i → Contains (part_item i).pending x → Contains (flight w).pending x
  in_second i x there has =
      let met = (parts part_met (reported_to_all slots)).pending in
      let out = (parts part_item w.outbox).pending in
      Contains-append_right (parts part_message w.inbox).pending (out ++ met) x (Contains-append_left out met x (in_parts part_item w.outbox i x there has))

  in_third : (r : Report J) (x : UnansweredTransaction) → Contains (reported_to_all slots) r → Contains (part_met r).pending x → Contains (flight w).pending x
  in_third r x there has =
      let met = (parts part_met (reported_to_all slots)).pending in
      let out = (parts part_item w.outbox).pending in
      Contains-append_right (parts part_message w.inbox).pending (out ++ met) x (Contains-append_right out met x (in_parts part_met (reported_to_all slots) r x there has))

  module _ (slot : ℕ) where
    abbrev own : ActiveTransaction
    own = at slot

    -- what is carried with the first action
    carried_leads : (s number : ℕ) (o : Option (Flow J)) → s ≡ slot → number ≡ 0 → IsCarriedAt s (at s) number o
        → ((x : UnansweredTransaction) → Contains (part_carried o).pending x → Contains (flight w).pending x) → Leads slot
    carried_leads s number None same first k there = absurd (subst (λ n. IsCarriedAt {J = J} s (at s) n None) first k)
    carried_leads s number (Some flow) same first k there =
        let sound_flow : IsSoundFlow s (at s) flow = subst (λ n. IsCarriedAt s (at s) n (Some flow)) first k in
        (flow, (subst (λ n. IsSoundFlow n (at n) flow) same sound_flow, there (unanswered_transaction flow.transaction) (contains_here (unanswered_transaction flow.transaction) [])))

    -- the token of an action of this slot and place
    token_of : (s place p : ℕ) → 1 ≤ weigh_acting slot place (Acting s p) → (s ≡ slot) × (p ≡ place)
    token_of s place p some =
        by_bool (slot == s)
        (λ same.
        by_bool (place == p)
        (λ alike. (sym (exact_unsigned_eq slot s same), sym (exact_unsigned_eq place p alike)))
        (λ other. absurd (omega (arith, some, ap {B = ℕ} (λ b. cond b (cond (place == p) 1 0) 0) same, ap {B = ℕ} (λ b. cond b 1 0) other))))
        (λ other. absurd (omega (arith, some, ap {B = ℕ} (λ b. cond b (cond (place == p) 1 0) 0) other)))

    token_from : (s place p : ℕ) (works : List Work) → 1 ≤ sum_by (weigh_acting slot place) (acting_from s p works) → s ≡ slot
    token_from s place p [] some = absurd (omega (arith, some))
    token_from s place p (work ∷ works) some = by (weigh_acting slot place (Acting s p)) refl (λ later. token_from s place (p + 1) works later)
      where
        by : (k : ℕ) → weigh_acting slot place (Acting s p) ≡ k → (1 ≤ sum_by (weigh_acting slot place) (acting_from s (p + 1) works) → s ≡ slot) → s ≡ slot
        by zero none rest = rest (omega (arith, some, none, sum_by-cons (weigh_acting slot place) (Acting s p) (acting_from s (p + 1) works)))
        by (suc k) one rest = (token_of s place p (omega (arith, one))).0

    -- the first action of the phase is in a message
    message_leads : (place : ℕ) → place ≡ length own.held → (m : Message J) → IsSoundMessage shared at m → 1 ≤ sum_by (weigh_acting slot place) (part_message m).tokens
        → ((x : UnansweredTransaction) → Contains (part_message m).pending x → Contains (flight w).pending x) → Leads slot
    message_leads place first (Start flow works) k some there =
        carried_leads flow.transaction.slot 0 (Some flow) (token_from flow.transaction.slot place (length flow.transaction.held) works.items some) refl k.flow_is there
    message_leads place first (Act act) k some there =
        let token = token_of act.slot place act.place (omega (arith, some, sum_by-cons (weigh_acting slot place) (Acting act.slot act.place) [])) in
        carried_leads act.slot k.number act.flow token.0 (omega (arith, k.place, token.1, first, ap (λ n. length (at n).held) token.0)) k.flow there
    message_leads place first (Settle s claims) k some there = absurd (omega (arith, some))
    message_leads place first (Undo s claims) k some there = absurd (omega (arith, some))

    -- or in an item
    item_leads : (place : ℕ) → place ≡ length own.held → (i : Item J) → IsSoundItem shared at i → 1 ≤ sum_by (weigh_acting slot place) (part_item i).tokens
        → ((x : UnansweredTransaction) → Contains (part_item i).pending x → Contains (flight w).pending x) → Leads slot
    item_leads place first (item.Push m) k some there = message_leads place first m k some there
    item_leads place first (item.Report r) k some there =
        let token = token_of r.slot place r.place (omega (arith, some, sum_by-cons (weigh_acting slot place) (Acting r.slot r.place) [])) in
        carried_leads r.slot k.number r.flow token.0 (omega (arith, k.place, token.1, first, ap (λ n. length (at n).held) token.0)) k.flow there
    item_leads place first (item.Ended s) k some there = absurd (omega (arith, some))
    item_leads place first (item.Commit commit) k some there = absurd (omega (arith, some))
    item_leads place first (item.Reply recorded) k some there = absurd (omega (arith, some))

    pub leads : IsActing slot → Leads slot
    leads acting = by places refl
      where
        first : ℕ
        first = acting.0

        places : List (Option (Report J))
        places = acting.1.0

        phase : IsSoundPhase shared slot own first places
        phase = sound slot (Some (active.Acting first places)) acting.1.1

        by : (ps : List (Option (Report J))) → places ≡ ps → Leads slot
        by [] is = absurd (omega (arith, phase.many, ap (λ (ps : List (Option (Report J))). length ps) is, some_actions own.progress))
        by (Some r ∷ ps) is =
            let there : slice_get places 0 ≡ Some (Some r) = ap (λ (l : List (Option (Report J))). slice_get l 0) is in
            let recorded = phase.reports 0 r there in
            let k : IsSoundReport shared (at r.slot) r = subst (λ n. IsSoundReport shared (at n) r) (sym recorded.1.0) recorded.1.1 in
            let among : Contains (reported places) r = subst (λ (l : List (Option (Report J))). Contains (reported l) r) (sym is) (contains_here r (reported ps)) in
            let all = reported_among slot slots first places r acting.1.1 among in
            carried_leads r.slot k.number r.flow recorded.1.0 (omega (arith, k.place, recorded.0, phase.first_is, ap (λ n. length (at n).held) recorded.1.0)) k.flow (λ x has. in_third r x all has)
        by (None ∷ ps) is = of_inbox (sum_by weight (parts part_message w.inbox).tokens) refl
          where
            weight : Token → ℕ
            weight = weigh_acting slot first

            some : 1 ≤ sum_by weight (awaited_by_all 0 slots)
            some = omega (
              arith,
              awaited_of weight slot slots (Some (active.Acting first places)) acting.1.1,
              ap (λ (l : List (Option (Report J))). sum_by weight (map (Acting slot) (awaited_from first l))) is,
              sum_by-cons weight (Acting slot first) (map (Acting slot) (awaited_from (first + 1) ps)),
              acting_weighs slot first,
            )

            of_inbox : (k : ℕ) → sum_by weight (parts part_message w.inbox).tokens ≡ k → Leads slot
            of_inbox zero none =
                let one = whose_token part_item weight w.outbox (omega (arith, some, none, tokens weight)) in
                item_leads first phase.first_is one.0 (All-contains (IsSoundItem shared at) w.outbox one.0 h.outbox one.1.0) one.1.1 (λ x has. in_second one.0 x one.1.0 has)
            of_inbox (suc k) more =
                let one = whose_token part_message weight w.inbox (omega (arith, more)) in
                message_leads first phase.first_is one.0 (All-contains (IsSoundMessage shared at) w.inbox one.0 h.inbox one.1.0) one.1.1 (λ x has. in_first one.0 x one.1.0 has)

  -- so its history records its age and its request
  pub accepted_as : (opening : Database) (history : List Step) → Fits opening history w → (slot : ℕ) → IsActing slot → WasAccepted history (at slot).age (at slot).request
  accepted_as opening history f slot acting =
      let lead = leads slot acting in
      let t = lead.0.transaction in
      let of = lead.1.0 in
      let is = All-contains (IsAcceptedIn history) (flight w).pending (unanswered_transaction t) f.accepted lead.1.1 in
      subst (λ n. WasAccepted history n (at slot).request) of.age (subst (λ q. WasAccepted history t.age q) (of.asked.request ∙ of.request) is)

  -- ---- an action that is to run

  module _ (once : TransactionsClaimEachGroupOnce) (act : AnyAct J) (there : Contains w.inbox (Act act)) where
    abbrev u : ActiveTransaction
    u = at act.slot

    fine : IsSoundAct shared u act
    fine = All-contains (IsSoundMessage shared at) w.inbox (Act act) h.inbox there

    to_run : 1 ≤ sum_by (weigh_acting act.slot act.place) (parts part_message w.inbox).tokens
    to_run =
        let weight = weigh_acting act.slot act.place in
        omega (arith, one_of_all part_message weight w.inbox (Act act) there, sum_by-cons weight (Acting act.slot act.place) [], acting_weighs act.slot act.place)

    pub acts_now : IsActing act.slot
    acts_now = acting_at act.slot act.place (omega (arith, to_run, tokens (weigh_acting act.slot act.place)))

    pub phase_now : IsSoundPhase shared act.slot u acts_now.0 acts_now.1.0
    phase_now = sound act.slot (Some (active.Acting acts_now.0 acts_now.1.0)) acts_now.1.1

    -- its transaction has no claim on a group that it wants for
    not_own : (c : ClaimView) → Contains (flight w).claims c → c.by.age ≡ act.age → Contains (groups_of (group_wants_of act.work)) c.group → ⊥
    not_own c is aged group_wanted =
        let whose = whose_is c is in
        let a = active_of whose.0 c whose.1.1 in
        let same : whose.0 ≡ act.slot = h.ages.apart whose.0 act.slot a.0 (active.Acting acts_now.0 acts_now.1.0) a.1 acts_now.1.1 (sym whose.1.0 ∙ aged ∙ fine.age) in
        by (subst (λ n. Has n c) same whose.1.1)
      where
        works : List Work
        works = works_of u.progress

        of_phase : (Contains (all_claims u.held) c ⊎ HasRun act.slot c) → ⊥
        of_phase (inl held) =
            omega (
              arith,
              claimed_once shared u.request u.progress u.held phase_now.reached c.group once,
              claim_counts (all_claims u.held) c held,
              one_of_works c.group works fine.number act.work fine.work,
              group_counts c.group (group_wants_of act.work) group_wanted,
            )
        of_phase (inr run) =
            by_bool (run.0 == fine.number)
            (λ alike.
            let place_is : length u.held + run.0 ≡ act.place = omega (arith, fine.place, exact_unsigned_eq run.0 fine.number alike) in
            let none : sum_by (weigh_acting act.slot act.place) (parts part_message w.inbox).tokens ≡ 0 =
            subst (λ n. sum_by (weigh_acting act.slot n) (parts part_message w.inbox).tokens ≡ 0) place_is run.1.1.1.1 in
            omega (arith, none, to_run))
            (λ differs.
            omega (
              arith,
              claimed_once shared u.request u.progress u.held phase_now.reached c.group once,
              two_of_works c.group works run.0 fine.number run.1.0 act.work run.1.1.0 fine.work (λ same. subst (λ b. IsFalse b) (sym differs ∙ eq-eqb run.0 fine.number same) tt),
              group_counts c.group (group_wants_of run.1.0) run.1.1.1.0,
              group_counts c.group (group_wants_of act.work) group_wanted,
            ))

        by : Has act.slot c → ⊥
        by (inl has) = of_phase has.1
        by (inr (inl committing)) = let acting = acts_now.1.1 in absurd (cc)
        by (inr (inr ending)) = let acting = acts_now.1.1 in let over = ending.1 in absurd (cc)

    -- so a conflicting holder that isn't younger is older
    pub dies_of_older : (w_id : ℕ) (holdings : List HeldClaim) → (joined_in w).holdings w_id ≡ holdings → (group : Group) (holder : ℕ) → MustDie holdings act.age (wants_of act.work) group holder → holder < act.age
    dies_of_older w_id holdings is group holder death =
        let on = dies_on holdings act.age (group_wants_of act.work) group holder death in
        let held : Contains ((joined_in w).holdings w_id) on.holding = subst (λ (hs : List HeldClaim). Contains hs on.holding) (sym is) on.held in
        let out = Contains-permutation ((joined_in w).holdings w_id) (held_at w_id (flight w).claims) on.holding (h.held w_id) held in
        let claim = claim_of w_id (flight w).claims on.holding out in
        lesser holder act.age death.older
        (λ same.
        not_own claim.0 claim.1.0 (ap (λ (x : HeldClaim). x.by.age) claim.1.1 ∙ on.by ∙ same)
        (subst (λ (g : Group). Contains (groups_of (group_wants_of act.work)) g) (sym (ap (λ (x : HeldClaim). x.group) claim.1.1 ∙ on.on)) on.group_wanted))

    -- what an action holds once it has run is of its request's footprint, as the history records
    pub ran_claimed : (opening : Database) (history : List Step) → Fits opening history w → (was now : SliceView) (one : Ran J) → IsRan (holder_of act) was act.work one now → All (IsClaimOf history) (claims_of_ran one)
    ran_claimed opening history f was now (ran.Died group holder) of = All-nil (IsClaimOf history)
    ran_claimed opening history f was now ran.NoMemory of = All-nil (IsClaimOf history)
    ran_claimed opening history f was now (ran.Done claims found) of =
        All-weaker (Contains claims) (IsClaimOf history) (λ c is. (u.request, (subst (λ n. WasAccepted history n u.request) (sym (aged c is)) accepted, claims_group c is))) claims (All-contains_itself claims)
      where
        accepted : WasAccepted history u.age u.request
        accepted = accepted_as opening history f act.slot acts_now

        aged : (c : ClaimView) → Contains claims c → c.by.age ≡ u.age
        aged c is = ap (λ (x : Holder). x.age) (All-contains (IsBy (holder_of act)) claims c of.own is) ∙ fine.age

        claims_group : (c : ClaimView) → Contains claims c → Contains (groups_of (footprint u.request)) c.group
        claims_group c is =
            let works = works_of u.progress in
            let on = works_have_a_claim_for_each_group_want (shared_of was.tables) act.work found claims of.done in
            let group_wanted = subst (λ (gs : List Group). Contains gs c.group) on (contains_mapped (λ (claim : ClaimView). claim.group) claims c is) in
            of_footprint shared u.request u.progress u.held phase_now.reached c.group within
            (counted_there c.group (all_group_wants works) (omega (arith, group_counts c.group (group_wants_of act.work) group_wanted, one_of_works c.group works fine.number act.work fine.work)))

  -- ---- a death that is reported

  -- what is reported in the outbox is of a phase that is in flight
  pub reporting : (r : Report J) → Contains w.outbox (item.Report r) → IsActing r.slot
  reporting r there =
      let weight = weigh_acting r.slot r.place in
      acting_at r.slot r.place
      (omega (
        arith,
        tokens weight,
        one_of_all part_item weight w.outbox (item.Report r) there,
        sum_by-cons weight (Acting r.slot r.place) [],
        acting_weighs r.slot r.place,
      ))

  -- if a holder of that age has a claim on the group, the report names an older active transaction
  pub reports_of_older : (opening : Database) (history : List Step) → Fits opening history w → (r : Report J) → Contains w.outbox (item.Report r) → (group : Group) (holder : ℕ) → r.ran ≡ ran.Died group holder
      → (w_id : ℕ) (x : HeldClaim) → Contains ((joined_in w).holdings w_id) x → x.group ≡ group → x.by.age ≡ holder → DiesOf history w at r.slot group holder
  reports_of_older opening history f r there group holder is w_id x out on by =
      let k : IsSoundReport shared (at r.slot) r = All-contains (IsSoundItem shared at) w.outbox (item.Report r) h.outbox there in
      let died : IsSoundRan {J = J} shared (at r.slot) k.number (ran.Died group holder) = subst (λ (one : Ran J). IsSoundRan shared (at r.slot) k.number one) is k.ran in
      let acting = reporting r there in
      let phase : IsSoundPhase shared r.slot (at r.slot) acting.0 acting.1.0 = sound r.slot (Some (active.Acting acting.0 acting.1.0)) acting.1.1 in
      let works = works_of (at r.slot).progress in
      let group_wanted : Contains (groups_of (all_group_wants works)) group =
      counted_there group (all_group_wants works) (omega (arith, group_counts group (group_wants_of died.0) died.1.1.0, one_of_works group works k.number died.0 died.1.0)) in
      let claims = (flight w).claims in
      let claim = claim_of w_id claims x (Contains-permutation ((joined_in w).holdings w_id) (held_at w_id claims) x (h.held w_id) out) in
      let aged : claim.0.by.age ≡ holder = ap (λ (y : HeldClaim). y.by.age) claim.1.1 ∙ by in
      let on_group : claim.0.group ≡ group = ap (λ (y : HeldClaim). y.group) claim.1.1 ∙ on in
      let of = All-contains (IsClaimOf history) claims claim.0 f.claimed claim.1.0 in
      record {
        accepted = accepted_as opening history f r.slot acting;
        of_footprint = of_footprint shared (at r.slot).request (at r.slot).progress (at r.slot).held phase.reached group within group_wanted;
        older = died.1.1.1;
        active = subst (λ n. IsActiveAt at slots n) aged (holder_active shared w h claim.0 claim.1.0);
        asked = of.0;
        holder_accepted = subst (λ n. WasAccepted history n of.0) aged of.1.0;
        of_holder = subst (λ (g : Group). Contains (groups_of (footprint of.0)) g) on_group of.1.1;
        w_id = w_id;
        holding = x;
        out = out;
        on = on;
        by = by;
      }
