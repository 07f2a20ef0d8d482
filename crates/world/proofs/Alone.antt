-- While an action is to run, no claim is out on a group for which it wants: so it doesn't die.
use Rattle.std.proofs.Common.{◌≡◌, ⊎_elim, ℕ, ◌+◌, ◌-◌, ◌<◌, ◌≤◌, ◌==◌, zero, suc, List, [], ◌∷◌, ◌++◌, length, Option, Some, None, refl, sym, ◌∙◌, ap, subst, arith, cond, ◌≢◌, Contains, append-nil, eq-eqb, Vec, Global}
use Rattle.std.specs.Prelude.{All, map, slice_set}
use Rattle.std.specs.List.{slice_get, sum_by}
use Rattle.std.proofs.lemmas.List.{append_cancel_left}
use Rattle.std.proofs.lemmas.List.Elements.{All-contains, All-cons, All-head, All-nil, All-tail, Contains-append_left, Contains-append_right, Contains-get_or}
use Rattle.std.proofs.lemmas.Option.{get_or_from_slice_get, slice_get_within}
use Rattle.std.proofs.lemmas.List.Sorted.{Contains-permutation, sum_by-IsPermutation}
use Rattle.std.proofs.lemmas.List.Sums.{sum_by-cons, sum_by-append}
use Rattle.std.proofs.lemmas.Map.Views.{exact_unsigned_eq}
use Rattle.partitions.specs.Parts.{SharedTables}
use Rattle.schema.specs.Database.{Database}
use Rattle.requests.specs.declared.group.Group.{Group}
use Rattle.tickets.specs.Claims.{ClaimView, all_claims}
use Rattle.wait_die.specs.declared.deciding.Holder.{Holder}
use Rattle.history.specs.declared.event.Event.{Event}
use Rattle.history.specs.declared.event.Event.TheVariants.{Submit, Order, Take, Send}
use Rattle.history.specs.declared.event.EventAnswer.{EventAnswer}
use Rattle.history.specs.History.{Step}
use Rattle.transactions.specs.declared.work.Work.{Work}
use Rattle.transactions.specs.declared.acting.Ran.{Ran}
use Rattle.transactions.specs.declared.acting.Ran.TheVariants as ran
use Rattle.transactions.specs.Acting.{IsRan, claims_of_ran}
use Rattle.transactions.specs.declared.shard.Acted.{Acted}
use Rattle.transactions.specs.declared.shard.Acted.TheVariants as acted
use Rattle.transactions.specs.declared.shard.Parked.{Parked}
use Rattle.transactions.specs.declared.shard.Turned.{Turned}
use Rattle.transactions.specs.Shards.{ActsAs, ShardView, waiting_of}
use Rattle.local_locks.specs.Asking.{StillWaits}
use Rattle.local_locks.specs.Conflicts.{MustWait}
use Rattle.local_locks.specs.LockTableView.{HeldClaim, WaitingAction}
use Rattle.local_locks.proofs.Members.{contains_here, contains_joined}
use Rattle.transactions.specs.Laws.{TransactionsClaimEachGroupOnce}
use Rattle.transactions.specs.Progresses.{works_of}
use Rattle.transactions.specs.Works.{all_group_wants, home_of, wants_of, group_wants_of, home_of_claims}
use Rattle.transactions.proofs.Held.{HoldsGroupWanted, dies_of_holder}
use Rattle.transactions.proofs.Reached.{some_actions}
use Rattle.rendezvous.specs.Awaited.{awaited_from, reported}
use Rattle.slices.specs.SliceView.{SliceView, held_at}
use Rattle.world.specs.declared.desk.Active.{Active}
use Rattle.world.specs.declared.desk.Active.TheVariants as active
use Rattle.world.specs.declared.flight.Act.{Act as AnyAct}
use Rattle.world.specs.declared.flight.Flow.{Flow}
use Rattle.world.specs.declared.flight.Message.{Message}
use Rattle.world.specs.declared.flight.Message.TheVariants.{Start, Act, Settle, Undo}
use Rattle.world.specs.declared.flight.Report.{Report}
use Rattle.world.specs.declared.flight.Item.{Item}
use Rattle.world.specs.declared.flight.Item.TheVariants as item
use Rattle.world.specs.declared.world.Parts.{Parts}
use Rattle.world.specs.declared.world.Core.{Core}
use Rattle.world.specs.Parted.{joined_in}
use Rattle.world.specs.Slots.{count_active}
use Rattle.world.specs.Flights.{Token, Acting, Committing, Ending, InFlight, nothing, parts, part_carried, part_message, part_item, part_met, acting_from, claims_reported}
use Rattle.world.specs.Sound.{IsSoundWith, IsSoundAct, IsSoundItem, IsSoundMessage, IsSoundPhase, IsSoundRan, IsCarriedAt, IsPlaceOf, ActiveTransaction, awaited_by_all, flight, reported_to_all}
use Rattle.world.specs.declared.flight.Carried.{Carried}
use Rattle.world.specs.Events.{AllTurns, AtShard, TakesMessage, TurnsFollow, carried_by, holder_of, put_for, report_of}
use Rattle.world.specs.Following.{acts_from, acts_of}
use Rattle.world.specs.Shards.{HaveToWait, IsShardOf, act_of, message_of, waiting_at, waiting_in}
use Rattle.world.specs.Together.{IsSound, together}
use Rattle.world.specs.Queues.{all_of, queue_of}
use Rattle.world.specs.Envelopes.{items_in, envelope, messages_in, messages_of, outgoing_by}
use Rattle.world.specs.declared.flight.Envelope.{Envelope}
use Rattle.world.specs.declared.flight.Load.TheVariants as load
use Rattle.world.specs.declared.flight.Outgoing.{Outgoing}
use Rattle.world.specs.Worlds.{Fits, HasNotDied, NoneDies, RecordsNoDeath}
use Rattle.world.specs.Happening.{Happens, TakesFirst, WorksOn}
use Rattle.world.proofs.Holders.{claim_of, contains_mapped, holder_active, one_of_all}
use Rattle.world.proofs.ShardView.{holds, stands_among}
use Rattle.world.proofs.Balances.{in_inbox, in_outbox, in_meeting, message_taken}
use Rattle.world.proofs.Executing.{beside, message_fits, message_sound, outgoing_items}
use Rattle.world.proofs.Posting.{holding, is_own}
use Rattle.world.proofs.Puttings.{IsPush, PutsPushes, opens_put, pushes_all, put_stands}
use Rattle.world.proofs.Shuffles.{has_queue}
use Rattle.transactions.proofs.OnGroups.{claimed_once, group_wants_on, claims_on, one_group_want_on, one_claim_on, done_on, claimed, group_wanted}
use Rattle.world.proofs.Reported.{met_tokens}
use Rattle.world.proofs.Taking.{message_in_hand}
use Rattle.world.proofs.ActiveTransactions.{messages_stay, items_stay}
use Rattle.world.proofs.OneSlot.{acting_weigh, awaited_of, met_apart, sound_in, weigh_slots, without, got_set}
use Rattle.world.proofs.FreeSlots.{taken_counts}
use Rattle.world.proofs.Quiet.{idle_awaits, idle_met}
use Rattle.world.proofs.Sessions.{get_other}
use Rattle.world.proofs.Tokens.{IsFalse, acting_in_flight, acting_weighs, by_bool, is_awaited, is_itself, no_acting, weigh_acting, weigh_other}

-- ---- the claims of the transaction that is in flight

module _ (u : ActiveTransaction) (group : Group) where
  -- the action of number 0 carries what the earlier phases hold
  abbrev carried_on : ℕ → ℕ
  carried_on zero = claims_on group (all_claims u.held)
  carried_on (suc number) = 0

  -- so often the work, if there is any, wants for the group
  abbrev work_on : Option Work → ℕ
  work_on None = 0
  work_on (Some work) = group_wants_on group (group_wants_of work)

  -- so many claims on it the action of this number has with it at most, once it has run
  abbrev own : ℕ → ℕ
  own number = carried_on number + work_on (slice_get (works_of u.progress) number)

  -- the token of an action weighs as many
  abbrev weight : Token → ℕ
  weight (Acting slot place) = own (place - length u.held)
  weight (Committing slot) = 0
  weight (Ending slot) = 0

  carried_later : (number : ℕ) → 1 ≤ number → carried_on number ≡ 0
  carried_later zero some = absurd (omega (arith, some))
  carried_later (suc number) some = refl

  at_place : (slot number place : ℕ) → IsPlaceOf u number place → weight (Acting slot place) ≡ own number
  at_place slot number place is =
      let same : place - length u.held ≡ number = omega (arith, is) in
      ap {B = ℕ} own same

  first_weighs : (slot place : ℕ) (works : List Work)
      → 1 ≤ length works → weight (Acting slot place) ≤ sum_by weight (acting_from slot place works)
  first_weighs slot place [] some = absurd (omega (arith, some))
  first_weighs slot place (work ∷ works) some = omega (arith, sum_by-cons weight (Acting slot place) (acting_from slot (place + 1) works))

  module _ {J : Type 0} (shared : SharedTables) where
    -- ---- what each part of what is in flight has on the group

    carried_few : (slot number : ℕ) (o : Option (Flow J))
        → IsCarriedAt slot u number o → claims_on group (part_carried o).claims ≤ carried_on number
    carried_few slot zero None h = absurd h
    carried_few slot zero (Some flow) h =
        omega (arith, ap {B = ℕ} (λ (held : List (List ClaimView)). claims_on group (all_claims held)) h.held)
    carried_few slot (suc number) None h = omega arith
    carried_few slot (suc number) (Some flow) h = absurd h

    ran_few : (number : ℕ) (one : Ran J) → IsSoundRan shared u number one
        → claims_on group (claims_of_ran one) ≤ work_on (slice_get (works_of u.progress) number)
    ran_few number (ran.Done claims found) h =
        omega (arith, done_on group shared h.0 found claims h.1.1.0, ap {B = ℕ} work_on h.1.0)
    ran_few number (ran.Died on holder) h = omega arith
    ran_few number ran.NoMemory h = omega arith

    report_few : (number : ℕ) (r : Report J)
        → IsCarriedAt r.slot u number r.flow → IsSoundRan shared u number r.ran → claims_on group (claims_reported r) ≤ own number
    report_few number r carried sound =
        omega (
          arith,
          carried_few r.slot number r.flow carried,
          ran_few number r.ran sound,
          sum_by-append (one_claim_on group) (part_carried r.flow).claims (claims_of_ran r.ran),
        )

    message_few : (message : Message J)
        → IsSoundMessage shared (λ slot. u) message → sum_by weigh_other (part_message message).tokens ≡ 0
        → claims_on group (part_message message).claims ≤ sum_by weight (part_message message).tokens
    message_few (Start flow works) h none =
        let place = length flow.transaction.held in
        let some : 1 ≤ length works.items =
        omega (arith, ap (λ (ws : List Work). length ws) h.works_are, some_actions u.progress) in
        omega (
          arith,
          ap {B = ℕ} (λ (held : List (List ClaimView)). claims_on group (all_claims held)) h.flow_is.held,
          first_weighs flow.transaction.slot place works.items some,
          at_place flow.transaction.slot 0 place (omega (arith, ap (λ (held : List (List ClaimView)). length held) h.flow_is.held)),
        )
    message_few (Act act) h none = omega (arith, carried_few act.slot h.number act.flow h.flow, at_place act.slot h.number act.place h.place)
    message_few (Settle slot claims) h none = absurd (omega (arith, none))
    message_few (Undo slot claims) h none = absurd (omega (arith, none))

    messages_few : (messages : List (Message J))
        → All (IsSoundMessage shared (λ slot. u)) messages → sum_by weigh_other (parts part_message messages).tokens ≡ 0
        → claims_on group (parts part_message messages).claims ≤ sum_by weight (parts part_message messages).tokens
    messages_few [] h none = omega arith
    messages_few (message ∷ messages) h none =
        let p = part_message message in
        let rest = parts part_message messages in
        let both = sum_by-append weigh_other p.tokens rest.tokens in
        omega (
          arith,
          message_few message (All-head (IsSoundMessage shared (λ slot. u)) message messages h) (omega (arith, none, both)),
          messages_few messages (All-tail (IsSoundMessage shared (λ slot. u)) message messages h) (omega (arith, none, both)),
          sum_by-append weight p.tokens rest.tokens,
          sum_by-append (one_claim_on group) p.claims rest.claims,
        )

    item_few : (i : Item J) → IsSoundItem shared (λ slot. u) i → sum_by weigh_other (part_item i).tokens ≡ 0
        → claims_on group (part_item i).claims ≤ sum_by weight (part_item i).tokens
    item_few (item.Push message) h none = message_few message h none
    item_few (item.Report r) h none = omega (arith, report_few h.number r h.flow h.ran, at_place r.slot h.number r.place h.place)
    item_few (item.Ended slot) h none = omega arith
    item_few (item.Commit commit) h none = absurd (omega (arith, none))
    item_few (item.Reply recorded) h none = omega arith

    items_few : (items : List (Item J))
        → All (IsSoundItem shared (λ slot. u)) items → sum_by weigh_other (parts part_item items).tokens ≡ 0
        → claims_on group (parts part_item items).claims ≤ sum_by weight (parts part_item items).tokens
    items_few [] h none = omega arith
    items_few (i ∷ items) h none =
        let p = part_item i in
        let rest = parts part_item items in
        let both = sum_by-append weigh_other p.tokens rest.tokens in
        omega (
          arith,
          item_few i (All-head (IsSoundItem shared (λ slot. u)) i items h) (omega (arith, none, both)),
          items_few items (All-tail (IsSoundItem shared (λ slot. u)) i items h) (omega (arith, none, both)),
          sum_by-append weight p.tokens rest.tokens,
          sum_by-append (one_claim_on group) p.claims rest.claims,
        )

    -- those of the phase that are awaited weigh, with what the others have reported, no more than the phase claims and holds
    phase_few : (slot n k : ℕ) (slots : List (Option (Report J))) (works : List Work) → IsPlaceOf u k n → length slots ≡ length works
        → ((i : ℕ) → slice_get (works_of u.progress) (k + i) ≡ slice_get works i)
        → ((i : ℕ) (r : Report J) → slice_get slots i ≡ Some (Some r) → claims_on group (claims_reported r) ≤ own (k + i))
        → sum_by weight (map (Acting slot) (awaited_from n slots)) + claims_on group (parts part_met (reported slots)).claims
        ≤ carried_on k + group_wants_on group (all_group_wants works)
    phase_few slot n k [] works at many does recorded = omega arith
    phase_few slot n k (place ∷ slots) [] at many does recorded = absurd (omega (arith, many))
    phase_few slot n k (place ∷ slots) (work ∷ works) at many does recorded =
        let next : (i : ℕ) → k + suc i ≡ (k + 1) + i = λ i. omega arith in
        let here : k + 0 ≡ k = omega arith in
        let rest = phase_few slot (n + 1) (k + 1) slots works (omega (arith, at)) (omega (arith, many))
        (λ i. subst (λ m. slice_get (works_of u.progress) m ≡ slice_get works i) (next i) (does (suc i)))
        (λ i r is. subst (λ m. claims_on group (claims_reported r) ≤ own m) (next i) (recorded (suc i) r is)) in
        let first : slice_get (works_of u.progress) k ≡ Some work =
        subst (λ m. slice_get (works_of u.progress) m ≡ Some work) here (does 0) in
        let reported_few : (r : Report J) → Some place ≡ Some (Some r) → claims_on group (claims_reported r) ≤ own k = λ r is.
        subst (λ m. claims_on group (claims_reported r) ≤ own m) here (recorded 0 r is) in
        by place reported_few (ap {B = ℕ} work_on first) rest
      where
        by : (place : Option (Report J))
            → ((r : Report J) → Some place ≡ Some (Some r) → claims_on group (claims_reported r) ≤ own k)
            → work_on (slice_get (works_of u.progress) k) ≡ group_wants_on group (group_wants_of work)
            → sum_by weight (map (Acting slot) (awaited_from (n + 1) slots)) + claims_on group (parts part_met (reported slots)).claims
            ≤ carried_on (k + 1) + group_wants_on group (all_group_wants works)
            → sum_by weight (map (Acting slot) (awaited_from n (place ∷ slots)))
            + claims_on group (parts part_met (reported (place ∷ slots))).claims
            ≤ carried_on k + group_wants_on group (all_group_wants (work ∷ works))
        by None reported_few does rest =
            omega (
              arith,
              does,
              rest,
              at_place slot k n at,
              carried_later (k + 1) (omega arith),
              sum_by-cons weight (Acting slot n) (map (Acting slot) (awaited_from (n + 1) slots)),
              sum_by-append (one_group_want_on group) (group_wants_of work) (all_group_wants works),
            )
        by (Some r) reported_few does rest =
            omega (
              arith,
              does,
              rest,
              reported_few r refl,
              carried_later (k + 1) (omega arith),
              sum_by-append (one_claim_on group) (claims_reported r) (parts part_met (reported slots)).claims,
              sum_by-append (one_group_want_on group) (group_wants_of work) (all_group_wants works),
            )

-- ---- all that is in flight

module _ {J : Type 0} where
  tokens_weigh : (f : Token → ℕ) (w : Parts J)
      → sum_by f (flight w).tokens ≡ sum_by f (in_inbox w).tokens + sum_by f (in_outbox w).tokens
  tokens_weigh f w =
      omega (
        arith,
        sum_by-append f (in_inbox w).tokens ((in_outbox w).tokens ++ (in_meeting w).tokens),
        sum_by-append f (in_outbox w).tokens (in_meeting w).tokens,
        ap (λ (ts : List Token). sum_by f ts) (met_tokens (reported_to_all w.desk.active)),
      )

  claims_count : (group : Group) (w : Parts J)
      → claims_on group (flight w).claims
      ≡ claims_on group (in_inbox w).claims + claims_on group (in_outbox w).claims + claims_on group (in_meeting w).claims
  claims_count group w =
      omega (
        arith,
        sum_by-append (one_claim_on group) (in_inbox w).claims ((in_outbox w).claims ++ (in_meeting w).claims),
        sum_by-append (one_claim_on group) (in_outbox w).claims (in_meeting w).claims,
      )

-- ---- an action that is to run

-- no weight for this slot, and one for each other
abbrev elsewhere : ℕ → ℕ → ℕ
elsewhere slot n = cond (slot == n) 0 1

module _ {J : Type 0} (once : TransactionsClaimEachGroupOnce) (shared : SharedTables) (w : Parts J)
    (act : AnyAct J) (rest : List (Message J)) (is : w.inbox ≡ Act act ∷ rest) (h : IsSoundWith shared nothing w) (alone : count_active w.desk.active ≡ 1) where
  -- of the claims that are out, and of its wants, one at most is for a group
  few_on : (group : Group) → claims_on group (flight w).claims + group_wants_on group (group_wants_of act.work) ≤ 1
  few_on group =
      let mid : Parts J = record w { inbox = rest } in
      let hand = message_in_hand shared w (Act act) rest is h in
      let slot = act.slot in
      let all_at = hand.0.in_flight in
      let u = all_at slot in
      let sound : IsSoundAct shared u act = hand.1 in
      let tokens = hand.0.balance.tokens in
      let weigh = weigh_acting slot act.place in
      let waits = is_awaited weigh (Acting slot act.place) (flight mid).tokens (awaited_by_all 0 w.desk.active) (acting_weighs slot act.place) tokens in
      let at = acting_in_flight slot act.place w.desk.active waits in
      let acting = at.1.1.0 in
      let active_is : Option (Active J) = Some (active.Acting at.0 at.1.0) in
      let phase : IsSoundPhase shared slot u at.0 at.1.0 = sound_in shared all_at slot w.desk.active active_is hand.0.active acting in
      let idle : count_active (without slot w.desk.active) ≡ 0 = omega (arith, alone, taken_counts w.desk.active slot (active.Acting at.0 at.1.0) acting) in
      let none_else : awaited_by_all 0 (without slot w.desk.active) ≡ [] = idle_awaits 0 (without slot w.desk.active) idle in
      let weighed : (f : Token → ℕ)
      → f (Acting slot act.place) + (sum_by f (in_inbox mid).tokens + sum_by f (in_outbox mid).tokens)
      ≡ sum_by f (map (Acting slot) (awaited_from at.0 at.1.0)) = λ f.
      omega (
        arith,
        tokens f,
        sum_by-cons f (Acting slot act.place) (flight mid).tokens,
        tokens_weigh f mid,
        awaited_of f slot w.desk.active active_is acting,
        ap (λ (ts : List Token). sum_by f ts) none_else,
      ) in
      let g = elsewhere slot in
      let weightless : g slot ≡ 0 = ap {B = ℕ} (λ b. cond b 0 1) (is_itself slot) in
      let none_away : sum_by (weigh_slots g) (map (Acting slot) (awaited_from at.0 at.1.0)) ≡ 0 = acting_weigh g slot weightless (awaited_from at.0 at.1.0) in
      let same : (m : ℕ) → g m ≡ 0 → all_at m ≡ u = λ m none.
      by_bool (slot == m)
      (λ is. ap all_at (sym (exact_unsigned_eq slot m is)))
      (λ other. absurd (omega (arith, none, ap {B = ℕ} (λ b. cond b 0 1) other))) in
      let inbox = messages_stay shared g all_at (λ n. u) same rest (omega (arith, weighed (weigh_slots g), none_away)) hand.0.inbox in
      let outbox = items_stay shared g all_at (λ n. u) same w.outbox (omega (arith, weighed (weigh_slots g), none_away)) hand.0.outbox in
      let no_other = no_acting weigh_other slot (λ n. refl) (awaited_from at.0 at.1.0) in
      let recorded : (i : ℕ) (r : Report J)
      → slice_get at.1.0 i ≡ Some (Some r) → claims_on group (claims_reported r) ≤ own u group (0 + i) = λ i r there.
      let report = phase.reports i r there in
      let fine = report.1.1 in
      let number : fine.number ≡ 0 + i = omega (arith, report.0, fine.place, phase.first_is) in
      subst (λ n. claims_on group (claims_reported r) ≤ own u group n) number
      (report_few u group shared fine.number r fine.flow fine.ran) in
      let from_zero : (i : ℕ) → slice_get (works_of u.progress) (0 + i) ≡ slice_get (works_of u.progress) i = λ i.
      let same : 0 + i ≡ i = omega arith in
      ap (λ n. slice_get (works_of u.progress) n) same in
      let met_all = parts part_met (reported_to_all w.desk.active) in
      let met_own = parts part_met (reported at.1.0) in
      let met_else = parts part_met (reported_to_all (without slot w.desk.active)) in
      let met_apart_is = met_apart slot w.desk.active active_is acting in
      let none_met : met_else.claims ≡ [] = ap (λ (rs : List (Report J)). (parts part_met rs).claims) (idle_met (without slot w.desk.active) idle) in
      omega (
        arith,
        ap {B = ℕ} (λ (p : InFlight). claims_on group p.claims) (message_taken w (Act act) rest is),
        sum_by-append (one_claim_on group) (part_carried act.flow).claims (flight mid).claims,
        claims_count group mid,
        claimed_once shared u.request u.progress u.held phase.reached group once,
        phase_few u group shared slot at.0 0 at.1.0 (works_of u.progress) (omega (arith, phase.first_is)) phase.many from_zero recorded,
        messages_few u group shared rest inbox (omega (arith, weighed weigh_other, no_other)),
        items_few u group shared w.outbox outbox (omega (arith, weighed weigh_other, no_other)),
        weighed (weight u group),
        sum_by-IsPermutation (one_claim_on group) met_all.claims (met_own.claims ++ met_else.claims) met_apart_is.claims,
        sum_by-append (one_claim_on group) met_own.claims met_else.claims,
        ap {B = ℕ} (λ (cs : List ClaimView). claims_on group cs) none_met,
        at_place u group slot sound.number act.place sound.place,
        carried_few u group shared slot sound.number act.flow sound.flow,
        ap {B = ℕ} (work_on u group) sound.work,
      )

  -- so no holder has a claim on a group that it wants
  none_holds : (opening : Database) (history : List Step) (w_id : ℕ) → Fits opening history w → HoldsGroupWanted ((joined_in w).holdings w_id) (group_wants_of act.work) → ⊥
  none_holds opening history w_id fits of =
      let claims = (flight w).claims in
      let out = Contains-permutation ((joined_in w).holdings w_id) (held_at w_id claims) of.holding (fits.held w_id) of.held in
      omega (
        arith,
        few_on of.group_want.group,
        group_wanted (group_wants_of act.work) of.group_want of.group_wanted,
        claimed w_id claims of.holding out,
        ap {B = ℕ} (λ (group : Group). claims_on group claims) of.on,
      )

-- ---- the event

-- of transactions of which there is one, it is the one in either slot
one_slot : {X : Type 0} (slots : List (Option X)) (i j : ℕ) (x y : X) → count_active slots ≡ 1 → slice_get slots i ≡ Some (Some x) → slice_get slots j ≡ Some (Some y) → i ≡ j
one_slot slots i j x y one here there =
    by_bool (j == i)
    (λ same. sym (exact_unsigned_eq j i same))
    (λ differs.
    let other : j ≢ i = λ is. absurd (subst (λ b. IsFalse b) (sym differs ∙ eq-eqb j i is) tt) in
    let still : slice_get (slice_set slots i None) j ≡ Some (Some y) = get_other slots i j None other ∙ there in
    absurd (omega (arith, one, taken_counts slots i x here, taken_counts (slice_set slots i None) j y still)))

-- the reports of actions that have run are of no death if none has died
module _ {J : Type 0} (shared : SharedTables) (old : Core J) (h : IsSound shared old) (alone : count_active old.parts.desk.active ≡ 1) where
  abbrev all : Parts J
  all = together old

  -- while one is alone, all that is out is its own, and of its age
  own_age : (slot place : ℕ) (c : ClaimView) → 1 ≤ sum_by (weigh_acting slot place) (awaited_by_all 0 all.desk.active) → Contains (flight all).claims c → c.by.age ≡ (h.all.in_flight slot).age
  own_age slot place c some is =
      let there = acting_in_flight slot place all.desk.active some in
      let holder = holder_active shared all h.all c is in
      let same : holder.0 ≡ slot = one_slot all.desk.active holder.0 slot holder.1.0 (active.Acting there.0 there.1.0) alone holder.1.1.0 there.1.1.0 in
      holder.1.1.1 ∙ ap (λ n. (h.all.in_flight n).age) same

  -- so it waits for no holder
  waits_for_none : (act : AnyAct J) → Contains all.inbox (Act act) → (w_id : ℕ) → MustWait ((joined_in old.parts).holdings w_id) act.age (wants_of act.work) → ⊥
  waits_for_none act is w_id must =
      let at = h.all.in_flight in
      let fine : IsSoundAct shared (at act.slot) act = All-contains (IsSoundMessage shared at) all.inbox (Act act) h.all.inbox is in
      let weight = weigh_acting act.slot act.place in
      let some : 1 ≤ sum_by weight (awaited_by_all 0 all.desk.active) =
      omega (
        arith,
        h.all.balance.tokens weight,
        sum_by-cons weight (Acting act.slot act.place) [],
        acting_weighs act.slot act.place,
        one_of_all part_message weight all.inbox (Act act) is,
        sum_by-append weight (parts part_message all.inbox).tokens ((parts part_item all.outbox).tokens ++ (parts part_met (reported_to_all all.desk.active)).tokens),
      ) in
      let holding = must.some.0 in
      let out = Contains-permutation ((joined_in old.parts).holdings w_id) (held_at w_id (flight all).claims) holding (h.all.held w_id) must.some.1.0 in
      let claim = claim_of w_id (flight all).claims holding out in
      omega (arith, must.younger holding must.some.1, own_age act.slot act.place claim.0 some claim.1.0, ap (λ (x : HeldClaim). x.by.age) claim.1.1, fine.age)

  -- and no action waits
  none_parked : (s : ShardView (Carried J)) → Contains old.parts.shards.items s → s.parked ≡ []
  none_parked s is = by s.parked refl
    where
      by : (ps : List (Parked (Carried J))) → s.parked ≡ ps → ps ≡ []
      by [] same = refl
      by (p ∷ ps) same =
          let there : Contains s.parked p = subst (λ (q : List (Parked (Carried J))). Contains q p) (sym same) (contains_here p ps) in
          let shard = All-contains (IsShardOf shared.scale.warehouses) old.parts.shards.items s h.shards is in
          let have : HaveToWait s = All-contains HaveToWait old.parts.shards.items s h.wait is in
          let parked : Contains (map waiting_of s.parked) (waiting_of p) = contains_mapped waiting_of s.parked p there in
          let must = All-contains (StillWaits s.slice.holdings) s.slice.waiters (waiting_of p) have (subst (λ (ws : List WaitingAction). Contains ws (waiting_of p)) (sym shard.waiters) parked) in
          let seen : Contains all.inbox (message_of p) = Contains-append_left (waiting_in old.parts) (messages_in (all_of old.inboxes) ++ old.parked) (message_of p)
          (contains_joined (λ queue. queue) (map waiting_at old.parts.shards.items) (waiting_at s) (message_of p) (contains_mapped waiting_at old.parts.shards.items s is) (contains_mapped message_of s.parked p there)) in
          absurd (waits_for_none (act_of p) seen s.slice.home
          (subst (λ (hs : List HeldClaim). MustWait hs p.by.age (wants_of p.work)) (sym (stands_among old.parts h.all.slices s is)) must))

module _ {J : Type 0} where
  -- if no action waits, none has a turn
  no_turn : (home : ℕ) (turned : List (Turned J (Carried J))) (old new : Parts J) → ((s : ShardView (Carried J)) → slice_get old.shards.items (home - 1) ≡ Some s → s.parked ≡ []) → TurnsFollow home turned old new → new.outbox ≡ old.outbox
  no_turn home [] old new none same = ap (λ (w : Parts J). w.outbox) same.rest
  no_turn home (one ∷ more) old new none follow =
      let at = follow.1.0 in
      absurd (omega (arith, at.happened.inside, ap (λ (ps : List (Parked (Carried J))). length ps) (none at.was at.there)))

  pub pushes_record_none : (place age slot : ℕ) (carried : Option (Flow J)) (works : List Work) → All RecordsNoDeath (acts_from {J = J} place age slot carried works)
  pushes_record_none place age slot carried [] = All-nil RecordsNoDeath
  pushes_record_none place age slot carried (work ∷ works) = All-cons RecordsNoDeath _ (acts_from (place + 1) age slot None works) tt (pushes_record_none (place + 1) age slot None works)

  one_records : (i : Item J) → RecordsNoDeath i → All RecordsNoDeath (i ∷ [])
  one_records i none = All-cons RecordsNoDeath i [] none (All-nil RecordsNoDeath)

  not_died : (by : Holder) (was now : SliceView) (work : Work) (one : Ran J) → (HoldsGroupWanted was.holdings (group_wants_of work) → ⊥) → IsRan by was work one now → HasNotDied one
  not_died by was now work (ran.Done claims found) none of = tt
  not_died by was now work (ran.Died group holder) none of = absurd (none (dies_of_holder was.holdings by.age (group_wants_of work) group holder of.0))
  not_died by was now work ran.NoMemory none of = tt

  -- what is put as the message is worked on
  module _ (once : TransactionsClaimEachGroupOnce) (shared : SharedTables) (old : Core J) (h : IsSound shared old) (alone : count_active old.parts.desk.active ≡ 1)
      (executor : ℕ) (opening : Database) (history : List Step) (fits : Fits opening history (together old)) where
    abbrev Puts : Parts J → Type 0
    Puts new = (put : List (Item J)) × ((new.outbox ≡ put) × All RecordsNoDeath put)

    parked_at : (home : ℕ) (s : ShardView (Carried J)) → slice_get old.parts.shards.items home ≡ Some s → s.parked ≡ []
    parked_at home s is = none_parked shared old h alone s (home, slice_get_within old.parts.shards.items home s is, get_or_from_slice_get old.parts.shards.items home s s is)

    -- after what happened at a shard, with as few waiting actions
    and_no_turns : (home : ℕ) (items : List (Item J)) (of : ShardView (Carried J) → ShardView (Carried J) → Type 0) (left mid new : Parts J) → left.shards ≡ old.parts.shards → left.outbox ≡ []
        → (at : AtShard home items of left mid) → at.now.parked ≡ at.was.parked → All RecordsNoDeath items → AllTurns home mid new → Puts new
    and_no_turns home items of left mid new shards outbox_is at same records turns =
        let none : (s : ShardView (Carried J)) → slice_get mid.shards.items (home - 1) ≡ Some s → s.parked ≡ [] = λ s is.
        let below = slice_get_within left.shards.items (home - 1) at.was at.there in
        let now_there : slice_get mid.shards.items (home - 1) ≡ Some at.now = ap (λ (l : List (ShardView (Carried J))). slice_get l (home - 1)) at.shards ∙ got_set left.shards.items (home - 1) at.now below in
        let is_now : at.now ≡ s = cc in
        let was_old : slice_get old.parts.shards.items (home - 1) ≡ Some at.was = subst (λ (v : Vec (ShardView (Carried J)) Global). slice_get v.items (home - 1) ≡ Some at.was) shards at.there in
        subst (λ (t : ShardView (Carried J)). t.parked ≡ []) is_now (same ∙ parked_at (home - 1) at.was was_old) in
        let over = no_turn home turns.turned mid new none turns.follow in
        (items, (over ∙ ap (λ (w : Parts J). w.outbox) at.rest ∙ ap (λ (o : List (Item J)). o ++ items) outbox_is, records))

    puts_for : (m : Message J) (rest : List (Envelope J)) → queue_of executor old.inboxes ≡ envelope executor (load.Work m) ∷ rest → (new : Parts J) → TakesMessage m old.parts new → Puts new
    puts_for (Start flow works) rest is new takes =
        (acts_of flow works.items, (ap (λ (w : Parts J). w.outbox) takes ∙ ap (λ (o : List (Item J)). o ++ acts_of flow works.items) h.no_outbox, pushes_record_none _ _ _ _ works.items))
    puts_for (Settle slot claims) rest is new takes =
        and_no_turns (home_of_claims claims) (item.Ended slot ∷ []) _ old.parts takes.0 new refl h.no_outbox takes.1.0 takes.1.0.happened.1 (one_records (item.Ended slot) tt) takes.1.1
    puts_for (Undo slot claims) rest is new takes =
        and_no_turns (home_of_claims claims) (item.Ended slot ∷ []) _ old.parts takes.0 new refl h.no_outbox takes.1.0 takes.1.0.happened.1 (one_records (item.Ended slot) tt) takes.1.1
    puts_for (Act act) rest is new takes = by takes.1.0.0 takes.1.0.1
      where
        left : Parts J
        left = old.parts

        from : Parts J
        from = holding (Act act ∷ []) [] (record old { inboxes = slice_set old.inboxes executor rest })

        none : (holdings : List HeldClaim) → (joined_in old.parts).holdings (home_of act.work) ≡ holdings → HoldsGroupWanted holdings (group_wants_of act.work) → ⊥
        none holdings same =
            subst (λ (hs : List HeldClaim). HoldsGroupWanted hs (group_wants_of act.work) → ⊥) same
            (none_holds once shared from act (waiting_in old.parts ++ beside shared old h executor rest (Act act) is) refl (message_sound shared old h executor rest (Act act) is) alone opening history
            (home_of act.work) (message_fits shared old h executor rest (Act act) is opening history fits))

        there : Contains (together old).inbox (Act act)
        there =
            let some : 1 ≤ length (queue_of executor old.inboxes) = omega (arith, ap (λ (envelopes : List (Envelope J)). length envelopes) is) in
            let own : Contains (queue_of executor old.inboxes) (envelope executor (load.Work (Act act))) = subst (λ (q : List (Envelope J)). Contains q (envelope executor (load.Work (Act act)))) (sym is) (contains_here (envelope executor (load.Work (Act act))) rest) in
            let queue : Contains old.inboxes (queue_of executor old.inboxes) = Contains-get_or old.inboxes executor [] (has_queue old.inboxes executor some) in
            let stands : Contains (all_of old.inboxes) (envelope executor (load.Work (Act act))) = contains_joined (λ q. q) old.inboxes (queue_of executor old.inboxes) (envelope executor (load.Work (Act act))) queue own in
            Contains-append_right (waiting_in old.parts) (messages_in (all_of old.inboxes) ++ old.parked) (Act act)
            (Contains-append_left (messages_in (all_of old.inboxes)) old.parked (Act act) (contains_joined (λ (l : Envelope J). messages_of l.load) (all_of old.inboxes) (envelope executor (load.Work (Act act))) (Act act) stands (contains_here (Act act) [])))

        by : (a : Acted J (Carried J)) → AtShard (home_of act.work) (put_for act.place a) (λ was now. ActsAs (holder_of act) act.work (carried_by act) was a now) left takes.0 → Puts new
        by (acted.Ran one recorded) at =
            let Of : ShardView (Carried J) → ShardView (Carried J) → Type 0 = λ was now. ActsAs (holder_of act) act.work (carried_by act) was (acted.Ran one recorded) now in
            let holds_here = holds left takes.0 h.all.slices (home_of act.work) (put_for act.place (acted.Ran one recorded)) Of at in
            let lives : HasNotDied one = not_died (holder_of act) at.was.slice at.now.slice act.work one (none at.was.slice.holdings holds_here) at.happened.1 in
            and_no_turns (home_of act.work) (put_for act.place (acted.Ran one recorded)) Of left takes.0 new refl h.no_outbox at at.happened.3 (one_records (report_of act.place recorded one) lives) takes.1.1
        by acted.Waits at =
            let Of : ShardView (Carried J) → ShardView (Carried J) → Type 0 = λ was now. ActsAs {J = J} (holder_of act) act.work (carried_by act) was acted.Waits now in
            let holds_here = holds left takes.0 h.all.slices (home_of act.work) [] Of at in
            absurd (waits_for_none shared old h alone act there (home_of act.work) (subst (λ (hs : List HeldClaim). MustWait hs act.age (wants_of act.work)) (sym holds_here) at.happened.0))

  pub none_dies : TransactionsClaimEachGroupOnce → (shared : SharedTables) (event : Event) (old new : Core J) (answer : EventAnswer)
      → IsSound shared old → Happens event old answer new
      → (opening : Database) (history : List Step) → Fits opening history (together old) → count_active old.parts.desk.active ≡ 1 → NoneDies event old new
  none_dies once shared (Submit session number asked) old new answer h said opening history fits alone = tt
  none_dies once shared (Send executor) old new answer h said opening history fits alone = tt
  none_dies once shared (Order order) old new answer h said opening history fits alone = tt
  none_dies once shared (Take executor) old new answer h said opening history fits alone = λ posts put. by posts put (queue_of executor old.inboxes) refl said
    where
      outbox : List (Outgoing J)
      outbox = queue_of executor old.outboxes

      by : (posts : List (Outgoing J)) → queue_of executor new.outboxes ≡ outbox ++ posts → (envelopes : List (Envelope J)) → queue_of executor old.inboxes ≡ envelopes → TakesFirst executor envelopes old answer new → All RecordsNoDeath (items_in posts)
      by posts put [] is said =
          let stays : queue_of executor new.outboxes ≡ outbox = ap (λ (w : Core J). queue_of executor w.outboxes) said.1 in
          let none : posts ≡ [] = append_cancel_left outbox posts [] (sym put ∙ stays ∙ sym (append-nil outbox)) in
          subst (λ (l : List (Outgoing J)). All RecordsNoDeath (items_in l)) (sym none) (All-nil RecordsNoDeath)
      by posts put (l ∷ rest) is said = ⊎_elim works pushes (opens_put executor l.load left new from_there said.1)
        where
          left : Core J
          left = record old { inboxes = slice_set old.inboxes executor rest }

          some : 1 ≤ length (queue_of executor old.inboxes)
          some = omega (arith, ap (λ (envelopes : List (Envelope J)). length envelopes) is)

          to_there : executor < length old.inboxes
          to_there = has_queue old.inboxes executor some

          from_there : executor < length old.outboxes
          from_there = omega (arith, to_there, h.inboxes, h.outboxes)

          own : l.to ≡ executor
          own = is_own shared old h executor l rest is

          pushes : PutsPushes executor left new → All RecordsNoDeath (items_in posts)
          pushes p =
              let same : p.posts ≡ posts = sym (append_cancel_left outbox posts p.posts (sym put ∙ p.stands)) in
              pushes_all RecordsNoDeath (λ m. tt) (items_in posts) (subst (λ (ps : List (Outgoing J)). All IsPush (items_in ps)) same p.pushes)

          works : (m : Message J) × ((l.load ≡ load.Work m) × WorksOn executor m left new) → All RecordsNoDeath (items_in posts)
          works one =
              let m = one.0 in
              let first : queue_of executor old.inboxes ≡ envelope executor (load.Work m) ∷ rest = is ∙ (λ k. envelope (own k) (one.1.0 k) ∷ rest) in
              let parts = one.1.1.0 in
              let puts = puts_for once shared old h alone executor opening history fits m rest first parts one.1.1.1.0 in
              let brought = map (outgoing_by old.placements) parts.outbox in
              let stands : queue_of executor new.outboxes ≡ outbox ++ brought =
              ap (λ (w : Core J). queue_of executor w.outboxes) one.1.1.1.1 ∙ put_stands executor brought (record left { parts = record parts { outbox = [] } }) from_there in
              let same : posts ≡ brought = append_cancel_left outbox posts brought (sym put ∙ stands) in
              let items : items_in posts ≡ puts.0 = ap (λ (ps : List (Outgoing J)). items_in ps) same ∙ outgoing_items old.placements parts.outbox ∙ puts.1.0 in
              subst (λ (l : List (Item J)). All RecordsNoDeath l) (sym items) puts.1.1
