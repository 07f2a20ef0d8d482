-- Whose each claim is that is out: a transaction's that is active.
use Rattle.std.proofs.lemmas.List.Sorted.{length_permutation}
use Rattle.std.specs.List.Sorted.{IsPermutation}
use Rattle.std.proofs.Common.{◌≡◌, ℕ, ◌+◌, ◌≤◌, zero, suc, List, [], ◌∷◌, ◌++◌, length, map, Option, Some, None, refl, sym, ap, subst, ⊎_elim, arith, Bool, true, false, cond}
use Rattle.std.specs.Prelude.{All, Contains, replicate}
use Rattle.std.specs.List.{slice_get, sum_by, filter}
use Rattle.std.proofs.lemmas.List.Elements.{All-append, All-contains, All-head, All-nil, All-tail, Contains-append_cases, Contains-append_left, Contains-append_right}
use Rattle.std.proofs.lemmas.List.Sums.{sum_by-append, sum_by-cons}
use Rattle.partitions.specs.Parts.{SharedTables}
use Rattle.tickets.specs.Claims.{ClaimView, all_claims}
use Rattle.local_locks.specs.Asking.{held_by}
use Rattle.local_locks.specs.LockTableView.{HeldClaim}
use Rattle.slices.specs.SliceView.{at_home, held_at}
use Rattle.local_locks.proofs.Members.{contains_cases, contains_here, contains_none, contains_there}
use Rattle.rendezvous.specs.Awaited.{awaited_from, reported}
use Rattle.transactions.specs.declared.acting.Ran.{Ran}
use Rattle.transactions.specs.declared.acting.Ran.TheVariants as ran
use Rattle.transactions.specs.declared.work.Work.{Work}
use Rattle.transactions.specs.Acting.{claims_of_ran, AreUndoneBy, IsAged}
use Rattle.transactions.proofs.Reached.{some_actions}
use Rattle.world.specs.declared.desk.Active.{Active}
use Rattle.world.specs.declared.desk.Active.TheVariants as active
use Rattle.world.specs.declared.flight.Flow.{Flow}
use Rattle.world.specs.declared.flight.Item.{Item}
use Rattle.world.specs.declared.flight.Item.TheVariants as item
use Rattle.world.specs.declared.flight.Message.{Message}
use Rattle.world.specs.declared.flight.Message.TheVariants.{Start, Act, Settle, Undo}
use Rattle.world.specs.declared.flight.Report.{Report}
use Rattle.world.specs.declared.world.Parts.{Parts}
use Rattle.world.specs.Flights.{InFlight, Token, Acting, Committing, Ending, acting_from, nothing, parts, part_carried, part_item, part_message, part_met}
use Rattle.world.specs.Sound.{ActiveTransactions, IsActiveAt, IsCarriedAt, IsSoundActive, IsSoundItem, IsSoundMessage, IsSoundPhase, IsSoundRan, IsSoundWith, ActiveTransaction, awaited, awaited_by_all, flight, reported_to, reported_to_all}
use Rattle.world.proofs.Asking.{as_many_from}
use Rattle.world.proofs.OneSlot.{of_slot, sound_in, weigh_slots}
use Rattle.world.proofs.Reported.{met_tokens}
use Rattle.world.proofs.Tokens.{acting_in_flight, acting_weighs, commit_in_flight, ending_in_flight, one_weighs, weigh_acting, weigh_committing, weigh_ending}
use Rattle.history.specs.History.{UnansweredTransaction}

-- ---- parts

-- of what all have, one has it
pub whose_claim : {X : Type 0} (f : X → InFlight) (xs : List X) (c : ClaimView) → Contains (parts f xs).claims c → (x : X) × (Contains xs x × Contains (f x).claims c)
whose_claim f [] c is = contains_none c is
whose_claim f (x ∷ xs) c is =
    ⊎_elim
    (λ (first : Contains (f x).claims c). (x, (contains_here x xs, first)))
    (λ (rest : Contains (parts f xs).claims c). let r = whose_claim f xs c rest in (r.0, (contains_there x xs r.0 r.1.0, r.1.1)))
    (Contains-append_cases (f x).claims (parts f xs).claims c is)

-- what one of them has without an answer, all have
pub in_parts : {X : Type 0} (f : X → InFlight) (xs : List X) (x : X) (u : UnansweredTransaction) → Contains xs x → Contains (f x).pending u → Contains (parts f xs).pending u
in_parts f [] x u is has = contains_none x is
in_parts f (y ∷ xs) x u is has =
    ⊎_elim
    (λ (same : y ≡ x). Contains-append_left (f y).pending (parts f xs).pending u (subst (λ z. Contains (f z).pending u) (sym same) has))
    (λ (rest : Contains xs x). Contains-append_right (f y).pending (parts f xs).pending u (in_parts f xs x u rest has))
    (contains_cases y xs x is)

pub whose_token : {X : Type 0} (f : X → InFlight) (weight : Token → ℕ) (xs : List X) → 1 ≤ sum_by weight (parts f xs).tokens → (x : X) × (Contains xs x × (1 ≤ sum_by weight (f x).tokens))
whose_token {X = X} f weight [] some = absurd (omega (arith, some))
whose_token {X = X} f weight (x ∷ xs) some =
    by (sum_by weight (f x).tokens) refl (λ later. whose_token f weight xs later)
  where
    by : (n : ℕ) → sum_by weight (f x).tokens ≡ n → (1 ≤ sum_by weight (parts f xs).tokens → (y : X) × (Contains xs y × (1 ≤ sum_by weight (f y).tokens)))
        → (y : X) × (Contains (x ∷ xs) y × (1 ≤ sum_by weight (f y).tokens))
    by zero none rest =
        let r = rest (omega (arith, some, none, sum_by-append weight (f x).tokens (parts f xs).tokens)) in
        (r.0, (contains_there x xs r.0 r.1.0, r.1.1))
    by (suc n) one rest = (x, (contains_here x xs, omega (arith, one)))

pub one_of_all : {X : Type 0} (f : X → InFlight) (weight : Token → ℕ) (xs : List X) (x : X) → Contains xs x → sum_by weight (f x).tokens ≤ sum_by weight (parts f xs).tokens
one_of_all f weight [] x is = contains_none x is
one_of_all f weight (y ∷ xs) x is =
    let both = sum_by-append weight (f y).tokens (parts f xs).tokens in
    ⊎_elim
    (λ (same : y ≡ x). omega (arith, both, ap (λ z. sum_by weight (f z).tokens) same))
    (λ (rest : Contains xs x). omega (arith, both, one_of_all f weight xs x rest))
    (contains_cases y xs x is)

-- ---- lists

pub mapped_contains : {X Y : Type 0} (f : X → Y) (xs : List X) (y : Y) → Contains (map f xs) y → (x : X) × (Contains xs x × (f x ≡ y))
mapped_contains f [] y is = contains_none y is
mapped_contains f (x ∷ xs) y is =
    ⊎_elim
    (λ (same : f x ≡ y). (x, (contains_here x xs, same)))
    (λ (rest : Contains (map f xs) y). let r = mapped_contains f xs y rest in (r.0, (contains_there x xs r.0 r.1.0, r.1.1)))
    (contains_cases (f x) (map f xs) y is)

pub contains_mapped : {X Y : Type 0} (f : X → Y) (xs : List X) (x : X) → Contains xs x → Contains (map f xs) (f x)
contains_mapped f [] x is = contains_none x is
contains_mapped f (y ∷ xs) x is =
    ⊎_elim
    (λ (same : y ≡ x). subst (λ z. Contains (f y ∷ map f xs) (f z)) same (contains_here (f y) (map f xs)))
    (λ (rest : Contains xs x). contains_there (f y) (map f xs) (f x) (contains_mapped f xs x rest))
    (contains_cases y xs x is)

-- one of several is no more than all
pub counted_in : {X : Type 0} (f : X → ℕ) (xs : List X) (x : X) → Contains xs x → f x ≤ sum_by f xs
counted_in f [] x is = contains_none x is
counted_in f (y ∷ xs) x is =
    ⊎_elim
    (λ (same : y ≡ x). omega (arith, sum_by-cons f y xs, ap {B = ℕ} f same))
    (λ (rest : Contains xs x). omega (arith, sum_by-cons f y xs, counted_in f xs x rest))
    (contains_cases y xs x is)

pub empty_of : {X : Type 0} (xs : List X) → IsPermutation xs [] → xs ≡ []
empty_of [] same = refl
empty_of (x ∷ xs) same = absurd (omega (arith, length_permutation (x ∷ xs) [] same))

-- what a lock table has out is a claim that is in flight
pub claim_of : (w_id : ℕ) (claims : List ClaimView) (holding : HeldClaim) → Contains (held_at w_id claims) holding → (c : ClaimView) × (Contains claims c × (held_by c ≡ holding))
claim_of w_id [] holding is = contains_none holding is
claim_of w_id (c ∷ claims) holding is =
    let rest = filter (λ (claim : ClaimView). at_home w_id claim.group) claims in
    let later : Contains (held_at w_id claims) holding → (d : ClaimView) × (Contains (c ∷ claims) d × (held_by d ≡ holding)) = λ more.
    let r = claim_of w_id claims holding more in (r.0, (contains_there c claims r.0 r.1.0, r.1.1)) in
    either (at_home w_id c.group) rest later is
  where
    either : (b : Bool) (rest : List ClaimView) → (Contains (map held_by rest) holding → (d : ClaimView) × (Contains (c ∷ claims) d × (held_by d ≡ holding)))
        → Contains (map held_by (cond b (c ∷ rest) rest)) holding → (d : ClaimView) × (Contains (c ∷ claims) d × (held_by d ≡ holding))
    either true rest later is =
        ⊎_elim
        (λ (same : held_by c ≡ holding). (c, (contains_here c claims, same)))
        (λ (more : Contains (map held_by rest) holding). later more)
        (contains_cases (held_by c) (map held_by rest) holding is)
    either false rest later is = later is

-- ---- claims of one transaction

pub all_aged : (age : ℕ) (held : List (List ClaimView)) → All (AreUndoneBy age) held → All (IsAged age) (all_claims held)
all_aged age [] h = All-nil (IsAged age)
all_aged age (claims ∷ held) h =
    All-append (IsAged age) claims (all_claims held) (All-head (AreUndoneBy age) claims held h).1 (all_aged age held (All-tail (AreUndoneBy age) claims held h))

-- ---- what a slot awaits

acting_all : (slot : ℕ) (ns : List ℕ) → sum_by (weigh_slots (of_slot slot)) (map (Acting slot) ns) ≡ length ns
acting_all slot [] = refl
acting_all slot (n ∷ ns) = omega (arith, sum_by-cons (weigh_slots (of_slot slot)) (Acting slot n) (map (Acting slot) ns), one_weighs slot, acting_all slot ns)

ending_all : (slot left : ℕ) → sum_by (weigh_slots (of_slot slot)) (replicate left (Ending slot)) ≡ left
ending_all slot zero = refl
ending_all slot (suc left) = omega (arith, sum_by-cons (weigh_slots (of_slot slot)) (Ending slot) (replicate left (Ending slot)), one_weighs slot, ending_all slot left)

module _ {J : Type 0} where
  carried_aged : (slot : ℕ) (u : ActiveTransaction) (number : ℕ) (o : Option (Flow J)) → IsCarriedAt slot u number o → All (AreUndoneBy u.age) u.held → All (IsAged u.age) (part_carried o).claims
  carried_aged slot u number None h undo = All-nil (IsAged u.age)
  carried_aged slot u zero (Some flow) h undo = subst (λ (held : List (List ClaimView)). All (IsAged u.age) (all_claims held)) (sym h.held) (all_aged u.age u.held undo)
  carried_aged slot u (suc number) (Some flow) h undo = absurd h

  ran_aged : (shared : SharedTables) (u : ActiveTransaction) (number : ℕ) (one : Ran J) → IsSoundRan shared u number one → All (IsAged u.age) (claims_of_ran one)
  ran_aged shared u number (ran.Done claims found) h = h.1.1.1.1
  ran_aged shared u number (ran.Died group holder) h = All-nil (IsAged u.age)
  ran_aged shared u number ran.NoMemory h = All-nil (IsAged u.age)

  -- ---- reports that have met

  pub reported_at : (slots : List (Option (Report J))) (r : Report J) → Contains (reported slots) r → (number : ℕ) × (slice_get slots number ≡ Some (Some r))
  reported_at [] r is = contains_none r is
  reported_at (None ∷ slots) r is = let rest = reported_at slots r is in (suc rest.0, rest.1)
  reported_at (Some q ∷ slots) r is =
      ⊎_elim
      (λ (same : q ≡ r). (zero, ap (λ (p : Report J). Some (Some p)) same))
      (λ (rest : Contains (reported slots) r). let more = reported_at slots r rest in (suc more.0, more.1))
      (contains_cases q (reported slots) r is)

  met_of : (a : Option (Active J)) (r : Report J) → Contains (reported_to a) r → (first : ℕ) × ((places : List (Option (Report J))) × ((a ≡ Some (active.Acting first places)) × Contains (reported places) r))
  met_of None r is = contains_none r is
  met_of (Some (active.Acting first places)) r is = (first, (places, (refl, is)))
  met_of (Some active.Committing) r is = contains_none r is
  met_of (Some (active.Ending left)) r is = contains_none r is

  pub met_at : (slots : List (Option (Active J))) (r : Report J) → Contains (reported_to_all slots) r
      → (slot : ℕ) × ((first : ℕ) × ((places : List (Option (Report J))) × ((slice_get slots slot ≡ Some (Some (active.Acting first places))) × Contains (reported places) r)))
  met_at [] r is = contains_none r is
  met_at (a ∷ slots) r is =
      ⊎_elim
      (λ (own : Contains (reported_to a) r). let m = met_of a r own in (zero, (m.0, (m.1.0, (ap (λ (o : Option (Active J)). Some o) m.1.1.0, m.1.1.1)))))
      (λ (rest : Contains (reported_to_all slots) r). let m = met_at slots r rest in (suc m.0, m.1))
      (Contains-append_cases (reported_to a) (reported_to_all slots) r is)

  -- ---- a transaction that is active awaits something

  pub active_awaits : (shared : SharedTables) (slot : ℕ) (u : ActiveTransaction) (a : Active J) → IsSoundActive shared slot u (Some a) → 1 ≤ sum_by (weigh_slots (of_slot slot)) (awaited slot (Some a))
  active_awaits shared slot u (active.Acting first places) h = omega (arith, acting_all slot (awaited_from first places), as_many_from first places, h.awaits)
  active_awaits shared slot u active.Committing h = omega (arith, sum_by-cons (weigh_slots (of_slot slot)) (Committing slot) [], one_weighs slot)
  active_awaits shared slot u (active.Ending left) h = omega (arith, ending_all slot left, h.0)

  -- ---- whose a claim is

  module _ (shared : SharedTables) (at : ActiveTransactions) (slots : List (Option (Active J))) (c : ClaimView) where
    -- of tokens that are in flight each is awaited
    abbrev AreAwaited : List Token → Type 0
    AreAwaited tokens = (weight : Token → ℕ) → sum_by weight tokens ≤ sum_by weight (awaited_by_all 0 slots)

    module _ (sound : (slot : ℕ) (a : Option (Active J)) → slice_get slots slot ≡ Some a → IsSoundActive shared slot (at slot) a) where
      -- what the earlier phases hold, or what is carried
      held_active : (slot place : ℕ) → 1 ≤ sum_by (weigh_acting slot place) (awaited_by_all 0 slots) → Contains (all_claims (at slot).held) c → IsActiveAt at slots c.by.age
      held_active slot place some is =
          let there = acting_in_flight slot place slots some in
          let phase = sound slot (Some (active.Acting there.0 there.1.0)) there.1.1.0 in
          (slot, (active.Acting there.0 there.1.0, (there.1.1.0, All-contains (IsAged (at slot).age) (all_claims (at slot).held) c (all_aged (at slot).age (at slot).held phase.undo) is)))

      carried_active : (slot number place : ℕ) (o : Option (Flow J)) → IsCarriedAt slot (at slot) number o → 1 ≤ sum_by (weigh_acting slot place) (awaited_by_all 0 slots) → Contains (part_carried o).claims c → IsActiveAt at slots c.by.age
      carried_active slot number place None h some is = contains_none c is
      carried_active slot zero place (Some flow) h some is = held_active slot place some (subst (λ (held : List (List ClaimView)). Contains (all_claims held) c) h.held is)
      carried_active slot (suc number) place (Some flow) h some is = absurd h

      acting_active : (slot place : ℕ) → 1 ≤ sum_by (weigh_acting slot place) (awaited_by_all 0 slots) → c.by.age ≡ (at slot).age → IsActiveAt at slots c.by.age
      acting_active slot place some aged =
          let there = acting_in_flight slot place slots some in
          (slot, (active.Acting there.0 there.1.0, (there.1.1.0, aged)))

      ending_active : (slot : ℕ) → AreAwaited (Ending slot ∷ []) → c.by.age ≡ (at slot).age → IsActiveAt at slots c.by.age
      ending_active slot awaits aged =
          let there = ending_in_flight slot slots (omega (arith, awaits (weigh_ending slot), sum_by-cons (weigh_ending slot) (Ending slot) [], one_weighs slot)) in
          (slot, (active.Ending there.0, (there.1.0, aged)))

      pub one_acting : (slot place : ℕ) → AreAwaited (Acting slot place ∷ []) → 1 ≤ sum_by (weigh_acting slot place) (awaited_by_all 0 slots)
      one_acting slot place awaits = omega (arith, awaits (weigh_acting slot place), sum_by-cons (weigh_acting slot place) (Acting slot place) [], acting_weighs slot place)

      pub first_acting : (slot place : ℕ) (works : List Work) → 1 ≤ length works → AreAwaited (acting_from slot place works) → 1 ≤ sum_by (weigh_acting slot place) (awaited_by_all 0 slots)
      first_acting slot place [] some awaits = absurd (omega (arith, some))
      first_acting slot place (work ∷ works) some awaits =
          omega (arith, awaits (weigh_acting slot place), sum_by-cons (weigh_acting slot place) (Acting slot place) (acting_from slot (place + 1) works), acting_weighs slot place)

      message_active : (m : Message J) → IsSoundMessage shared at m → AreAwaited (part_message m).tokens → Contains (part_message m).claims c → IsActiveAt at slots c.by.age
      message_active (Start flow works) h awaits is =
          let slot = flow.transaction.slot in
          let some : 1 ≤ length works.items = omega (arith, ap (λ (ws : List Work). length ws) h.works_are, some_actions (at slot).progress) in
          held_active slot (length flow.transaction.held) (first_acting slot (length flow.transaction.held) works.items some awaits) (subst (λ (held : List (List ClaimView)). Contains (all_claims held) c) h.flow_is.held is)
      message_active (Act act) h awaits is = carried_active act.slot h.number act.place act.flow h.flow (one_acting act.slot act.place awaits) is
      message_active (Settle slot claims) h awaits is = ending_active slot awaits (All-contains (IsAged (at slot).age) claims c h.1 is)
      message_active (Undo slot claims) h awaits is = ending_active slot awaits (All-contains (IsAged (at slot).age) claims c h.1 is)

      reported_active : (slot place number : ℕ) (r : Report J) → 1 ≤ sum_by (weigh_acting slot place) (awaited_by_all 0 slots) → IsCarriedAt slot (at slot) number r.flow → IsSoundRan shared (at slot) number r.ran
          → Contains ((part_carried r.flow).claims ++ claims_of_ran r.ran) c → IsActiveAt at slots c.by.age
      reported_active slot place number r some carried ran is =
          ⊎_elim
          (λ (own : Contains (part_carried r.flow).claims c). carried_active slot number place r.flow carried some own)
          (λ (done : Contains (claims_of_ran r.ran) c). acting_active slot place some (All-contains (IsAged (at slot).age) (claims_of_ran r.ran) c (ran_aged shared (at slot) number r.ran ran) done))
          (Contains-append_cases (part_carried r.flow).claims (claims_of_ran r.ran) c is)

      item_active : (i : Item J) → IsSoundItem shared at i → AreAwaited (part_item i).tokens → Contains (part_item i).claims c → IsActiveAt at slots c.by.age
      item_active (item.Push m) h awaits is = message_active m h awaits is
      item_active (item.Report r) h awaits is = reported_active r.slot r.place h.number r (one_acting r.slot r.place awaits) h.flow h.ran is
      item_active (item.Ended slot) h awaits is = contains_none c is
      item_active (item.Commit commit) h awaits is =
          let slot = commit.transaction.slot in
          let there = commit_in_flight slot slots (omega (arith, awaits (weigh_committing slot), sum_by-cons (weigh_committing slot) (Committing slot) [], one_weighs slot)) in
          (slot, (active.Committing, (there, All-contains (IsAged (at slot).age) (all_claims commit.transaction.held) c (all_aged (at slot).age commit.transaction.held h.undo) is)))
      item_active (item.Reply recorded) h awaits is = contains_none c is

  -- a claim that is out is a transaction's that is active
  pub holder_active : (shared : SharedTables) (w : Parts J) (h : IsSoundWith shared nothing w) (c : ClaimView) → Contains (flight w).claims c → IsActiveAt h.in_flight w.desk.active c.by.age
  holder_active shared w h c is =
      let at = h.in_flight in
      let slots = w.desk.active in
      let in_inbox = parts part_message w.inbox in
      let in_outbox = parts part_item w.outbox in
      let met = reported_to_all slots in
      let in_meeting = parts part_met met in
      let sound : (slot : ℕ) (a : Option (Active J)) → slice_get slots slot ≡ Some a → IsSoundActive shared slot (at slot) a = λ slot a there. sound_in shared at slot slots a h.active there in
      let tokens : (weight : Token → ℕ) → sum_by weight in_inbox.tokens + sum_by weight in_outbox.tokens ≡ sum_by weight (awaited_by_all 0 slots) = λ weight.
      omega (
        arith,
        h.balance.tokens weight,
        sum_by-append weight in_inbox.tokens (in_outbox.tokens ++ in_meeting.tokens),
        sum_by-append weight in_outbox.tokens in_meeting.tokens,
        ap (λ (ts : List Token). sum_by weight ts) (met_tokens met),
      ) in
      ⊎_elim
      (λ (own : Contains in_inbox.claims c).
      let one = whose_claim part_message w.inbox c own in
      message_active shared at slots c sound one.0 (All-contains (IsSoundMessage shared at) w.inbox one.0 h.inbox one.1.0)
      (λ weight. omega (arith, tokens weight, one_of_all part_message weight w.inbox one.0 one.1.0)) one.1.1)
      (λ (others : Contains (in_outbox.claims ++ in_meeting.claims) c).
      ⊎_elim
      (λ (own : Contains in_outbox.claims c).
      let one = whose_claim part_item w.outbox c own in
      item_active shared at slots c sound one.0 (All-contains (IsSoundItem shared at) w.outbox one.0 h.outbox one.1.0)
      (λ weight. omega (arith, tokens weight, one_of_all part_item weight w.outbox one.0 one.1.0)) one.1.1)
      (λ (own : Contains in_meeting.claims c). of_met shared at slots sound c own)
      (Contains-append_cases in_outbox.claims in_meeting.claims c others))
      (Contains-append_cases in_inbox.claims (in_outbox.claims ++ in_meeting.claims) c is)
    where
      of_met : (shared : SharedTables) (at : ActiveTransactions) (slots : List (Option (Active J))) → ((slot : ℕ) (a : Option (Active J)) → slice_get slots slot ≡ Some a → IsSoundActive shared slot (at slot) a)
          → (c : ClaimView) → Contains (parts part_met (reported_to_all slots)).claims c → IsActiveAt at slots c.by.age
      of_met shared at slots sound c own =
          let one = whose_claim part_met (reported_to_all slots) c own in
          let r = one.0 in
          let there = met_at slots r one.1.0 in
          let slot = there.0 in
          let u = at slot in
          let place = reported_at there.1.1.0 r there.1.1.1.1 in
          let phase : IsSoundPhase shared slot u there.1.0 there.1.1.0 = sound slot (Some (active.Acting there.1.0 there.1.1.0)) there.1.1.1.0 in
          let fine = (phase.reports place.0 r place.1).1.1 in
          let aged : c.by.age ≡ u.age =
          ⊎_elim
          (λ (carried : Contains (part_carried r.flow).claims c). All-contains (IsAged u.age) (part_carried r.flow).claims c (carried_aged r.slot u fine.number r.flow fine.flow phase.undo) carried)
          (λ (done : Contains (claims_of_ran r.ran) c). All-contains (IsAged u.age) (claims_of_ran r.ran) c (ran_aged shared u fine.number r.ran fine.ran) done)
          (Contains-append_cases (part_carried r.flow).claims (claims_of_ran r.ran) c one.1.1) in
          (slot, (active.Acting there.1.0 there.1.1.0, (there.1.1.1.0, aged)))
