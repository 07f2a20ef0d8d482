-- What is in hand can be worked on, or sent.
use Rattle.std.proofs.Common.{◌≡◌, ℕ, ◌+◌, ◌-◌, ◌<◌, ◌≤◌, List, [], ◌∷◌, length, zero, suc, Option, Some, refl, sym, ◌∙◌, ap, subst, arith}
use Rattle.std.specs.Prelude.{map, slice_set}
use Rattle.std.specs.List.{slice_get}
use Rattle.std.proofs.lemmas.List.{length-map, length-set}
use Rattle.std.proofs.lemmas.Option.{slice_get_within}
use Rattle.partitions.specs.Parts.{SharedTables, shared_of}
use Rattle.schema.specs.Database.{Database}
use Rattle.tickets.specs.Claims.{ClaimView}
use Rattle.transactions.specs.Works.{HaveAllDone}
use Rattle.transactions.specs.declared.work.Work.{Work}
use Rattle.transactions.specs.Progresses.{IsReached, works_of}
use Rattle.transactions.specs.declared.laws.TheConstants.{MOST_ACTIONS}
use Rattle.transactions.proofs.Reached.{few_actions, some_actions}
use Rattle.world.specs.declared.flight.Flow.{Flow}
use Rattle.world.specs.declared.flight.Message.{Message}
use Rattle.world.specs.declared.flight.Message.TheVariants.{Start, Act, Settle, Undo}
use Rattle.world.specs.declared.flight.Report.{Report}
use Rattle.world.specs.declared.flight.Item.{Item}
use Rattle.world.specs.declared.flight.Item.TheVariants as item
use Rattle.world.specs.declared.world.Parts.{Parts}
use Rattle.world.specs.declared.desk.Active.TheVariants as active
use Rattle.world.specs.Flights.{Acting, Ending, part_item}
use Rattle.world.specs.Following.{CarriesFirst, IfCarried, found_in, held_in}
use Rattle.world.specs.Sound.{ActiveTransactions, ActiveTransaction, IsSoundWith, IsSoundMessage, IsSoundItem, IsSoundPhase, IsSoundReport, awaited_by_all, flight}
use Rattle.world.specs.Events.{CanWork, CanSend, CanMeet, CanMeetFor}
use Rattle.world.proofs.Reported.{HaveReported, all_done, is_carried, phase_reported}
use Rattle.world.proofs.Tokens.{is_awaited, weigh_acting, weigh_ending, one_weighs, acting_weighs, acting_in_flight, ending_in_flight}
use Rattle.world.proofs.OneSlot.{sound_in}

-- the element at a place below the length
pub stands_at : {X : Type 0} (xs : List X) (n : ℕ) → n < length xs → (x : X) × (slice_get xs n ≡ Some x)
stands_at [] n below = absurd (omega (arith, below))
stands_at (x ∷ xs) zero below = (x, refl)
stands_at (x ∷ xs) (suc n) below = stands_at xs n (omega (arith, below))

module _ {J : Type 0} where
  -- ---- a message

  pub can_work : (shared : SharedTables) (at : ActiveTransactions) (message : Message J) → IsSoundMessage shared at message → CanWork shared message
  can_work shared at (Start flow works) h =
      (omega (arith, ap (λ (ws : List Work). length ws) h.works_are, some_actions (at flow.transaction.slot).progress), (h.few, h.can))
  can_work shared at (Act act) h = h.can
  can_work shared at (Settle slot claims) h = h.0
  can_work shared at (Undo slot claims) h = h.0

  -- ---- a report

  -- where all actions of a phase have reported, the first has the transaction with it
  can_meet : (shared : SharedTables) (slot : ℕ) (u : ActiveTransaction) (works : List Work) (reports : List (Report J)) → works ≡ works_of u.progress → IsReached shared u.request u.progress u.held → 1 ≤ length works → length u.held + length works ≤ MOST_ACTIONS
      → length reports ≡ length works → HaveReported shared slot u 0 works reports → CanMeet reports × CarriesFirst reports (λ flow. flow.transaction.slot ≡ slot)
  can_meet shared slot u works [] are reached some few many h = absurd (omega (arith, some, many))
  can_meet shared slot u [] (r ∷ reports) are reached some few many h = absurd h
  can_meet shared slot u (work ∷ works) (r ∷ reports) are reached some few many h =
      let all = r ∷ reports in
      let carried = is_carried shared slot u r.flow h.0.0 in
      let same = carried.1.1 in
      let goes : CanMeetFor all carried.0 = record {
        slot = same.asked.slot;
        room = omega (arith, ap (λ (held : List (List ClaimView)). length held) same.held, few, many);
        done = λ none. (
          shared,
          u.request,
          u.held,
          held_in all,
          subst (λ p. IsReached shared u.request p u.held) (sym same.progress) reached,
          subst (λ ws. HaveAllDone shared ws (found_in all) (held_in all)) (are ∙ ap works_of (sym same.progress)) (all_done shared slot u 0 (work ∷ works) all h none),
        );
      } in
      let Both : Flow J → Type 0 = λ flow. flow.transaction.slot ≡ slot in (
        subst (λ (o : Option (Flow J)). IfCarried o (CanMeetFor all)) (sym carried.1.0) goes,
        subst (λ (o : Option (Flow J)). IfCarried o Both) (sym carried.1.0) same.slot_is,
      )

  can_report : (opening : Database) (w : Parts J) (r : Report J) (h : IsSoundWith (shared_of opening) (part_item (item.Report r)) w) → IsSoundReport (shared_of opening) (h.in_flight r.slot) r → CanSend opening (item.Report r) w
  can_report opening w r h s =
      let shared = shared_of opening in
      let u = h.in_flight r.slot in
      let at = acting_in_flight r.slot r.place w.desk.active
      (is_awaited (weigh_acting r.slot r.place) (Acting r.slot r.place) (flight w).tokens (awaited_by_all 0 w.desk.active) (acting_weighs r.slot r.place) h.balance.tokens) in
      let first = at.0 in
      let slots = at.1.0 in
      let phase : IsSoundPhase shared r.slot u first slots = sound_in shared h.in_flight r.slot w.desk.active (Some (active.Acting first slots)) h.active at.1.1.0 in
      let place : r.place ≡ first + (r.place - first) = omega (arith, at.1.1.1.0) in
      let meets : (reports : List (Report J)) → map Some reports ≡ slice_set slots (r.place - first) (Some r) → CanMeet reports × CarriesFirst reports (λ flow. flow.transaction.slot ≡ r.slot) = λ reports all.
      let many : length reports ≡ length (works_of u.progress) =
      sym (length-map reports Some) ∙ ap (λ (l : List (Option (Report J))). length l) all ∙ length-set slots (r.place - first) (Some r) ∙ phase.many in
      can_meet shared r.slot u (works_of u.progress) reports refl phase.reached (some_actions u.progress) (few_actions shared u.request u.progress u.held phase.reached) many
      (phase_reported shared r.slot u first (r.place - first) slots r reports phase s refl place all) in
      (subst (λ n. r.slot < n) h.slots (slice_get_within w.desk.active r.slot (Some (active.Acting first slots)) at.1.1.0), (first, (slots, (at.1.1.0, (at.1.1.1.0, (at.1.1.1.1, meets))))))

  -- ---- an item

  pub can_send : (opening : Database) (w : Parts J) (i : Item J) (h : IsSoundWith (shared_of opening) (part_item i) w) → IsSoundItem (shared_of opening) h.in_flight i → CanSend opening i w
  can_send opening w (item.Push message) h s = tt
  can_send opening w (item.Report r) h s = can_report opening w r h s
  can_send opening w (item.Ended slot) h s =
      let at = ending_in_flight slot w.desk.active (is_awaited (weigh_ending slot) (Ending slot) (flight w).tokens (awaited_by_all 0 w.desk.active) (one_weighs slot) h.balance.tokens) in
      (subst (λ n. slot < n) h.slots (slice_get_within w.desk.active slot (Some (active.Ending at.0)) at.1.0), at)
  can_send opening w (item.Commit commit) h s = record {
    accepted = s.accepted;
    number = s.asked.number;
    asks = s.asked.request;
    carried_out = s.carried_out opening refl;
    few = s.few;
    slot = s.asked.slot;
  }
  can_send opening w (item.Reply recorded) h s = stands_at w.desk.sessions.items recorded.pass.session (subst (λ n. recorded.pass.session < n) (sym h.seats) s.0)
