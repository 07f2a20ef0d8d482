-- What the work on each message does.
use Rattle.std.proofs.Common.{◌≡◌, ℕ, ◌+◌, ◌<◌, ◌≤◌, zero, suc, List, [], ◌∷◌, ◌++◌, length, Option, Some, None, refl, sym, ap, ◌∙◌, subst, append-nil, arith}
use Rattle.std.specs.Prelude.{All, Vec}
use Rattle.std.specs.declared.alloc.Global.{Global}
use Rattle.std.specs.List.{slice_get}
use Rattle.std.proofs.lemmas.List.Elements.{All-nil, All-cons, All-head, All-tail, All-weaker}
use Rattle.partitions.specs.Parts.{SharedTables, shared_of}
use Rattle.requests.specs.declared.group.Group.{Group}
use Rattle.local_locks.specs.Conflicts.{MustDie}
use Rattle.tickets.specs.Claims.{ClaimView, all_claims}
use Rattle.slices.specs.SliceView.{JoinedSlices, SliceView, SlicesKeep}
use Rattle.transactions.specs.declared.work.Work.{Work}
use Rattle.transactions.specs.declared.acting.Ran.{Ran}
use Rattle.transactions.specs.declared.acting.Ran.TheVariants as ran
use Rattle.transactions.specs.Acting.{IsBy, IsRan, claims_of_ran, IsAged}
use Rattle.transactions.specs.Works.{CanDo, HasDone, wants_of, group_wants_of}
use Rattle.world.specs.declared.flight.Act.{Act as AnyAct}
use Rattle.world.specs.declared.flight.Flow.{Flow}
use Rattle.world.specs.declared.flight.Item.{Item}
use Rattle.world.specs.declared.flight.Item.TheVariants as item
use Rattle.world.specs.declared.flight.Message.{Message}
use Rattle.world.specs.declared.flight.Message.TheVariants.{Start, Act, Settle, Undo}
use Rattle.world.specs.Flights.{Acting, InFlight, part, join, parts, part_carried, part_item, part_message, acting_from, unanswered_transaction}
use Rattle.world.specs.Following.{acts_from, acts_of}
use Rattle.world.specs.Sound.{IsCarriedAt, IsSoundAct, IsSoundItem, IsSoundMessage, IsSoundRan, IsSoundStart, IsPlaceOf, IsWorkAt, ActiveTransaction, ActiveTransactions}
use Rattle.transactions.proofs.GroupWanted.{works_are_done_at_home}
use Rattle.wait_die.specs.declared.deciding.Holder.{Holder}
use Rattle.world.specs.Events.{carried_by, holder_of, report_of}
use Rattle.world.proofs.Keeping.{more, stays}
use Rattle.transactions.proofs.OnGroups.{dies_on}

-- actions that carry nothing have their tokens alone
part_acts_from : (J : Type 0) (place age slot : ℕ) (works : List Work) → parts part_item (acts_from {J = J} place age slot None works) ≡ part [] [] (acting_from slot place works)
part_acts_from J place age slot [] = refl
part_acts_from J place age slot (work ∷ works) = ap (λ (p : InFlight). join (part [] [] (Acting slot place ∷ [])) p) (part_acts_from J (place + 1) age slot works)

-- where nothing is carried but with the first action
carried_later : (J : Type 0) (slot : ℕ) (u : ActiveTransaction) (number : ℕ) → 1 ≤ number → IsCarriedAt {J = J} slot u number None
carried_later J slot u zero some = absurd (omega (arith, some))
carried_later J slot u (suc number) some = tt

-- an action of this age that dies for this work in the slice dies of an older holder
abbrev pub DiesOfOlder : SliceView → ℕ → Work → Type 0
DiesOfOlder s age work = (group : Group) (holder : ℕ) → MustDie s.holdings age (wants_of work) group holder → holder < age

module _ {J : Type 0} where
  one_fine : (shared : SharedTables) (u : ActiveTransactions) (one : Item J) → IsSoundItem shared u one → All (IsSoundItem {J = J} shared u) (one ∷ [])
  one_fine shared u one fine = All-cons (IsSoundItem shared u) one [] fine (All-nil (IsSoundItem shared u))

  -- ---- the actions of a phase

  -- all of them have the transaction, and their tokens
  pub part_acts : (flow : Flow J) (works : List Work) → 1 ≤ length works
      → parts part_item (acts_of flow works) ≡ part (all_claims flow.transaction.held) (unanswered_transaction flow.transaction ∷ []) (acting_from flow.transaction.slot (length flow.transaction.held) works)
  part_acts flow [] some = absurd (omega (arith, some))
  part_acts flow (work ∷ works) some =
      let t = flow.transaction in
      let first = part (all_claims t.held) (unanswered_transaction t ∷ []) (Acting t.slot (length t.held) ∷ []) in
      ap (λ (p : InFlight). join first p) (part_acts_from J (length t.held + 1) t.age t.slot works)
      ∙ ap (λ (claims : List ClaimView). part claims (unanswered_transaction t ∷ []) (acting_from t.slot (length t.held) (work ∷ works))) (append-nil (all_claims t.held))

  -- those from a number on are sound
  acts_fine_from : (shared : SharedTables) (at : ActiveTransactions) (number place age slot : ℕ) (carried : Option (Flow J)) (works : List Work)
      → (let u = at slot in IsPlaceOf u number place → age ≡ u.age → IsCarriedAt slot u number carried → ((k : ℕ) (work : Work) → slice_get works k ≡ Some work → IsWorkAt u (number + k) work) → All (CanDo shared) works
      → All (IsSoundItem shared at) (acts_from place age slot carried works))
  acts_fine_from shared at number place age slot carried [] is aged here does can = All-nil (IsSoundItem shared at)
  acts_fine_from shared at number place age slot carried (work ∷ works) is aged here does can =
      let u = at slot in
      let act : AnyAct J = record { place = place; age = age; slot = slot; work = work; flow = carried } in
      let first : number + 0 ≡ number = omega arith in
      let later : (k : ℕ) → number + suc k ≡ (number + 1) + k = λ k. omega arith in
      let sound : IsSoundAct shared u act = record {
        number = number;
        place = is;
        flow = here;
        work = subst (λ n. IsWorkAt u n work) first (does 0 work refl);
        can = All-head (CanDo shared) work works can;
        age = aged;
      } in
      All-cons (IsSoundItem shared at) (item.Push (Act act)) (acts_from (place + 1) age slot None works) sound
      (acts_fine_from shared at (number + 1) (place + 1) age slot None works (omega (arith, is)) aged (carried_later J slot u (number + 1) (omega arith))
      (λ k other is. subst (λ n. IsWorkAt u n other) (later k) (does (suc k) other is)) (All-tail (CanDo shared) work works can))

  pub acts_fine : (shared : SharedTables) (at : ActiveTransactions) (flow : Flow J) (works : List Work) → IsSoundStart shared (at flow.transaction.slot) flow works → All (IsSoundItem shared at) (acts_of flow works)
  acts_fine shared at flow works h =
      let u = at flow.transaction.slot in
      let from_zero : (k : ℕ) → k ≡ 0 + k = λ k. omega arith in
      acts_fine_from shared at 0 (length flow.transaction.held) flow.transaction.age flow.transaction.slot (Some flow) works (omega (arith, ap (λ (hs : List (List ClaimView)). length hs) h.flow_is.held)) h.flow_is.age h.flow_is
      (λ k work is. subst (λ n. IsWorkAt u n work) (from_zero k) (subst (λ (ws : List Work). slice_get ws k ≡ Some work) h.works_are is)) h.can

  -- ---- each message

  -- What work on a message does to the rows, and the items that it puts: what is committed is kept, and no other claim comes or
  -- goes; the items have with them the transactions and the tokens that came with the message; and they are as sound as it is.
  pub record Works (shared : SharedTables) (message : Message J) (old : JoinedSlices) (items : List (Item J)) (new : JoinedSlices) : Type 0 where
    pub kept : SlicesKeep (part_message message).claims old (parts part_item items).claims new
    pub pending : (parts part_item items).pending ≡ (part_message message).pending
    pub tokens : (parts part_item items).tokens ≡ (part_message message).tokens
    pub fine : (at : ActiveTransactions) → IsSoundMessage shared at message → All (IsSoundItem shared at) items

  -- a transaction that starts puts the actions of its first phase
  pub starts : (shared : SharedTables) (flow : Flow J) (works : Vec Work Global) (slices : JoinedSlices) → 1 ≤ length works.items → Works shared (Start flow works) slices (acts_of flow works.items) slices
  starts shared flow works slices some =
      let held = all_claims flow.transaction.held in
      let are = part_acts flow works.items some in
      record {
        kept = subst (λ (p : InFlight). SlicesKeep held slices p.claims slices) (sym are) (stays held slices);
        pending = ap (λ (p : InFlight). p.pending) are;
        tokens = ap (λ (p : InFlight). p.tokens) are;
        fine = λ at sound. acts_fine shared at flow works.items sound;
      }

  ran_soundly : (shared : SharedTables) (u : ActiveTransaction) (number : ℕ) (work : Work) (one : Ran J) (by : Holder) (old new : SliceView) → shared_of old.tables ≡ shared → IsWorkAt u number work → by.age ≡ u.age → DiesOfOlder old by.age work
      → IsRan by old work one new → IsSoundRan shared u number one
  ran_soundly shared u number work (ran.Done claims found) by old new same here aged older of =
      let done : HasDone shared work found claims = subst (λ (s : SharedTables). HasDone s work found claims) same of.done in
      (work, (here, (done, ((of.undone, (works_are_done_at_home shared work found claims done).1), All-weaker (IsBy by) (IsAged u.age) (λ claim is. ap (λ (h : Holder). h.age) is ∙ aged) claims of.own))))
  ran_soundly shared u number work (ran.Died group holder) by old new same here aged older of =
      (work, (here, ((dies_on old.holdings by.age (group_wants_of work) group holder of.0).group_wanted, omega (arith, older group holder of.0, aged))))
  ran_soundly shared u number work ran.NoMemory by old new same here aged older of = tt

  -- an action that runs puts its report
  pub acts : (shared : SharedTables) (act : AnyAct J) (one : Ran J) (was now : SliceView) (old new : JoinedSlices) → shared_of was.tables ≡ shared → DiesOfOlder was act.age act.work → IsRan (holder_of act) was act.work one now → SlicesKeep [] old (claims_of_ran one) new
      → Works shared (Act act) old (report_of act.place (carried_by act) one ∷ []) new
  acts shared act one was now old new same older of kept =
      let carried = part_carried act.flow in
      record {
        kept = subst (λ (claims : List ClaimView). SlicesKeep carried.claims old claims new) (sym (append-nil (carried.claims ++ claims_of_ran one)))
            (more carried.claims (claims_of_ran one) old new kept);
        pending = append-nil carried.pending;
        tokens = refl;
        fine = λ at fine.
            one_fine shared at (report_of act.place (carried_by act) one)
            (record { number = fine.number; place = fine.place; flow = fine.flow; ran = ran_soundly shared (at act.slot) fine.number act.work one (holder_of act) was now same fine.work fine.age older of });
      }

  -- claims whose work is committed are given back
  pub settles : (shared : SharedTables) (slot : ℕ) (claims : List ClaimView) (old new : JoinedSlices) → SlicesKeep claims old [] new → Works shared (Settle slot claims) old (item.Ended slot ∷ []) new
  settles shared slot claims old new kept = record {
    kept = kept;
    pending = refl;
    tokens = refl;
    fine = λ at fine. one_fine shared at (item.Ended slot) tt;
  }

  -- claims whose work is taken back are given back
  pub undoes : (shared : SharedTables) (slot : ℕ) (claims : List ClaimView) (old new : JoinedSlices) → SlicesKeep claims old [] new → Works shared (Undo slot claims) old (item.Ended slot ∷ []) new
  undoes shared slot claims old new kept = record {
    kept = kept;
    pending = refl;
    tokens = refl;
    fine = λ at fine. one_fine shared at (item.Ended slot) tt;
  }
