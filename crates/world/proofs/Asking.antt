-- A session asks, and its transaction is admitted.
use Rattle.std.proofs.Common.{◌≡◌, ℕ, ◌+◌, ◌<◌, ◌≤◌, zero, suc, Bool, true, List, [], ◌∷◌, ◌++◌, length, Option, Some, None, Result, Ok, Err, replicate, refl, sym, ◌∙◌, ap, subst, arith}
use Rattle.std.specs.Prelude.{All, map, slice_set, is_some}
use Rattle.std.specs.List.{slice_get, sum_by}
use Rattle.std.proofs.lemmas.List.{length-set, length-replicate, set-set}
use Rattle.std.proofs.lemmas.Option.{slice_get_within}
use Rattle.std.proofs.lemmas.List.Elements.{All-nil, All-head, All-push}
use Rattle.std.proofs.lemmas.List.Sums.{sum_by-cons, sum_by-append}
use Rattle.rows.specs.declared.limits.TheConstants.{SESSIONS}
use Rattle.partitions.specs.Parts.{SharedTables}
use Rattle.schema.specs.Database.{Database}
use Rattle.requests.specs.declared.request.Request.{Request}
use Rattle.requests.specs.declared.refusal.Refusal.{Refusal}
use Rattle.requests.specs.Check.{check_of}
use Rattle.commit_log.specs.PassView.{PassView, session_seat_view}
use Rattle.history.specs.declared.event.Event.TheVariants.{Submit}
use Rattle.history.specs.declared.event.EventAnswer.TheVariants.{Accepted}
use Rattle.history.specs.History.{Step, step, UnansweredTransaction}
use Rattle.history.specs.Fits.{Fits as HistoryFits}
use Rattle.history.specs.Laws.{new_one}
use Rattle.groups.specs.Content.{content}
use Rattle.tickets.specs.Claims.{ClaimView, all_claims}
use Rattle.tickets.specs.Committed.{AreCommitted}
use Rattle.slices.specs.SliceView.{AreAllHeld, all_standing, everywhere}
use Rattle.transactions.specs.declared.work.Work.{Work}
use Rattle.transactions.specs.Works.{CanDo}
use Rattle.transactions.specs.Progresses.{IsReached}
use Rattle.transactions.proofs.Reached.{can_all, few_actions, some_actions}
use Rattle.transactions.specs.Acting.{AreUndoneBy}
use Rattle.rendezvous.specs.Awaited.{awaited_from, reported}
use Rattle.world.specs.declared.desk.Active.{Active}
use Rattle.world.specs.declared.desk.Active.TheVariants as active
use Rattle.world.specs.declared.desk.SessionDesk.{SessionDesk}
use Rattle.world.specs.declared.flight.Message.{Message}
use Rattle.world.specs.declared.flight.Message.TheVariants.{Start, Act, Settle, Undo}
use Rattle.world.specs.declared.flight.Report.{Report}
use Rattle.world.specs.declared.world.Parts.{Parts}
use Rattle.world.specs.Parted.{joined_in}
use Rattle.world.specs.Flights.{Token, Acting, nothing, join, parts, part_message, part_met, acting_from, unanswered_transaction}
use Rattle.world.specs.Sound.{ActiveTransactions, HaveTheirAges, ActiveTransaction, IsSoundWith, IsSoundStart, IsSoundPhase, IsSoundMessage, AreSoundActive, IsBalanced, IsPassOf, flight, is_here}
use Rattle.world.specs.Worlds.{FitsPart, Fits, tables_now, IsAcceptedIn, IsClaimOf}
use Rattle.world.specs.Happening.{Admits, refuses}
use Rattle.world.proofs.Joins.{IsSame, same-refl, same-sym, same-trans, same-join}
use Rattle.world.proofs.Balances.{message_put, balanced_same, held_same}
use Rattle.world.proofs.Fitting.{fits_same, fits_admission}
use Rattle.world.proofs.Ages.{ages_admitted}
use Rattle.world.proofs.ActiveTransactions.{transaction_on, transaction_here}
use Rattle.world.proofs.OneSlot.{lots, without, awaited_then, flight_apart, flight_with, sound_then}
use Rattle.world.proofs.Puts.{Rests, rests_of, rests_with}
use Rattle.world.proofs.Sessions.{AreInPlace, AreAlone, AreMany, asks_first, asked_alone, asked_many, still_in_place}

-- every token weighs one
abbrev pub one_each : Token → ℕ
one_each t = 1

-- ---- the actions of a phase

-- each has its token
acting_tokens : (slot place : ℕ) (works : List Work) → sum_by one_each (acting_from slot place works) ≡ length works
acting_tokens slot place [] = refl
acting_tokens slot place (work ∷ works) = omega (arith, sum_by-cons one_each (Acting slot place) (acting_from slot (place + 1) works), acting_tokens slot (place + 1) works)

-- all of them are awaited
pub all_acting : (R : Type 0) (slot place : ℕ) (works : List Work) → map (Acting slot) (awaited_from {R = R} place (replicate (length works) None)) ≡ acting_from slot place works
all_acting R slot place [] = refl
all_acting R slot place (work ∷ works) = ap (λ (ts : List Token). Acting slot place ∷ ts) (all_acting R slot (place + 1) works)

as_many_awaited : (R : Type 0) (place count : ℕ) → length (awaited_from {R = R} place (replicate count None)) ≡ count
as_many_awaited R place zero = refl
as_many_awaited R place (suc count) = omega (arith, as_many_awaited R (place + 1) count)

-- as many are awaited, whatever the first is numbered
pub as_many_from : {R : Type 0} (n : ℕ) (slots : List (Option R)) → length (awaited_from n slots) ≡ length (awaited_from 0 slots)
as_many_from n slots = from n 0 slots
  where
    from : {R : Type 0} (n m : ℕ) (slots : List (Option R)) → length (awaited_from n slots) ≡ length (awaited_from m slots)
    from n m [] = refl
    from n m (None ∷ slots) = ap suc (from (n + 1) (m + 1) slots)
    from n m (Some r ∷ slots) = from (n + 1) (m + 1) slots

-- none of them has reported
none_reported : (R : Type 0) (count : ℕ) → reported {R = R} (replicate count None) ≡ []
none_reported R zero = refl
none_reported R (suc count) = none_reported R count

no_report_at : (R : Type 0) (count place : ℕ) (r : R) → slice_get (replicate count None) place ≡ Some (Some r) → ⊥
no_report_at R zero place r is = absurd (cc)
no_report_at R (suc count) zero r is = absurd (cc)
no_report_at R (suc count) (suc place) r is = no_report_at R count place r is

-- a request that the desk doesn't refuse
pub not_refused : (pass : Option PassView) (checked : Result (Unit {0}) Refusal) (busy : Bool) → refuses pass checked busy ≡ None → checked ≡ Ok tt
not_refused None checked busy is = absurd (cc)
not_refused (Some pass) (Err why) busy is = absurd (cc)
not_refused (Some pass) (Ok u) busy is = refl

module _ {J : Type 0} where
  -- ---- messages

  pub some_token : (shared : SharedTables) (at : ActiveTransactions) (message : Message J) → IsSoundMessage shared at message → 1 ≤ sum_by one_each (part_message message).tokens
  some_token shared at (Start flow works) h =
      omega (
        arith,
        acting_tokens flow.transaction.slot (length flow.transaction.held) works.items,
        ap (λ (ws : List Work). length ws) h.works_are,
        some_actions (at flow.transaction.slot).progress,
      )
  some_token shared at (Act act) h = omega arith
  some_token shared at (Settle slot claims) h = omega arith
  some_token shared at (Undo slot claims) h = omega arith

  pub no_message : (shared : SharedTables) (at : ActiveTransactions) (messages : List (Message J)) → All (IsSoundMessage shared at) messages
      → sum_by one_each (parts part_message messages).tokens ≡ 0 → messages ≡ []
  no_message shared at [] h none = refl
  no_message shared at (message ∷ messages) h none =
      absurd (omega (
        arith,
        none,
        some_token shared at message (All-head (IsSoundMessage shared at) message messages h),
        sum_by-append one_each (part_message message).tokens (parts part_message messages).tokens,
      ))

  -- ---- the admission

  module _ (shared : SharedTables) (w : Parts J) (h : IsSoundWith shared nothing w) (place number : ℕ) (asked : Request) (desk : SessionDesk J)
      (is : slice_get w.desk.sessions.items place ≡ Some desk) (accepted : check_of shared.scale asked ≡ Ok tt)
      (new : Parts J) (a : Admits place number asked desk w new) where
    whose : a.flow.transaction.pass.session ≡ place
    whose = ap (λ (x : PassView). x.session) a.pass_is ∙ subst (λ (o : Option PassView). IsPassOf place o) a.here (h.sessions place desk is).1

    here : is_here desk ≡ true
    here = ap (λ (o : Option PassView). is_some o) a.here

    -- ---- the slot

    abbrev slot : ℕ
    slot = a.flow.transaction.slot

    abbrev u : ActiveTransaction
    u = record { request = asked; progress = a.flow.progress; held = []; age = a.flow.transaction.age }

    abbrev at : ActiveTransactions
    at = transaction_on h.in_flight slot u

    now : at slot ≡ u
    now = transaction_here h.in_flight slot u

    -- nothing is in flight of a transaction in the slot
    same : IsSame (flight w) (lots slot w)
    same = flight_apart w slot None a.free

    rests : Rests shared at slot w
    rests = rests_with shared h.in_flight slot w u (λ x there. let free = a.free in absurd (cc)) (rests_of shared nothing w h slot None a.free (λ weight. refl))

    below : slot < length w.desk.active
    below = subst (λ n. slot < n) (sym rests.slots) rests.below

    bare : IsBalanced w.desk (lots slot w)
    bare = balanced_same w.desk (flight w) (lots slot w) same h.balance

    -- ---- the phase that begins

    abbrev slots : List (Option (Report J))
    slots = replicate (length a.works.items) None

    reached : IsReached shared asked a.flow.progress []
    reached = a.begins shared accepted

    no_held : length a.flow.transaction.held ≡ 0
    no_held = ap (λ (hs : List (List ClaimView)). length hs) a.held

    sound_start : IsSoundStart shared u a.flow a.works.items
    sound_start = record {
      flow_is = record {
        asked = record {
          session = subst (λ n. n < SESSIONS) (sym whose) (subst (λ n. place < n) h.seats (slice_get_within w.desk.sessions.items place desk is));
          slot = rests.below;
          number = ap (λ (x : PassView). x.asks.number) a.pass_is ∙ sym a.number_is;
          request = ap (λ (x : PassView). x.asks.request) a.pass_is ∙ sym a.request;
        };
        slot_is = refl;
        request = a.request;
        held = a.held;
        progress = refl;
        age = refl;
      };
      works_are = a.works_are;
      can = subst (λ ws. All (CanDo shared) ws) (sym a.works_are) (can_all shared asked a.flow.progress [] reached);
      few = omega (
        arith,
        ap (λ (ws : List Work). length ws) a.works_are,
        few_actions shared asked a.flow.progress [] reached,
        no_held,
      );
    }

    sound_phase : IsSoundPhase shared slot u 0 slots
    sound_phase = record {
      first_is = refl;
      reached = reached;
      undo = All-nil (AreUndoneBy a.flow.transaction.age);
      many = length-replicate (length a.works.items) None ∙ ap (λ (ws : List Work). length ws) a.works_are;
      reports = λ at r is. absurd (no_report_at (Report J) (length a.works.items) at r is);
      awaits = omega (
        arith,
        as_many_awaited (Report J) 0 (length a.works.items),
        ap (λ (ws : List Work). length ws) a.works_are,
        some_actions a.flow.progress,
      );
    }

    -- ---- the world with it

    abbrev begun : Option (Active J)
    begun = Some (active.Acting 0 slots)

    abbrev with_desk : Parts J
    with_desk = record w { desk = record { admitted = new.desk.admitted; sessions = new.desk.sessions; active = slice_set w.desk.active slot begun } }

    new_is : new ≡ record with_desk { inbox = w.inbox ++ Start a.flow a.works ∷ [] }
    new_is = λ i. record {
      catalog = a.catalog i;
      shards = a.shards i;
      inbox = a.inbox i;
      outbox = a.outbox i;
      desk = record { admitted = new.desk.admitted; sessions = new.desk.sessions; active = a.active i };
      log = a.log i;
    }

    abbrev next : Parts J
    next = record with_desk { inbox = with_desk.inbox ++ Start a.flow a.works ∷ [] }

    -- the message is what is in flight more
    one_more : IsSame (join (part_message (Start a.flow a.works)) (lots slot w)) (flight next)
    one_more =
        let message : Message J = Start a.flow a.works in
        let nothing_met : IsSame (flight with_desk) (lots slot w) =
        subst (λ (rs : List (Report J)). IsSame (flight with_desk) (join (parts part_met rs) (lots slot w))) (none_reported (Report J) (length a.works.items)) (flight_with w slot begun below) in
        same-sym (flight next) (join (part_message message) (lots slot w))
        (same-trans (flight next) (join (part_message message) (flight with_desk)) (join (part_message message) (lots slot w))
        (message_put with_desk message)
        (same-join (part_message message) (part_message message) (flight with_desk) (lots slot w) (same-refl (part_message message)) nothing_met))

    pub admits_sound : IsSoundWith shared nothing new
    admits_sound =
        let message : Message J = Start a.flow a.works in
        let t = unanswered_transaction a.flow.transaction in
        let session : SessionDesk J = record { seat = session_seat_view desk.seat.session a.flow.transaction.pass.asks; pass = None } in
        let all = slice_set w.desk.sessions.items place session in
        let rest = lots slot w in
        let alone : AreAlone all (t ∷ rest.pending) = asked_alone w.desk.sessions.items t rest.pending desk session place is whose here refl bare.alone bare.many in
        let many : AreMany all (t ∷ rest.pending) = asked_many w.desk.sessions.items t rest.pending desk session place is whose here refl bare.alone bare.many in
        let placed : AreInPlace all = still_in_place w.desk.sessions.items place desk session is ((h.sessions place desk is).0, tt) h.sessions in
        let balance : IsBalanced with_desk.desk (join (part_message message) rest) = record {
          tokens = λ weight. omega (
            arith,
            rests.tokens weight,
            sum_by-append weight (acting_from slot (length a.flow.transaction.held) a.works.items) rest.tokens,
            ap (λ n. sum_by weight (acting_from slot n a.works.items)) no_held,
            ap (λ (ts : List Token). sum_by weight ts) (all_acting (Report J) slot 0 a.works.items),
            awaited_then weight slot w.desk.active begun below,
          );
          alone = subst (λ l. AreAlone l (t ∷ rest.pending)) (sym a.sessions) alone;
          many = subst (λ l. AreMany l (t ∷ rest.pending)) (sym a.sessions) many;
        } in
        let none_held : all_claims a.flow.transaction.held ≡ [] = ap all_claims a.held in
        let held : AreAllHeld (joined_in w).holdings (all_claims a.flow.transaction.held ++ rest.claims) =
        subst (λ (cs : List ClaimView). AreAllHeld (joined_in w).holdings (cs ++ rest.claims)) (sym none_held) (held_same (joined_in w) (flight w) rest same h.held) in
        let sound : IsSoundWith shared nothing next = record {
          shared_is = h.shared_is;
          slices = h.slices;
          in_flight = at;
          inbox = All-push (IsSoundMessage shared at) w.inbox message rests.inbox (subst (λ x. IsSoundStart shared x a.flow a.works.items) (sym now) sound_start);
          outbox = rests.outbox;
          slots = length-set w.desk.active slot begun ∙ h.slots;
          active = subst (λ (l : List (Option (Active J))). AreSoundActive shared at 0 l) (set-set w.desk.active slot None begun)
              (sound_then shared at at slot (without slot w.desk.active) begun (λ m other. refl) rests.others (subst (λ x. IsSoundPhase shared slot x 0 slots) (sym now) sound_phase));
          ages = subst (λ n. HaveTheirAges at n (slice_set w.desk.active slot begun)) (sym a.admitted)
              (ages_admitted at w.desk.admitted slot w.desk.active (active.Acting 0 slots) (ap (λ (x : ActiveTransaction). x.age) now ∙ a.age) rests.ages);
          seats = ap (λ (l : List (SessionDesk J)). length l) a.sessions ∙ length-set w.desk.sessions.items place session ∙ h.seats;
          sessions = subst (λ l. AreInPlace l) (sym a.sessions) placed;
          balance = balanced_same with_desk.desk (join (part_message message) rest) (flight next) one_more balance;
          held = held_same (joined_in w) (join (part_message message) rest) (flight next) one_more held;
        } in
        subst (λ v. IsSoundWith shared nothing v) (sym new_is) sound

    pub admits_fits : (opening : Database) (history : List Step) → Fits opening history w
        → Fits opening (history ++ step (Submit place number asked) (Accepted w.desk.admitted) ∷ []) new
    admits_fits opening history f =
        let message : Message J = Start a.flow a.works in
        let t = unanswered_transaction a.flow.transaction in
        let rest = lots slot w in
        let first = fits_same opening history w.log (joined_in w) w.desk.admitted (flight w) rest same f in
        let free = asks_first w.desk.sessions.items t rest.pending desk (record { seat = session_seat_view desk.seat.session a.flow.transaction.pass.asks; pass = None }) place is whose here refl bare.alone bare.many in
        let after = fits_admission opening history w.log (joined_in w) w.desk.admitted rest place number asked free first in
        let is_t : t ≡ new_one w.desk.admitted place number asked = λ i. record {
          age = a.age i;
          session = whose i;
          number = (a.pass_is i).asks.number;
          request = (a.pass_is i).asks.request;
          entry = None;
        } in
        let steps = history ++ step (Submit place number asked) (Accepted w.desk.admitted) ∷ [] in
        let none_held : all_claims a.flow.transaction.held ≡ [] = ap all_claims a.held in
        let with_t : FitsPart opening steps w.log (joined_in w) (w.desk.admitted + 1) (join (part_message message) rest) = record {
          recorded = subst (λ (x : UnansweredTransaction). HistoryFits opening steps w.log (tables_now opening w.log) (w.desk.admitted + 1) (x ∷ rest.pending)) (sym is_t) after.recorded;
          committed = subst (λ (cs : List ClaimView). AreCommitted everywhere (content (tables_now opening w.log)) (all_standing (joined_in w)) (cs ++ rest.claims)) (sym none_held) after.committed;
          held = subst (λ (cs : List ClaimView). AreAllHeld (joined_in w).holdings (cs ++ rest.claims)) (sym none_held) after.held;
          accepted = subst (λ (x : UnansweredTransaction). All (IsAcceptedIn steps) (x ∷ rest.pending)) (sym is_t) after.accepted;
          claimed = subst (λ (cs : List ClaimView). All (IsClaimOf steps) (cs ++ rest.claims)) (sym none_held) after.claimed;
          scale = after.scale;
          items = after.items;
        } in
        subst (λ v. Fits opening steps v) (sym new_is)
        (fits_same opening steps w.log (joined_in w) new.desk.admitted (join (part_message message) rest) (flight next) one_more
        (subst (λ n. FitsPart opening steps w.log (joined_in w) n (join (part_message message) rest)) (sym a.admitted) with_t))
