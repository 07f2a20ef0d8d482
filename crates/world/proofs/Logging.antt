-- A transaction is logged, or refused by the log.
use Rattle.std.proofs.Common.{◌≡◌, ℕ, ◌<◌, ◌≤◌, false, List, [], ◌∷◌, ◌++◌, length, Some, None, Ok, Err, refl, sym, ◌∙◌, ap, subst, inl, inr}
use Rattle.std.specs.Prelude.{All, map}
use Rattle.std.specs.List.{slice_get}
use Rattle.std.proofs.lemmas.List.{length-map, map-append}
use Rattle.std.proofs.lemmas.List.Elements.{All-cons, All-nil, All-head, All-tail, All-append}
use Rattle.rows.specs.declared.limits.TheConstants.{SESSIONS}
use Rattle.partitions.specs.Parts.{SharedTables}
use Rattle.schema.specs.Database.{Database}
use Rattle.requests.specs.declared.reply.Reply.{Reply}
use Rattle.requests.specs.declared.reply.Reply.TheVariants as reply
use Rattle.requests.specs.declared.group.Group.{Group}
use Rattle.groups.specs.Footprint.{footprint, groups_of}
use Rattle.tickets.specs.Claims.{ClaimView, all_claims, settled}
use Rattle.tickets.specs.Committed.{all_settled}
use Rattle.commit_log.specs.declared.entry.Entry.{Entry}
use Rattle.commit_log.specs.declared.log_book.AppendFault.{AppendFault}
use Rattle.commit_log.specs.declared.log_book.AppendFault.TheVariants as fault
use Rattle.commit_log.specs.Claimed.{claims_logged}
use Rattle.commit_log.specs.Items.{item as item_of}
use Rattle.commit_log.specs.PassView.{PassView, after_item, after_refusal}
use Rattle.history.specs.declared.event.Event.TheVariants.{Send}
use Rattle.history.specs.declared.event.EventAnswer.TheVariants.{Logged}
use Rattle.history.specs.History.{Step, step, UnansweredTransaction}
use Rattle.history.specs.Laws.{with_place}
use Rattle.slices.specs.SliceView.{AreAllHeld}
use Rattle.transactions.specs.declared.laws.TheConstants.{MOST_ACTIONS}
use Rattle.transactions.specs.Logged.{is_settled, why_refused, LogAndClaims, Logs}
use Rattle.transactions.proofs.Settling.{all_logged_given}
use Rattle.transactions.specs.declared.logging.Logged.{Logged as AnyLogged}
use Rattle.world.specs.declared.desk.Active.TheVariants as active
use Rattle.world.specs.declared.flight.Item.TheVariants as item
use Rattle.world.specs.declared.flight.Commit.{Commit}
use Rattle.world.specs.declared.sending.Release.{Release}
use Rattle.world.specs.declared.world.Parts.{Parts}
use Rattle.world.specs.Parted.{joined_in}
use Rattle.world.specs.Flights.{Committing, InFlight, part, nothing, join, part_item, unanswered_transaction}
use Rattle.world.specs.Sound.{NamesOlder, IsSoundWith, IsSoundCommit, awaited_by_all, flight}
use Rattle.world.specs.Following.{entry_of, release, releasing}
use Rattle.world.specs.Worlds.{FitsPart, Fits, IsAcceptedIn, IsClaimOf}
use Rattle.world.proofs.Fitting.{fits_entry, fits_same, logged_held, All-behind, all_accepted, all_claimed}
use Rattle.world.proofs.Joins.{IsSame, same-refl, same-join}
use Rattle.world.proofs.Tokens.{is_awaited, weigh_committing, commit_in_flight, one_weighs}
use Rattle.world.proofs.Balances.{held_same}
use Rattle.world.proofs.OneSlot.{lots, flight_apart}
use Rattle.world.proofs.Puts.{AreServed, GoesOn, Rests, rests_of}
use Rattle.world.proofs.Releases.{unanswered_release, releases_fits, releases_sound}
use Rattle.world.proofs.Reporting.{served_same}
use Rattle.tickets.proofs.Committed.{All-front}

-- ---- the claims of what is logged

-- they are still on a group of the same request
all_settled_claimed : (history : List Step) (cs : List ClaimView) → All (IsClaimOf history) cs → All (IsClaimOf history) (all_settled cs)
all_settled_claimed history [] h = All-nil (IsClaimOf history)
all_settled_claimed history (c ∷ cs) h =
    All-cons (IsClaimOf history) (settled c) (all_settled cs) (All-head (IsClaimOf history) c cs h) (all_settled_claimed history cs (All-tail (IsClaimOf history) c cs h))

logged_claimed : (history : List Step) (shown : Reply) (cs : List ClaimView) → All (IsClaimOf history) cs → All (IsClaimOf history) (claims_logged shown cs)
logged_claimed history (reply.Done shown) cs h = all_settled_claimed history cs h
logged_claimed history (reply.RolledBack fault) cs h = h

-- what is logged of two lots of claims is logged of both together
logged_none : (shown : Reply) → claims_logged shown [] ≡ []
logged_none (reply.Done shown) = refl
logged_none (reply.RolledBack fault) = refl

logged_both : (shown : Reply) (cs ds : List ClaimView) → claims_logged shown (cs ++ ds) ≡ claims_logged shown cs ++ claims_logged shown ds
logged_both (reply.Done shown) cs ds = map-append settled cs ds
logged_both (reply.RolledBack fault) cs ds = refl

logged_claims : (shown : Reply) (held : List (List ClaimView)) → all_claims (map (claims_logged shown) held) ≡ claims_logged shown (all_claims held)
logged_claims shown [] = sym (logged_none shown)
logged_claims shown (cs ∷ held) = ap (λ ds. claims_logged shown cs ++ ds) (logged_claims shown held) ∙ sym (logged_both shown cs (all_claims held))

-- the log refuses no transaction for a death
records_no_death : (groups : List Group) (age : ℕ) (why : AppendFault) → NamesOlder groups age (why_refused why)
records_no_death groups age fault.NoMemory = tt
records_no_death groups age fault.LogFull = tt

-- a refusal leaves a pass of the same session, which asks the same
refused_pass : (why : AppendFault) (entries : ℕ) (pass : PassView) → ((after_refusal why entries pass).session ≡ pass.session) × ((after_refusal why entries pass).asks ≡ pass.asks)
refused_pass fault.NoMemory entries pass = (refl, refl)
refused_pass fault.LogFull entries pass = (refl, refl)

module _ {J : Type 0} where
  -- ---- the commit

  -- the log has the entry more, and the transaction's claims are given back
  abbrev pub logging : Commit J → Parts J → Parts J
  logging commit w =
      let t = commit.transaction in
      let pass = after_item t.pass (item_of (length w.log) t.number t.request commit.reply) in
      record (releasing (is_settled commit.reply) (release t pass (Ok (length w.log)) (map (claims_logged commit.reply) t.held)) w) { log = w.log ++ entry_of commit ∷ [] }

  -- the log refused the entry, and what the transaction did is taken back
  abbrev pub refusing : Commit J → AppendFault → Parts J → Parts J
  refusing commit why w =
      let t = commit.transaction in
      releasing false (release t (after_refusal why (length w.log) t.pass) (Err (why_refused why)) t.held) w

  -- as many actions hold claims as before
  pub as_many_hold : (log_limit : ℕ) (entry : Entry) (pass : PassView) (old new : LogAndClaims) (logged : AnyLogged J) → Logs log_limit entry pass old logged new → length new.held ≡ length old.held
  as_many_hold log_limit entry pass old new logged (inl logs) = ap (λ (hs : List (List ClaimView)). length hs) logs.4 ∙ length-map old.held (claims_logged entry.reply)
  as_many_hold log_limit entry pass old new logged (inr refused) = ap (λ (hs : List (List ClaimView)). length hs) refused.4

  module _ (shared : SharedTables) (w : Parts J) (commit : Commit J) (h : IsSoundWith shared (part_item (item.Commit commit)) w) (s : IsSoundCommit shared (h.in_flight commit.transaction.slot) commit) where
    abbrev slot : ℕ
    slot = commit.transaction.slot

    committing : slice_get w.desk.active slot ≡ Some (Some active.Committing)
    committing = commit_in_flight slot w.desk.active
        (is_awaited (weigh_committing slot) (Committing slot) (flight w).tokens (awaited_by_all 0 w.desk.active) (one_weighs slot) h.balance.tokens)

    rests : Rests shared h.in_flight slot w
    rests = rests_of shared (part_item (item.Commit commit)) w h slot (Some active.Committing) committing (λ weight. refl)

    below : slot < length w.desk.active
    below = subst (λ n. slot < n) (sym rests.slots) rests.below

    by_lots : IsSame (join (part_item (item.Commit commit)) (flight w)) (join (part_item (item.Commit commit)) (lots slot w))
    by_lots =
        let hand = part_item (item.Commit commit) in
        same-join hand hand (flight w) (lots slot w) (same-refl hand) (flight_apart w slot (Some active.Committing) committing)

    served : AreServed w.desk (unanswered_transaction commit.transaction ∷ (lots slot w).pending)
    served = served_same w.desk _ (unanswered_transaction commit.transaction ∷ (lots slot w).pending) by_lots.pending (record { alone = h.balance.alone; many = h.balance.many })

    held_by_lots : AreAllHeld (joined_in w).holdings (all_claims commit.transaction.held ++ (lots slot w).claims)
    held_by_lots = held_same (joined_in w) (join (part_item (item.Commit commit)) (flight w)) (join (part_item (item.Commit commit)) (lots slot w)) by_lots h.held

    fits_by_lots : (opening : Database) (history : List Step) → FitsPart opening history w.log (joined_in w) w.desk.admitted (join (part_item (item.Commit commit)) (flight w))
        → FitsPart opening history w.log (joined_in w) w.desk.admitted (join (part_item (item.Commit commit)) (lots slot w))
    fits_by_lots opening history f =
        fits_same opening history w.log (joined_in w) w.desk.admitted (join (part_item (item.Commit commit)) (flight w)) (join (part_item (item.Commit commit)) (lots slot w)) by_lots f

    pub refusing_goes_on : (why : AppendFault) → GoesOn shared (part_item (item.Commit commit)) w (refusing commit why w)
    refusing_goes_on why =
        let t = commit.transaction in
        let pass = after_refusal why (length w.log) t.pass in
        let r : Release J = release t pass (Err (why_refused why)) t.held in
        let same = refused_pass why (length w.log) t.pass in
        let is : unanswered_release r ≡ unanswered_transaction t = λ i. record {
          age = t.age;
          session = same.0 i;
          number = (same.1 i).number;
          request = (same.1 i).request;
          entry = None;
        } in
        let hand = part_item (item.Commit commit) in
        let pending : hand.pending ≡ unanswered_release r ∷ [] = ap (λ u. u ∷ []) (sym is) in
        record {
          sound = releases_sound shared h.in_flight w hand false r rests (active.Committing, committing)
              (subst (λ n. n < SESSIONS) (sym same.0) s.asked.session) (ap (λ asks. asks.number) same.1 ∙ s.asked.number) (records_no_death (groups_of (footprint r.pass.asks.request)) r.age why)
              s.undo s.few refl held_by_lots pending served;
          fits = λ opening history f. releases_fits opening history w hand false r below refl pending (fits_by_lots opening history f);
        }

    pub logging_goes_on : IsSoundWith shared nothing (logging commit w)
        × ((opening : Database) (history : List Step) (executor : ℕ) → FitsPart opening history w.log (joined_in w) w.desk.admitted (join (part_item (item.Commit commit)) (flight w))
        → Fits opening (history ++ step (Send executor) (Logged (length w.log)) ∷ []) (logging commit w))
    logging_goes_on =
        let t = commit.transaction in
        let shown = commit.reply in
        let entry = entry_of commit in
        let place = length w.log in
        let log = w.log ++ entry ∷ [] in
        let logged_w : Parts J = record w { log = log } in
        let pass = after_item t.pass (item_of place t.number t.request shown) in
        let held = map (claims_logged shown) t.held in
        let r : Release J = release t pass (Ok place) held in
        let u : UnansweredTransaction = with_place place (unanswered_transaction t) in
        let claims = claims_logged shown (all_claims t.held) in
        let hand : InFlight = part claims (u ∷ []) [] in
        let settle = is_settled shown in
        let others = lots slot w in
        let few : length held ≤ MOST_ACTIONS = subst (λ n. n ≤ MOST_ACTIONS) (sym (length-map t.held (claims_logged shown))) s.few in
        let rests_logged : Rests shared h.in_flight slot logged_w = record {
          shared_is = rests.shared_is;
          slices = rests.slices;
          inbox = rests.inbox;
          outbox = rests.outbox;
          slots = rests.slots;
          below = rests.below;
          others = rests.others;
          ages = rests.ages;
          seats = rests.seats;
          sessions = rests.sessions;
          tokens = rests.tokens;
        } in (
          releases_sound shared h.in_flight logged_w hand settle r rests_logged (active.Committing, committing) s.asked.session s.asked.number tt (all_logged_given shown (h.in_flight slot).age t.held s.undo) few
              (sym (logged_claims shown t.held)) (logged_held shown (joined_in w).holdings (all_claims t.held) others.claims held_by_lots) refl
              (record { alone = served.alone; many = served.many }),
          λ opening history executor f.
              let first = fits_by_lots opening history f in
              let logged = step (Send executor) (Logged place) in
              let steps = history ++ logged ∷ [] in
              let own = all_claims t.held in
              let accepted = all_accepted history logged (unanswered_transaction t ∷ others.pending) first.accepted in
              let claimed = all_claimed history logged (own ++ others.claims) first.claimed in
              let after = fits_entry opening history w.log (joined_in w) w.desk.admitted (all_claims t.held) others.claims (unanswered_transaction t) others.pending executor entry
              refl (sym s.asked.number) (sym s.asked.request) refl (s.carried_out opening ((λ i. record { scale = sym f.scale i; items = sym f.items i }) ∙ h.shared_is)) first.recorded first.committed in
              releases_fits opening (history ++ step (Send executor) (Logged place) ∷ []) logged_w hand settle r below (sym (logged_claims shown t.held)) refl
              (record { recorded = after.0; committed = after.1; held = logged_held shown (joined_in w).holdings (all_claims t.held) others.claims first.held; accepted = All-cons (IsAcceptedIn steps) u others.pending (All-head (IsAcceptedIn steps) (unanswered_transaction t) others.pending accepted) (All-tail (IsAcceptedIn steps) (unanswered_transaction t) others.pending accepted); claimed = All-append (IsClaimOf steps) claims others.claims (logged_claimed steps shown own (All-front (IsClaimOf steps) own others.claims claimed)) (All-behind (IsClaimOf steps) own others.claims claimed); scale = first.scale; items = first.items }),
        )
