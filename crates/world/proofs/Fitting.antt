-- What each kind of event does to a history that fits.
use Rattle.std.proofs.Common.{◌≡◌, ℕ, ◌+◌, List, [], ◌∷◌, ◌++◌, length, None, Result, refl, sym, ◌∙◌, ap, subst}
use Rattle.std.specs.Prelude.{All, count_by}
use Rattle.std.specs.List.Sorted.{IsPermutation}
use Rattle.std.proofs.lemmas.List.Elements.{All-append, All-cons, All-tail, All-weaker, Contains-append_left, Contains-push}
use Rattle.std.proofs.lemmas.List.Sorted.{All-permutation}
use Rattle.schema.specs.Database.{Database}
use Rattle.requests.specs.declared.group.Group.{Group}
use Rattle.requests.specs.declared.request.Request.{Request}
use Rattle.requests.specs.declared.reply.Reply.{Reply}
use Rattle.requests.specs.declared.reply.Reply.TheVariants as reply
use Rattle.requests.specs.declared.refusal.Refusal.{Refusal}
use Rattle.groups.specs.Content.{Content, content}
use Rattle.tickets.specs.Claims.{ClaimView}
use Rattle.tickets.specs.Committed.{AreCommitted, GroupsOfSlice, RecordsContent, RecordsHere, Records}
use Rattle.tickets.proofs.Committed as kept
use Rattle.machine.specs.Machine.{transaction, tables_after}
use Rattle.machine.proofs.RequestLaws.{tables_after-scale, tables_after-items}
use Rattle.commit_log.specs.declared.entry.Entry.{Entry}
use Rattle.commit_log.specs.Log.{requests_of}
use Rattle.commit_log.specs.Claimed.{IsCarriedOut, contents_logged, claims_logged}
use Rattle.commit_log.proofs.Legal.{tables_after-append, map_push}
use Rattle.history.specs.declared.event.Event.{Event}
use Rattle.history.specs.declared.event.Event.TheVariants.{Submit, Send}
use Rattle.history.specs.declared.event.EventAnswer.{EventAnswer}
use Rattle.history.specs.declared.event.EventAnswer.TheVariants.{Accepted, Logged, Answered}
use Rattle.history.specs.History.{Step, step, UnansweredTransaction, is_of}
use Rattle.history.specs.Fits.{Fits as HistoryFits}
use Rattle.history.specs.Laws.{IsQuiet, IsEntryOf, IsAnswerTo, new_one, with_place}
use Rattle.history.proofs.Fitting.{unanswered_in_any_order, quiet_event_fits, admission_fits, answer_fits, entry_fits}
use Rattle.local_locks.specs.LockTableView.{HeldClaim}
use Rattle.slices.specs.SliceView.{AreAllHeld, JoinedSlices, SlicesKeep, all_standing, everywhere}
use Rattle.slices.proofs.Held.{held_in_any_order, settled_held}
use Rattle.world.specs.Flights.{InFlight, part, join}
use Rattle.world.specs.Worlds.{FitsPart, IsAcceptedIn, IsClaimOf, WasAccepted, tables_now}
use Rattle.world.proofs.Joins.{IsSame}

-- and its claims are out as before
pub logged_held : (shown : Reply) (holdings : ℕ → List HeldClaim) (own others : List ClaimView) → AreAllHeld holdings (own ++ others) → AreAllHeld holdings (claims_logged shown own ++ others)
logged_held (reply.Done shown) holdings own others held = λ w_id. subst (IsPermutation (holdings w_id)) (sym (settled_held w_id own others)) (held w_id)
logged_held (reply.RolledBack fault) holdings own others held = held

-- ---- a history goes on

-- what it recorded before, it still records
pub accepted_still : (history : List Step) (s : Step) (age : ℕ) (asked : Request) → WasAccepted history age asked → WasAccepted (history ++ s ∷ []) age asked
accepted_still history s age asked h = (h.0, (h.1.0, Contains-append_left history (s ∷ []) (step (Submit h.0 h.1.0 asked) (Accepted age)) h.1.1))

pub all_accepted : (history : List Step) (s : Step) (us : List UnansweredTransaction) → All (IsAcceptedIn history) us → All (IsAcceptedIn (history ++ s ∷ [])) us
all_accepted history s us h = All-weaker (IsAcceptedIn history) (IsAcceptedIn (history ++ s ∷ [])) (λ u is. accepted_still history s u.age u.request is) us h

pub all_claimed : (history : List Step) (s : Step) (claims : List ClaimView) → All (IsClaimOf history) claims → All (IsClaimOf (history ++ s ∷ [])) claims
all_claimed history s claims h =
    All-weaker (IsClaimOf history) (IsClaimOf (history ++ s ∷ [])) (λ claim is. (is.0, (accepted_still history s claim.by.age is.0 is.1.0, is.1.1))) claims h

-- what comes after
pub All-behind : {X : Type 0} (P : X → Type 0) (xs ys : List X) → All P (xs ++ ys) → All P ys
All-behind P [] ys h = h
All-behind P (x ∷ xs) ys h = All-behind P xs ys (All-tail P x (xs ++ ys) h)

module _ (opening : Database) (history : List Step) (log : List Entry) where
  -- whatever the order
  pub fits_same : (slices : JoinedSlices) (admitted : ℕ) (a b : InFlight) → IsSame a b → FitsPart opening history log slices admitted a → FitsPart opening history log slices admitted b
  fits_same slices admitted a b same h = record {
    recorded = unanswered_in_any_order opening history log (tables_now opening log) admitted a.pending b.pending same.pending h.recorded;
    committed = kept.AreCommitted-permutation everywhere (content (tables_now opening log)) (all_standing slices) a.claims b.claims same.claims h.committed;
    held = held_in_any_order slices.holdings a.claims b.claims same.claims h.held;
    accepted = All-permutation (IsAcceptedIn history) a.pending b.pending same.pending h.accepted;
    claimed = All-permutation (IsClaimOf history) a.claims b.claims same.claims h.claimed;
    scale = h.scale;
    items = h.items;
  }

  -- whatever the tokens are
  pub fits_like : (slices : JoinedSlices) (admitted : ℕ) (a b : InFlight) → IsPermutation a.claims b.claims → IsPermutation a.pending b.pending
      → FitsPart opening history log slices admitted a → FitsPart opening history log slices admitted b
  fits_like slices admitted a b claims pending h = record {
    recorded = unanswered_in_any_order opening history log (tables_now opening log) admitted a.pending b.pending pending h.recorded;
    committed = kept.AreCommitted-permutation everywhere (content (tables_now opening log)) (all_standing slices) a.claims b.claims claims h.committed;
    held = held_in_any_order slices.holdings a.claims b.claims claims h.held;
    accepted = All-permutation (IsAcceptedIn history) a.pending b.pending pending h.accepted;
    claimed = All-permutation (IsClaimOf history) a.claims b.claims claims h.claimed;
    scale = h.scale;
    items = h.items;
  }

  -- work on the rows
  pub fits_work : (old new : JoinedSlices) (admitted : ℕ) (a b rest : InFlight) → SlicesKeep a.claims old b.claims new → b.pending ≡ a.pending → All (IsClaimOf history) b.claims
      → FitsPart opening history log old admitted (join a rest) → FitsPart opening history log new admitted (join b rest)
  fits_work old new admitted a b rest keeps pending claimed h = record {
    recorded = subst (λ us. HistoryFits opening history log (tables_now opening log) admitted (us ++ rest.pending)) (sym pending) h.recorded;
    committed = keeps.committed (content (tables_now opening log)) rest.claims h.committed;
    held = keeps.holdings rest.claims h.held;
    accepted = subst (λ us. All (IsAcceptedIn history) (us ++ rest.pending)) (sym pending) h.accepted;
    claimed = All-append (IsClaimOf history) b.claims rest.claims claimed (All-behind (IsClaimOf history) a.claims rest.claims h.claimed);
    scale = keeps.scale ∙ h.scale;
    items = keeps.items ∙ h.items;
  }

  -- an event that reports nothing of a transaction
  pub fits_quiet : (slices : JoinedSlices) (admitted : ℕ) (a : InFlight) (event : Event) (answer : EventAnswer) → IsQuiet event answer
      → FitsPart opening history log slices admitted a → FitsPart opening (history ++ step event answer ∷ []) log slices admitted a
  fits_quiet slices admitted a event answer quiet h = record {
    recorded = quiet_event_fits opening history log (tables_now opening log) admitted a.pending event answer quiet h.recorded;
    committed = h.committed;
    held = h.held;
    accepted = all_accepted history (step event answer) a.pending h.accepted;
    claimed = all_claimed history (step event answer) a.claims h.claimed;
    scale = h.scale;
    items = h.items;
  }

  -- a transaction is admitted
  pub fits_admission : (slices : JoinedSlices) (admitted : ℕ) (a : InFlight) (session number : ℕ) (request : Request) → count_by (is_of session) a.pending ≡ 0
      → FitsPart opening history log slices admitted a
      → FitsPart opening (history ++ step (Submit session number request) (Accepted admitted) ∷ []) log slices (admitted + 1) (part a.claims (new_one admitted session number request ∷ a.pending) a.tokens)
  fits_admission slices admitted a session number request none h = record {
    recorded = admission_fits opening history log (tables_now opening log) admitted a.pending session number request none h.recorded;
    committed = h.committed;
    held = h.held;
    accepted = let s = step (Submit session number request) (Accepted admitted) in
        All-cons (IsAcceptedIn (history ++ s ∷ [])) (new_one admitted session number request) a.pending (session, (number, Contains-push history s)) (all_accepted history s a.pending h.accepted);
    claimed = all_claimed history (step (Submit session number request) (Accepted admitted)) a.claims h.claimed;
    scale = h.scale;
    items = h.items;
  }

  -- a session is answered
  pub fits_answer : (slices : JoinedSlices) (admitted : ℕ) (claims : List ClaimView) (u : UnansweredTransaction) (rest : InFlight) (executor : ℕ) (answer : Result ℕ Refusal) → IsAnswerTo u answer
      → FitsPart opening history log slices admitted (part claims (u ∷ rest.pending) rest.tokens)
      → FitsPart opening (history ++ step (Send executor) (Answered u.session u.number answer) ∷ []) log slices admitted (part claims rest.pending rest.tokens)
  fits_answer slices admitted claims u rest executor answer is h = record {
    recorded = answer_fits opening history log (tables_now opening log) admitted rest.pending executor u answer is h.recorded;
    committed = h.committed;
    held = h.held;
    accepted = all_accepted history (step (Send executor) (Answered u.session u.number answer)) rest.pending (All-tail (IsAcceptedIn history) u rest.pending h.accepted);
    claimed = all_claimed history (step (Send executor) (Answered u.session u.number answer)) claims h.claimed;
    scale = h.scale;
    items = h.items;
  }

  -- what is committed once a transaction is
  logged_committed : (shown : Reply) (tables : Group → Content) (next : Group → Content) (standing : GroupsOfSlice) (own others : List ClaimView)
      → ((group : Group) → next group ≡ contents_logged shown tables own group)
      → AreCommitted everywhere tables standing (own ++ others) → AreCommitted everywhere next standing (claims_logged shown own ++ others)
  logged_committed (reply.Done shown) tables next standing own others same h =
      kept.AreCommitted-same everywhere _ next standing standing _ (λ group here. same group) (λ group here. refl) (λ group here. refl)
      (kept.AreCommitted-commit everywhere tables standing own others h)
  logged_committed (reply.RolledBack fault) tables next standing own others same h =
      kept.AreCommitted-same everywhere tables next standing standing (own ++ others) (λ group here. same group) (λ group here. refl) (λ group here. refl) h

  -- a transaction is logged
  pub fits_entry : (slices : JoinedSlices) (admitted : ℕ) (own others : List ClaimView) (u : UnansweredTransaction) (pending : List UnansweredTransaction) (executor : ℕ) (entry : Entry)
      → entry.session ≡ u.session → entry.number ≡ u.number → entry.request ≡ u.request → u.entry ≡ None
      → IsCarriedOut opening entry.request own entry.reply
      → HistoryFits opening history log (tables_now opening log) admitted (u ∷ pending)
      → AreCommitted everywhere (content (tables_now opening log)) (all_standing slices) (own ++ others)
      → HistoryFits opening (history ++ step (Send executor) (Logged (length log)) ∷ []) (log ++ entry ∷ []) (tables_now opening (log ++ entry ∷ [])) admitted (with_place (length log) u ∷ pending)
      × AreCommitted everywhere (content (tables_now opening (log ++ entry ∷ []))) (all_standing slices) (claims_logged entry.reply own ++ others)
  fits_entry slices admitted own others u pending executor entry session number request none carried recorded committed =
      let tables = tables_now opening log in
      let front : All (RecordsHere everywhere (content tables)) own = kept.All-front (RecordsHere everywhere (content tables)) own others committed.recorded in
      let records : Records (content tables) own = All-weaker (RecordsHere everywhere (content tables)) (RecordsContent (content tables)) (λ claim here. here refl) own front in
      let said = carried tables (tables_after-scale opening (requests_of log)) (tables_after-items opening (requests_of log)) records in
      let next : tables_now opening (log ++ entry ∷ []) ≡ (transaction tables entry.request).tables =
      ap (tables_after opening) (map_push (λ (e : Entry). e.request) log entry) ∙ tables_after-append opening (requests_of log) entry.request in
      let is : IsEntryOf u tables entry = record { session = session; number = number; request = request; reply = sym said.0; none = none } in
      let after = entry_fits opening history log tables admitted pending executor u entry is recorded in (
        subst (λ t. HistoryFits opening (history ++ step (Send executor) (Logged (length log)) ∷ []) (log ++ entry ∷ []) t admitted (with_place (length log) u ∷ pending)) (sym next) after,
        subst (λ t. AreCommitted everywhere (content t) (all_standing slices) (claims_logged entry.reply own ++ others)) (sym next)
            (logged_committed entry.reply (content tables) (content (transaction tables entry.request).tables) (all_standing slices) own others said.1 committed),
      )
