-- An item is sent.
use Rattle.std.proofs.Common.{◌≡◌, ℕ, List, [], ◌∷◌, ◌++◌, length, Option, Some, None, refl, sym, subst, ◌+◌, ◌-◌, ◌≤◌, arith, ◌∙◌, ap, inl, inr}
use Rattle.std.specs.List.{slice_get}
use Rattle.partitions.specs.Parts.{SharedTables}
use Rattle.schema.specs.Database.{Database}
use Rattle.history.specs.declared.event.Event.TheVariants.{Send}
use Rattle.history.specs.declared.event.EventAnswer.{EventAnswer}
use Rattle.history.specs.declared.event.EventAnswer.TheVariants.{Sent, Logged}
use Rattle.history.specs.History.{Step, step}
use Rattle.transactions.specs.Logged.{Logs, log_and_claims}
use Rattle.transactions.specs.declared.logging.Logged.{Logged as AnyLogged}
use Rattle.world.specs.declared.desk.Active.TheVariants as active
use Rattle.world.specs.declared.flight.Commit.{Commit}
use Rattle.world.specs.declared.flight.Item.{Item}
use Rattle.world.specs.declared.flight.Item.TheVariants as item
use Rattle.world.specs.declared.world.Parts.{Parts}
use Rattle.world.specs.Parted.{joined_in}
use Rattle.world.specs.declared.flight.Report.{Report}
use Rattle.world.specs.Flights.{Acting, InFlight, nothing, join, part_item}
use Rattle.world.specs.Sound.{IsSoundWith, IsSoundCommit, IsSoundItem, IsSoundPhase, awaited_by_all, flight}
use Rattle.world.specs.Events.{Commits, SendsItem, recorded_of}
use Rattle.world.specs.Worlds.{FitsPart, Fits}
use Rattle.world.proofs.Fitting.{fits_quiet}
use Rattle.world.proofs.Tokens.{is_awaited, acting_weighs, weigh_acting, acting_in_flight}
use Rattle.world.proofs.OneSlot.{sound_in}
use Rattle.world.proofs.Puts.{GoesOn}
use Rattle.world.proofs.Meetings.{reports_go_on}
use Rattle.world.proofs.Endings.{ended_goes_on}
use Rattle.world.proofs.Logging.{refusing_goes_on, logging_goes_on, logging, refusing}
use Rattle.world.proofs.Replying.{replies_sound, replies_fits}
use Rattle.world.specs.Following.{entry_of, release, releasing}

module _ {J : Type 0} where
  -- the next world is sound, and what fitted fits with the Send and its answer at its end
  pub record SendsOn (shared : SharedTables) (hand : InFlight) (old : Parts J) (answer : EventAnswer) (new : Parts J) : Type 0 where
    pub sound : IsSoundWith shared nothing new
    pub fits : (opening : Database) (history : List Step) (executor : ℕ) → FitsPart opening history old.log (joined_in old) old.desk.admitted (join hand (flight old))
        → Fits opening (history ++ step (Send executor) answer ∷ []) new

  -- an event that reports nothing of a transaction
  quietly : (shared : SharedTables) (hand : InFlight) (old next new : Parts J) (answer : EventAnswer) → GoesOn shared hand old next → answer ≡ Sent → new ≡ next → SendsOn shared hand old answer new
  quietly shared hand old next new answer goes said is = record {
    sound = subst (λ w. IsSoundWith shared nothing w) (sym is) goes.sound;
    fits = λ opening history executor f.
        subst (λ w. Fits opening (history ++ step (Send executor) answer ∷ []) w) (sym is)
        (subst (λ a. Fits opening (history ++ step (Send executor) a ∷ []) next) (sym said)
        (fits_quiet opening history next.log (joined_in next) next.desk.admitted (flight next) (Send executor) Sent tt (goes.fits opening history f)));
  }

  sends_commit : (log_limit : ℕ) (shared : SharedTables) (w new : Parts J) (commit : Commit J) (answer : EventAnswer) (h : IsSoundWith shared (part_item (item.Commit commit)) w) (s : IsSoundCommit shared (h.in_flight commit.transaction.slot) commit)
      → Commits log_limit commit w answer new → SendsOn shared (part_item (item.Commit commit)) w answer new
  sends_commit log_limit shared w new commit answer h s said = by said.logs
    where
      hand : InFlight
      hand = part_item (item.Commit commit)

      by : Logs log_limit (entry_of commit) commit.transaction.pass (log_and_claims w.log commit.transaction.held) said.logged (log_and_claims said.log said.held) → SendsOn shared hand w answer new
      by (inl logs) =
          let both = logging_goes_on shared w commit h s in
          let next = logging commit w in
          let is : new ≡ next = said.over ∙ (λ i. releasing (logs.2 i).is_settled (release commit.transaction (logs.2 i).pass (logs.2 i).answer (logs.4 i)) (record w { log = logs.3 i })) in
          let recorded : answer ≡ Logged (length w.log) = said.answered ∙ ap (λ (l : AnyLogged J). recorded_of l.answer) logs.2 in
          record {
            sound = subst (λ v. IsSoundWith shared nothing v) (sym is) both.0;
            fits = λ opening history executor f.
                subst (λ v. Fits opening (history ++ step (Send executor) answer ∷ []) v) (sym is)
                (subst (λ a. Fits opening (history ++ step (Send executor) a ∷ []) next) (sym recorded) (both.1 opening history executor f));
          }
      by (inr refused) =
          let why = refused.0 in
          quietly shared hand w (refusing commit why w) new answer (refusing_goes_on shared w commit h s why) (said.answered ∙ ap (λ (l : AnyLogged J). recorded_of l.answer) refused.2)
          (said.over ∙ (λ i. releasing (refused.2 i).is_settled (release commit.transaction (refused.2 i).pass (refused.2 i).answer (refused.4 i)) (record w { log = refused.3 i })))

  -- the phase that is in flight where a report comes
  pub phase_at : (shared : SharedTables) (w : Parts J) (r : Report J) (h : IsSoundWith shared (part_item (item.Report r)) w) (first : ℕ) (slots : List (Option (Report J)))
      → slice_get w.desk.active r.slot ≡ Some (Some (active.Acting first slots))
      → IsSoundPhase shared r.slot (h.in_flight r.slot) first slots × ((first ≤ r.place) × (slice_get slots (r.place - first) ≡ Some None))
  phase_at shared w r h first slots is =
      let at = acting_in_flight r.slot r.place w.desk.active
      (is_awaited (weigh_acting r.slot r.place) (Acting r.slot r.place) (flight w).tokens (awaited_by_all 0 w.desk.active) (acting_weighs r.slot r.place) h.balance.tokens) in
      let found = at.1.1.0 in
      let same : at.0 ≡ first = cc in
      let alike : at.1.0 ≡ slots = cc in (
        sound_in shared h.in_flight r.slot w.desk.active (Some (active.Acting first slots)) h.active is,
        (
          subst (λ n. n ≤ r.place) same at.1.1.1.0,
          subst (λ (l : List (Option (Report J))). slice_get l (r.place - first) ≡ Some None) alike (subst (λ n. slice_get at.1.0 (r.place - n) ≡ Some None) same at.1.1.1.1),
        ),
      )

  pub sends_on : (log_limit : ℕ) (shared : SharedTables) (w new : Parts J) (i : Item J) (answer : EventAnswer) (h : IsSoundWith shared (part_item i) w) → IsSoundItem shared h.in_flight i
      → SendsItem log_limit i w answer new → SendsOn shared (part_item i) w answer new
  sends_on log_limit shared w new (item.Push message) answer h s said = absurd said
  sends_on log_limit shared w new (item.Report r) answer h s said =
      let first = said.1.0 in
      let slots = said.1.1.0 in
      let at = phase_at shared w r h first slots said.1.1.1.0 in
      let place : r.place ≡ first + (r.place - first) = omega (arith, at.1.0) in
      quietly shared (part_item (item.Report r)) w new new answer (reports_go_on shared w r h s first (r.place - first) place slots said.1.1.1.0 at.0 at.1.1 new said.1.1.1.1) said.0 refl
  sends_on log_limit shared w new (item.Ended slot) answer h s said =
      quietly shared (part_item {J = J} (item.Ended slot)) w _ new answer (ended_goes_on shared slot w h said.1.0 said.1.1.0) said.0 said.1.1.1
  sends_on log_limit shared w new (item.Commit commit) answer h s said = sends_commit log_limit shared w new commit answer h s said
  sends_on log_limit shared w new (item.Reply recorded) answer h s said = record {
    sound = replies_sound shared w recorded h s said.1.0 said.1.1.0 new said.1.1.1;
    fits = λ opening history executor f.
        subst (λ a. Fits opening (history ++ step (Send executor) a ∷ []) new) (sym said.0)
        (replies_fits shared w recorded h s said.1.0 said.1.1.0 new said.1.1.1 opening history executor f);
  }
