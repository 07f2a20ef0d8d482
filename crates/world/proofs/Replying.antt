-- A session is answered.
use Rattle.std.proofs.Common.{◌≡◌, ℕ, List, [], ◌∷◌, ◌++◌, length, Some, Result, Ok, Err, refl, sym, ◌∙◌, ap, subst}
use Rattle.std.specs.Prelude.{slice_set}
use Rattle.std.specs.List.{slice_get}
use Rattle.std.proofs.lemmas.List.{length-set}
use Rattle.partitions.specs.Parts.{SharedTables}
use Rattle.schema.specs.Database.{Database}
use Rattle.requests.specs.declared.refusal.Refusal.{Refusal}
use Rattle.history.specs.declared.event.Event.TheVariants.{Send}
use Rattle.history.specs.declared.event.EventAnswer.TheVariants.{Answered}
use Rattle.history.specs.History.{Step, step, UnansweredTransaction}
use Rattle.history.specs.Laws.{IsAnswerTo}
use Rattle.world.specs.declared.desk.SessionDesk.{SessionDesk}
use Rattle.world.specs.declared.flight.Item.TheVariants as item
use Rattle.world.specs.declared.flight.SessionAnswer.{SessionAnswer}
use Rattle.world.specs.declared.world.Parts.{Parts}
use Rattle.world.specs.Parted.{joined_in}
use Rattle.world.specs.Flights.{nothing, join, part_item, unanswered_reply, place_answered}
use Rattle.world.specs.Sound.{IsSoundWith, IsSoundReply, flight}
use Rattle.world.specs.Events.{with_sessions}
use Rattle.world.specs.Worlds.{FitsPart, Fits}
use Rattle.world.proofs.Fitting.{fits_answer}
use Rattle.world.proofs.Sessions.{AreInPlace, AreAlone, AreMany, answered_alone, answered_many, still_in_place}

-- the answer is that of its own transaction
pub is_answer_to : (age session number : ℕ) (request : _) (answer : Result ℕ Refusal)
    → IsAnswerTo (record { age = age; session = session; number = number; request = request; entry = place_answered answer }) answer
is_answer_to age session number request (Ok place) = refl
is_answer_to age session number request (Err why) = refl

module _ {J : Type 0} where
  -- a world that differs from another in its sessions alone
  of_sessions : (old new : Parts J) (sessions : List (SessionDesk J)) → with_sessions old sessions new
      → new ≡ record old { desk = record old.desk { sessions = new.desk.sessions } }
  of_sessions old new sessions h = λ i. record {
    catalog = h.0 i;
    shards = h.1.0 i;
    inbox = h.1.1.0 i;
    outbox = h.1.1.1.0 i;
    desk = record { admitted = h.1.1.1.1.1.0 i; sessions = new.desk.sessions; active = h.1.1.1.1.1.1.0 i };
    log = h.1.1.1.1.0 i;
  }

  module _ (shared : SharedTables) (w : Parts J) (recorded : SessionAnswer J) (h : IsSoundWith shared (part_item (item.Reply recorded)) w) (s : IsSoundReply recorded)
      (desk : SessionDesk J) (is : slice_get w.desk.sessions.items recorded.pass.session ≡ Some desk)
      (new : Parts J) (same : with_sessions w (slice_set w.desk.sessions.items recorded.pass.session (record desk { pass = Some recorded.pass })) new) where
    pub replies_sound : IsSoundWith shared nothing new
    replies_sound =
        let place = recorded.pass.session in
        let session : SessionDesk J = record desk { pass = Some recorded.pass } in
        let u : UnansweredTransaction = unanswered_reply recorded in
        let rest = flight w in
        let sessions_are = same.1.1.1.1.1.1.1 in
        let all = slice_set w.desk.sessions.items place session in
        let alone : AreAlone all rest.pending = answered_alone w.desk.sessions.items u rest.pending desk session place is refl refl h.balance.alone h.balance.many in
        let many : AreMany all rest.pending = answered_many w.desk.sessions.items u rest.pending desk session place is refl refl h.balance.alone h.balance.many in
        let placed : AreInPlace all = still_in_place w.desk.sessions.items place desk session is ((h.sessions place desk is).0, refl) h.sessions in
        let next : Parts J = record w { desk = record w.desk { sessions = new.desk.sessions } } in
        let sound : IsSoundWith shared nothing next = record {
          shared_is = h.shared_is;
          slices = h.slices;
          in_flight = h.in_flight;
          inbox = h.inbox;
          outbox = h.outbox;
          slots = h.slots;
          active = h.active;
          ages = h.ages;
          seats = ap (λ (l : List (SessionDesk J)). length l) sessions_are ∙ length-set w.desk.sessions.items place session ∙ h.seats;
          sessions = subst (λ l. AreInPlace l) (sym sessions_are) placed;
          balance = record {
            tokens = h.balance.tokens;
            alone = subst (λ l. AreAlone l rest.pending) (sym sessions_are) alone;
            many = subst (λ l. AreMany l rest.pending) (sym sessions_are) many;
          };
          held = h.held;
        } in
        subst (λ v. IsSoundWith shared nothing v) (sym (of_sessions w new all same)) sound

    pub replies_fits : (opening : Database) (history : List Step) (executor : ℕ)
        → FitsPart opening history w.log (joined_in w) w.desk.admitted (join (part_item (item.Reply recorded)) (flight w))
        → Fits opening (history ++ step (Send executor) (Answered recorded.pass.session recorded.number recorded.answer) ∷ []) new
    replies_fits opening history executor f =
        let u : UnansweredTransaction = unanswered_reply recorded in
        let rest = flight w in
        let next : Parts J = record w { desk = record w.desk { sessions = new.desk.sessions } } in
        let after = fits_answer opening history w.log (joined_in w) w.desk.admitted rest.claims u rest executor recorded.answer
        (is_answer_to recorded.age recorded.pass.session recorded.pass.asks.number recorded.pass.asks.request recorded.answer) f in
        subst (λ v. Fits opening (history ++ step (Send executor) (Answered recorded.pass.session recorded.number recorded.answer) ∷ []) v) (sym (of_sessions w new _ same))
        (subst (λ n. Fits opening (history ++ step (Send executor) (Answered recorded.pass.session n recorded.answer) ∷ []) next) s.1.0 after)
