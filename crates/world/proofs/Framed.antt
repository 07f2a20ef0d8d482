-- What an event does with one executor's queues in hand, it does with all queues as one.
use Rattle.std.proofs.Common.{◌≡◌, inl, inr, ℕ, Bool, true, false, List, [], ◌∷◌, ◌++◌, Option, Some, None, Err, refl, sym, ◌∙◌, ap, subst, append_assoc, ⊎_elim}
use Rattle.std.specs.List.{slice_get}
use Rattle.partitions.specs.Parts.{SharedTables}
use Rattle.requests.specs.declared.request.Request.{Request}
use Rattle.requests.specs.declared.refusal.Refusal.{Refusal}
use Rattle.history.specs.declared.event.Event.TheVariants.{Submit}
use Rattle.history.specs.declared.event.EventAnswer.{EventAnswer}
use Rattle.history.specs.declared.event.EventAnswer.TheVariants.{Answered, Nothing}
use Rattle.history.specs.History.{step}
use Rattle.transactions.specs.declared.progress.Gathered.{Gathered}
use Rattle.transactions.specs.declared.progress.Gathered.TheVariants.{Next, Finish}
use Rattle.transactions.specs.declared.progress.Progress.{Progress}
use Rattle.transactions.specs.declared.work.Found.{Found}
use Rattle.world.specs.declared.desk.Active.{Active}
use Rattle.world.specs.declared.desk.SessionDesk.{SessionDesk}
use Rattle.world.specs.declared.flight.Commit.{Commit}
use Rattle.world.specs.declared.flight.Flow.{Flow}
use Rattle.world.specs.declared.flight.Transaction.{Transaction}
use Rattle.world.specs.declared.flight.Message.{Message}
use Rattle.world.specs.declared.flight.Message.TheVariants as message
use Rattle.world.specs.declared.flight.Report.{Report}
use Rattle.world.specs.declared.flight.Item.{Item}
use Rattle.world.specs.declared.flight.Item.TheVariants as item
use Rattle.world.specs.declared.world.Parts.{Parts}
use Rattle.world.specs.Flights.{nothing, part_item}
use Rattle.world.specs.Following.{putting, refusal_of}
use Rattle.world.specs.Sound.{IsSoundWith, IsSoundItem}
use Rattle.world.specs.Events.{Commits, GathersInto, MeetsAs, MeetsUnless, Reports, ReportsInto, SendsItem, goes_on}
use Rattle.world.specs.Happening.{Admits, SubmitsAt, SubmitsInto, SubmitsUnless, can_admit, refusal_at, submission}
use Rattle.world.specs.Worlds.{Advances}
use Rattle.world.proofs.Happened.{stays, submits_into}
use Rattle.world.proofs.ItemsSent.{SendsOn, sends_on}
use Rattle.world.proofs.Reordered.{queued}
use Rattle.world.proofs.Sorting.{carried_there}

module _ {J : Type 0} (messages : List (Message J)) (items : List (Item J)) where
  -- behind what all other executors have
  abbrev pub framed : Parts J → Parts J
  framed w = queued w (messages ++ w.inbox) (items ++ w.outbox)

  -- ---- an item is sent

  puts_framed : (put : List (Item J)) (slot : ℕ) (active : Option (Active J)) (w : Parts J) → framed (putting put slot active w) ≡ putting put slot active (framed w)
  puts_framed put slot active w = λ i. record (putting put slot active (framed w)) { outbox = sym (append_assoc items w.outbox put) i }

  goes_framed : (t : Transaction J) (g : Gathered) (w : Parts J) → framed (goes_on t g w) ≡ goes_on t g (framed w)
  goes_framed t (Next progress) w = puts_framed _ _ _ w
  goes_framed t (Finish shown) w = puts_framed _ _ _ w

  gathers_framed : (progress : Progress) (found : List Found) (t : Transaction J) (old new : Parts J) → GathersInto progress found t old new → GathersInto progress found t (framed old) (framed new)
  gathers_framed progress found t old new (inl said) = inl (ap framed said ∙ puts_framed _ _ _ old)
  gathers_framed progress found t old new (inr said) = inr (said.0, (said.1.0, ap framed said.1.1 ∙ goes_framed t said.0 old))

  unless_framed : (why : Option Refusal) (reports : List (Report J)) (flow : Flow J) (old new : Parts J) → MeetsUnless why reports flow old new → MeetsUnless why reports flow (framed old) (framed new)
  unless_framed (Some why) reports flow old new said = ap framed said ∙ puts_framed _ _ _ old
  unless_framed None reports flow old new said = gathers_framed flow.progress _ _ old new said

  meets_framed : (reports : List (Report J)) (old new : Parts J) → MeetsAs reports old new → MeetsAs reports (framed old) (framed new)
  meets_framed reports old new said =
      carried_there reports (λ flow. MeetsUnless (refusal_of None reports) reports flow old new) (λ flow. MeetsUnless (refusal_of None reports) reports flow (framed old) (framed new))
      (λ flow one. unless_framed (refusal_of None reports) reports flow old new one) said

  into_framed : (slot first : ℕ) (slots : List (Option (Report J))) (old new : Parts J) → ReportsInto slot first slots old new → ReportsInto slot first slots (framed old) (framed new)
  into_framed slot first slots old new (inl said) = inl (said.0, ap framed said.1)
  into_framed slot first slots old new (inr said) = inr (said.0, (said.1.0, meets_framed said.0 old new said.1.1))

  reports_framed : (r : Report J) (old new : Parts J) → Reports r old new → Reports r (framed old) (framed new)
  reports_framed r old new said = (said.0, (said.1.0, (said.1.1.0, into_framed r.slot said.0 _ old new said.1.1.1)))

  commits_framed : (log_limit : ℕ) (commit : Commit J) (old new : Parts J) (answer : EventAnswer) → Commits log_limit commit old answer new → Commits log_limit commit (framed old) answer (framed new)
  commits_framed log_limit commit old new answer said = record {
    logged = said.logged;
    log = said.log;
    held = said.held;
    logs = said.logs;
    answered = said.answered;
    over = ap framed said.over ∙ puts_framed _ _ _ (record old { log = said.log });
  }

  pub sends_framed : (log_limit : ℕ) (shared : SharedTables) (old new : Parts J) (i : Item J) (answer : EventAnswer) (h : IsSoundWith shared (part_item i) (framed old)) → IsSoundItem shared h.in_flight i
      → SendsItem log_limit i old answer new → SendsOn shared (part_item i) (framed old) answer (framed new)
  sends_framed log_limit shared old new (item.Push m) answer h s said = absurd said
  sends_framed log_limit shared old new (item.Report r) answer h s said =
      sends_on log_limit shared (framed old) (framed new) (item.Report r) answer h s (said.0, reports_framed r old new said.1)
  sends_framed log_limit shared old new (item.Ended slot) answer h s said =
      sends_on log_limit shared (framed old) (framed new) (item.Ended slot) answer h s (said.0, (said.1.0, (said.1.1.0, ap framed said.1.1.1)))
  sends_framed log_limit shared old new (item.Commit commit) answer h s said =
      sends_on log_limit shared (framed old) (framed new) (item.Commit commit) answer h s (commits_framed log_limit commit old new answer said)
  sends_framed log_limit shared old new (item.Reply recorded) answer h s said =
      let same = said.1.1.1 in
      sends_on log_limit shared (framed old) (framed new) (item.Reply recorded) answer h s (
        said.0,
        (
          said.1.0,
          (
            said.1.1.0,
            (same.0, (same.1.0, (ap (λ (ms : List (Message J)). messages ++ ms) same.1.1.0, (ap (λ (is : List (Item J)). items ++ is) same.1.1.1.0, same.1.1.1.1)))),
          ),
        ),
      )

  -- ---- a request is submitted

  admits_framed : (session number : ℕ) (asked : Request) (desk : SessionDesk J) (old new : Parts J) → Admits session number asked desk old new → Admits session number asked desk (framed old) (framed new)
  admits_framed session number asked desk old new a = record {
    flow = a.flow;
    works = a.works;
    pass = a.pass;
    age = a.age;
    number_is = a.number_is;
    request = a.request;
    held = a.held;
    free = a.free;
    begins = a.begins;
    here = a.here;
    pass_is = a.pass_is;
    works_are = a.works_are;
    catalog = a.catalog;
    shards = a.shards;
    inbox = ap (λ (ms : List (Message J)). messages ++ ms) a.inbox ∙ sym (append_assoc messages old.inbox (message.Start a.flow a.works ∷ []));
    outbox = ap (λ (is : List (Item J)). items ++ is) a.outbox;
    log = a.log;
    admitted = a.admitted;
    active = a.active;
    sessions = a.sessions;
  }

  into_submitted : (room can : Bool) (session number : ℕ) (asked : Request) (desk : SessionDesk J) (old new : Parts J) (answer : EventAnswer)
      → SubmitsInto can (submission room session number asked) desk old answer new → SubmitsInto can (submission room session number asked) desk (framed old) answer (framed new)
  into_submitted room false session number asked desk old new answer said = (said.0, ap framed said.1)
  into_submitted room true session number asked desk old new answer said =
      ⊎_elim (λ refused. inl (refused.0, ap framed refused.1)) (λ admitted. inr (admitted.0, admits_framed session number asked desk old new admitted.1)) said

  unless_submitted : (room : Bool) (shared : SharedTables) (old new : Parts J) (h : IsSoundWith shared nothing (framed old)) (session number : ℕ) (asked : Request) (desk : SessionDesk J) (answer : EventAnswer)
      → slice_get old.desk.sessions.items session ≡ Some desk → (why : Option Refusal) → refusal_at desk asked old ≡ why → SubmitsUnless why (submission room session number asked) desk old answer new
      → IsSoundWith shared nothing (framed new) × Advances (framed old) (step (Submit session number asked) answer ∷ []) (framed new)
  unless_submitted room shared old new h session number asked desk answer there (Some why) is said = (
    subst (λ w. IsSoundWith shared nothing (framed w)) (sym said.1) h,
    stays (framed old) (framed new) (Submit session number asked) (Answered session number (Err why)) answer tt (said.0, ap framed said.1),
  )
  unless_submitted room shared old new h session number asked desk answer there None is said =
      submits_into room shared (framed old) (framed new) h session number asked desk answer there is (can_admit room old)
      (into_submitted room (can_admit room old) session number asked desk old new answer said)

  pub submits_framed : (room : Bool) (shared : SharedTables) (old new : Parts J) (h : IsSoundWith shared nothing (framed old)) (session number : ℕ) (asked : Request) (answer : EventAnswer)
      → (found : Option (SessionDesk J)) → slice_get old.desk.sessions.items session ≡ found → SubmitsAt (submission room session number asked) found old answer new
      → IsSoundWith shared nothing (framed new) × Advances (framed old) (step (Submit session number asked) answer ∷ []) (framed new)
  submits_framed room shared old new h session number asked answer None there said = (
    subst (λ w. IsSoundWith shared nothing (framed w)) (sym said.1) h,
    stays (framed old) (framed new) (Submit session number asked) Nothing answer tt (said.0, ap framed said.1),
  )
  submits_framed room shared old new h session number asked answer (Some desk) there said =
      unless_submitted room shared old new h session number asked desk answer there (refusal_at desk asked old) refl said
