-- The effect of one event.
use Rattle.std.specs.Prelude.{◌≡◌, ◌<◌, ◌≤◌, ℕ, ◌+◌, ◌-◌, false, List, [], ◌∷◌, ◌++◌, Option, Some, None, Result, Ok, Err, All, length, map, replicate, slice_set, ◌⊎◌}
use Rattle.std.specs.List.{slice_get}
use Rattle.partitions.specs.Parts.{SharedTables}
use Rattle.schema.specs.Database.{Database}
use Rattle.requests.specs.declared.request.Request.{Request}
use Rattle.requests.specs.declared.refusal.Refusal.{Refusal}
use Rattle.requests.specs.declared.refusal.Refusal.TheVariants as refusal
use Rattle.requests.specs.Check.{IsAccepted}
use Rattle.tickets.specs.Claims.{ClaimView, all_claims}
use Rattle.commit_log.specs.declared.entry.Entry.{Entry}
use Rattle.commit_log.specs.Claimed.{IsCarriedOut}
use Rattle.history.specs.declared.event.EventAnswer.{EventAnswer}
use Rattle.history.specs.declared.event.EventAnswer.TheVariants.{Sent, Logged, Answered}
use Rattle.wait_die.specs.declared.deciding.Holder.{Holder}
use Rattle.slices.specs.SliceView.{SliceKeeps}
use Rattle.transactions.specs.declared.shard.Acted.{Acted}
use Rattle.transactions.specs.declared.shard.Acted.TheVariants as acted
use Rattle.transactions.specs.declared.shard.Turned.{Turned}
use Rattle.transactions.specs.Shards.{ActsAs, OneTurn, ShardView}
use Rattle.transactions.specs.Works.{HaveAllDone, CanDo, home_of, home_of_claims}
use Rattle.transactions.specs.Progresses.{FollowsFrom, IsReached, works_of}
use Rattle.transactions.specs.declared.laws.TheConstants.{MOST_ACTIONS}
use Rattle.transactions.specs.declared.logging.Logged.{Logged as AnyLogged}
use Rattle.transactions.specs.declared.progress.Gathered.{Gathered}
use Rattle.transactions.specs.declared.progress.Gathered.TheVariants.{Next, Finish}
use Rattle.transactions.specs.declared.acting.Ran.{Ran}
use Rattle.transactions.specs.declared.work.Found.{Found}
use Rattle.transactions.specs.declared.progress.Progress.{Progress}
use Rattle.transactions.specs.Acting.{CanAllBeSettled, CanAllBeUndone}
use Rattle.transactions.specs.Logged.{Logs, log_and_claims}
use Rattle.rendezvous.specs.Awaited.{awaited_from}
use Rattle.world.specs.declared.desk.Active.TheVariants.{Acting, Ending}
use Rattle.world.specs.declared.desk.SessionDesk.{SessionDesk}
use Rattle.world.specs.declared.flight.Transaction.{Transaction}
use Rattle.world.specs.declared.flight.Flow.{Flow}
use Rattle.world.specs.declared.flight.Act.{Act as AnyAct}
use Rattle.world.specs.declared.flight.Carried.{Carried}
use Rattle.world.specs.declared.flight.Message.{Message}
use Rattle.world.specs.declared.flight.Message.TheVariants.{Start, Act, Settle, Undo}
use Rattle.world.specs.declared.flight.Report.{Report}
use Rattle.world.specs.declared.flight.Commit.{Commit}
use Rattle.world.specs.declared.flight.SessionAnswer.{SessionAnswer}
use Rattle.world.specs.declared.flight.Item.{Item}
use Rattle.world.specs.declared.flight.Item.TheVariants as item
use Rattle.world.specs.declared.slots.TheConstants.{MOST_ACTIVE}
use Rattle.world.specs.declared.world.Parts.{Parts}
use Rattle.world.specs.Shards.{HaveToWait}
use Rattle.world.specs.Following.{CarriesFirst, acts_of, committing, ending, entry_of, found_in, held_in, holding, refusal_of, refused, release, releasing, putting, with_active, with_items}

-- The answer to a commit: `Logged` with the place of its entry, or `Sent`, as for any other item, if the log refused it.
abbrev pub recorded_of : Result ℕ Refusal → EventAnswer
recorded_of (Ok place) = Logged place
recorded_of (Err why) = Sent

-- A request has reached this progress, and the actions of its phase have done their work and found this.
abbrev pub HasMet : Progress → List Found → Type 0
HasMet progress found =
    (shared : SharedTables) × (asked : Request) × (held : List (List ClaimView)) × (claims : List (List ClaimView))
    × IsReached shared asked progress held × HaveAllDone shared (works_of progress) found claims

module _ {J : Type 0} where
  -- ---- a message is worked on

  -- This relation holds between the old and the new shard of this warehouse. These items are appended to the outbox. Nothing
  -- else changes.
  pub record AtShard (home : ℕ) (items : List (Item J)) (of : ShardView (Carried J) → ShardView (Carried J) → Type 0) (old new : Parts J) : Type 0 where
    pub was : ShardView (Carried J)
    pub now : ShardView (Carried J)
    pub home_is : was.slice.home ≡ home
    pub there : slice_get old.shards.items (home - 1) ≡ Some was
    pub shards : new.shards.items ≡ slice_set old.shards.items (home - 1) now
    pub rest : new ≡ record old { shards = new.shards; outbox = old.outbox ++ items }
    pub happened : of was now

  -- The holder of an action's claims in the lock tables: its transaction's age, and its place in the transaction.
  abbrev pub holder_of : AnyAct J → Holder
  holder_of act = record { age = act.age; place = act.place }

  -- What an action keeps beside its work.
  abbrev pub carried_by : AnyAct J → Carried J
  carried_by act = record { slot = act.slot; flow = act.flow }

  -- The report of the action of this place that carries this, with its outcome.
  abbrev pub report_of : ℕ → Carried J → Ran J → Item J
  report_of place carried ran = item.Report (record { place = place; slot = carried.slot; flow = carried.flow; ran = ran })

  -- What an action that asks puts: its report, or nothing if it waits.
  abbrev pub put_for : ℕ → Acted J (Carried J) → List (Item J)
  put_for place (acted.Ran ran carried) = report_of place carried ran ∷ []
  put_for place acted.Waits = []

  -- An action asks at the shard of its warehouse. It reports that it has done its work, that it died of a holder that is not
  -- younger, or that there was no memory; or it waits there, because all conflicting holders are younger (`ActsAs` of
  -- transactions).
  abbrev pub Asks : AnyAct J → Parts J → Parts J → Type 0
  Asks act old new = (acted : Acted J (Carried J)) × AtShard (home_of act.work) (put_for act.place acted) (λ was now. ActsAs (holder_of act) act.work (carried_by act) was acted now) old new

  -- The claims of an action are given back to the slice of their warehouse, which keeps what is committed. The waiting actions
  -- are unchanged.
  abbrev pub GivesBack : ℕ → List ClaimView → Parts J → Parts J → Type 0
  GivesBack slot claims old new =
      AtShard (home_of_claims claims) (item.Ended slot ∷ []) (λ was now. SliceKeeps claims was.slice [] now.slice × (now.parked ≡ was.parked)) old new

  -- An action that waits at the shard of this warehouse has its turn, and reports (`OneTurn` of transactions).
  abbrev pub TakesTurn : ℕ → Turned J (Carried J) → Parts J → Parts J → Type 0
  TakesTurn home turned old new = AtShard home (report_of turned.by.place turned.carried turned.ran ∷ []) (λ was now. OneTurn was turned now) old new

  -- Nothing changes; the list of shards has the same items.
  pub record Stays (old new : Parts J) : Type 0 where
    pub shards : new.shards.items ≡ old.shards.items
    pub rest : new ≡ record old { shards = new.shards }

  -- These actions have their turns at this warehouse, one after another.
  abbrev pub TurnsFollow : ℕ → List (Turned J (Carried J)) → Parts J → Parts J → Type 0
  TurnsFollow home [] old new = Stays old new
  TurnsFollow home (turned ∷ more) old new = (mid : Parts J) × (TakesTurn home turned old mid × TurnsFollow home more mid new)

  -- The actions at this warehouse that need not wait any more have their turns, one after another, until all that wait there
  -- have to.
  pub record AllTurns (home : ℕ) (old new : Parts J) : Type 0 where
    pub turned : List (Turned J (Carried J))
    pub follow : TurnsFollow home turned old new
    pub over : (s : ShardView (Carried J)) → slice_get new.shards.items (home - 1) ≡ Some s → HaveToWait s

  -- The effect of a message. A start puts the actions of the first phase, by place. An act asks, a settle or an undo gives
  -- claims back, at the shard of their warehouse; then the actions that wait there have their turns.
  abbrev pub TakesMessage : Message J → Parts J → Parts J → Type 0
  TakesMessage (Start flow works) old new = new ≡ with_items (acts_of flow works.items) old
  TakesMessage (Act act) old new = (mid : Parts J) × (Asks act old mid × AllTurns (home_of act.work) mid new)
  TakesMessage (Settle slot claims) old new = (mid : Parts J) × (GivesBack slot claims old mid × AllTurns (home_of_claims claims) mid new)
  TakesMessage (Undo slot claims) old new = (mid : Parts J) × (GivesBack slot claims old mid × AllTurns (home_of_claims claims) mid new)

  -- What processing a message requires.
  abbrev pub CanWork : SharedTables → Message J → Type 0
  CanWork shared (Start flow works) = (1 ≤ length works.items) × ((length flow.transaction.held + length works.items ≤ MOST_ACTIONS) × All (CanDo shared) works.items)
  CanWork shared (Act act) = CanDo shared act.work
  CanWork shared (Settle slot claims) = CanAllBeSettled claims
  CanWork shared (Undo slot claims) = CanAllBeUndone claims

  -- ---- a phase has met

  -- The actions of the next phase are put, and none has reported yet; or the transaction is to be logged.
  abbrev pub goes_on : Transaction J → Gathered → Parts J → Parts J
  goes_on t (Next progress) old =
      putting (acts_of (record { transaction = t; progress = progress }) (works_of progress)) t.slot (Some (Acting (length t.held) (replicate (length (works_of progress)) None))) old
  goes_on t (Finish shown) old = committing t shown old

  -- What follows from the found values is done; or there is no memory for it, and the transaction is refused.
  abbrev pub GathersInto : Progress → List Found → Transaction J → Parts J → Parts J → Type 0
  GathersInto progress found t old new =
      (new ≡ releasing false (refused t refusal.NoMemory) old) ⊎ ((g : Gathered) × (FollowsFrom progress found g × (new ≡ goes_on t g old)))

  -- An action has died or found no memory, and the transaction is refused; or all actions have done their work, and it goes on.
  abbrev pub MeetsUnless : Option Refusal → List (Report J) → Flow J → Parts J → Parts J → Type 0
  MeetsUnless (Some why) reports flow old new = new ≡ releasing false (refused (holding flow.transaction (held_in reports)) why) old
  MeetsUnless None reports flow old new =
      GathersInto flow.progress (found_in reports) (holding flow.transaction (held_in reports)) old new

  -- All actions of a phase have reported; these are the reports, by place.
  abbrev pub MeetsAs : List (Report J) → Parts J → Parts J → Type 0
  MeetsAs reports old new = CarriesFirst reports (λ flow. MeetsUnless (refusal_of None reports) reports flow old new)

  -- What the reports of a phase of this transaction require.
  pub record CanMeetFor (reports : List (Report J)) (flow : Flow J) : Type 0 where
    pub slot : flow.transaction.slot < MOST_ACTIVE
    pub room : length flow.transaction.held + length reports ≤ MOST_ACTIONS
    pub done : refusal_of None reports ≡ None → HasMet flow.progress (found_in reports)

  -- What the reports of a phase require, with the transaction that the first of them carries.
  abbrev pub CanMeet : List (Report J) → Type 0
  CanMeet reports = CarriesFirst reports (CanMeetFor reports)

  -- Some action has not reported yet, and the report is kept; or the phase has met.
  abbrev pub ReportsInto : ℕ → ℕ → List (Option (Report J)) → Parts J → Parts J → Type 0
  ReportsInto slot first slots old new =
      ((1 ≤ length (awaited_from 0 slots)) × (new ≡ with_active slot (Some (Acting first slots)) old))
      ⊎ ((reports : List (Report J)) × ((map Some reports ≡ slots) × MeetsAs reports old new))

  -- The phase in flight in this slot: the place of its first action, and the reports so far, from that place on.
  abbrev pub OfPhase : ℕ → Parts J → (ℕ → List (Option (Report J)) → Type 0) → Type 0
  OfPhase slot w P = (first : ℕ) × ((slots : List (Option (Report J))) × ((slice_get w.desk.active slot ≡ Some (Some (Acting first slots))) × P first slots))

  -- A report reaches the phase of its own transaction.
  abbrev pub Reports : Report J → Parts J → Parts J → Type 0
  Reports r old new = OfPhase r.slot old (λ first slots. ReportsInto r.slot first (slice_set slots (r.place - first) (Some r)) old new)

  -- ---- a transaction is logged

  -- The log, which may have `log_limit` entries, appends the transaction's entry or refuses it (`Logs` of transactions). Then the transaction is over, with the
  -- resulting pass and answer, and its claims, as they are then, are given back.
  pub record Commits (log_limit : ℕ) (commit : Commit J) (old : Parts J) (answer : EventAnswer) (new : Parts J) : Type 0 where
    pub logged : AnyLogged J
    pub log : List Entry
    pub held : List (List ClaimView)
    pub logs : Logs log_limit (entry_of commit) commit.transaction.pass (log_and_claims old.log commit.transaction.held) logged (log_and_claims log held)
    pub answered : answer ≡ recorded_of logged.answer
    pub over : new ≡ releasing logged.is_settled (release commit.transaction logged.pass logged.answer held) (record old { log = log })

  -- What a commit requires: the request was carried out under the transaction's claims with this reply.
  pub record CanCommit (opening : Database) (commit : Commit J) : Type 0 where
    pub accepted : IsAccepted opening.scale commit.transaction.request
    pub number : commit.transaction.pass.asks.number ≡ commit.transaction.number
    pub asks : commit.transaction.pass.asks.request ≡ commit.transaction.request
    pub carried_out : IsCarriedOut opening commit.transaction.request (all_claims commit.transaction.held) commit.reply
    pub few : length commit.transaction.held ≤ MOST_ACTIONS
    pub slot : commit.transaction.slot < MOST_ACTIVE

  -- ---- the sessions

  -- Only the sessions change.
  abbrev pub with_sessions : Parts J → List (SessionDesk J) → Parts J → Type 0
  with_sessions old sessions new =
      (new.catalog ≡ old.catalog) × ((new.shards ≡ old.shards) × ((new.inbox ≡ old.inbox) × ((new.outbox ≡ old.outbox) × ((new.log ≡ old.log)
      × ((new.desk.admitted ≡ old.desk.admitted) × ((new.desk.active ≡ old.desk.active) × (new.desk.sessions.items ≡ sessions)))))))

  -- The session is answered, and its pass is back at the desk.
  abbrev pub Replies : SessionAnswer J → Parts J → EventAnswer → Parts J → Type 0
  Replies recorded old answer new =
      (answer ≡ Answered recorded.pass.session recorded.number recorded.answer)
      × ((desk : SessionDesk J) × ((slice_get old.desk.sessions.items recorded.pass.session ≡ Some desk)
      × with_sessions old (slice_set old.desk.sessions.items recorded.pass.session (record desk { pass = Some recorded.pass })) new))

  -- ---- all items

  -- This many actions of the transaction in this slot have yet to give their claims back.
  abbrev pub OfEnding : ℕ → Parts J → (ℕ → Type 0) → Type 0
  OfEnding slot w P = (left : ℕ) × ((slice_get w.desk.active slot ≡ Some (Some (Ending left))) × P left)

  -- What sending an item requires.
  abbrev pub CanSend : Database → Item J → Parts J → Type 0
  CanSend opening (item.Push message) w = Unit {0}
  CanSend opening (item.Report r) w =
      (r.slot < MOST_ACTIVE) × OfPhase r.slot w (λ first slots. (first ≤ r.place) × ((slice_get slots (r.place - first) ≡ Some None)
      × ((reports : List (Report J)) → map Some reports ≡ slice_set slots (r.place - first) (Some r) → CanMeet reports × CarriesFirst reports (λ flow. flow.transaction.slot ≡ r.slot))))
  CanSend opening (item.Ended slot) w = (slot < MOST_ACTIVE) × OfEnding slot w (λ left. 1 ≤ left)
  CanSend opening (item.Commit commit) w = CanCommit opening commit
  CanSend opening (item.Reply recorded) w = (desk : SessionDesk J) × (slice_get w.desk.sessions.items recorded.pass.session ≡ Some desk)

  -- The effect of sending an item, by its kind, where the log has at most `log_limit` entries. A push is not sent so: it leaves an
  -- outbox in an envelope.
  abbrev pub SendsItem : ℕ → Item J → Parts J → EventAnswer → Parts J → Type 0
  SendsItem log_limit (item.Push message) old answer new = ⊥
  SendsItem log_limit (item.Report r) old answer new = (answer ≡ Sent) × Reports r old new
  SendsItem log_limit (item.Ended slot) old answer new = (answer ≡ Sent) × OfEnding slot old (λ left. new ≡ with_active slot (ending (left - 1)) old)
  SendsItem log_limit (item.Commit commit) old answer new = Commits log_limit commit old answer new
  SendsItem log_limit (item.Reply recorded) old answer new = Replies recorded old answer new
