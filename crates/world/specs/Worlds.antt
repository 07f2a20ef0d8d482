-- What holds of a world and its history.
use Rattle.std.specs.Prelude.{◌≡◌, ℕ, ◌+◌, Bool, List, [], ◌∷◌, ◌++◌, All, Contains, IsTrue, ◌<◌, ◌≤◌, ◌↔◌, Result, Err, count_by}
use Rattle.std.specs.List.{slice_get}
use Rattle.rows.specs.declared.limits.TheConstants.{SESSIONS}
use Rattle.schema.specs.Database.{Database}
use Rattle.requests.specs.declared.group.Group.{Group}
use Rattle.requests.specs.declared.request.Request.{Request}
use Rattle.requests.specs.declared.refusal.Refusal.{Refusal}
use Rattle.requests.specs.declared.refusal.Refusal.TheVariants as refusal
use Rattle.requests.specs.Check.{IsAccepted}
use Rattle.groups.specs.Content.{content}
use Rattle.groups.specs.Footprint.{footprint, groups_of}
use Rattle.tickets.specs.Claims.{ClaimView}
use Rattle.tickets.specs.Committed.{AreCommitted}
use Rattle.machine.specs.Machine.{tables_after}
use Rattle.commit_log.specs.declared.entry.Entry.{Entry}
use Rattle.commit_log.specs.Log.{requests_of}
use Rattle.history.specs.declared.event.Event.{Event}
use Rattle.history.specs.declared.event.Event.TheVariants.{Submit, Order, Take, Send}
use Rattle.history.specs.declared.event.EventAnswer.{EventAnswer}
use Rattle.history.specs.declared.event.EventAnswer.TheVariants.{Accepted, Answered, Nothing}
use Rattle.history.specs.History.{Step, UnansweredTransaction, step, is_of}
use Rattle.history.specs.Fits.{Fits as HistoryFits}
use Rattle.history.specs.Laws.{IsAnswerTo}
use Rattle.history.specs.Schedules.{IsIdle, Round}
use Rattle.local_locks.specs.Conflicts.{Blocks}
use Rattle.local_locks.specs.Laws.{Path}
use Rattle.local_locks.specs.LockTableView.{HeldClaim, WaitingAction}
use Rattle.slices.specs.SliceView.{AreAllHeld, JoinedSlices, all_standing, everywhere}
use Rattle.transactions.specs.declared.acting.Ran.{Ran}
use Rattle.transactions.specs.declared.acting.Ran.TheVariants as ran
use Rattle.transactions.specs.Shards.{ShardView}
use Rattle.world.specs.declared.flight.Carried.{Carried}
use Rattle.world.specs.declared.flight.Item.{Item}
use Rattle.world.specs.declared.flight.Item.TheVariants as item
use Rattle.world.specs.declared.flight.Outgoing.{Outgoing}
use Rattle.world.specs.declared.world.Parts.{Parts}
use Rattle.world.specs.declared.world.Core.{Core}
use Rattle.world.specs.Slots.{count_active}
use Rattle.world.specs.Flights.{InFlight, nothing}
use Rattle.world.specs.Parted.{joined_in}
use Rattle.world.specs.Shards.{waiting_in}
use Rattle.world.specs.Sound.{ActiveTransactions, IsActiveAt, IsSoundWith, flight}
use Rattle.world.specs.Changes.{ChangesOnly}
use Rattle.world.specs.Happening.{CanOrder, CannotSubmit, Happens, begins_at, has_room, is_full}
use Rattle.range_moves.specs.Traffic.{AreOwned}
use Rattle.world.specs.Envelopes.{items_in, sent_in}
use Rattle.world.specs.Queues.{all_of, queue_of}
use Rattle.world.specs.Together.{envelopes_of_all, together}

-- ---- the history

-- The tables that a machine leaves that carries out the log's requests one at a time, in log order.
abbrev pub tables_now : Database → List Entry → Database
tables_now opening log = tables_after opening (requests_of log)

-- By the history, this request was accepted with this age.
abbrev pub WasAccepted : List Step → ℕ → Request → Type 0
WasAccepted history age request = (session : ℕ) × ((number : ℕ) × Contains history (step (Submit session number request) (Accepted age)))

-- By the history, the request of this transaction without an answer was accepted with its age.
abbrev pub IsAcceptedIn : List Step → UnansweredTransaction → Type 0
IsAcceptedIn history u = WasAccepted history u.age u.request

-- The claim is on a group of the footprint of the request that was accepted with the claim's age.
abbrev pub IsClaimOf : List Step → ClaimView → Type 0
IsClaimOf history claim = (asked : Request) × (WasAccepted history claim.by.age asked × Contains (groups_of (footprint asked)) claim.group)

-- A history fits an opening, a log, slices and what is in flight. It fits the log (`Fits` of history). The tables that the
-- machine leaves are the committed ones, given the claims in flight. These claims are all that are held in the lock tables.
-- Each transaction without an answer was accepted. Each claim is on a group of the footprint of the request accepted with its
-- age.
pub record FitsPart (opening : Database) (history : List Step) (log : List Entry) (slices : JoinedSlices) (admitted : ℕ) (in_flight : InFlight) : Type 0 where
  pub recorded : HistoryFits opening history log (tables_now opening log) admitted in_flight.pending
  pub committed : AreCommitted everywhere (content (tables_now opening log)) (all_standing slices) in_flight.claims
  pub held : AreAllHeld slices.holdings in_flight.claims
  pub accepted : All (IsAcceptedIn history) in_flight.pending
  pub claimed : All (IsClaimOf history) in_flight.claims
  pub scale : slices.tables.scale ≡ opening.scale
  pub items : slices.tables.items ≡ opening.items

-- Events with their answers.
abbrev pub steps_of : List Event → List EventAnswer → List Step
steps_of [] answers = []
steps_of (event ∷ events) [] = []
steps_of (event ∷ events) (answer ∷ answers) = step event answer ∷ steps_of events answers

-- The flag is whether nothing could happen in the round.
abbrev pub IsIdleExactly : Bool → Round → Type 0
IsIdleExactly recorded r = IsTrue recorded ↔ IsIdle r

-- The transaction without an answer is the session's, with this number. The answer is the place of its entry, or, if it has
-- none, why it is refused.
pub record IsAnsweredSo (session number : ℕ) (recorded : Result ℕ Refusal) (u : UnansweredTransaction) : Type 0 where
  pub session_is : u.session ≡ session
  pub number_is : u.number ≡ number
  pub answer_is : IsAnswerTo u recorded

-- The transaction without an answer is the session's, with this number. The group is in its footprint, and the holder is older.
pub record IsRefusedFor (session number : ℕ) (group : Group) (holder : ℕ) (u : UnansweredTransaction) : Type 0 where
  pub session_is : u.session ≡ session
  pub number_is : u.number ≡ number
  pub of_footprint : Contains (groups_of (footprint u.request)) group
  pub older : holder < u.age

module _ {J : Type 0} where
  -- A history fits the state of a world, with the queues of all executors as one, from an opening.
  abbrev pub Fits : Database → List Step → Parts J → Type 0
  Fits opening history w = FitsPart opening history w.log (joined_in w) w.desk.admitted (flight w)

  -- A history that fits before these steps fits after them, with the steps appended.
  abbrev pub Advances : Parts J → List Step → Parts J → Type 0
  Advances old steps new = (opening : Database) (history : List Step) → Fits opening history old → Fits opening (history ++ steps) new

  -- A history that fits before this event fits after it, with the event and its answer appended.
  abbrev pub AdvancesBy : Event → EventAnswer → Core J → Core J → Type 0
  AdvancesBy event answer old new = Advances (together old) (step event answer ∷ []) (together new)

  -- These are the tables that the log's transactions left, whatever the opening of a history that fits the world.
  abbrev pub AreTablesOf : Core J → Database → Type 0
  AreTablesOf w tables = (opening : Database) (history : List Step) → Fits opening history (together w) → tables ≡ tables_now opening w.parts.log

  -- ---- answers

  -- Only what was asked is answered. A submission may be refused at once, by its own number. Any other answer goes to a session
  -- with a transaction without an answer: it has that transaction's number and is its answer.
  abbrev pub WasAsked : Event → Core J → ℕ → ℕ → Result ℕ Refusal → Type 0
  WasAsked (Submit asking mine asked) w session number recorded = (session ≡ asking) × ((number ≡ mine) × ((why : Refusal) × (recorded ≡ Err why)))
  WasAsked event w session number recorded = (u : UnansweredTransaction) × (Contains (flight (together w)).pending u × IsAnsweredSo session number recorded u)

  -- Every answer was asked for.
  abbrev pub AnswersWhoAsked : Event → Core J → EventAnswer → Type 0
  AnswersWhoAsked event w answer = (session number : ℕ) (recorded : Result ℕ Refusal) → answer ≡ Answered session number recorded → WasAsked event w session number recorded

  -- ---- deaths

  -- A session that gets a death as the answer had a transaction without an answer, with this number. The answer names a group
  -- of that transaction's footprint and the age of an older transaction.
  abbrev pub RecordsOfOlder : Core J → EventAnswer → Type 0
  RecordsOfOlder w answer =
      (session number : ℕ) (group : Group) (holder : ℕ) → answer ≡ Answered session number (Err (refusal.Died group holder))
      → (u : UnansweredTransaction) × (Contains (flight (together w)).pending u × IsRefusedFor session number group holder u)

  -- The transaction in this slot dies on this group because of the transaction of this age, which is older, is active, and has
  -- a claim on the group in a lock table. By the requests accepted with their ages in the history, the group is in both
  -- footprints.
  pub record DiesOf (history : List Step) (w : Parts J) (at : ActiveTransactions) (slot : ℕ) (group : Group) (holder : ℕ) : Type 0 where
    pub accepted : WasAccepted history (at slot).age (at slot).request
    pub of_footprint : Contains (groups_of (footprint (at slot).request)) group
    pub older : holder < (at slot).age
    pub active : IsActiveAt at w.desk.active holder
    pub asked : Request
    pub holder_accepted : WasAccepted history holder asked
    pub of_holder : Contains (groups_of (footprint asked)) group
    pub w_id : ℕ
    pub holding : HeldClaim
    pub out : Contains ((joined_in w).holdings w_id) holding
    pub on : holding.group ≡ group
    pub by : holding.by.age ≡ holder

  -- If an action of the transaction in this slot died, it died of such a transaction.
  abbrev pub DiedOfOlder : List Step → Parts J → ActiveTransactions → ℕ → Ran J → Type 0
  DiedOfOlder history w at slot (ran.Done claims found) = Unit {0}
  DiedOfOlder history w at slot (ran.Died group holder) = DiesOf history w at slot group holder
  DiedOfOlder history w at slot ran.NoMemory = Unit {0}

  -- If the item is the report of a death, the death is of such a transaction.
  abbrev pub RecordsWhom : List Step → Parts J → ActiveTransactions → Item J → Type 0
  RecordsWhom history w at (item.Report report) = DiedOfOlder history w at report.slot report.ran
  RecordsWhom history w at item = Unit {0}

  -- An action that dies while an executor processes a message dies of an older active transaction: each report put satisfies
  -- this. The transaction in each slot is given by the invariant of what is in flight. The invariant holds, and the claim is
  -- true for every proof of it.
  abbrev pub DieOfOlder : List Step → Event → Core J → Core J → Type 0
  DieOfOlder history (Take executor) old new =
      IsSoundWith new.parts.catalog nothing (together new)
      × ((known : IsSoundWith new.parts.catalog nothing (together new)) (posts : List (Outgoing J)) → queue_of executor new.outboxes ≡ queue_of executor old.outboxes ++ posts
      → All (RecordsWhom history (together new) known.in_flight) (items_in posts))
  DieOfOlder history event old new = Unit {0}

  -- This holds for every history that fits the world after the event.
  abbrev pub AllDieOfOlder : Event → Core J → Core J → Type 0
  AllDieOfOlder event old new = (opening : Database) (history : List Step) → Fits opening history (together new) → DieOfOlder history event old new

  -- ---- at rest

  -- The number of active transactions plus the number of arrivals that the outstanding move awaits. 0 if there is neither.
  abbrev pub count_busy : Core J → ℕ
  count_busy w = count_active w.parts.desk.active + w.placements.awaited

  -- All inboxes and outboxes are empty: nothing can be taken and nothing can be sent.
  abbrev pub IsAtRest : Core J → Type 0
  IsAtRest w = (all_of w.inboxes ≡ []) × (all_of w.outboxes ≡ [])

  -- ---- what can't happen

  -- A submission can't happen from a session number of SESSIONS or above; nor, unless it is refused, if the inbox of the executor
  -- where it would begin is full or no age is left. A move can't happen if it is impossible, if another is outstanding, or if
  -- the inbox of its destination is full. A Take or a Send can't happen if there is nothing to take or to send, or no such
  -- executor.
  abbrev pub CannotHappen : Event → Core J → Type 0
  CannotHappen (Submit session number asked) w = CannotSubmit (has_room (begins_at asked w) w) (slice_get w.parts.desk.sessions.items session) asked w.parts
  CannotHappen (Order order) w = ¬ CanOrder order w
  CannotHappen (Take executor) w = queue_of executor w.inboxes ≡ []
  CannotHappen (Send executor) w = queue_of executor w.outboxes ≡ []

  -- A submission by one of the sessions is refused with SessionBusy exactly if the session has a transaction without an
  -- answer.
  abbrev pub IsBusyExactly : Event → Core J → EventAnswer → Type 0
  IsBusyExactly (Submit session number asked) w answer =
      session < SESSIONS → (answer ≡ Answered session number (Err refusal.SessionBusy)) ↔ (1 ≤ count_by (is_of session) (flight (together w)).pending)
  IsBusyExactly event w answer = Unit {0}

  -- The desk has no slot for a request that it would accept: the session has no transaction without an answer, the check accepts
  -- the request, and MOST_ACTIVE transactions are active, one in each slot.
  pub record FindsNoSlot (session : ℕ) (asked : Request) (w : Core J) : Type 0 where
    pub none : count_by (is_of session) (flight (together w)).pending ≡ 0
    pub accepted : IsAccepted w.parts.catalog.scale asked
    pub full : IsTrue (is_full w.parts.desk.active)

  -- A submission by a session is refused with Busy exactly if no earlier refusal applies and the desk has no slot
  -- for it.
  abbrev pub IsFullExactly : Event → Core J → EventAnswer → Type 0
  IsFullExactly (Submit session number asked) w answer =
      session < SESSIONS → (answer ≡ Answered session number (Err refusal.Busy)) ↔ FindsNoSlot session asked w
  IsFullExactly event w answer = Unit {0}

  -- The action has not died: it has done its work, or there was no memory for it.
  abbrev pub HasNotDied : Ran J → Type 0
  HasNotDied (ran.Done claims found) = Unit {0}
  HasNotDied (ran.Died group holder) = ⊥
  HasNotDied ran.NoMemory = Unit {0}

  -- If the item is a report, it is not one of a death.
  abbrev pub RecordsNoDeath : Item J → Type 0
  RecordsNoDeath (item.Report report) = HasNotDied report.ran
  RecordsNoDeath item = Unit {0}

  -- No action dies while an executor processes a message: no report put is one of a death.
  abbrev pub NoneDies : Event → Core J → Core J → Type 0
  NoneDies (Take executor) old new =
      (posts : List (Outgoing J)) → queue_of executor new.outboxes ≡ queue_of executor old.outboxes ++ posts → All RecordsNoDeath (items_in posts)
  NoneDies event old new = Unit {0}

  -- If only one transaction is active, no action dies. This holds for every world that a history fits.
  abbrev pub NoneDiesAlone : Event → Core J → Core J → Type 0
  NoneDiesAlone event old new =
      (opening : Database) (history : List Step) → Fits opening history (together old) → count_active old.parts.desk.active ≡ 1 → NoneDies event old new

  -- ---- where slices are

  -- The slice of each warehouse is at one executor and in no parcel, or in exactly one parcel.
  abbrev pub IsOwned : Core J → Type 0
  IsOwned w = AreOwned w.placements (sent_in (envelopes_of_all w))

  -- ---- never stuck

  -- At some shard an action of age t waits for a group on which a holder of age u has a conflicting claim.
  pub record WaitsFor (w : Parts J) (t u : ℕ) : Type 0 where
    pub shard : ShardView (Carried J)
    pub there : Contains w.shards.items shard
    pub waiting : WaitingAction
    pub waits : Contains shard.slice.waiters waiting
    pub age : waiting.by.age ≡ t
    pub holding : HeldClaim
    pub blocks : Blocks shard.slice.holdings waiting.wants holding
    pub holder : holding.by.age ≡ u

  -- No transaction is active, no claim is in flight, no action waits, no lock table has a claim, no move is outstanding, and
  -- nothing is parked.
  pub record IsIdleAt (w : Core J) : Type 0 where
    pub active : count_active w.parts.desk.active ≡ 0
    pub claims : (flight (together w)).claims ≡ []
    pub waiting : waiting_in w.parts ≡ []
    pub holdings : (w_id : ℕ) → (joined_in w.parts).holdings w_id ≡ []
    pub awaited : w.placements.awaited ≡ 0
    pub parked : w.parked ≡ []

  -- No world is stuck. Each waiting transaction is older than those it waits for, so there is no cycle of waiting. If nothing
  -- can be taken and nothing can be sent, the world is idle.
  pub record IsNeverStuck (w : Core J) : Type 0 where
    pub rises : (t u : ℕ) → WaitsFor w.parts t u → t < u
    pub no_circle : (t : ℕ) (ages : List ℕ) → Path (WaitsFor w.parts) t ages t → ⊥
    pub idle : IsAtRest w → IsIdleAt w

  -- ---- several events

  -- One event happens, with this answer. A history that fits before fits after with this step appended (`advances`). The answer
  -- and the changes are specified (`happens`), and bounded (`changes`). An event is answered `Nothing` exactly if it can't
  -- happen, a session is busy exactly if it has a transaction without an answer, and a submission finds all slots taken exactly
  -- if they are and no earlier refusal applies. Every answer was asked for. A death is of
  -- an older transaction, in an answer and in a report, and no action dies while its transaction is the only active one. The
  -- number of executors is unchanged, each slice is at one executor or in one parcel, and the world is not stuck.
  pub record EventHappens (s : Step) (old new : Core J) : Type 0 where
    pub advances : Advances (together old) (s ∷ []) (together new)
    pub happens : Happens s.event old s.answer new
    pub changes : ChangesOnly s.event s.answer old new
    pub nothing : (s.answer ≡ Nothing) ↔ CannotHappen s.event old
    pub busy : IsBusyExactly s.event old s.answer
    pub full : IsFullExactly s.event old s.answer
    pub asked : AnswersWhoAsked s.event old s.answer
    pub died : RecordsOfOlder old s.answer
    pub dies : AllDieOfOlder s.event old new
    pub executors : new.placements.executors ≡ old.placements.executors
    pub owned : IsOwned new
    pub never_stuck : IsNeverStuck new
    pub alone : NoneDiesAlone s.event old new

  -- Events happen one after another, each with its answer.
  abbrev pub HappenInTurn : List Step → Core J → Core J → Type 0
  HappenInTurn [] old new = new ≡ old
  HappenInTurn (s ∷ steps) old new = (mid : Core J) × (EventHappens s old mid × HappenInTurn steps mid new)

  -- These events happened in turn, and a history that fits before them fits after them with the steps appended.
  abbrev pub ComeAbout : List Step → Core J → Core J → Type 0
  ComeAbout steps old new = HappenInTurn steps old new × Advances (together old) steps (together new)
