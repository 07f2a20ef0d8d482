-- The invariant of everything in flight, and of a world.
use Rattle.std.specs.Prelude.{◌≡◌, ℕ, ◌+◌, ◌<◌, ◌≤◌, Bool, zero, suc, List, [], ◌∷◌, ◌++◌, Option, Some, None, Result, Ok, Err, All, Contains, map, length, replicate, count_by, is_some, if◌then◌else◌}
use Rattle.std.specs.List.{slice_get, sum_by}
use Rattle.rows.specs.declared.limits.TheConstants.{SESSIONS}
use Rattle.partitions.specs.Parts.{SharedTables, shared_of}
use Rattle.schema.specs.Database.{Database}
use Rattle.requests.specs.declared.group.Group.{Group}
use Rattle.requests.specs.declared.request.Request.{Request}
use Rattle.requests.specs.declared.refusal.Refusal.{Refusal}
use Rattle.requests.specs.declared.refusal.Refusal.TheVariants as refusal
use Rattle.requests.specs.Check.{IsAccepted}
use Rattle.groups.specs.Footprint.{footprint, groups_of}
use Rattle.tickets.specs.Claims.{ClaimView, all_claims}
use Rattle.slices.specs.SliceView.{AreAllHeld, AreSlicesOf}
use Rattle.commit_log.specs.Claimed.{IsCarriedOut}
use Rattle.commit_log.specs.PassView.{PassView}
use Rattle.history.specs.History.{is_of}
use Rattle.transactions.specs.declared.work.Work.{Work}
use Rattle.transactions.specs.declared.acting.Ran.{Ran}
use Rattle.transactions.specs.declared.acting.Ran.TheVariants as ran
use Rattle.transactions.specs.Works.{CanDo, HasDone, group_wants_of}
use Rattle.transactions.specs.declared.progress.Progress.{Progress}
use Rattle.transactions.specs.Progresses.{IsReached, works_of}
use Rattle.transactions.specs.declared.laws.TheConstants.{MOST_ACTIONS}
use Rattle.transactions.specs.Acting.{AreSettledBy, AreUndoneBy}
use Rattle.rendezvous.specs.Awaited.{awaited_from, reported}
use Rattle.world.specs.declared.desk.Active.{Active}
use Rattle.world.specs.declared.desk.Active.TheVariants as active
use Rattle.world.specs.declared.desk.Desk.{Desk}
use Rattle.world.specs.declared.desk.SessionDesk.{SessionDesk}
use Rattle.world.specs.declared.flight.Transaction.{Transaction}
use Rattle.world.specs.declared.flight.Flow.{Flow}
use Rattle.world.specs.declared.flight.Act.{Act}
use Rattle.world.specs.declared.flight.Message.{Message}
use Rattle.world.specs.declared.flight.Message.TheVariants as message
use Rattle.world.specs.declared.flight.Report.{Report}
use Rattle.world.specs.declared.flight.Commit.{Commit}
use Rattle.world.specs.declared.flight.SessionAnswer.{SessionAnswer}
use Rattle.world.specs.declared.flight.Item.{Item}
use Rattle.world.specs.declared.flight.Item.TheVariants as item
use Rattle.world.specs.declared.slots.TheConstants.{MOST_ACTIVE}
use Rattle.world.specs.declared.world.Parts.{Parts}
use Rattle.world.specs.Flights.{Token, Acting, Committing, Ending, InFlight, join, parts, part_message, part_item, part_met}
use Rattle.world.specs.Parted.{joined_in}
use Rattle.world.specs.Shards.{slices_in}

-- A refusal for a death names one of these groups and an age less than this one.
abbrev pub NamesOlder : List Group → ℕ → Refusal → Type 0
NamesOlder groups age (refusal.Died group holder) = Contains groups group × (holder < age)
NamesOlder groups age _ = Unit {0}

-- The same for an answer that is such a refusal.
abbrev pub AnswersOlder : List Group → ℕ → Result ℕ Refusal → Type 0
AnswersOlder groups age (Ok place) = Unit {0}
AnswersOlder groups age (Err why) = NamesOlder groups age why

-- If there is a pass, it is of this session.
abbrev pub IsPassOf : ℕ → Option PassView → Type 0
IsPassOf number None = Unit {0}
IsPassOf number (Some pass) = pass.session ≡ number

-- The lists have the same tokens, in any order: their weights are equal, whatever each token weighs.
abbrev pub WeighAlike : List Token → List Token → Type 0
WeighAlike some others = (weight : Token → ℕ) → sum_by weight some ≡ sum_by weight others

-- A transaction in flight: its request, its progress, the claims of its earlier phases, and its age.
pub record ActiveTransaction : Type 0 where
  pub request : Request
  pub progress : Progress
  pub held : List (List ClaimView)
  pub age : ℕ

-- The transaction in each slot.
abbrev pub ActiveTransactions : Type 0
ActiveTransactions = ℕ → ActiveTransaction

-- The action of this number in its phase, from 0, has this work.
abbrev pub IsWorkAt : ActiveTransaction → ℕ → Work → Type 0
IsWorkAt u number work = slice_get (works_of u.progress) number ≡ Some work

-- The action's place: its number counted on from the actions of the earlier phases.
abbrev pub IsPlaceOf : ActiveTransaction → ℕ → ℕ → Type 0
IsPlaceOf u number place = place ≡ length u.held + number

module _ {J : Type 0} where
  -- ---- transactions

  -- The transaction's session and slot are in their ranges, and the session asks for its request.
  pub record IsAskedBy (t : Transaction J) : Type 0 where
    pub session : t.pass.session < SESSIONS
    pub slot : t.slot < MOST_ACTIVE
    pub number : t.pass.asks.number ≡ t.number
    pub request : t.pass.asks.request ≡ t.request

  -- The transaction is the one in this slot, and has its progress.
  pub record IsSoundFlow (slot : ℕ) (u : ActiveTransaction) (flow : Flow J) : Type 0 where
    pub asked : IsAskedBy flow.transaction
    pub slot_is : flow.transaction.slot ≡ slot
    pub request : flow.transaction.request ≡ u.request
    pub held : flow.transaction.held ≡ u.held
    pub progress : flow.progress ≡ u.progress
    pub age : flow.transaction.age ≡ u.age

  -- The first action of a phase carries the transaction, and no other does.
  abbrev pub IsCarriedAt : ℕ → ActiveTransaction → ℕ → Option (Flow J) → Type 0
  IsCarriedAt slot u zero None = ⊥
  IsCarriedAt slot u zero (Some flow) = IsSoundFlow slot u flow
  IsCarriedAt slot u (suc number) None = Unit {0}
  IsCarriedAt slot u (suc number) (Some flow) = ⊥

  -- ---- one thing that is in flight

  -- A start has the works of the first phase: few enough, and each can be done.
  pub record IsSoundStart (shared : SharedTables) (u : ActiveTransaction) (flow : Flow J) (works : List Work) : Type 0 where
    pub flow_is : IsSoundFlow flow.transaction.slot u flow
    pub works_are : works ≡ works_of u.progress
    pub can : All (CanDo shared) works
    pub few : length flow.transaction.held + length works ≤ MOST_ACTIONS

  -- An action has the work of its place, which can be done, and the age of its transaction.
  pub record IsSoundAct (shared : SharedTables) (u : ActiveTransaction) (act : Act J) : Type 0 where
    pub number : ℕ
    pub place : IsPlaceOf u number act.place
    pub flow : IsCarriedAt act.slot u number act.flow
    pub work : IsWorkAt u number act.work
    pub can : CanDo shared act.work
    pub age : act.age ≡ u.age

  -- A message is sound, by its kind, given the transaction in its slot.
  abbrev pub IsSoundMessage : SharedTables → ActiveTransactions → Message J → Type 0
  IsSoundMessage shared at (message.Start flow works) = IsSoundStart shared (at flow.transaction.slot) flow works.items
  IsSoundMessage shared at (message.Act act) = IsSoundAct shared (at act.slot) act
  IsSoundMessage shared at (message.Settle slot claims) = AreSettledBy (at slot).age claims
  IsSoundMessage shared at (message.Undo slot claims) = AreUndoneBy (at slot).age claims

  -- An action that ran did the work of its number under claims of its transaction, and all of it can be undone. An action that
  -- died names a group that its work claims and an age less than its transaction's.
  abbrev pub IsSoundRan : SharedTables → ActiveTransaction → ℕ → Ran J → Type 0
  IsSoundRan shared u number (ran.Done claims found) = (work : Work) × (IsWorkAt u number work × (HasDone shared work found claims × AreUndoneBy u.age claims))
  IsSoundRan shared u number (ran.Died group holder) = (work : Work) × (IsWorkAt u number work × (Contains (groups_of (group_wants_of work)) group × (holder < u.age)))
  IsSoundRan shared u number ran.NoMemory = Unit {0}

  -- A report is of its place, and its outcome is sound for the action of that place.
  pub record IsSoundReport (shared : SharedTables) (u : ActiveTransaction) (r : Report J) : Type 0 where
    pub number : ℕ
    pub place : IsPlaceOf u number r.place
    pub flow : IsCarriedAt r.slot u number r.flow
    pub ran : IsSoundRan shared u number r.ran

  -- A commit is of a request that its check accepts and that was carried out under the transaction's claims with this reply,
  -- from any opening with these shared tables. All of it can be undone.
  pub record IsSoundCommit (shared : SharedTables) (u : ActiveTransaction) (commit : Commit J) : Type 0 where
    pub asked : IsAskedBy commit.transaction
    pub accepted : IsAccepted shared.scale commit.transaction.request
    pub carried_out : (opening : Database) → shared_of opening ≡ shared → IsCarriedOut opening commit.transaction.request (all_claims commit.transaction.held) commit.reply
    pub undo : All (AreUndoneBy u.age) commit.transaction.held
    pub few : length commit.transaction.held ≤ MOST_ACTIONS

  -- An answer goes to one of the sessions, which asked with its number. A death names a group of the request's footprint and an
  -- older transaction.
  abbrev pub IsSoundReply : SessionAnswer J → Type 0
  IsSoundReply recorded = (recorded.pass.session < SESSIONS) × ((recorded.pass.asks.number ≡ recorded.number) × AnswersOlder (groups_of (footprint recorded.pass.asks.request)) recorded.age recorded.answer)

  -- An item is sound, by its kind.
  abbrev pub IsSoundItem : SharedTables → ActiveTransactions → Item J → Type 0
  IsSoundItem shared at (item.Push message) = IsSoundMessage shared at message
  IsSoundItem shared at (item.Report r) = IsSoundReport shared (at r.slot) r
  IsSoundItem shared at (item.Ended slot) = Unit {0}
  IsSoundItem shared at (item.Commit commit) = IsSoundCommit shared (at commit.transaction.slot) commit
  IsSoundItem shared at (item.Reply recorded) = IsSoundReply recorded

  -- ---- the active transactions

  -- The reports so far of the phase of the transaction in a slot.
  abbrev pub reported_to : Option (Active J) → List (Report J)
  reported_to None = []
  reported_to (Some (active.Acting first slots)) = reported slots
  reported_to (Some active.Committing) = []
  reported_to (Some (active.Ending left)) = []

  -- Those of all slots.
  abbrev pub reported_to_all : List (Option (Active J)) → List (Report J)
  reported_to_all [] = []
  reported_to_all (a ∷ active) = reported_to a ++ reported_to_all active

  -- The tokens that have to come back before the transaction in this slot goes on.
  abbrev pub awaited : ℕ → Option (Active J) → List Token
  awaited slot None = []
  awaited slot (Some (active.Acting first places)) = map (Acting slot) (awaited_from first places)
  awaited slot (Some active.Committing) = Committing slot ∷ []
  awaited slot (Some (active.Ending left)) = replicate left (Ending slot)

  -- Those of all slots, from this one on.
  abbrev pub awaited_by_all : ℕ → List (Option (Active J)) → List Token
  awaited_by_all slot [] = []
  awaited_by_all slot (a ∷ active) = awaited slot a ++ awaited_by_all (suc slot) active

  -- A phase in flight of the transaction in this slot. Its first place is that after the earlier phases. The request has
  -- reached this progress under their claims, all of which can be undone. Each of its actions has a slot for its report; each
  -- report so far is sound; and some action has not reported.
  pub record IsSoundPhase (shared : SharedTables) (slot : ℕ) (u : ActiveTransaction) (first : ℕ) (slots : List (Option (Report J))) : Type 0 where
    pub first_is : first ≡ length u.held
    pub reached : IsReached shared u.request u.progress u.held
    pub undo : All (AreUndoneBy u.age) u.held
    pub many : length slots ≡ length (works_of u.progress)
    pub reports : (number : ℕ) (r : Report J) → slice_get slots number ≡ Some (Some r) → (r.place ≡ first + number) × ((r.slot ≡ slot) × IsSoundReport shared u r)
    pub awaits : 1 ≤ length (awaited_from 0 slots)

  -- The transaction in a slot is sound, by its state.
  abbrev pub IsSoundActive : SharedTables → ℕ → ActiveTransaction → Option (Active J) → Type 0
  IsSoundActive shared slot u None = Unit {0}
  IsSoundActive shared slot u (Some (active.Acting first places)) = IsSoundPhase shared slot u first places
  IsSoundActive shared slot u (Some active.Committing) = Unit {0}
  IsSoundActive shared slot u (Some (active.Ending left)) = (1 ≤ left) × (left ≤ MOST_ACTIONS)

  -- Each transaction is sound, from this slot on.
  abbrev pub AreSoundActive : SharedTables → ActiveTransactions → ℕ → List (Option (Active J)) → Type 0
  AreSoundActive shared at slot [] = Unit {0}
  AreSoundActive shared at slot (a ∷ active) = IsSoundActive shared slot (at slot) a × AreSoundActive shared at (suc slot) active

  -- Some active transaction has this age.
  abbrev pub IsActiveAt : ActiveTransactions → List (Option (Active J)) → ℕ → Type 0
  IsActiveAt at slots age = (slot : ℕ) × ((a : Active J) × ((slice_get slots slot ≡ Some (Some a)) × (age ≡ (at slot).age)))

  -- Each active transaction has an age below the number admitted, and no two have the same age.
  pub record HaveTheirAges (at : ActiveTransactions) (admitted : ℕ) (slots : List (Option (Active J))) : Type 0 where
    pub before : (slot : ℕ) (a : Active J) → slice_get slots slot ≡ Some (Some a) → (at slot).age < admitted
    pub apart : (slot other : ℕ) (a b : Active J) → slice_get slots slot ≡ Some (Some a) → slice_get slots other ≡ Some (Some b) → (at slot).age ≡ (at other).age → slot ≡ other

  -- ---- the sessions

  -- The session's pass is at the desk.
  abbrev pub is_here : SessionDesk J → Bool
  is_here desk = is_some desk.pass

  -- The session of this number is at its index.
  abbrev pub IsSessionOf : ℕ → SessionDesk J → Type 0
  IsSessionOf number desk = (desk.seat.session ≡ number) × IsPassOf number desk.pass

  -- ---- the world

  -- All that is in flight: messages, items, and reports that have reached their rendezvous.
  abbrev pub flight : Parts J → InFlight
  flight w = join (parts part_message w.inbox) (join (parts part_item w.outbox) (parts part_met (reported_to_all w.desk.active)))

  -- The tokens in flight are exactly those awaited for the active transactions. A session's pass is at the desk exactly while
  -- the session has no transaction without an answer. There are SESSIONS sessions.
  pub record IsBalanced (desk : Desk J) (in_flight : InFlight) : Type 0 where
    pub tokens : WeighAlike in_flight.tokens (awaited_by_all 0 desk.active)
    pub alone : (number : ℕ) (session : SessionDesk J) → slice_get desk.sessions.items number ≡ Some session
        → count_by (is_of number) in_flight.pending + (if is_here session then 1 else 0) ≡ 1
    pub many : length in_flight.pending + count_by is_here desk.sessions.items ≡ SESSIONS

  -- The invariant of a world, with this in hand. There is a slice for each warehouse of the scale, in order, and they share the
  -- items. Everything in flight is sound for the transaction in its slot. There are MOST_ACTIVE slots, and the active transactions
  -- have distinct ages. The claims held in the lock tables are those in flight.
  pub record IsSoundWith (shared : SharedTables) (hand : InFlight) (w : Parts J) : Type 0 where
    pub shared_is : w.catalog ≡ shared
    pub slices : AreSlicesOf w.catalog (slices_in w)
    pub in_flight : ActiveTransactions
    pub inbox : All (IsSoundMessage shared in_flight) w.inbox
    pub outbox : All (IsSoundItem shared in_flight) w.outbox
    pub slots : length w.desk.active ≡ MOST_ACTIVE
    pub active : AreSoundActive shared in_flight 0 w.desk.active
    pub ages : HaveTheirAges in_flight w.desk.admitted w.desk.active
    pub seats : length w.desk.sessions.items ≡ SESSIONS
    pub sessions : (number : ℕ) (session : SessionDesk J) → slice_get w.desk.sessions.items number ≡ Some session → IsSessionOf number session
    pub balance : IsBalanced w.desk (join hand (flight w))
    pub held : AreAllHeld (joined_in w).holdings (join hand (flight w)).claims
