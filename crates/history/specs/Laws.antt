-- How each event changes a history that fits.
use Rattle.std.specs.Prelude.{◌≡◌, ℕ, ◌+◌, List, [], ◌∷◌, ◌++◌, length, Some, None, Result, Ok, Err, count_by}
use Rattle.std.specs.List.Sorted.{IsPermutation}
use Rattle.schema.specs.Database.{Database}
use Rattle.schema.specs.Consistency.{Consistent}
use Rattle.requests.specs.declared.request.Request.{Request}
use Rattle.requests.specs.declared.refusal.Refusal.{Refusal}
use Rattle.machine.specs.Machine.{transaction}
use Rattle.commit_log.specs.declared.entry.Entry.{Entry}
use Rattle.history.specs.declared.event.Event.{Event}
use Rattle.history.specs.declared.event.Event.TheVariants.{Submit, Send}
use Rattle.history.specs.declared.event.EventAnswer.{EventAnswer}
use Rattle.history.specs.declared.event.EventAnswer.TheVariants.{Accepted, Ordered, Took, Sent, Full, Logged, Moved, Answered, Nothing}
use Rattle.history.specs.History.{Step, step, UnansweredTransaction, is_of}
use Rattle.history.specs.Fits.{Fits}

-- before any event, consistent tables and an empty log fit, without a transaction
abbrev pub EmptyHistoryFits : Type 0
EmptyHistoryFits = (opening : Database) → Consistent opening → Fits opening [] [] opening 0 []

-- the order in which the transactions without an answer are listed is irrelevant
abbrev pub UnansweredInAnyOrder : Type 0
UnansweredInAnyOrder =
    (opening : Database) (history : List Step) (log : List Entry) (tables : Database) (admitted : ℕ) (pending other : List UnansweredTransaction)
    → IsPermutation pending other → Fits opening history log tables admitted pending → Fits opening history log tables admitted other

-- An event with this answer concerns no transaction. Moves change no transaction, and an answer to a submission is a
-- refusal: the request is never admitted.
abbrev pub IsQuiet : Event → EventAnswer → Type 0
IsQuiet event Ordered = Unit {0}
IsQuiet event Took = Unit {0}
IsQuiet event Sent = Unit {0}
IsQuiet event Full = Unit {0}
IsQuiet event Moved = Unit {0}
IsQuiet event Nothing = Unit {0}
IsQuiet (Submit session number request) (Answered other n (Err refusal)) = Unit {0}
IsQuiet event answer = ⊥

-- after an event that concerns no transaction, a history that fits still fits
abbrev pub QuietEventFits : Type 0
QuietEventFits =
    (opening : Database) (history : List Step) (log : List Entry) (tables : Database) (admitted : ℕ) (pending : List UnansweredTransaction)
    (event : Event) (answer : EventAnswer)
    → IsQuiet event answer → Fits opening history log tables admitted pending
    → Fits opening (history ++ step event answer ∷ []) log tables admitted pending

-- a transaction just admitted
abbrev pub new_one : ℕ → ℕ → ℕ → Request → UnansweredTransaction
new_one age session number request = record { age = age; session = session; number = number; request = request; entry = None }

-- after an admission of a session without an unanswered transaction, there is one more transaction
abbrev pub AdmissionFits : Type 0
AdmissionFits =
    (opening : Database) (history : List Step) (log : List Entry) (tables : Database) (admitted : ℕ) (pending : List UnansweredTransaction)
    (session number : ℕ) (request : Request)
    → count_by (is_of session) pending ≡ 0 → Fits opening history log tables admitted pending
    → Fits opening (history ++ step (Submit session number request) (Accepted admitted) ∷ []) log tables (admitted + 1)
    (new_one admitted session number request ∷ pending)

-- the transaction after an entry at this place
abbrev pub with_place : ℕ → UnansweredTransaction → UnansweredTransaction
with_place place u = record { age = u.age; session = u.session; number = u.number; request = u.request; entry = Some place }

-- the entry is the transaction's, which had none before, with the machine's reply from these tables
pub record IsEntryOf (u : UnansweredTransaction) (tables : Database) (entry : Entry) : Type 0 where
  pub session : entry.session ≡ u.session
  pub number : entry.number ≡ u.number
  pub request : entry.request ≡ u.request
  pub reply : entry.reply ≡ (transaction tables entry.request).reply
  pub none : u.entry ≡ None

-- After an entry at the end of the log, of a transaction without an answer and with the machine's reply, the tables are
-- the machine's next.
abbrev pub EntryFits : Type 0
EntryFits =
    (opening : Database) (history : List Step) (log : List Entry) (tables : Database) (admitted : ℕ) (pending : List UnansweredTransaction)
    (executor : ℕ) (u : UnansweredTransaction) (entry : Entry)
    → IsEntryOf u tables entry → Fits opening history log tables admitted (u ∷ pending)
    → Fits opening (history ++ step (Send executor) (Logged (length log)) ∷ []) (log ++ entry ∷ []) (transaction tables entry.request).tables admitted
    (with_place (length log) u ∷ pending)

-- the answer is the transaction's: the place of its entry, or a refusal if it has none
abbrev pub IsAnswerTo : UnansweredTransaction → Result ℕ Refusal → Type 0
IsAnswerTo u (Ok place) = u.entry ≡ Some place
IsAnswerTo u (Err refusal) = u.entry ≡ None

-- after an answer with the place of its entry, or a refusal if it has none, the transaction is no longer among those
-- without an answer
abbrev pub AnswerFits : Type 0
AnswerFits =
    (opening : Database) (history : List Step) (log : List Entry) (tables : Database) (admitted : ℕ) (pending : List UnansweredTransaction)
    (executor : ℕ) (u : UnansweredTransaction) (answer : Result ℕ Refusal)
    → IsAnswerTo u answer → Fits opening history log tables admitted (u ∷ pending)
    → Fits opening (history ++ step (Send executor) (Answered u.session u.number answer) ∷ []) log tables admitted pending
