-- The transactions that follow from a list of events with their answers.
use Rattle.std.specs.Prelude.{◌≡◌, ℕ, ◌+◌, ◌<◌, ◌==◌, ◌&&◌, Bool, if◌then◌else◌, List, [], ◌∷◌, ◌++◌, map, length, count_by, Option, Some, None, is_none, Result, Ok, Err}
use Rattle.std.specs.List.{All, slice_get, sum_by, filter}
use Rattle.requests.specs.declared.request.Request.{Request}
use Rattle.requests.specs.declared.refusal.Refusal.{Refusal}
use Rattle.commit_log.specs.declared.entry.Entry.{Entry}
use Rattle.history.specs.declared.event.Event.{Event}
use Rattle.history.specs.declared.event.Event.TheVariants.{Submit, Send}
use Rattle.history.specs.declared.event.EventAnswer.{EventAnswer}
use Rattle.history.specs.declared.event.EventAnswer.TheVariants.{Accepted, Logged, Answered}

-- an event with its answer; a history is a list of them
pub record Step : Type 0 where
  pub event : Event
  pub answer : EventAnswer

-- an event with this answer
abbrev pub step : Event → EventAnswer → Step
step event answer = record { event = event; answer = answer }

-- ---- transactions

-- The answer to a transaction: the place in the history of the event that answered it, and the place of its log entry
-- or the reason for its refusal.
pub record Acknowledgement : Type 0 where
  pub at : ℕ
  pub answer : Result ℕ Refusal

-- A transaction of a history: its age, its session, its request, the place in the history of the event that opened it,
-- the places of its log entries, and its answer.
pub record Transaction : Type 0 where
  pub age : ℕ
  pub session : ℕ
  pub number : ℕ
  pub request : Request
  pub submitted : ℕ
  pub entries : List ℕ
  pub recorded : Option Acknowledgement

-- a transaction just admitted, without an entry and without an answer
abbrev pub opened : ℕ → ℕ → ℕ → Request → ℕ → Transaction
opened age session number request at = record {
  age = age;
  session = session;
  number = number;
  request = request;
  submitted = at;
  entries = [];
  recorded = None;
}

-- the transaction is of this session and has no answer yet
abbrev pub is_open : ℕ → Transaction → Bool
is_open session t = t.session == session && is_none t.recorded

-- the transaction after an entry at this place, which belongs to the open transaction of the session
abbrev pub with_entry : ℕ → ℕ → Transaction → Transaction
with_entry session place t = record t { entries = if is_open session t then t.entries ++ place ∷ [] else t.entries }

-- the transaction after this answer, which belongs to the open transaction of the session
abbrev pub with_answer : ℕ → ℕ → Result ℕ Refusal → Transaction → Transaction
with_answer session at answer t = record t { recorded = if is_open session t then Some (record { at = at; answer = answer }) else t.recorded }

-- the transactions after the log's entry at this place, if there is one; it belongs to the open transaction of its
-- session
abbrev pub noted_entry : Option Entry → ℕ → List Transaction → List Transaction
noted_entry None place ts = ts
noted_entry (Some entry) place ts = map (with_entry entry.session place) ts

-- The transactions after one more event, which is at this place in the history. An accepted submission opens a
-- transaction. An entry belongs to the open transaction of its session. An answer that is sent belongs to the session's
-- open transaction.
abbrev pub noted : List Entry → ℕ → Event → EventAnswer → List Transaction → List Transaction
noted log at (Submit session number request) (Accepted age) ts = ts ++ opened age session number request at ∷ []
noted log at (Send executor) (Logged place) ts = noted_entry (slice_get log place) place ts
noted log at (Send executor) (Answered session number answer) ts = map (with_answer session at answer) ts
noted log at event answer ts = ts

-- the transactions after these events, the first of which is at this place in the history
abbrev pub noted_all : List Entry → ℕ → List Step → List Transaction → List Transaction
noted_all log at [] ts = ts
noted_all log at (s ∷ history) ts = noted_all log (at + 1) history (noted log at s.event s.answer ts)

-- the transactions of a history, in the order in which they were admitted
abbrev pub transactions : List Entry → List Step → List Transaction
transactions log history = noted_all log 0 history []

-- ---- each transaction is whole

-- the entry at this place has the session, the number and the request of the transaction
abbrev pub HasEntry : List Entry → Transaction → ℕ → Type 0
HasEntry log t place =
    (entry : Entry) × ((slice_get log place ≡ Some entry) × ((entry.session ≡ t.session) × ((entry.number ≡ t.number) × (entry.request ≡ t.request))))

-- the transaction has at most one place; the entry there has its session, number and request
abbrev pub HasEntries : List Entry → Transaction → List ℕ → Type 0
HasEntries log t [] = Unit {0}
HasEntries log t (place ∷ []) = HasEntry log t place
HasEntries log t (place ∷ other ∷ places) = ⊥

-- an answered transaction has exactly the entry at the place in the answer; a refused one has none
abbrev pub IsAnswerOf : List ℕ → Result ℕ Refusal → Type 0
IsAnswerOf entries (Ok place) = entries ≡ place ∷ []
IsAnswerOf entries (Err refusal) = entries ≡ []

-- if a transaction has an answer, its entries are those that the answer requires
abbrev pub IsRecorded : List ℕ → Option Acknowledgement → Type 0
IsRecorded entries None = Unit {0}
IsRecorded entries (Some recorded) = IsAnswerOf entries recorded.answer

-- the number of times that a transaction has the entry at this place
abbrev pub holds : ℕ → Transaction → ℕ
holds place t = count_by (λ p. p == place) t.entries

-- Each entry belongs to exactly one transaction, each transaction has at most one entry, and its answer matches that
-- entry.
pub record Whole (log : List Entry) (ts : List Transaction) : Type 0 where
  pub entries : All (λ t. HasEntries log t t.entries) ts
  pub recorded : All (λ t. IsRecorded t.entries t.recorded) ts
  pub once : (place : ℕ) → place < length log → sum_by (holds place) ts ≡ 1

-- ---- the order of answers is the order of the log

-- each of these places is before each of those
abbrev pub Precedes : List ℕ → List ℕ → Type 0
Precedes xs ys = All (λ x. All (λ y. x < y) ys) xs

-- if this transaction was answered before the other was submitted, its entry is before the other's
abbrev pub InOrder : Option Acknowledgement → List ℕ → Transaction → Type 0
InOrder None entries b = Unit {0}
InOrder (Some recorded) entries b = recorded.at < b.submitted → Precedes entries b.entries

-- a transaction that was answered before another was submitted is before it in the log
abbrev pub InLogOrder : List Transaction → Type 0
InLogOrder ts = All (λ a. All (λ b. InOrder a.recorded a.entries b) ts) ts

-- ---- ages, and transactions without an answer

-- each transaction's age is the number of those admitted before it
abbrev pub AgesFrom : ℕ → List Transaction → Type 0
AgesFrom age [] = Unit {0}
AgesFrom age (t ∷ ts) = (t.age ≡ age) × AgesFrom (age + 1) ts

-- a transaction without an answer: its age, its session, its request, and the place of its entry, if there is one
pub record UnansweredTransaction : Type 0 where
  pub age : ℕ
  pub session : ℕ
  pub number : ℕ
  pub request : Request
  pub entry : Option ℕ

-- the first of these places, if there is one
abbrev pub first_of : List ℕ → Option ℕ
first_of [] = None
first_of (place ∷ places) = Some place

-- the transaction, as one without an answer
abbrev pub unanswered : Transaction → UnansweredTransaction
unanswered t = record { age = t.age; session = t.session; number = t.number; request = t.request; entry = first_of t.entries }

-- the session's transactions without an answer
abbrev pub unanswered_of : ℕ → List Transaction → List UnansweredTransaction
unanswered_of session ts = map unanswered (filter (is_open session) ts)

-- the transaction is of this session
abbrev pub is_of : ℕ → UnansweredTransaction → Bool
is_of session u = u.session == session

-- for each session, these are its transactions without an answer
abbrev pub AreUnanswered : List UnansweredTransaction → List Transaction → Type 0
AreUnanswered pending ts = (session : ℕ) → unanswered_of session ts ≡ filter (is_of session) pending

-- no session has two of them
abbrev pub AreOfDifferentSessions : List UnansweredTransaction → Type 0
AreOfDifferentSessions us = (session : ℕ) → count_by (is_of session) us < 2
