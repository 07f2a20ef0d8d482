-- When a history fits an opening, a log, the committed tables, and the transactions in flight.
use Rattle.std.specs.Prelude.{◌≡◌, ℕ, ◌<◌, List, length, take, IfOk}
use Rattle.std.specs.List.{All}
use Rattle.schema.specs.Database.{Database}
use Rattle.schema.specs.Consistency.{Consistent}
use Rattle.machine.specs.Machine.{tables_after}
use Rattle.commit_log.specs.declared.entry.Entry.{Entry}
use Rattle.commit_log.specs.Log.{requests_of, IsLegal}
use Rattle.history.specs.declared.event.EventAnswer.{EventAnswer}
use Rattle.history.specs.declared.event.EventAnswer.TheVariants.{Logged, Answered}
use Rattle.history.specs.History.{Step, Transaction, UnansweredTransaction, Whole, InLogOrder, AgesFrom, AreOfDifferentSessions, AreUnanswered, transactions}

-- if the answer contains a place of the log, that place has an entry
abbrev pub IsLoggedBelow : ℕ → EventAnswer → Type 0
IsLoggedBelow n (Logged place) = place < n
IsLoggedBelow n (Answered session number answer) = IfOk answer (λ place. place < n)
IsLoggedBelow n answer = Unit {0}

-- each answer that contains a place of the log refers to one of its entries
abbrev pub NamesEntries : List Entry → List Step → Type 0
NamesEntries log history = All (λ s. IsLoggedBelow (length log) s.answer) history

-- The properties of the transactions of `n` events.
pub record Recorded (log : List Entry) (n : ℕ) (ts : List Transaction) (admitted : ℕ) (pending : List UnansweredTransaction) : Type 0 where
  pub whole : Whole log ts
  pub order : InLogOrder ts
  pub ages : AgesFrom 0 ts
  -- the number of admitted transactions
  pub count : admitted ≡ length ts
  pub unanswered : AreUnanswered pending ts
  pub apart : AreOfDifferentSessions pending
  pub submitted : All (λ t. t.submitted < n) ts

-- A history fits. The log's replies are those of a machine that carries out its requests one at a time, in log order,
-- from the opening, and the committed tables are the machine's last. The tables are consistent after every beginning of
-- the log. Each transaction is whole, and a transaction that was answered before another was submitted is logged before
-- it. `admitted` transactions were admitted, and `pending` are those without an answer.
pub record Fits (opening : Database) (history : List Step) (log : List Entry) (tables : Database) (admitted : ℕ) (pending : List UnansweredTransaction) : Type 0 where
  pub legal : IsLegal opening log tables
  pub consistent : (n : ℕ) → Consistent (tables_after opening (requests_of (take n log)))
  pub recorded : Recorded log (length history) (transactions log history) admitted pending
  pub named : NamesEntries log history
