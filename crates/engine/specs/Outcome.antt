-- The outcome of serving scripts of requests.
use Rattle.std.specs.Prelude.{◌≡◌, ◌⊎◌, ℕ, ◌<◌, ◌≤◌, List, length, Option, Some, Result, Ok, Err}
use Rattle.std.specs.List.{slice_get}
use Rattle.std.specs.Option.{option_map, option_and_then}
use Rattle.schema.specs.Database.{Database}
use Rattle.requests.specs.declared.request.Request.{Request}
use Rattle.requests.specs.declared.reply.Reply.{Reply}
use Rattle.requests.specs.declared.refusal.Refusal.{Refusal}
use Rattle.requests.specs.declared.script.Part.{Part}
use Rattle.requests.specs.Check.{check_of}
use Rattle.requests.specs.Script.{part}
use Rattle.commit_log.specs.declared.entry.Entry.{Entry}
use Rattle.commit_log.specs.Items.{entry_of}
use Rattle.commit_log.specs.Log.{IsLegal}
use Rattle.executor.specs.Answers.{MayBeRefused}
use Rattle.engine.specs.Rules.{Rules, rules_of}
use Rattle.engine.specs.declared.outcome.Outcome.{Outcome}

-- the item at place k of list s
abbrev pub item_at : {X : Type 0} → List (List X) → ℕ → ℕ → Option X
item_at lists s k = option_and_then (λ list. slice_get list k) (slice_get lists s)

-- If the check refuses the request, it is refused for that reason. Else, when the log has this many entries, it may be refused
-- since it died on a group of its footprint, since an allocation failed, or since these are the most that the log may have.
abbrev pub IsRefusal : Rules → ℕ → Request → Refusal → Type 0
IsRefusal rules entries request refusal =
    (check_of rules.scale request ≡ Err refusal) ⊎ ((check_of rules.scale request ≡ Ok tt) × MayBeRefused rules.most entries request refusal)

-- The log may have at most `most` entries. Script s is session s. The answer at place k of a script is that to its part k: the place
-- of its entry, with its reply, in the log, or why it was refused.
pub record IsOutcome (opening : Database) (most : ℕ) (scripts : List (List Part)) (log : List Entry) (last : Database) (answers : List (List (Result ℕ Refusal))) : Type 0 where
  -- the log's replies are those of a machine from the opening, and the tables are the machine's last
  pub legal : IsLegal opening log last
  -- the log has no more entries than it may have
  pub few : length log ≤ most
  -- every part has one answer
  pub answered : (s : ℕ) → option_map length (slice_get answers s) ≡ option_map length (slice_get scripts s)
  -- an entry is at each place that is an answer, and it is the part's, with its number and its request
  pub done : (s k place : ℕ) → item_at answers s k ≡ Some (Ok place)
      → (asked : Part) × (item_at scripts s k ≡ Some asked) × (reply : Reply) × (slice_get log place ≡ Some (entry_of s asked.number asked.request reply))
  -- and the place of every entry is the answer to a part of its session's script that has its number and its request
  pub logged : (place : ℕ) (entry : Entry) → slice_get log place ≡ Some entry
      → (k : ℕ) × (item_at scripts entry.session k ≡ Some (part entry.number entry.request)) × (item_at answers entry.session k ≡ Some (Ok place))
  -- the places of one script ascend
  pub ascending : (s j k place later : ℕ) → j < k → item_at answers s j ≡ Some (Ok place) → item_at answers s k ≡ Some (Ok later) → place < later
  pub refused : (s k : ℕ) (asked : Part) (refusal : Refusal) → item_at scripts s k ≡ Some asked → item_at answers s k ≡ Some (Err refusal) → IsRefusal (rules_of opening most) (length log) asked.request refusal
  pub checked : (s k : ℕ) (asked : Part) (refusal : Refusal) → item_at scripts s k ≡ Some asked → check_of opening.scale asked.request ≡ Err refusal → item_at answers s k ≡ Some (Err refusal)

-- the log, the last tables and the answers of this outcome are one of serving these scripts, with a log of so many entries at most
abbrev pub IsOutcomeOf : Database → ℕ → List (List Part) → Outcome → Type 0
IsOutcomeOf opening most scripts outcome = IsOutcome opening most scripts outcome.log.items outcome.tables outcome.answers.items
