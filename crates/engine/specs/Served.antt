-- A session that asks a script, and its answers.
use Rattle.std.specs.Prelude.{◌≡◌, ℕ, ◌<◌, List, length, Some, Result, Ok, Err, Contains}
use Rattle.std.specs.List.{slice_get}
use Rattle.requests.specs.declared.reply.Reply.{Reply}
use Rattle.requests.specs.declared.refusal.Refusal.{Refusal}
use Rattle.requests.specs.declared.script.Part.{Part}
use Rattle.requests.specs.Check.{check_of}
use Rattle.requests.specs.Script.{part}
use Rattle.commit_log.specs.declared.mine.Item.{Item}
use Rattle.commit_log.specs.declared.entry.Entry.{Entry}
use Rattle.commit_log.specs.Items.{item, items_of}
use Rattle.engine.specs.Rules.{Rules}
use Rattle.engine.specs.Outcome.{IsRefusal}

-- What an answer to a part of a script means when the session has logged `mine` and has seen the log reach this many entries. A
-- place: the check accepts the part's request, and it is logged there with the part's number. A refusal: the request may be refused
-- for this reason.
abbrev pub IsAnswerTo : Rules → ℕ → List Item → Part → Result ℕ Refusal → Type 0
IsAnswerTo rules reached mine asked (Ok place) = (check_of rules.scale asked.request ≡ Ok tt) × (reply : Reply) × Contains mine (item place asked.number asked.request reply)
IsAnswerTo rules reached mine asked (Err refusal) = IsRefusal rules reached asked.request refusal

-- A session was asked this script from its beginning and has these answers; `mine` is all that it has logged.
pub record Served (rules : Rules) (script : List Part) (answers : List (Result ℕ Refusal)) (mine : List Item) (reached : ℕ) : Type 0 where
  -- every part has one answer
  pub answered : length answers ≡ length script
  -- each answer is the result of its part
  pub each : (k : ℕ) (asked : Part) (answer : Result ℕ Refusal) → slice_get script k ≡ Some asked → slice_get answers k ≡ Some answer → IsAnswerTo rules reached mine asked answer
  -- whatever it has logged is a part that was answered with its place
  pub logged : (x : Item) → Contains mine x → (k : ℕ) × (slice_get script k ≡ Some (part x.number x.request)) × (slice_get answers k ≡ Some (Ok x.place))
  -- and the places ascend
  pub ascending : (j k place later : ℕ) → j < k → slice_get answers j ≡ Some (Ok place) → slice_get answers k ≡ Some (Ok later) → place < later

-- this session was asked this script and has these answers, and it has logged exactly its entries in the log
abbrev pub ServedIn : Rules → ℕ → List Entry → List Part → List (Result ℕ Refusal) → Type 0
ServedIn rules session entries script answers = Served rules script answers (items_of session entries) (length entries)

-- each script has these answers, and its session has logged exactly its entries in the log
abbrev pub ServedEach : Rules → List (List Part) → List Entry → List (List (Result ℕ Refusal)) → Type 0
ServedEach rules scripts entries answers =
    (s : ℕ) (script : List Part) (recorded : List (Result ℕ Refusal)) → slice_get scripts s ≡ Some script → slice_get answers s ≡ Some recorded
    → ServedIn rules s entries script recorded
