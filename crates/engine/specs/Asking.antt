-- A session that asks one request after another, interactively or by a script.
use Rattle.std.specs.Prelude.{◌≡◌, ℕ, ◌<◌, ◌≤◌, Bool, true, false, List, take, length, Some, Result, Ok, Err, if◌then◌else◌}
use Rattle.std.specs.List.{slice_get}
use Rattle.requests.specs.declared.refusal.Refusal.{Refusal}
use Rattle.requests.specs.declared.refusal.Refusal.TheVariants.{LogFull}
use Rattle.requests.specs.declared.script.Part.{Part}
use Rattle.requests.specs.Check.{check_of}
use Rattle.requests.specs.Script.{part}
use Rattle.commit_log.specs.PassView.{PassView, SessionSeatView}
use Rattle.engine.specs.Rules.{Rules}
use Rattle.engine.specs.Outcome.{IsRefusal}
use Rattle.engine.specs.Served.{Served}

-- the session has seen every place that was answered
abbrev pub HasSeen : ℕ → List (Result ℕ Refusal) → Type 0
HasSeen seen answers = (k place : ℕ) → slice_get answers k ≡ Some (Ok place) → place < seen

-- whether an answer is LogFull
abbrev pub says_full : Result ℕ Refusal → Bool
says_full (Err LogFull) = true
says_full _ = false

-- how far the session's pass has to record that the log has reached: only if the log was full for it
abbrev pub known_of : Bool → ℕ → ℕ
known_of is_full reached = if is_full then reached else 0

-- What contracts see of a session none of whose requests is in flight: the parts that it asks, its seat, its pass, the answers
-- so far, whether the log was full for it, and whether it has found the engine closed.
pub record ReadyView : Type 0 where
  pub script : List Part
  pub seat : SessionSeatView
  pub pass : PassView
  pub answers : List (Result ℕ Refusal)
  pub is_full : Bool
  pub is_closed : Bool

-- a session that has not found the engine closed
abbrev pub ready_view : List Part → SessionSeatView → PassView → List (Result ℕ Refusal) → Bool → ReadyView
ready_view script seat pass answers is_full = record { script = script; seat = seat; pass = pass; answers = answers; is_full = is_full; is_closed = false }

-- A session that has its pass. It was asked exactly these parts, and each answer is the result of its part.
pub record IsResting (rules : Rules) (s : ReadyView) : Type 0 where
  pub seat_is : s.seat.session ≡ s.pass.session
  pub served : Served rules s.script s.answers s.pass.mine (known_of s.is_full s.pass.reached)
  pub has_seen : HasSeen s.pass.seen s.answers
  pub full : s.is_full ≡ true → rules.most ≤ s.pass.reached

-- what contracts see of a session whose next request is in flight
pub record AskedView : Type 0 where
  pub script : List Part
  pub seat : SessionSeatView
  pub answers : List (Result ℕ Refusal)

abbrev pub asked_view : List Part → SessionSeatView → List (Result ℕ Refusal) → AskedView
asked_view script seat answers = record { script = script; seat = seat; answers = answers }

-- A session whose pass goes with its request: its seat records the number and the request of the part that it asks, and what the
-- pass was then. Before, it was asked exactly these parts, and each answer is the result of its part.
pub record IsAway (rules : Rules) (s : AskedView) : Type 0 where
  pub served : Served rules s.script s.answers s.seat.asking.mine 0
  pub has_seen : HasSeen s.seat.asking.seen s.answers
  pub accepted : check_of rules.scale s.seat.asking.request ≡ Ok tt

-- ---- a session that has a script

-- the parts of a script that have these answers
abbrev pub asked_of : List Part → List (Result ℕ Refusal) → List Part
asked_of script answers = take (length answers) script

-- It was asked the first parts of its script. There is capacity for all answers.
pub record IsReady (rules : Rules) (scripts : List (List Part)) (s : ReadyView) (room : ℕ) : Type 0 where
  pub script_is : slice_get scripts s.pass.session ≡ Some s.script
  pub few : length s.answers ≤ length s.script
  pub so_far : IsResting rules (ready_view (asked_of s.script s.answers) s.seat s.pass s.answers s.is_full)
  pub room_is : length s.script ≤ room

-- The next part of its script is in flight.
pub record IsAsked (rules : Rules) (scripts : List (List Part)) (s : AskedView) (room : ℕ) : Type 0 where
  pub script_is : slice_get scripts s.seat.session ≡ Some s.script
  pub next : slice_get s.script (length s.answers) ≡ Some (part s.seat.asking.number s.seat.asking.request)
  pub so_far : IsAway rules (asked_view (asked_of s.script s.answers) s.seat s.answers)
  pub room_is : length s.script ≤ room

-- the session's next part may be refused for this reason
abbrev pub IsRefusedNext : Rules → ReadyView → Refusal → Type 0
IsRefusedNext rules s why =
    (asked : Part) × (slice_get s.script (length s.answers) ≡ Some asked) × IsRefusal rules (known_of s.is_full s.pass.reached) asked.request why
