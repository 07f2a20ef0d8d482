-- A session that asks interactively: its caller has every answer, and what it proves.
use Rattle.std.specs.Prelude.{◌≡◌, ◌⊎◌, ℕ, ◌+◌, ◌<◌, ◌≤◌, true, false, List, [], ◌∷◌, ◌++◌, length, map, Result, Ok, Err}
use Rattle.requests.specs.declared.request.Request.{Request}
use Rattle.requests.specs.declared.script.Part.{Part}
use Rattle.requests.specs.declared.reply.Reply.{Reply}
use Rattle.requests.specs.declared.refusal.Refusal.{Refusal}
use Rattle.requests.specs.declared.refusal.Refusal.TheVariants.{Closed}
use Rattle.requests.specs.Check.{check_of}
use Rattle.requests.specs.Script.{AreNumberedByPlace, part}
use Rattle.commit_log.specs.Items.{item}
use Rattle.commit_log.specs.PassView.{PassView, having_met}
use Rattle.engine.specs.Rules.{Rules}
use Rattle.engine.specs.Asking.{IsAway, IsResting, ReadyView, AskedView}
use Rattle.engine.specs.Outcome.{IsRefusal}
use Rattle.engine.specs.declared.session.AskFault.{AskFault}
use Rattle.engine.specs.declared.session.AskFault.TheVariants.{Lost, NoMemory, Stopped}
use Rattle.engine.specs.declared.session.Left.{Left}

-- The result of a request; its number is how many the session asked before. Either it was carried out: its entry is behind all that
-- the session had seen, the session has logged this one more, and it has seen the log up to there. Or it was refused, for a reason
-- that IsRefusal permits: the session has logged and seen what it had.
abbrev pub Came : Rules → ReadyView → Request → PassView → Result ℕ Refusal → Type 0
Came rules before request after (Ok place) =
    (check_of rules.scale request ≡ Ok tt) × (before.pass.seen ≤ place) × (after.seen ≡ place + 1)
    × (reply : Reply) × (after.mine ≡ before.pass.mine ++ item place (length before.script) request reply ∷ [])
Came rules before request after (Err why) =
    (after.seen ≡ before.pass.seen) × (after.mine ≡ before.pass.mine) × IsRefusal rules after.reached request why

-- The session has asked this request, whose number is how many it asked before, and has had this answer. It has not found the
-- engine closed.
pub record HasAsked (rules : Rules) (before : ReadyView) (request : Request) (after : ReadyView) (answer : Result ℕ Refusal) : Type 0 where
  pub was_open : before.is_closed ≡ false
  pub is_open : after.is_closed ≡ false
  pub session_is : after.pass.session ≡ before.pass.session
  pub noted : after.script ≡ before.script ++ part (length before.script) request ∷ []
  pub answered : after.answers ≡ before.answers ++ answer ∷ []
  pub came : Came rules before request after.pass answer

-- the session, which has found the engine closed
abbrev pub finding_closed : ReadyView → ReadyView
finding_closed s = record s { is_closed = true }

-- The session has found the engine closed, now or before: the request is refused with Closed, and nothing else of the session is
-- changed. Or it has not: it has asked the request and has had this answer. A session can find an engine closed only after
-- `Engine::close`: it has a token then that only a closed word gives.
abbrev pub Asks : Rules → ReadyView → Request → ReadyView → Result ℕ Refusal → Type 0
Asks rules before request after answer = ((answer ≡ Err Closed) × (after ≡ finding_closed before)) ⊎ HasAsked rules before request after answer

-- the session has met another; only what it has seen is changed
pub record HasMet (before other after : ReadyView) : Type 0 where
  pub pass_is : after.pass ≡ having_met before.pass other.pass
  pub noted : after.script ≡ before.script
  pub answered : after.answers ≡ before.answers
  pub closed : after.is_closed ≡ before.is_closed

-- the session comes back unchanged, or is lost
abbrev pub IsBackIn : {J : Type 0} → ReadyView → AskFault J → Type 0
IsBackIn before (NoMemory session) = session ≡ before
IsBackIn before (Stopped session) = session ≡ before
IsBackIn before Lost = Unit

-- the session has asked nothing yet
pub record HasAskedNothing (s : ReadyView) : Type 0 where
  pub script : s.script ≡ []
  pub answers : s.answers ≡ []

module _ {J : Type 0} where
  -- what each of these sessions has asked
  abbrev pub asked_by : List (Left J) → List (List Part)
  asked_by left = map (λ one. one.session.script) left

  -- and its answers
  abbrev pub recorded_by : List (Left J) → List (List (Result ℕ Refusal))
  recorded_by left = map (λ one. one.session.answers) left

-- a session that has its pass, and has numbered what it asked by the places
pub record IsAtRest (rules : Rules) (s : ReadyView) : Type 0 where
  pub resting : IsResting rules s
  pub numbered : AreNumberedByPlace s.script

-- ---- the state of a request that the session asks

-- a session and its next request
pub record AskerView : Type 0 where
  pub before : ReadyView
  pub request : Request

abbrev pub asker_view : ReadyView → Request → AskerView
asker_view before request = record { before = before; request = request }

-- the next request has this number, and there is capacity to keep it and its answer
pub record IsCalling (rules : Rules) (s : ReadyView) (number room_to_ask room_to_answer : ℕ) : Type 0 where
  pub before : IsAtRest rules s
  pub number_is : number ≡ length s.answers
  pub can_keep : length s.script < room_to_ask
  pub can_answer : length s.answers < room_to_answer

-- this part is in flight, with the next number, and there is capacity to keep it and its answer
pub record IsCalled (rules : Rules) (s : AskedView) (asked : Part) (room_to_ask room_to_answer : ℕ) : Type 0 where
  pub so_far : IsAway rules s
  pub numbered : AreNumberedByPlace s.script
  pub number_is : s.seat.asking.number ≡ length s.answers
  pub asked_is : part s.seat.asking.number s.seat.asking.request ≡ asked
  pub can_keep : length s.script < room_to_ask
  pub can_answer : length s.answers < room_to_answer
