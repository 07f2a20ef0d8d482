-- What an answer contains, and which claims go back with it.
use Rattle.std.specs.Prelude.{◌≡◌, ◌≤◌, ◌+◌, ℕ, Bool, true, false, List, [], ◌∷◌, ◌++◌, All, Contains, Result, Ok, Err}
use Rattle.requests.specs.declared.request.Request.{Request}
use Rattle.requests.specs.declared.reply.Reply.{Reply}
use Rattle.requests.specs.declared.refusal.Refusal.{Refusal}
use Rattle.requests.specs.declared.refusal.Refusal.TheVariants.{Died, NoMemory, LogFull}
use Rattle.groups.specs.Footprint.{footprint, groups_of}
use Rattle.tickets.specs.Claims.{ClaimView}
use Rattle.commit_log.specs.declared.asking.Asking.{Asking}
use Rattle.commit_log.specs.Items.{item}
use Rattle.commit_log.specs.PassView.{PassView}
use Rattle.executor.specs.AgreedPhases.{PhaseOwnerView}
use Rattle.transactions.specs.Acting.{CanAllBeSettled, CanAllBeUndone}

-- ---- the answer

-- an answer: the transaction's age, the number of the request, the session's pass, and the place of the
-- transaction's entry in the log, or why it was refused
pub record AnswerView : Type 0 where
  pub age : ℕ
  pub number : ℕ
  pub pass : PassView
  pub answer : Result ℕ Refusal

abbrev pub answer_view : ℕ → ℕ → PassView → Result ℕ Refusal → AnswerView
answer_view age number pass answer = record { age = age; number = number; pass = pass; answer = answer }

-- A request in flight may be refused for this reason, when the log has at most `most` entries and the pass has seen it reach
-- `entries`: an allocation failed; or these are the most; or an action died on a group of the request's footprint, whoever holds it. It may be
-- refused for nothing else.
abbrev pub MayBeRefused : ℕ → ℕ → Request → Refusal → Type 0
MayBeRefused most entries request NoMemory = Unit {0}
MayBeRefused most entries request LogFull = most ≤ entries
MayBeRefused most entries request (Died group holder) = Contains (groups_of (footprint request)) group
MayBeRefused most entries request _ = ⊥

-- The pass has seen and logged what it had when the session asked, and the answer: an entry behind all that it had seen; or, for
-- a refusal, nothing more, and the request may be refused for this reason.
abbrev pub IsRecordedBy : ℕ → Asking → PassView → Result ℕ Refusal → Type 0
IsRecordedBy most asks pass (Ok place) =
    (asks.seen ≤ place) × (pass.seen ≡ place + 1) × (shown : Reply) × (pass.mine ≡ asks.mine ++ item place asks.number asks.request shown ∷ [])
IsRecordedBy most asks pass (Err why) = (pass.seen ≡ asks.seen) × (pass.mine ≡ asks.mine) × MayBeRefused most pass.reached asks.request why

-- an answer is to the request that its session asked with the pass, and the pass records it
pub record CarriesAnswer (most : ℕ) (t : AnswerView) : Type 0 where
  pub number_is : t.pass.asks.number ≡ t.number
  pub recorded : IsRecordedBy most t.pass.asks t.pass t.answer

-- ---- what goes back

-- the claims of a finished transaction that are to give back: its slot, whether they are settled, and the claims of each action
pub record ReturnsView : Type 0 where
  pub slot : ℕ
  pub settle : Bool
  pub held : List (List ClaimView)

abbrev pub returns_view : ℕ → Bool → List (List ClaimView) → ReturnsView
returns_view slot settle held = record { slot = slot; settle = settle; held = held }

-- if they are settled, what the claims of this action left is committed; else all that was done under them can be undone
abbrev pub IsGiven : Bool → List ClaimView → Type 0
IsGiven true claims = CanAllBeSettled claims
IsGiven false claims = CanAllBeUndone claims

-- so for the claims of all actions
abbrev pub AreGiven : Bool → List (List ClaimView) → Type 0
AreGiven settle held = All (IsGiven settle) held

-- ---- a finished transaction

-- a finished transaction: its answer, the claims to give back, and its phase owner
pub record ReleaseView : Type 0 where
  pub recorded : AnswerView
  pub returns : ReturnsView
  pub phase_owner : PhaseOwnerView

abbrev pub release_view : AnswerView → ReturnsView → PhaseOwnerView → ReleaseView
release_view recorded returns phase_owner = record { recorded = recorded; returns = returns; phase_owner = phase_owner }
