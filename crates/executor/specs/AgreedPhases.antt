-- What contracts see of a transaction's phase, of its owner, and of the places of its actions in the meeting to which they report.
use Rattle.std.specs.Prelude.{◌≡◌, ◌+◌, ◌-◌, ℕ, List, [], ◌∷◌, Option, Some, None, length}
use Rattle.atomic_table.specs.Seated.{TableId}
use Rattle.rendezvous.specs.Meetings.{ConvenerView, PlaceView, PlacesView}
use Rattle.transactions.specs.declared.laws.TheConstants.{MOST_ACTIONS}
use Rattle.transactions.specs.declared.progress.Progress.{Progress}
use Rattle.transactions.specs.declared.progress.Progress.TheVariants.{StockLevel}
use Rattle.transactions.specs.declared.stock_level.Progress.TheVariants.{ReadNext}
use Rattle.transactions.specs.Progresses.{works_of}
use Rattle.executor.specs.declared.phase_owner.AgreedPhase.{AgreedPhase}

-- a transaction of this age, in this slot, has come to this phase, and its earlier phases had `first` actions
abbrev pub agreed_phase : ℕ → ℕ → ℕ → Progress → AgreedPhase
agreed_phase slot age first progress = record { slot = slot; age = age; first = first; progress = progress }

-- a placeholder for a phase
abbrev pub no_agreed_phase : AgreedPhase
no_agreed_phase = agreed_phase 0 0 0 (StockLevel (ReadNext (record { home = record { w_id = 0; d_id = 0 }; threshold = 0 })))

-- the phase that a round is about
abbrev pub phase_in : Option AgreedPhase → AgreedPhase
phase_in None = no_agreed_phase
phase_in (Some phase) = phase

-- ---- what contracts see

-- the owner of a phase: its slot
pub record PhaseOwnerView : Type 0 where
  pub slot : ℕ

abbrev pub phase_owner_view : ℕ → PhaseOwnerView
phase_owner_view slot = record { slot = slot }

-- the place of an action: the slot of its transaction, its number in its phase, and the phase
pub record PhasePlaceView : Type 0 where
  pub slot : ℕ
  pub number : ℕ
  pub agreed_phase : AgreedPhase

abbrev pub phase_place_view : ℕ → ℕ → AgreedPhase → PhasePlaceView
phase_place_view slot number phase = record { slot = slot; number = number; agreed_phase = phase }

-- the places of a phase that are left: the slot, the phase, the number of the next place, and how many are left
pub record PhasePlacesView : Type 0 where
  pub slot : ℕ
  pub agreed_phase : AgreedPhase
  pub next : ℕ
  pub left : ℕ

abbrev pub phase_places_view : ℕ → AgreedPhase → ℕ → ℕ → PhasePlacesView
phase_places_view slot phase next left = record { slot = slot; agreed_phase = phase; next = next; left = left }

-- the next place was handed out
abbrev pub without_next : PhasePlacesView → PhasePlacesView
without_next p = record p { next = p.next + 1; left = p.left - 1 }

-- this is the phase owner of the slot
abbrev pub OwnsPhaseOf : ℕ → PhaseOwnerView → Type 0
OwnsPhaseOf slot phase_owner = phase_owner.slot ≡ slot

-- ---- what is kept

-- the convener is that of the meeting, which has room for all actions of a phase
pub record IsOwnerOf (meeting : TableId) (convener : ConvenerView) : Type 0 where
  pub here : convener.meeting ≡ meeting
  pub room : meeting.slots ≡ MOST_ACTIONS

-- the round is about a phase of the slot, and has a place for each of its actions
pub record IsOfPhase (slot places : ℕ) (topic : Option AgreedPhase) : Type 0 where
  pub about : topic ≡ Some (phase_in topic)
  pub slot_is : (phase_in topic).slot ≡ slot
  pub places_are : places ≡ length (works_of (phase_in topic).progress)

-- the place is of the meeting, and of a phase of the slot
pub record IsPlaceIn (meeting : TableId) (slot : ℕ) (place : PlaceView AgreedPhase) : Type 0 where
  pub here : place.of_round.meeting ≡ meeting
  pub room : meeting.slots ≡ MOST_ACTIONS
  pub phase : IsOfPhase slot place.of_round.places place.of_round.topic

-- this is the meeting
abbrev pub IsHandle : {X : Type 0} → (X → TableId) → TableId → Option X → Type 0
IsHandle value_of meeting None = ⊥
IsHandle value_of meeting (Some handle) = value_of handle ≡ meeting

-- each of these is the meeting
abbrev pub AreHandles : {X : Type 0} → (X → TableId) → TableId → List (Option X) → Type 0
AreHandles value_of meeting [] = Unit {0}
AreHandles value_of meeting (handle ∷ handles) = IsHandle value_of meeting handle × AreHandles value_of meeting handles

-- The places are of the meeting, and of a phase of the slot; the meeting is there once more for each of them.
pub record ArePlacesIn {X : Type 0} (value_of : X → TableId) (meeting : X) (handles : List (Option X)) (slot : ℕ) (places : PlacesView AgreedPhase) : Type 0 where
  pub here : places.of_round.meeting ≡ value_of meeting
  pub room : (value_of meeting).slots ≡ MOST_ACTIONS
  pub phase : IsOfPhase slot places.of_round.places places.of_round.topic
  pub many : length handles ≡ places.left
  pub each : AreHandles value_of (value_of meeting) handles
