-- What an action in flight and its report carry, whatever the other actions do.
use Rattle.std.specs.Prelude.{◌≡◌, ◌+◌, ℕ, zero, suc, List, Option, Some, None, length}
use Rattle.std.specs.List.{slice_get}
use Rattle.partitions.specs.Parts.{SharedTables}
use Rattle.wait_die.specs.declared.deciding.Holder.{Holder}
use Rattle.transactions.specs.declared.work.Work.{Work}
use Rattle.transactions.specs.declared.acting.Ran.{Ran}
use Rattle.transactions.specs.Works.{CanDo}
use Rattle.transactions.specs.Progresses.{works_of}
use Rattle.executor.specs.declared.phase_owner.AgreedPhase.{AgreedPhase}
use Rattle.executor.specs.declared.phase_owner.Said.{Said}
use Rattle.executor.specs.AgreedPhases.{PhasePlaceView, agreed_phase}
use Rattle.executor.specs.Flows.{FlowView}
use Rattle.transactions.specs.Acting.{IsRanBy}

-- ---- a transaction

-- the agreed phase of a transaction
abbrev pub agreed_phase_of : FlowView → AgreedPhase
agreed_phase_of j = agreed_phase j.slot j.age (length j.held) j.progress

-- the transaction is in this slot and has come to this agreed phase
pub record IsOn (slot : ℕ) (recorded : AgreedPhase) (j : FlowView) : Type 0 where
  pub slot_is : j.slot ≡ slot
  pub agreed_phase_is : agreed_phase_of j ≡ recorded

-- the first action of a phase carries the transaction, and no other does
abbrev pub IsCarriedAt : ℕ → AgreedPhase → ℕ → Option FlowView → Type 0
IsCarriedAt slot recorded zero None = ⊥
IsCarriedAt slot recorded zero (Some j) = IsOn slot recorded j
IsCarriedAt slot recorded (suc number) None = Unit {0}
IsCarriedAt slot recorded (suc number) (Some j) = ⊥

-- ---- an action

-- this is the work of the action of this number, from 0, in the agreed phase
abbrev pub IsWorkAt : AgreedPhase → ℕ → Work → Type 0
IsWorkAt recorded number work = slice_get (works_of recorded.progress) number ≡ Some work

-- the holder of an action: its transaction's age, and its place among all actions of the transaction
abbrev pub action_at : AgreedPhase → ℕ → Holder
action_at recorded number = record { age = recorded.age; place = recorded.first + number }

-- an action in flight: its holder, its number in its phase, its work; the slot of its transaction, the phase, and the
-- transaction, if it carries it
pub record ActView : Type 0 where
  pub by : Holder
  pub number : ℕ
  pub work : Work
  pub slot : ℕ
  pub agreed_phase : AgreedPhase
  pub flow : Option FlowView

abbrev pub act_view : Holder → Work → PhasePlaceView → Option FlowView → ActView
act_view by work place flow = record { by = by; number = place.number; work = work; slot = place.slot; agreed_phase = place.agreed_phase; flow = flow }

-- The work is that of the action's number in the agreed phase, and can be done. The first action carries the transaction, and no
-- other does.
pub record CarriesAct (shared : SharedTables) (e : ActView) : Type 0 where
  pub by_is : e.by ≡ action_at e.agreed_phase e.number
  pub work_is : IsWorkAt e.agreed_phase e.number e.work
  pub can : CanDo shared e.work
  pub flow_is : IsCarriedAt e.slot e.agreed_phase e.number e.flow

module _ {J : Type 0} where
  -- this is a result of the work of this number in the agreed phase
  abbrev pub IsRanAt : SharedTables → AgreedPhase → ℕ → Ran J → Type 0
  IsRanAt shared recorded number ran = (work : Work) × (IsWorkAt recorded number work × IsRanBy shared recorded.age work ran)

-- a report: the action's number in its phase, and its result; the slot of its transaction, the phase, and the transaction, if
-- it carries it
pub record ReportView (J : Type 0) : Type 0 where
  pub number : ℕ
  pub ran : Ran J
  pub slot : ℕ
  pub agreed_phase : AgreedPhase
  pub flow : Option FlowView

module _ {J : Type 0} where
  abbrev pub report_view : Ran J → PhasePlaceView → Option FlowView → ReportView J
  report_view ran place flow = record { number = place.number; ran = ran; slot = place.slot; agreed_phase = place.agreed_phase; flow = flow }

  -- The result is of the work of the report's number in the agreed phase, and the report carries the transaction if the action
  -- did.
  pub record CarriesReport (shared : SharedTables) (r : ReportView J) : Type 0 where
    pub ran_is : IsRanAt shared r.agreed_phase r.number r.ran
    pub flow_is : IsCarriedAt r.slot r.agreed_phase r.number r.flow

  -- the action of this number may say this
  pub record IsSaidAt (shared : SharedTables) (phase : AgreedPhase) (number : ℕ) (said : Said J) : Type 0 where
    pub ran_is : IsRanAt shared phase number said.ran
    pub flow_is : IsCarriedAt phase.slot phase number said.flow

  -- this is what all actions of a phase said, by place
  pub record AreAllSaid (shared : SharedTables) (phase : AgreedPhase) (items : List (Said J)) : Type 0 where
    pub many : length items ≡ length (works_of phase.progress)
    pub each : (number : ℕ) (said : Said J) → slice_get items number ≡ Some said → IsSaidAt shared phase number said

  -- this is what all actions of some phase of the slot said, by place
  pub record AreSaidIn (shared : SharedTables) (slot : ℕ) (items : List (Said J)) : Type 0 where
    pub phase : AgreedPhase
    pub slot_is : phase.slot ≡ slot
    pub all : AreAllSaid shared phase items
