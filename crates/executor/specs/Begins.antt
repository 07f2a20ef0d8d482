-- The actions of a phase that begins.
use Rattle.std.specs.Prelude.{◌+◌, ℕ, List, [], ◌∷◌, Option, Some, None}
use Rattle.transactions.specs.declared.work.Work.{Work}
use Rattle.transactions.specs.Progresses.{works_of}
use Rattle.executor.specs.declared.phase_owner.AgreedPhase.{AgreedPhase}
use Rattle.executor.specs.Carrying.{ActView, action_at, agreed_phase_of}
use Rattle.executor.specs.Flows.{FlowView}

-- the action of this number, with the transaction if it carries it
abbrev pub act_at : ℕ → AgreedPhase → ℕ → Option FlowView → Work → ActView
act_at slot recorded number carried work = record { by = action_at recorded number; number = number; work = work; slot = slot; agreed_phase = recorded; flow = carried }

-- the actions from this number on; the first of them carries the transaction if there is one
abbrev pub acts_from : ℕ → AgreedPhase → ℕ → Option FlowView → List Work → List ActView
acts_from slot recorded number carried [] = []
acts_from slot recorded number carried (work ∷ works) = act_at slot recorded number carried work ∷ acts_from slot recorded (number + 1) None works

-- the actions of a transaction's phase: the first carries the transaction
abbrev pub acts_of : FlowView → List ActView
acts_of j = acts_from j.slot (agreed_phase_of j) 0 (Some j) (works_of j.progress)
