-- A transaction between two phases.
use Rattle.executor.specs.AgreedPhases.{PhaseOwnerView}
use Rattle.executor.specs.Flows.{FlowView}

-- the transaction and its phase owner
pub record PausedView : Type 0 where
  pub flow : FlowView
  pub phase_owner : PhaseOwnerView

abbrev pub paused_view : PhaseOwnerView → FlowView → PausedView
paused_view phase_owner j = record { flow = j; phase_owner = phase_owner }
