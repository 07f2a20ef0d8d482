-- The fast path: a phase whose actions do their work at once.
use Rattle.std.specs.Prelude.{◌≡◌, ℕ, List, [], ◌++◌, All}
use Rattle.partitions.specs.Parts.{SharedTables}
use Rattle.tickets.specs.Claims.{ClaimView}
use Rattle.transactions.specs.declared.work.Found.{Found}
use Rattle.transactions.specs.declared.work.Work.{Work}
use Rattle.transactions.specs.Progresses.{works_of}
use Rattle.transactions.specs.Works.{HaveAllDone}
use Rattle.executor.specs.declared.paused.Tried.{Tried}
use Rattle.executor.specs.declared.paused.Tried.TheVariants.{Apart, Done}
use Rattle.executor.specs.Flows.{FlowView}
use Rattle.executor.specs.Followed.{Gathers, under_claims}
use Rattle.transactions.specs.Acting.{AreUndoneBy}
use Rattle.executor.specs.PausedView.{PausedView}

-- a phase that is to be run: the age of its transaction, the works of its actions, and the claims of the actions of earlier
-- phases, by place
pub record PhaseToRun : Type 0 where
  pub age : ℕ
  pub works : List Work
  pub held : List (List ClaimView)

abbrev pub phase_to_run : ℕ → List Work → List (List ClaimView) → PhaseToRun
phase_to_run age works held = record { age = age; works = works; held = held }

-- the phase of this transaction
abbrev pub phase_of : FlowView → PhaseToRun
phase_of j = phase_to_run j.age (works_of j.progress) j.held

-- All works of the phase but the last ones were done, under claims of its transaction, which follow those of earlier phases. This
-- was found, and all that was done can be undone.
pub record HaveDoneBut (shared : SharedTables) (last : List Work) (phase : PhaseToRun) (held : List (List ClaimView)) (found : List Found) : Type 0 where
  pub first : List Work
  pub own : List (List ClaimView)
  pub works_are : phase.works ≡ first ++ last
  pub held_is : held ≡ phase.held ++ own
  pub done : HaveAllDone shared first found own
  pub undone : All (AreUndoneBy phase.age) own

-- all works of the phase were done
abbrev pub HaveDoneAtOnce : SharedTables → PhaseToRun → List (List ClaimView) → List Found → Type 0
HaveDoneAtOnce shared phase held found = HaveDoneBut shared [] phase held found

module _ {J : Type 0} where
  -- All actions of the phase have done their work, and the next step follows from what they found; or nothing was done.
  abbrev pub RunsHere : SharedTables → PausedView → Tried J → Type 0
  RunsHere shared p (Done following) =
      (held : List (List ClaimView)) × (found : List Found) × HaveDoneAtOnce shared (phase_of p.flow) held found
      × Gathers p.phase_owner (under_claims held p.flow) found following
  RunsHere shared p (Apart back) = back ≡ p
