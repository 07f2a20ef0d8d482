-- The step after a phase of which all actions have reported.
use Rattle.std.specs.Prelude.{◌≡◌, ℕ, List, ◌++◌, Option, Some, None}
use Rattle.partitions.specs.Parts.{SharedTables}
use Rattle.requests.specs.declared.request.Request.{Request}
use Rattle.requests.specs.declared.refusal.Refusal.{Refusal}
use Rattle.requests.specs.declared.refusal.Refusal.TheVariants as refusal
use Rattle.tickets.specs.Claims.{ClaimView}
use Rattle.transactions.specs.declared.work.Found.{Found}
use Rattle.transactions.specs.declared.progress.Progress.{Progress}
use Rattle.transactions.specs.declared.progress.Gathered.TheVariants.{Next, Finish}
use Rattle.transactions.specs.Works.{HaveAllDone}
use Rattle.transactions.specs.Progresses.{FollowsFrom, IsReached, works_of}
use Rattle.executor.specs.declared.following.Following.{Following}
use Rattle.executor.specs.declared.following.Following.TheVariants as following
use Rattle.executor.specs.AgreedPhases.{PhaseOwnerView, OwnsPhaseOf}
use Rattle.executor.specs.Flows.{FlowView}
use Rattle.executor.specs.Transactions.{TransactionView}
use Rattle.executor.specs.PausedView.{paused_view}
use Rattle.executor.specs.Phases.{CarriesMeeting, MetView}
use Rattle.transactions.specs.SortedOut.{found_in, held_in, refusal_of}
use Rattle.executor.specs.Released.{refused}
use Rattle.executor.specs.Commits.{commit_view}

-- The request has come to this phase under the earlier of these claims; the others are those of the phase's actions, which have
-- done their work and found this.
pub record HasMetUnder (shared : SharedTables) (request : Request) (progress : Progress) (held : List (List ClaimView)) (found : List Found) : Type 0 where
  pub earlier : List (List ClaimView)
  pub own : List (List ClaimView)
  pub held_is : held ≡ earlier ++ own
  pub reached : IsReached shared request progress earlier
  pub done : HaveAllDone shared (works_of progress) found own

-- the identity of the transaction, and its pass
abbrev pub transaction_of : FlowView → TransactionView
transaction_of j = record { age = j.age; slot = j.slot; number = j.number; request = j.request; pass = j.pass }

-- the transaction, under these claims
abbrev pub under_claims : List (List ClaimView) → FlowView → FlowView
under_claims held j = record j { held = held }

-- the transaction, in this phase
abbrev pub in_phase : Progress → FlowView → FlowView
in_phase progress j = record j { progress = progress }

module _ {J : Type 0} where
  -- What was found is gathered: the next phase is to begin, or the transaction is to be logged with its reply; or an allocation
  -- failed, and the transaction is refused with NoMemory. It holds the claims of this phase's actions too.
  abbrev pub Gathers : PhaseOwnerView → FlowView → List Found → Following J → Type 0
  Gathers phase_owner j found (following.Next paused) =
      (next : Progress) × (FollowsFrom j.progress found (Next next) × (paused ≡ paused_view phase_owner (in_phase next j)))
  Gathers phase_owner j found (following.Commit commit) =
      FollowsFrom j.progress found (Finish commit.shown) × (commit ≡ commit_view phase_owner (transaction_of j) j.held commit.shown)
  Gathers phase_owner j found (following.Over release) = release ≡ refused phase_owner (transaction_of j) j.held refusal.NoMemory

  -- The transaction is refused for this reason; or all actions have done their work, and what they found is gathered.
  abbrev pub FollowsUnless : Option Refusal → PhaseOwnerView → FlowView → List Found → Following J → Type 0
  FollowsUnless (Some why) phase_owner j found after = after ≡ following.Over (refused phase_owner (transaction_of j) j.held why)
  FollowsUnless None phase_owner j found after = Gathers phase_owner j found after

  -- The step after these reports; the phase owner is that of the transaction's slot.
  abbrev pub Follows : MetView J → Following J → Type 0
  Follows m after =
      (phase_owner : PhaseOwnerView) × (OwnsPhaseOf m.flow.slot phase_owner
      × FollowsUnless (refusal_of None m.rans) phase_owner (under_claims (m.flow.held ++ held_in m.rans) m.flow) (found_in m.rans) after)

  -- the step after the reports of all actions of a phase of this slot
  abbrev pub FollowsMeeting : SharedTables → ℕ → Following J → Type 0
  FollowsMeeting shared slot after = (m : MetView J) × CarriesMeeting shared slot m × Follows m after
