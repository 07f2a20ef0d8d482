-- The shard of a warehouse, and the actions that ask and wait there.
use Rattle.std.specs.Prelude.{◌≡◌, ◌<◌, ◌≤◌, ℕ, List, All, Option, Some, None, length}
use Rattle.partitions.specs.Parts.{SharedTables, shared_of}
use Rattle.local_locks.specs.Asking.{StillWaits}
use Rattle.transactions.specs.declared.acting.Ran.{Ran}
use Rattle.transactions.specs.declared.shard.Acted.TheVariants as acted
use Rattle.transactions.specs.declared.shard.Parked.{Parked}
use Rattle.transactions.specs.declared.shard.Turned.{Turned}
use Rattle.transactions.specs.Shards.{ActsAs, OneTurn, ShardView}
use Rattle.executor.specs.declared.act.Carried.{Carried}
use Rattle.executor.specs.AgreedPhases.{phase_place_view}
use Rattle.executor.specs.Carrying.{CarriesAct, ActView, ReportView, act_view, report_view}

module _ {J : Type 0} where
  -- a waiting action, as it was when it asked
  abbrev pub waiting_act : Parked (Carried J) → ActView
  waiting_act p = act_view p.by p.work p.carried.place p.carried.flow

  -- a waiting action carries what an action in flight carries
  abbrev pub CarriesWaiting : SharedTables → Parked (Carried J) → Type 0
  CarriesWaiting shared p = CarriesAct shared (waiting_act p)

  -- The slice has these shared tables, and each waiting action carries what an action in flight carries.
  pub record CarriesCountedShard (shared : SharedTables) (p : ShardView (Carried J)) : Type 0 where
    pub shared_is : shared_of p.slice.tables ≡ shared
    pub waiting : All (CarriesWaiting shared) p.parked

  -- at most this many actions wait; nothing is claimed if this is the largest number
  abbrev pub AreAtMost : ℕ → List (Parked (Carried J)) → Type 0
  AreAtMost waiting all = waiting < 18446744073709551615 → length all ≤ waiting

  -- what an action keeps beside its work
  abbrev pub carried_by : ActView → Carried J
  carried_by e = record { place = phase_place_view e.slot e.number e.agreed_phase; flow = e.flow }

  -- the report of an action with this result
  abbrev pub report_by : ActView → Ran J → ReportView J
  report_by e ran = report_view ran (phase_place_view e.slot e.number e.agreed_phase) e.flow

  -- the report of an action that has had its turn
  abbrev pub report_turned : Turned J (Carried J) → ReportView J
  report_turned t = report_view t.ran t.carried.place t.carried.flow

  -- An action asks at its shard. It reports that it has done its work, or that it died of a conflicting holder that is not
  -- younger, or that an allocation failed; or it waits there, and all conflicting holders are younger (`ActsAs` of transactions).
  abbrev pub WorksAt : ActView → ShardView (Carried J) → Option (ReportView J) → ShardView (Carried J) → Type 0
  WorksAt e old (Some report) new = (ran : Ran J) × ((report ≡ report_by e ran) × ActsAs e.by e.work (carried_by e) old (acted.Ran ran (carried_by e)) new)
  WorksAt e old None new = ActsAs {J = J} e.by e.work (carried_by e) old acted.Waits new

  -- A waiting action has its turn and reports (`OneTurn` of transactions); or all waiting actions have to wait, and nothing
  -- changes.
  abbrev pub TurnsAt : ShardView (Carried J) → Option (ReportView J) → ShardView (Carried J) → Type 0
  TurnsAt old (Some report) new = (turned : Turned J (Carried J)) × ((report ≡ report_turned turned) × OneTurn old turned new)
  TurnsAt old None new = All (StillWaits old.slice.holdings) old.slice.waiters × (new ≡ old)
