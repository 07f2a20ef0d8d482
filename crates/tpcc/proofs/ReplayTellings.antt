-- How a replay ends, by what it came to.
use Rattle.std.proofs.Common.{◌≡◌, inl, inr, ℕ, List, Option, None, Some, sym, subst}
use Rattle.std.specs.Borrow.{Bor}
use Rattle.schema.specs.Database.{Database}
use Rattle.commit_log.specs.declared.entry.Entry.{Entry}
use Rattle.commit_log.specs.declared.verdict.Replay.{Replay}
use Rattle.commit_log.specs.declared.verdict.Replay.TheVariants.{Equal, Differs}
use Rattle.commit_log.specs.Replay.{IsReplayOf}
use Rattle.dataset.specs.Records.{AreRecordsOfEither}
use Rattle.terminals.specs.LogRecord.{IsLog}
use Rattle.tpcc.specs.declared.command_fault.CommandFault.{CommandFault}
use Rattle.command_line.specs.declared.settings.replay.ReplaySettings.{ReplaySettings}
use Rattle.command_line.specs.declared.status.Status.{Status}
use Rattle.tpcc.specs.declared.command_fault.CommandFault.TheVariants as fault
use Rattle.tpcc.specs.EarlyEnds.{IsOfReplaying}
use Rattle.files.specs.Place.{Gives}
use Rattle.tpcc.specs.Faults.{IsOfWritingSome, Reports, status_of}
use Rattle.tpcc.specs.Effects.{Change, CommandOutput}
use Rattle.tpcc.specs.Replay.{ReportsReplay, ReplayEnds, ReplaysSome, ReplayStreams}
use Rattle.tpcc.proofs.EarlyTellings.{ends_early}

module _ {F : Type 0} (contents : F → Option (List ℕ)) (s : ReplaySettings) (streams : ReplayStreams F) (output : CommandOutput) (reported : Change (Option (List CommandFault))) where
  pub replay_ends : (opening : Database) (entries : List Entry) (replay : Replay) (ended : Status) → Gives streams.«data».remaining (AreRecordsOfEither opening) → Gives streams.log.remaining (IsLog entries) → IsReplayOf opening entries replay
      → ReportsReplay contents streams.tables output entries replay ended → reported.after ≡ reported.before → ReplayEnds contents s streams output reported ended
  replay_ends opening entries (Equal last) ended is_dataset is_log is_replay reports same =
      subst (ReplayEnds contents s streams output reported) (sym reports.0)
      (last, record { entries = entries; is_replayed = record { opening = opening; is_dataset = is_dataset; is_log = is_log; is_replay = is_replay }; appended = reports.1; no_fault = same }, reports.2)
  replay_ends opening entries (Differs place) ended is_dataset is_log is_replay reports same =
      subst (ReplayEnds contents s streams output reported) (sym reports.0)
      (place, record { entries = entries; is_replayed = record { opening = opening; is_dataset = is_dataset; is_log = is_log; is_replay = is_replay }; appended = reports.1; no_fault = same }, reports.2)

  no_condition : (condition : ℕ) → IsOfReplaying s streams.«data» streams.log (fault.NotConsistent condition) → ⊥
  no_condition condition (inl a) = a
  no_condition condition (inr (inl a)) = a.1
  no_condition condition (inr (inr (inl a))) = a
  no_condition condition (inr (inr (inr a))) = none s.tables a
    where
      none : (path : Option (Bor (List ℕ))) → IsOfWritingSome path (fault.NotConsistent condition) → ⊥
      none None a = a
      none (Some path) a = a

  -- the same, where it ends early
  pub replay_ends_early : (of : CommandFault) (ended : Status) → ended ≡ status_of of → IsOfReplaying s streams.«data» streams.log of → Reports reported.before reported.after of → output.named.after ≡ output.named.before
      → ReplaysSome streams.«data».remaining streams.log.remaining output.printed → ReplayEnds contents s streams output reported ended
  replay_ends_early of ended is said reports same some =
      ends_early (IsOfReplaying s streams.«data» streams.log) reported.before reported.after (ReplayEnds contents s streams output reported) no_condition
      (λ early. (same, some, early)) (λ early. (same, some, early)) (λ early. (same, some, early)) of ended is said reports
