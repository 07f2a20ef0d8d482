-- How a check ends early.
use Rattle.std.proofs.Common.{◌≡◌, inl, inr, ℕ, List, Option}
use Rattle.tpcc.specs.declared.command_fault.CommandFault.{CommandFault}
use Rattle.tpcc.specs.declared.command_fault.CommandFault.TheVariants as fault
use Rattle.command_line.specs.declared.settings.check.CheckSettings.{CheckSettings}
use Rattle.command_line.specs.declared.status.Status.{Status}
use Rattle.tpcc.specs.Effects.{Change, Source}
use Rattle.tpcc.specs.Check.{CheckEnds, ChecksSome}
use Rattle.tpcc.specs.EarlyEnds.{IsOfChecking}
use Rattle.tpcc.specs.Faults.{Reports, status_of}
use Rattle.tpcc.proofs.EarlyTellings.{ends_early}

module _ (s : CheckSettings) («data» : Source) (printed : Change (Option (List ℕ))) (reported : Change (Option (List CommandFault))) where
  no_condition : (condition : ℕ) → IsOfChecking s «data» (fault.NotConsistent condition) → ⊥
  no_condition condition (inl a) = a
  no_condition condition (inr a) = a

  pub check_ends_early : (of : CommandFault) (ended : Status) → ended ≡ status_of of → ChecksSome s.fresh «data».remaining printed → IsOfChecking s «data» of → Reports reported.before reported.after of
      → CheckEnds s «data» printed reported ended
  check_ends_early of ended is some said reports =
      ends_early (IsOfChecking s «data») reported.before reported.after (CheckEnds s «data» printed reported) no_condition
      (λ early. (some, early)) (λ early. (some, early)) (λ early. (some, early)) of ended is said reports
