-- How `tpcc check` ends.
use Rattle.std.specs.Prelude.{◌≡◌, ◌⊎◌, ℕ, Bool, true, false, List, map, Option}
use Rattle.std.specs.List.{list_any}
use Rattle.std.specs.Io.KnownBytes.{Appends}
use Rattle.files.specs.Sending.{Begins}
use Rattle.schema.specs.Database.{Database}
use Rattle.consistency.specs.Conditions.{AreExact}
use Rattle.dataset.specs.Records.{AreRecordsOfEither}
use Rattle.tpcc.specs.declared.command_fault.CommandFault.{CommandFault}
use Rattle.command_line.specs.declared.status.Status.{Status}
use Rattle.command_line.specs.declared.status.Status.TheVariants as status
use Rattle.tpcc.specs.Effects.{Change, Source}
use Rattle.tpcc.specs.Verdicts.{verdict_text, verdicts_of, is_broken}
use Rattle.files.specs.Place.{Gives}
use Rattle.tpcc.specs.Edges.{lines_text}
use Rattle.command_line.specs.declared.settings.check.CheckSettings.{CheckSettings}
use Rattle.tpcc.specs.EarlyEnds.{IsOfChecking}
use Rattle.tpcc.specs.Faults.{EndsEarly}

-- the source gives tables, and `answers` contains for each condition whether they meet it
pub record IsChecked («data» : Option (List ℕ)) (answers : List Bool) : Type 0 where
  pub tables : Database
  pub is_dataset : Gives «data» (AreRecordsOfEither tables)
  pub exact : AreExact tables answers

module _ (fresh : Bool) where
  -- the lines of all verdicts
  abbrev pub verdicts_text : List Bool → List ℕ
  verdicts_text answers = lines_text (map verdict_text (verdicts_of fresh 1 answers))

  -- nothing was printed; or each condition was checked, and a beginning of the lines was printed
  abbrev pub ChecksSome : Option (List ℕ) → Change (Option (List ℕ)) → Type 0
  ChecksSome «data» printed =
      (printed.after ≡ printed.before)
      ⊎ ((answers : List Bool) × IsChecked «data» answers × Begins printed.before printed.after (verdicts_text answers))

module _ (fresh : Bool) («data» : Option (List ℕ)) (printed : Change (Option (List ℕ))) where
  -- the verdict on each condition of the source's tables was printed, line by line; `broken` says whether a condition is broken
  pub record Checks (broken : Bool) : Type 0 where
    pub answers : List Bool
    pub is_checked : IsChecked «data» answers
    pub appended : Appends printed.before printed.after (verdicts_text fresh answers)
    pub any_broken : broken ≡ list_any (λ verdict. is_broken verdict.found) (verdicts_of fresh 1 answers)

module _ (s : CheckSettings) («data» : Source) (printed : Change (Option (List ℕ))) (reported : Change (Option (List CommandFault))) where
  -- By the exit status. Success: no condition is broken. NotConsistent: one is. No fault was reported then. Otherwise a fault was reported, of
  -- the dataset or of printing, and at most a beginning of the lines was printed.
  abbrev pub CheckEnds : Status → Type 0
  CheckEnds status.Success = Checks s.fresh «data».remaining printed false × (reported.after ≡ reported.before)
  CheckEnds status.NotConsistent = Checks s.fresh «data».remaining printed true × (reported.after ≡ reported.before)
  CheckEnds ended =
      ChecksSome s.fresh «data».remaining printed × EndsEarly (IsOfChecking s «data») reported.before reported.after ended
