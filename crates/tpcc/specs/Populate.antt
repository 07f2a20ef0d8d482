-- How `tpcc populate` ends.
use Rattle.std.specs.Prelude.{◌≡◌, ℕ, List, Option}
use Rattle.schema.specs.Database.{Database}
use Rattle.population.specs.Population.{IsOpening}
use Rattle.dataset.specs.Records.{AreRecords2}
use Rattle.tpcc.specs.declared.command_fault.CommandFault.{CommandFault}
use Rattle.command_line.specs.declared.status.Status.{Status}
use Rattle.command_line.specs.declared.status.Status.TheVariants as status
use Rattle.tpcc.specs.OutputFiles.{NamedTexts, Shelves}
use Rattle.tpcc.specs.Effects.{Change}
use Rattle.files.specs.Sending.{Writes}
use Rattle.command_line.specs.declared.settings.populate.PopulateSettings.{PopulateSettings}
use Rattle.tpcc.specs.Faults.{IsOfWriting, EndsEarly}

module _ {F : Type 0} (contents : F → Option (List ℕ)) (s : PopulateSettings) (file : F) (named : Change NamedTexts)
    (reported : Change (Option (List CommandFault))) where
  -- the file has got its name and contains the records of the benchmark's initial tables of the settings' scale, seed and moment, and no fault
  -- was reported
  pub record Populates : Type 0 where
    pub tables : Database
    pub is_opening : IsOpening s.scale s.seed s.now tables
    pub text : Option (List ℕ)
    pub written : Writes (contents file) text (AreRecords2 tables)
    pub shelved : Shelves named.before named.after text
    pub no_fault : reported.after ≡ reported.before

  -- By the exit status. Success: the file has its name. Otherwise it has not, and a fault of the file was reported.
  abbrev pub PopulateEnds : Status → Type 0
  PopulateEnds status.Success = Populates
  PopulateEnds ended =
      (named.after ≡ named.before) × EndsEarly (IsOfWriting s.file.now) reported.before reported.after ended
