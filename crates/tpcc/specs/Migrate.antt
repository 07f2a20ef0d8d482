-- How `tpcc migrate` ends.
use Rattle.std.specs.Prelude.{◌≡◌, ℕ, List, Option}
use Rattle.schema.specs.Database.{Database}
use Rattle.dataset.specs.Records.{AreRecords2, AreRecordsOfEither}
use Rattle.files.specs.Place.{Gives}
use Rattle.files.specs.Sending.{Writes}
use Rattle.command_line.specs.declared.settings.migrate.MigrateSettings.{MigrateSettings}
use Rattle.command_line.specs.declared.status.Status.{Status}
use Rattle.command_line.specs.declared.status.Status.TheVariants as status
use Rattle.tpcc.specs.declared.command_fault.CommandFault.{CommandFault}
use Rattle.tpcc.specs.Effects.{Change, Source}
use Rattle.tpcc.specs.OutputFiles.{NamedTexts, Shelves}
use Rattle.tpcc.specs.EarlyEnds.{IsOfMigrating}
use Rattle.tpcc.specs.Faults.{EndsEarly}

-- the source gives tables, in either format, and the records of the same tables in format 2 were written
pub record IsMigration («data» : Option (List ℕ)) (written : Change (Option (List ℕ))) : Type 0 where
  pub tables : Database
  pub is_dataset : Gives «data» (AreRecordsOfEither tables)
  pub is_written : Writes written.before written.after (AreRecords2 tables)

-- the dataset that is read, and the file that is written
pub record MigrateStreams (F : Type 0) : Type 1 where
  pub «data» : Source
  pub file : F

-- the dataset and the file, as streams
abbrev pub migrate_streams : {F : Type 0} → Source → F → MigrateStreams F
migrate_streams «data» file = record { «data» = «data»; file = file }

module _ {F : Type 0} (contents : F → Option (List ℕ)) where
  -- the file has got its name, and contains the records of the source's tables in format 2
  pub record Migrates (streams : MigrateStreams F) (named : Change NamedTexts) : Type 0 where
    pub text : Option (List ℕ)
    pub is_migration : IsMigration streams.«data».remaining (record { before = contents streams.file; after = text })
    pub shelved : Shelves named.before named.after text

  module _ (s : MigrateSettings) (streams : MigrateStreams F) (named : Change NamedTexts) (reported : Change (Option (List CommandFault))) where
    -- By the exit status. Success: the file has its name, and no fault was reported. Otherwise it has not, and a fault of the dataset or the
    -- file was reported.
    abbrev pub MigrateEnds : Status → Type 0
    MigrateEnds status.Success = Migrates streams named × (reported.after ≡ reported.before)
    MigrateEnds ended =
        (named.after ≡ named.before) × EndsEarly (IsOfMigrating s streams.«data») reported.before reported.after ended
