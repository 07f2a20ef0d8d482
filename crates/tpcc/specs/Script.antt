-- How `tpcc script` ends.
use Rattle.std.specs.Prelude.{◌≡◌, ◌⊎◌, ◌+◌, ℕ, false, List, [], ◌∷◌, ◌++◌, Option, Some}
use Rattle.std.specs.List.{All}
use Rattle.schema.specs.declared.scale.Scale.{Scale}
use Rattle.schema.specs.Scale.{has_warehouse}
use Rattle.dataset.specs.FirstFault.{first_fault}
use Rattle.dataset.specs.FirstRecord.{BeginsWithHeader}
use Rattle.workload.specs.declared.sessions.Workload.{Workload}
use Rattle.workload.specs.Sessions.{script_drawn}
use Rattle.workload.specs.Within.{AreAccepted}
use Rattle.terminals.specs.Script.{AreAsked}
use Rattle.command_line.specs.declared.settings.script.ScriptSettings.{ScriptSettings}
use Rattle.tpcc.specs.declared.command_fault.CommandFault.{CommandFault}
use Rattle.tpcc.specs.declared.command_fault.CommandFault.TheVariants as fault
use Rattle.command_line.specs.declared.status.Status.{Status}
use Rattle.command_line.specs.declared.status.Status.TheVariants as status
use Rattle.tpcc.specs.Effects.{Change, Source}
use Rattle.tpcc.specs.OutputFiles.{NamedTexts}
use Rattle.tpcc.specs.Edges.{NamesFile}
use Rattle.tpcc.specs.Faults.{IsFirst, IsOfReading, IsOfWritingOneOf, EndsEarly}

-- if it is known what the source gives, it begins with the header of a dataset of this scale, in either format
abbrev pub GivesScale : Option (List ℕ) → Scale → Type 0
GivesScale source scale = (text : List ℕ) → source ≡ Some text → BeginsWithHeader scale text

-- the workload that the settings ask for, at this scale
pub record IsWorkload (s : ScriptSettings) (at_scale : Scale) (w : Workload) : Type 0 where
  pub scale : w.scale ≡ at_scale
  pub home : w.home ≡ s.home
  pub remote : w.remote ≡ s.remote
  pub mix : w.mix ≡ s.mix
  pub start : w.start ≡ s.start
  pub seed : w.seed ≡ s.seed
  pub requests : w.requests ≡ s.requests

-- the records of the script that is drawn for the session; the check accepts each request that they are carried out as
abbrev pub AreDrawn : Workload → ℕ → List (List (List ℕ)) → Type 0
AreDrawn workload session rows = AreAsked (script_drawn workload session) rows × All (AreAccepted workload.scale) (script_drawn workload session)

-- the settings contain a home warehouse that is not in the scale
abbrev pub IsNoWarehouse : Option ℕ → Scale → CommandFault → Type 0
IsNoWarehouse home scale (fault.NoWarehouse warehouse) = (home ≡ Some warehouse) × (has_warehouse scale warehouse ≡ false)
IsNoWarehouse home scale _ = ⊥

-- a fault of the dataset's header; or NoWarehouse: the header gives a scale without the home warehouse; or a fault of one of the files that
-- are made
abbrev pub IsOfMaking : ScriptSettings → Source → CommandFault → Type 0
IsOfMaking s «data» of =
    IsOfReading s.«data».now «data».remaining «data».lasts (IsFirst first_fault) of
    ⊎ ((scale : Scale) × GivesScale «data».remaining scale × IsNoWarehouse s.home scale of)
    ⊎ IsOfWritingOneOf s.files.items of

-- the dataset whose header is read, and the files of the scripts
pub record ScriptStreams (F : Type 0) : Type 1 where
  pub «data» : Source
  pub files : List F

-- the dataset and the files of the scripts, as streams
abbrev pub script_streams : {F : Type 0} → Source → List F → ScriptStreams F
script_streams «data» files = record { «data» = «data»; files = files }

module _ {F : Type 0} (contents : F → Option (List ℕ)) where
  -- these files have got their names in order, each with the script of its session; the first is the file of this session
  abbrev pub NamesScripts : Workload → ℕ → List F → NamedTexts → NamedTexts → Type 0
  NamesScripts workload session [] named named' = named' ≡ named
  NamesScripts workload session (file ∷ files) named named' =
      (between : NamedTexts) × NamesFile contents (Some file) named between (AreDrawn workload session) × NamesScripts workload (session + 1) files between named'

  -- a prefix of the files have got their names, each with its script, and the others have not
  abbrev pub NamesFirstScripts : Workload → List F → NamedTexts → NamedTexts → Type 0
  NamesFirstScripts workload files named named' =
      (first : List F) × (others : List F) × (files ≡ first ++ others) × NamesScripts workload 0 first named named'

  module _ (settings : ScriptSettings) («data» : Option (List ℕ)) (files : List F) (named : Change NamedTexts) where
    -- each file has got its name with the script of its session, drawn at the scale in the source's header
    abbrev pub MakesAll : Type 0
    MakesAll =
        (scale : Scale) × GivesScale «data» scale × (workload : Workload) × IsWorkload settings scale workload
        × NamesScripts workload 0 files named.before named.after

    -- no file has got a name; or a prefix of the files have, each with its script
    abbrev pub MakesSome : Type 0
    MakesSome =
        (named.after ≡ named.before)
        ⊎ ((scale : Scale) × GivesScale «data» scale × (workload : Workload) × IsWorkload settings scale workload
        × NamesFirstScripts workload files named.before named.after)

  module _ (settings : ScriptSettings) (streams : ScriptStreams F) (named : Change NamedTexts) (reported : Change (Option (List CommandFault))) where
    -- By the exit status. Success: all files have their names, and no fault was reported. Otherwise at most a prefix of the files have, and a
    -- fault was reported.
    abbrev pub ScriptEnds : Status → Type 0
    ScriptEnds status.Success =
        MakesAll settings streams.«data».remaining streams.files named × (reported.after ≡ reported.before)
    ScriptEnds ended =
        MakesSome settings streams.«data».remaining streams.files named
        × EndsEarly (IsOfMaking settings streams.«data») reported.before reported.after ended
