-- The faults with which each command can end.
use Rattle.std.specs.Prelude.{◌≡◌, ◌⊎◌, ◌<◌, ℕ, Bool, true, List, length, map, take, get_or, Option, None, Some, is_some, Result, Err}
use Rattle.std.specs.Borrow.{Bor}
use Rattle.std.specs.List.{AllZip}
use Rattle.std.specs.Option.{option_map}
use Rattle.schema.specs.Database.{Database}
use Rattle.schema.specs.Consistency.{Consistent}
use Rattle.consistency.specs.Broken.{BreaksFirst}
use Rattle.dataset.specs.FirstFault.{IsFaultOf}
use Rattle.dataset.specs.Records.{AreRecordsOfEither}
use Rattle.engine.specs.Faults.{AreWithin, IsFirstBad}
use Rattle.range_moves.specs.declared.order.MoveOrder.{MoveOrder}
use Rattle.requests.specs.declared.script.Part.{Part}
use Rattle.terminals.specs.FirstFault.{log_fault, moves_fault, schedule_fault, script_fault}
use Rattle.terminals.specs.Script.{IsScript}
use Rattle.history.specs.declared.schedule.Scheduled.{Scheduled}
use Rattle.world.specs.declared.setup.Setup.{Setup}
use Rattle.world.specs.declared.simulating.Simulation.{Simulation}
use Rattle.world.specs.declared.world.GatherFault.{GatherFault}
use Rattle.world.specs.declared.world.GatherFault.TheVariants as gather
use Rattle.tpcc.specs.declared.command_fault.CommandFault.{CommandFault}
use Rattle.tpcc.specs.declared.command_fault.CommandFault.TheVariants as fault
use Rattle.command_line.specs.declared.settings.check.CheckSettings.{CheckSettings}
use Rattle.command_line.specs.declared.settings.migrate.MigrateSettings.{MigrateSettings}
use Rattle.command_line.specs.declared.settings.replay.ReplaySettings.{ReplaySettings}
use Rattle.command_line.specs.declared.settings.run.RunSettings.{RunSettings}
use Rattle.command_line.specs.declared.settings.sim.SimSettings.{SimSettings}
use Rattle.files.specs.Place.{Gives}
use Rattle.tpcc.specs.Faults.{IsFirst, IsOfReading, IsOfWriting, IsOfWritingSome, standard_output}
use Rattle.tpcc.specs.Effects.{Source}
use Rattle.tpcc.specs.Run.{GivesMoves, RunInputs}
use Rattle.tpcc.specs.Sim.{IsSimulation, SimInputs, setup_of}

-- the source gives tables
abbrev pub GivesTables : Option (List ℕ) → Type 0
GivesTables source = (tables : Database) × Gives source (AreRecordsOfEither tables)

-- ---- check

-- a fault of the dataset or of the standard output
abbrev pub IsOfChecking : CheckSettings → Source → CommandFault → Type 0
IsOfChecking s «data» of =
    IsOfReading s.«data».now «data».remaining «data».lasts IsFaultOf of ⊎ IsOfWriting standard_output of

-- ---- migrate

-- a fault of the dataset; or of the file that is written, and the dataset gives tables
abbrev pub IsOfMigrating : MigrateSettings → Source → CommandFault → Type 0
IsOfMigrating s «data» of =
    IsOfReading s.«data».now «data».remaining «data».lasts IsFaultOf of
    ⊎ (GivesTables «data».remaining × IsOfWriting s.file.now of)

-- ---- replay

-- a fault of the standard output or of the file of the last tables
abbrev pub ReplayMayReport : ReplaySettings → CommandFault → Type 0
ReplayMayReport s of = IsOfWriting standard_output of ⊎ IsOfWritingSome s.tables of

-- a fault of the dataset; or of the log, and the dataset gives tables; or of an output
abbrev pub IsOfReplaying : ReplaySettings → Source → Source → CommandFault → Type 0
IsOfReplaying s «data» log of =
    IsOfReading s.«data».now «data».remaining «data».lasts IsFaultOf of
    ⊎ (GivesTables «data».remaining × IsOfReading s.log.now log.remaining log.lasts (IsFirst log_fault) of)
    ⊎ ReplayMayReport s of

-- ---- run

module _ {S : Type 0} (remaining : S → Option (List ℕ)) (lasts : S → Type 0) where
  -- each of the sources gives a script
  abbrev pub GiveScripts : List S → Type 0
  GiveScripts sources = (scripts : List (List Part)) × AllZip (λ source script. Gives source (IsScript script)) (map remaining sources) scripts

  -- a fault of one of the scripts of these paths, and the sources before it give scripts
  pub record IsOfScripts (paths : List (Bor (List ℕ))) (sources : List S) (of : CommandFault) : Type 0 where
    pub place : ℕ
    pub path_there : place < length paths
    pub path : Bor (List ℕ)
    pub is_path : path ≡ get_or paths place path
    pub there : place < length sources
    pub source : S
    pub is_source : source ≡ get_or sources place source
    pub before : GiveScripts (take place sources)
    pub said : IsOfReading path.now (remaining source) (lasts source) (IsFirst script_fault) of

  -- a fault of the moves, if there is a file of them
  abbrev pub IsOfMoves : Option (Bor (List ℕ)) → Option S → CommandFault → Type 0
  IsOfMoves None source of = ⊥
  IsOfMoves (Some path) None of = ⊥
  IsOfMoves (Some path) (Some source) of = IsOfReading path.now (remaining source) (lasts source) (IsFirst moves_fault) of

  -- a fault of the dataset; or of a script, and the dataset gives tables; or of the moves, and the dataset gives tables and all sources give
  -- scripts
  abbrev pub RunMayReport : RunSettings → RunInputs S → CommandFault → Type 0
  RunMayReport s inputs of =
      IsOfReading s.«data».now inputs.«data».remaining inputs.«data».lasts IsFaultOf of
      ⊎ (GivesTables inputs.«data».remaining
      × (IsOfScripts s.scripts.items inputs.scripts of ⊎ (GiveScripts inputs.scripts × IsOfMoves s.moves inputs.moves of)))

-- a fault of the log, the standard output or the file of the last tables
abbrev pub IsOfAnswering : RunSettings → CommandFault → Type 0
IsOfAnswering s of = IsOfWritingSome s.log of ⊎ IsOfWriting standard_output of ⊎ IsOfWritingSome s.tables of

-- these sources give tables and moves of which `Are` holds
abbrev pub OfServed : Option (List ℕ) → Option (Option (List ℕ)) → (Database → List MoveOrder → Type 0) → Type 0
OfServed source moving Are =
    (tables : Database) × (moves : List MoveOrder) × Gives source (AreRecordsOfEither tables) × GivesMoves moving moves × Are tables moves

-- The faults of serving the source's tables and moves with that many executors. NoMemory: always possible. BadMove: the move at this place is
-- the first impossible one. NotConsistent: all moves are possible, and this condition is the first that the tables break. NoThread and
-- Unsettled: all moves are possible, and the tables are consistent.
abbrev pub IsOfServing : Option (List ℕ) → ℕ → Option (Option (List ℕ)) → CommandFault → Type 0
IsOfServing source executors moving fault.NoMemory = Unit {0}
IsOfServing source executors moving (fault.BadMove place) = OfServed source moving (λ tables moves. IsFirstBad tables.scale.warehouses executors moves place)
IsOfServing source executors moving (fault.NotConsistent condition) = OfServed source moving (λ tables moves. AreWithin tables executors moves × BreaksFirst tables condition)
IsOfServing source executors moving fault.NoThread = OfServed source moving (λ tables moves. AreWithin tables executors moves × Consistent tables)
IsOfServing source executors moving fault.Unsettled = OfServed source moving (λ tables moves. AreWithin tables executors moves × Consistent tables)
IsOfServing source executors moving _ = ⊥

module _ {S : Type 0} (remaining : S → Option (List ℕ)) (lasts : S → Type 0) where
  -- a fault of an input, of serving or of an output
  abbrev pub IsOfRunning : RunSettings → RunInputs S → CommandFault → Type 0
  IsOfRunning s inputs of =
      RunMayReport remaining lasts s inputs of
      ⊎ IsOfServing inputs.«data».remaining s.executors (option_map remaining inputs.moves) of
      ⊎ IsOfAnswering s of

-- ---- sim

-- out of memory; or NotIdle: tables were asked for, and none were gathered, since a transaction is active or a move outstanding
abbrev pub IsOfGathering : Bool → Result Database GatherFault → CommandFault → Type 0
IsOfGathering asked gathered fault.NoMemory = Unit {0}
IsOfGathering asked gathered fault.NotIdle = (asked ≡ true) × (gathered ≡ Err gather.NotIdle)
IsOfGathering asked gathered _ = ⊥

-- The faults of simulating. NoMemory: always possible. NotConsistent: this condition is the first that the tables of `data` break. NotIdle:
-- tables were asked for, and a transaction is active or a move outstanding at the end of the simulation.
abbrev pub IsOfPlaying : Option (List ℕ) → Option (List ℕ) → Setup → Bool → CommandFault → Type 0
IsOfPlaying «data» source setup asked fault.NoMemory = Unit {0}
IsOfPlaying «data» source setup asked (fault.NotConsistent condition) = (tables : Database) × Gives «data» (AreRecordsOfEither tables) × BreaksFirst tables condition
IsOfPlaying «data» source setup asked fault.NotIdle =
    (asked ≡ true)
    × ((schedule : List Scheduled) × (simulation : Simulation) × IsSimulation «data» source setup schedule simulation × (simulation.tables ≡ Err gather.NotIdle))
IsOfPlaying «data» source setup asked _ = ⊥

-- a fault of the log, the standard output, the picture or the file of the tables
abbrev pub IsOfShowing : SimSettings → CommandFault → Type 0
IsOfShowing s of = IsOfWritingSome s.log of ⊎ IsOfWriting standard_output of ⊎ IsOfWritingSome s.picture of ⊎ IsOfWritingSome s.tables of

-- a fault of the dataset; or of the schedule, and the dataset gives tables; or of simulating; or of an output
abbrev pub IsOfSimulating : SimSettings → SimInputs → CommandFault → Type 0
IsOfSimulating s inputs of =
    IsOfReading s.«data».now inputs.«data».remaining inputs.«data».lasts IsFaultOf of
    ⊎ (GivesTables inputs.«data».remaining
    × IsOfReading s.schedule.now inputs.schedule.remaining inputs.schedule.lasts (IsFirst schedule_fault) of)
    ⊎ IsOfPlaying inputs.«data».remaining inputs.schedule.remaining (setup_of s) (is_some s.tables) of
    ⊎ IsOfShowing s of
