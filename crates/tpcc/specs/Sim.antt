-- What `tpcc sim` prints and writes.
use Rattle.std.specs.Prelude.{◌≡◌, ◌⊎◌, ℕ, List, Option, None, Some, Result, Ok}
use Rattle.std.specs.Io.KnownBytes.{Appends}
use Rattle.std.specs.declared.marker.Brand.{Brand}
use Rattle.schema.specs.Database.{Database}
use Rattle.commit_log.specs.declared.entry.Entry.{Entry}
use Rattle.history.specs.declared.schedule.Scheduled.{Scheduled}
use Rattle.history.specs.declared.schedule.Output.{Output}
use Rattle.world.specs.declared.simulating.Simulation.{Simulation}
use Rattle.world.specs.declared.world.GatherFault.{GatherFault}
use Rattle.world.specs.declared.setup.Setup.{Setup}
use Rattle.world.specs.Openings.{Simulates}
use Rattle.picture.specs.declared.asides.Aside.{Aside}
use Rattle.picture.specs.Drawing.{drawing_text}
use Rattle.dataset.specs.Records.{AreRecords2, AreRecordsOfEither}
use Rattle.terminals.specs.LogRecord.{IsLog}
use Rattle.terminals.specs.LockChanges.{AreLines, Line, lines}
use Rattle.terminals.specs.Schedule.{IsSchedule}
use Rattle.command_line.specs.declared.settings.sim.SimSettings.{SimSettings}
use Rattle.tpcc.specs.declared.command_fault.CommandFault.{CommandFault}
use Rattle.tpcc.specs.Effects.{Change, CommandOutput, Source}
use Rattle.tpcc.specs.OutputFiles.{NamedTexts, Shelves}
use Rattle.files.specs.Sending.{BeginsToWrite, OfFirst, Writes}
use Rattle.files.specs.Place.{Gives}
use Rattle.tpcc.specs.Edges.{NamesFile}

-- what a simulation reads
pub record SimInputs : Type 1 where
  pub «data» : Source
  pub schedule : Source

-- the dataset and the schedule, as inputs
abbrev pub sim_inputs : Source → Source → SimInputs
sim_inputs «data» schedule = record { «data» = «data»; schedule = schedule }

-- the files that a simulation makes, if they are asked for
pub record SimOutputs (F : Type 0) : Type 0 where
  pub log : Option F
  pub picture : Option F
  pub tables : Option F

-- the files of the log, the picture and the tables, as outputs
abbrev pub sim_outputs : {F : Type 0} → Option F → Option F → Option F → SimOutputs F
sim_outputs log picture tables = record { log = log; picture = picture; tables = tables }

-- a schedule that so many executors have played, its outputs, and the log
pub record PlayedSchedule : Type 0 where
  pub executors : ℕ
  pub schedule : List Scheduled
  pub outputs : List Output
  pub entries : List Entry

-- the number of executors, the schedule, its outputs and the log, as a played schedule
abbrev pub played_schedule : ℕ → List Scheduled → List Output → List Entry → PlayedSchedule
played_schedule executors schedule outputs entries =
    record { executors = executors; schedule = schedule; outputs = outputs; entries = entries }

-- how the settings ask the world to be set up
abbrev pub setup_of : SimSettings → Setup
setup_of s = record { executors = s.executors; limits = record { log = s.log_limit; inbox = s.inbox } }

-- what a simulation prints: its outputs, with the lock tables that have changed among them
abbrev pub lines_of : Simulation → List Line
lines_of simulation = lines 0 simulation.outputs.items simulation.locks.items

-- the schedule, which `source` gives, was simulated on the tables that `data` gives, in a world set up so, with this result
pub record IsSimulation («data» source : Option (List ℕ)) (setup : Setup) (schedule : List Scheduled) (simulation : Simulation) : Type 0 where
  pub opening : Database
  pub is_dataset : Gives «data» (AreRecordsOfEither opening)
  pub is_schedule : Gives source (IsSchedule schedule)
  pub simulates : Simulates Brand opening setup schedule simulation

module _ {F : Type 0} (contents : F → Option (List ℕ)) where
  -- the file, if there is one, has got its name with the picture of the played schedule
  abbrev pub NamesPicture : Option F → NamedTexts → NamedTexts → PlayedSchedule → Type 0
  NamesPicture None named named' played = named' ≡ named
  NamesPicture (Some file) named named' played =
      (text : Option (List ℕ)) × (asides : List Aside)
      × Appends (contents file) text (drawing_text played.executors played.schedule played.outputs played.entries asides)
      × Shelves named named' text

  -- the file, if there is one, has got its name with the records of the gathered tables
  abbrev pub NamesTables : Option F → NamedTexts → NamedTexts → Result Database GatherFault → Type 0
  NamesTables None named named' gathered = named' ≡ named
  NamesTables (Some file) named named' gathered = (last : Database) × (gathered ≡ Ok last) × NamesFile contents (Some file) named named' (AreRecords2 last)

  module _ (setup : Setup) (schedule : List Scheduled) (simulation : Simulation) (files : SimOutputs F) (output : CommandOutput) where
    -- The records of all lines of the simulation were printed. The files, if there are such, have got their names in this order: the log with
    -- the records of the simulation's log, the picture with the drawing of its outputs, and the tables with the records of its tables.
    pub record Shows : Type 0 where
      pub printed : Writes output.printed.before output.printed.after (AreLines simulation.log.items (lines_of simulation))
      pub with_log : NamedTexts
      pub with_picture : NamedTexts
      pub logged : NamesFile contents files.log output.named.before with_log (IsLog simulation.log.items)
      pub drawn : NamesPicture files.picture with_log with_picture
          (played_schedule setup.executors schedule simulation.outputs.items simulation.log.items)
      pub gathered : NamesTables files.tables with_picture output.named.after simulation.tables

    -- A beginning of these records was printed, and no file has got its name; or all were printed, the log, if there is one, has got its name,
    -- and then the picture may have.
    abbrev pub ShowsSome : Type 0
    ShowsSome =
        (BeginsToWrite output.printed.before output.printed.after
        (OfFirst (AreLines simulation.log.items) (lines_of simulation))
        × (output.named.after ≡ output.named.before))
        ⊎ (Writes output.printed.before output.printed.after (AreLines simulation.log.items (lines_of simulation))
        × (with_log : NamedTexts) × NamesFile contents files.log output.named.before with_log (IsLog simulation.log.items)
        × ((output.named.after ≡ with_log)
        ⊎ NamesPicture files.picture with_log output.named.after
        (played_schedule setup.executors schedule simulation.outputs.items simulation.log.items)))

  module _ (setup : Setup) (inputs : SimInputs) (files : SimOutputs F) (output : CommandOutput) where
    -- nothing was printed, and no file has got its name; or the schedule was simulated, and a part of the output was made (`ShowsSome`)
    abbrev pub SimulatesSome : Type 0
    SimulatesSome =
        ((output.printed.after ≡ output.printed.before) × (output.named.after ≡ output.named.before))
        ⊎ ((schedule : List Scheduled) × (simulation : Simulation)
        × IsSimulation inputs.«data».remaining inputs.schedule.remaining setup schedule simulation
        × ShowsSome setup schedule simulation files output)

    -- The schedule that the input gives was simulated on the tables that the dataset gives, all output was made (`Shows`), and no fault was
    -- reported.
    pub record SimulatesAll (reported : Change (Option (List CommandFault))) : Type 0 where
      pub schedule : List Scheduled
      pub simulation : Simulation
      pub is_simulation : IsSimulation inputs.«data».remaining inputs.schedule.remaining setup schedule simulation
      pub shows : Shows setup schedule simulation files output
      pub no_fault : reported.after ≡ reported.before
