-- Why a simulation ended early, of what its sources give, and what was printed then.
use Rattle.std.proofs.Common.{ℕ, Bool, List, [], Option, length, sym, subst, arith}
use Rattle.std.proofs.lemmas.List.{take_all}
use Rattle.files.specs.Sending.{BeginsToWrite, OfFirst}
use Rattle.files.specs.Written.{csv_text}
use Rattle.files.proofs.Sent.{begins_none}
use Rattle.commit_log.specs.declared.entry.Entry.{Entry}
use Rattle.terminals.specs.LockChanges.{AreLines, Line}
use Rattle.history.specs.declared.schedule.Scheduled.{Scheduled}
use Rattle.world.specs.declared.setup.Setup.{Setup}
use Rattle.world.specs.declared.simulating.Simulation.{Simulation}
use Rattle.tpcc.specs.declared.command_fault.CommandFault.{CommandFault}
use Rattle.tpcc.specs.declared.command_fault.CommandFault.TheVariants.{NoMemory, File, Failed, NotConsistent, BadMove, NoWarehouse, NoThread, Unsettled, NotIdle}
use Rattle.tpcc.specs.EarlyEnds.{IsOfGathering, IsOfPlaying}
use Rattle.tpcc.specs.Sim.{IsSimulation}

module _ («data» source : Option (List ℕ)) (setup : Setup) (asked : Bool) (schedule : List Scheduled) (simulation : Simulation)
    (is : IsSimulation «data» source setup schedule simulation) where
  pub of_gathering : (fault : CommandFault) → IsOfGathering asked simulation.tables fault → IsOfPlaying «data» source setup asked fault
  of_gathering NoMemory of = tt
  of_gathering (File path fault) of = absurd of
  of_gathering (Failed path number) of = absurd of
  of_gathering (NotConsistent condition) of = absurd of
  of_gathering (BadMove place) of = absurd of
  of_gathering (NoWarehouse warehouse) of = absurd of
  of_gathering NoThread of = absurd of
  of_gathering Unsettled of = absurd of
  of_gathering NotIdle of = (of.0, (schedule, simulation, is, of.1))

-- no line is printed
pub no_output : (sink : Option (List ℕ)) (log : List Entry) (lines : List Line) → BeginsToWrite sink sink (OfFirst (AreLines log) lines)
no_output sink log lines = ([], (0, tt), begins_none sink (csv_text []))

-- all of them are some first ones
pub all-first : (log : List Entry) (lines : List Line) (rows : List (List (List ℕ))) → AreLines log lines rows → OfFirst (AreLines log) lines rows
all-first log lines rows are =
    let Are : List Line → Type 0 = λ l. AreLines log l rows in
    (length lines, subst Are (sym (take_all (length lines) lines (omega arith))) are)
