-- What opening a world requires and gives, why it fails, and the result of a simulation.
use Rattle.std.specs.Prelude.{◌≡◌, ◌≢◌, ◌⊎◌, ◌<◌, ℕ, zero, suc, List, [], Some, None, Result, Ok, Err, map, replicate, slice_get, length}
use Rattle.rows.specs.declared.limits.TheConstants.{SESSIONS}
use Rattle.schema.specs.Database.{Database}
use Rattle.partitions.specs.Parts.{parts_of, shared_of}
use Rattle.consistency.specs.Broken.{BreaksFirst}
use Rattle.range_moves.specs.Placements.{IsOpenedBy}
use Rattle.tickets.specs.declared.group_names.GroupNames.{Ghosts as GroupNames}
use Rattle.tickets.specs.Openings.{AreNamed}
use Rattle.commit_log.specs.declared.log_names.LogNames.{Ghosts as LogNames}
use Rattle.commit_log.specs.LogTables.{table_of}
use Rattle.commit_log.specs.PassView.{PassView, SessionSeatView, new_pass, new_seat}
use Rattle.history.specs.History.{Step}
use Rattle.history.specs.declared.schedule.Scheduled.{Scheduled}
use Rattle.history.specs.Schedules.{EndsQuiet, Plays}
use Rattle.world.specs.declared.desk.SessionDesk.{SessionDesk}
use Rattle.slices.specs.Openings.{AreOpenedFor}
use Rattle.world.specs.declared.opening.Opening.{Opening}
use Rattle.world.specs.declared.opening.OpenFault.{OpenFault}
use Rattle.world.specs.declared.setup.Setup.{Setup}
use Rattle.world.specs.declared.opening.OpenFault.TheVariants.{NoMemory, BadExecutors, NotConsistent, BadLimit}
use Rattle.slices.specs.SliceView.{AreSlicesOf, all_at_rest, at_rest}
use Rattle.world.specs.declared.simulating.Simulation.{Simulation}
use Rattle.world.specs.declared.slots.TheConstants.{MOST_ACTIVE}
use Rattle.world.specs.declared.world.GatherFault.{GatherFault}
use Rattle.world.specs.declared.world.GatherFault.TheVariants as gather
use Rattle.world.specs.declared.world.Core.{Core}
use Rattle.world.specs.Parted.{joined_in}
use Rattle.world.specs.Shards.{slices_in, shard_of, waiting_in}
use Rattle.world.specs.Together.{together}
use Rattle.world.specs.Worlds.{Fits, HappenInTurn, IsNeverStuck, count_busy, tables_now}

-- The names of a world were picked for these tables and this opening. There is an agreement for each group of the tables, with
-- the group's content, and the names are of the agreements opened for the groups and for the log.
pub record IsNamedFor {J : Type 0} (log : LogNames J) (groups : GroupNames J) (tables : Database) (opening : Opening) : Type 0 where
  pub opened : AreOpenedFor tables opening.groups.items
  pub tables_are : log.opening ≡ tables
  pub warehouses : groups.warehouses ≡ tables.scale.warehouses
  pub agreements : AreNamed tables.scale.warehouses groups.committed groups.work opening.groups.items
  pub most : log.most ≡ opening.log.most
  pub length : log.length ≡ opening.log.length
  pub mine : (session : ℕ) → session < SESSIONS → log.mine session ≡ table_of opening.log.mine session
  pub asks : (session : ℕ) → session < SESSIONS → log.asks session ≡ table_of opening.log.asks session

-- NotConsistent names the least condition that these tables break.
abbrev pub IsFaultOf : Database → OpenFault → Type 0
IsFaultOf t NoMemory = Unit {0}
IsFaultOf t BadExecutors = Unit {0}
IsFaultOf t (NotConsistent n) = BreaksFirst t n
IsFaultOf t BadLimit = Unit {0}

-- The result of gathering while this many transactions are active and reports of a move awaited: if none is, these tables or
-- NoMemory; otherwise NotIdle.
abbrev pub IsGathered : ℕ → Database → Result Database GatherFault → Type 0
IsGathered zero tables gathered = (gathered ≡ Ok tables) ⊎ (gathered ≡ Err gather.NoMemory)
IsGathered (suc busy) tables gathered = gathered ≡ Err gather.NotIdle

-- The passes and seats of the sessions, by session number. They have asked, seen and logged nothing.
pub record AreNewLanes (lanes : List (PassView × SessionSeatView)) : Type 0 where
  pub many : length lanes ≡ SESSIONS
  pub each : (session : ℕ) → session < SESSIONS → slice_get lanes session ≡ Some (new_pass session, new_seat session)

module _ {J : Type 0} where
  -- The session at the desk, with its pass there.
  abbrev pub session_with : PassView × SessionSeatView → SessionDesk J
  session_with lane = record { seat = lane.1; pass = Some lane.0 }

  -- The result of gathering the tables of this world: `IsGathered` of its tables, whatever the opening of a history that fits it.
  abbrev pub IsGatheredFrom : Core J → Result Database GatherFault → Type 0
  IsGatheredFrom w gathered =
      (opening : Database) (history : List Step) → Fits opening history (together w) → IsGathered (count_busy w) (tables_now opening w.parts.log) gathered

  -- A world set up so over these tables, in which nothing has happened. Its shards have the rows of the tables,
  -- those of each warehouse in a slice of its own; no claim is held, and no action waits, at a shard or in a lock table. The
  -- slices are where the opening deals them out, no move is outstanding and nothing is parked. The queues of the executors and
  -- the log are empty, and so are the inbox and outbox of the parts. No transaction was admitted or is active, and each
  -- session has its pass at the desk and has asked nothing.
  pub record IsNew (tables : Database) (setup : Setup) (w : Core J) : Type 0 where
    pub catalog : w.parts.catalog ≡ shared_of tables
    pub shards : w.parts.shards.items ≡ map shard_of (map at_rest (parts_of tables))
    pub slices : AreSlicesOf w.parts.catalog (slices_in w.parts)
    pub none_waits : waiting_in w.parts ≡ []
    pub rows : joined_in w.parts ≡ all_at_rest tables
    pub placements : IsOpenedBy (record { warehouses = tables.scale.warehouses; executors = setup.executors }) w.placements
    pub parked : w.parked ≡ []
    pub log_limit : w.log_limit ≡ setup.limits.log
    pub inbox_limit : w.inbox_limit ≡ setup.limits.inbox
    pub inboxes : w.inboxes ≡ replicate setup.executors []
    pub outboxes : w.outboxes ≡ replicate setup.executors []
    pub in_hand : (w.parts.inbox ≡ []) × (w.parts.outbox ≡ [])
    pub log : w.parts.log ≡ []
    pub admitted : w.parts.desk.admitted ≡ 0
    pub active : w.parts.desk.active ≡ replicate MOST_ACTIVE None
    pub many : length w.parts.desk.sessions.items ≡ SESSIONS
    pub each : (session : ℕ) → session < SESSIONS → slice_get w.parts.desk.sessions.items session ≡ Some (session_with (new_pass session, new_seat session))

-- A schedule was simulated over tables in a world set up so. A history without events fits the first world, which is new.
-- The events of the schedule happened in turn; the outputs are what is printed for them. The events with their answers are a
-- history that fits the last world, which is not stuck. The log is that of the last world. The tables are the final tables of
-- the machine, unless a transaction is active, a move is outstanding or there is no memory for them.
pub record Simulates (J : Type 0) (opening : Database) (setup : Setup) (schedule : List Scheduled) (s : Simulation) : Type 0 where
  pub first : Core J
  pub last : Core J
  pub steps : List Step
  pub new : IsNew opening setup first
  pub begins : Fits opening [] (together first)
  pub plays : Plays setup.executors schedule s.outputs.items steps
  pub happen : HappenInTurn steps first last
  pub fits : Fits opening steps (together last)
  pub never_stuck : IsNeverStuck last
  pub log : s.log.items ≡ last.parts.log
  pub tables : IsGathered (count_busy last) (tables_now opening s.log.items) s.tables

-- A schedule was simulated in this world, as over all tables and set up in every way for which the world is new.
abbrev pub SimulatesFrom : {J : Type 0} → Core J → List Scheduled → Simulation → Type 0
SimulatesFrom {J} world schedule s =
    (opening : Database) (setup : Setup) → IsNew opening setup world → Fits opening [] (together world) → Simulates J opening setup schedule s

-- If the last output is `Quiet`, the simulation has its tables unless there was no memory for them.
abbrev pub HasTablesIfQuiet : Simulation → Type 0
HasTablesIfQuiet s = EndsQuiet s.outputs.items → s.tables ≢ Err gather.NotIdle
