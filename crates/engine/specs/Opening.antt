-- The state for which an engine is opened.
use Rattle.std.specs.Prelude.{◌≡◌, ◌<◌, ◌≤◌, ℕ, List, [], length}
use Rattle.atomic_table.specs.Seated.{TableId}
use Rattle.rows.specs.declared.limits.TheConstants.{SESSIONS}
use Rattle.schema.specs.Database.{Database}
use Rattle.partitions.specs.Parts.{shared_of}
use Rattle.requests.specs.declared.script.Part.{Part}
use Rattle.tickets.specs.declared.group_names.GroupNames.{Ghosts as GroupNames}
use Rattle.tickets.specs.Openings.{AreNamed}
use Rattle.commit_log.specs.declared.log_names.LogNames.{Ghosts as LogNames}
use Rattle.commit_log.specs.LogTables.{table_of}
use Rattle.slices.specs.Openings.{AreOpenedFor}
use Rattle.slices.specs.SliceView.{SliceView}
use Rattle.engine.specs.declared.opening.Opening.{Opening}

-- The type parameter identifies this opening's tables and agreements, and these scripts: there is an agreement for each group
-- of the tables, with the group's content; the log and the word that closes the engine are those that were opened; and each script
-- has a session.
pub record IsNamedFor {J : Type 0} (log : LogNames J) (groups : GroupNames J) (named : List (List Part)) (closing : TableId) (scripts : List (List Part)) (opening : Opening) : Type 0 where
  pub opened : AreOpenedFor opening.tables opening.groups.items
  pub tables_are : log.opening ≡ opening.tables
  pub warehouses : groups.warehouses ≡ opening.tables.scale.warehouses
  pub agreements : AreNamed opening.tables.scale.warehouses groups.committed groups.work opening.groups.items
  pub most_is : log.most ≡ opening.log.most
  pub length_is : log.length ≡ opening.log.length
  pub mine : (session : ℕ) → session < SESSIONS → log.mine session ≡ table_of opening.log.mine session
  pub asks : (session : ℕ) → session < SESSIONS → log.asks session ≡ table_of opening.log.asks session
  pub enough : length scripts ≤ opening.sessions
  pub scripts_are : named ≡ scripts
  pub closing_is : closing ≡ opening.closing
  pub closer_is : closing ≡ opening.closer

-- a slice of the opening that has no waiting action
pub record IsToOpen (opening : Database) (s : SliceView) : Type 0 where
  pub shared_is : shared_of s.tables ≡ shared_of opening
  pub nobody : s.waiters ≡ []
