-- Settings within their limits.
use Rattle.std.specs.Prelude.{◌≤◌, ℕ, length}
use Rattle.rows.specs.declared.limits.TheConstants.{INBOX, MOST_ENTRIES, SESSIONS}
use Rattle.command_line.specs.declared.settings.Settings.{Settings}
use Rattle.command_line.specs.declared.settings.Settings.TheVariants.{Run, Sim, Populate, Script, Check, Migrate, Replay, Text}
use Rattle.command_line.specs.declared.settings.run.RunSettings.{RunSettings}
use Rattle.command_line.specs.declared.settings.script.ScriptSettings.{ScriptSettings}
use Rattle.command_line.specs.declared.settings.sim.SimSettings.{SimSettings}

-- there are 1 to SESSIONS sessions, each with a script of its own
abbrev pub IsSessionCount : ℕ → Type 0
IsSessionCount count = (1 ≤ count) × (count ≤ SESSIONS)

-- a run has 1 to SESSIONS scripts, one for each session
abbrev pub HasSessions : RunSettings → Type 0
HasSessions run = IsSessionCount (length run.scripts.items)

-- a run has its sessions, 1 to 16 executors that serve them, a log of 1 to MOST_ENTRIES entries, inboxes of 1 to INBOX messages, and 1 to 10000
-- tries
abbrev pub IsRunnable : RunSettings → Type 0
IsRunnable run =
    HasSessions run × (1 ≤ run.executors) × (run.executors ≤ 16) × (1 ≤ run.log_limit) × (run.log_limit ≤ MOST_ENTRIES) × (1 ≤ run.inbox) × (run.inbox ≤ INBOX) × (1 ≤ run.tries) × (run.tries ≤ 10000)

-- a simulation has 1 to 16 executors, a log of 1 to MOST_ENTRIES entries, and inboxes of 1 to INBOX messages
abbrev pub IsPlayable : SimSettings → Type 0
IsPlayable sim = (1 ≤ sim.executors) × (sim.executors ≤ 16) × (1 ≤ sim.log_limit) × (sim.log_limit ≤ MOST_ENTRIES) × (1 ≤ sim.inbox) × (sim.inbox ≤ INBOX)

-- there are 1 to SESSIONS files for scripts, one for each session
abbrev pub HasFiles : ScriptSettings → Type 0
HasFiles script = IsSessionCount (length script.files.items)

-- the settings of `tpcc run`, `tpcc sim` and `tpcc script` are within the limits above; nothing is asked of the others
abbrev pub IsWithinLimits : Settings → Type 0
IsWithinLimits (Run run) = IsRunnable run
IsWithinLimits (Sim sim) = IsPlayable sim
IsWithinLimits (Populate populate) = Unit {0}
IsWithinLimits (Script script) = HasFiles script
IsWithinLimits (Check check) = Unit {0}
IsWithinLimits (Migrate migrate) = Unit {0}
IsWithinLimits (Replay replay) = Unit {0}
IsWithinLimits (Text text) = Unit {0}
