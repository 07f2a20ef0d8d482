-- What `tpcc replay` prints, and how it ends.
use Rattle.std.specs.Prelude.{◌≡◌, ◌⊎◌, ℕ, List, [], ◌∷◌, ◌++◌, length, Option, codes}
use Rattle.std.specs.Fmt.{decimal}
use Rattle.std.specs.Io.KnownBytes.{Appends}
use Rattle.files.specs.Sending.{Begins}
use Rattle.schema.specs.Database.{Database}
use Rattle.commit_log.specs.declared.entry.Entry.{Entry}
use Rattle.commit_log.specs.declared.verdict.Replay.{Replay}
use Rattle.commit_log.specs.declared.verdict.Replay.TheVariants.{Equal, Differs}
use Rattle.commit_log.specs.Replay.{IsReplayOf}
use Rattle.dataset.specs.Records.{AreRecords2, AreRecordsOfEither}
use Rattle.terminals.specs.LogRecord.{IsLog}
use Rattle.tpcc.specs.declared.replay.Found.{Found}
use Rattle.tpcc.specs.declared.replay.Found.TheVariants as found
use Rattle.tpcc.specs.declared.command_fault.CommandFault.{CommandFault}
use Rattle.command_line.specs.declared.status.Status.{Status}
use Rattle.command_line.specs.declared.status.Status.TheVariants as status
use Rattle.tpcc.specs.Effects.{Change, CommandOutput, Source}
use Rattle.files.specs.Place.{Gives}
use Rattle.tpcc.specs.Edges.{NamesFile, lines_text}
use Rattle.command_line.specs.declared.settings.replay.ReplaySettings.{ReplaySettings}
use Rattle.tpcc.specs.EarlyEnds.{IsOfReplaying}
use Rattle.tpcc.specs.Faults.{EndsEarly}

-- the line of a replay's result
abbrev pub found_text : Found → List ℕ
found_text (found.Equal entries) = codes "equal " ++ decimal entries
found_text (found.Differs place) = codes "differs " ++ decimal place

-- that line, with a line feed behind it
abbrev pub found_line : Found → List ℕ
found_line result = lines_text (found_text result ∷ [])

-- the printed result of a replay of these entries: how many are equal, or the first place that differs
abbrev pub found_of : List Entry → Replay → Found
found_of entries (Equal last) = found.Equal (length entries)
found_of entries (Differs place) = found.Differs place

module _ {F : Type 0} (contents : F → Option (List ℕ)) (file : Option F) (output : CommandOutput) where
  -- the result of a replay of the entries was printed, with this exit status; if all are equal, the file, if there is one, has got its name
  -- with the records of the last tables; otherwise no file has got a name
  abbrev pub ReportsReplay : List Entry → Replay → Status → Type 0
  ReportsReplay entries (Equal last) ended =
      (ended ≡ status.Success)
      × Appends output.printed.before output.printed.after (found_line (found.Equal (length entries)))
      × NamesFile contents file output.named.before output.named.after (AreRecords2 last)
  ReportsReplay entries (Differs place) ended =
      (ended ≡ status.NotConsistent)
      × Appends output.printed.before output.printed.after (found_line (found.Differs place))
      × (output.named.after ≡ output.named.before)

-- the log contains these entries, and their replay on the tables that `data` gives has this result
pub record IsReplayed («data» log : Option (List ℕ)) (entries : List Entry) (replay : Replay) : Type 0 where
  pub opening : Database
  pub is_dataset : Gives «data» (AreRecordsOfEither opening)
  pub is_log : Gives log (IsLog entries)
  pub is_replay : IsReplayOf opening entries replay

module _ («data» log : Option (List ℕ)) (printed : Change (Option (List ℕ))) where
  -- the log was replayed, the result was printed, and no fault was reported
  pub record Replays (reported : Change (Option (List CommandFault))) (replay : Replay) : Type 0 where
    pub entries : List Entry
    pub is_replayed : IsReplayed «data» log entries replay
    pub appended : Appends printed.before printed.after (found_line (found_of entries replay))
    pub no_fault : reported.after ≡ reported.before

  -- nothing was printed; or the log was replayed, and a beginning of the line of its result was printed
  abbrev pub ReplaysSome : Type 0
  ReplaysSome =
      (printed.after ≡ printed.before)
      ⊎ ((entries : List Entry) × (replay : Replay) × IsReplayed «data» log entries replay
      × Begins printed.before printed.after (found_line (found_of entries replay)))

-- what a replay reads, and the file of the last tables, if it is asked for
pub record ReplayStreams (F : Type 0) : Type 1 where
  pub «data» : Source
  pub log : Source
  pub tables : Option F

-- the dataset, the log and the file of the last tables, as streams
abbrev pub replay_streams : {F : Type 0} → Source → Source → Option F → ReplayStreams F
replay_streams «data» log tables = record { «data» = «data»; log = log; tables = tables }

module _ {F : Type 0} (contents : F → Option (List ℕ)) (s : ReplaySettings) (streams : ReplayStreams F) (output : CommandOutput)
    (reported : Change (Option (List CommandFault))) where
  -- By the exit status. Success: every entry is equal, and the file, if there is one, has got its name with the records of the machine's last
  -- tables. NotConsistent: an entry differs, and no file has got a name. Otherwise no file has got a name, a fault of the dataset, the log or
  -- an output was reported, and at most a beginning of the line was printed.
  abbrev pub ReplayEnds : Status → Type 0
  ReplayEnds status.Success =
      (last : Database) × Replays streams.«data».remaining streams.log.remaining output.printed reported (Equal last)
      × NamesFile contents streams.tables output.named.before output.named.after (AreRecords2 last)
  ReplayEnds status.NotConsistent =
      (place : ℕ) × Replays streams.«data».remaining streams.log.remaining output.printed reported (Differs place)
      × (output.named.after ≡ output.named.before)
  ReplayEnds ended =
      (output.named.after ≡ output.named.before)
      × ReplaysSome streams.«data».remaining streams.log.remaining output.printed
      × EndsEarly (IsOfReplaying s streams.«data» streams.log) reported.before reported.after ended
