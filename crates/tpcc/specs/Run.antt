-- How `tpcc run` ends, and which files have their names if it ends early.
use Rattle.std.specs.Prelude.{◌≡◌, ◌⊎◌, ℕ, ◌+◌, true, List, [], ◌∷◌, ◌++◌, length, slice_index_or, Option, None, Some, is_some, Result}
use Rattle.std.specs.List.{AllZip, slice_get}
use Rattle.std.specs.Option.{option_map}
use Rattle.schema.specs.Database.{Database}
use Rattle.schema.specs.Consistency.{Consistent}
use Rattle.requests.specs.declared.script.Part.{Part}
use Rattle.requests.specs.declared.refusal.Refusal.{Refusal}
use Rattle.commit_log.specs.declared.entry.Entry.{Entry}
use Rattle.range_moves.specs.declared.order.MoveOrder.{MoveOrder}
use Rattle.engine.specs.Faults.{AreWithin}
use Rattle.engine.specs.Outcome.{IsOutcome}
use Rattle.dataset.specs.Records.{AreRecords2, AreRecordsOfEither}
use Rattle.terminals.specs.LogRecord.{IsLog}
use Rattle.terminals.specs.Moves.{AreMoves}
use Rattle.terminals.specs.Script.{IsScript}
use Rattle.terminals.specs.Answers.{AreAnswers, AreInLog}
use Rattle.command_line.specs.declared.settings.run.RunSettings.{RunSettings}
use Rattle.tpcc.specs.declared.command_fault.CommandFault.{CommandFault}
use Rattle.files.specs.Sending.{BeginsToWrite, OfFirst, Writes}
use Rattle.tpcc.specs.Effects.{Change, CommandOutput, Source}
use Rattle.tpcc.specs.OutputFiles.{NamedTexts}
use Rattle.files.specs.Place.{Gives}
use Rattle.tpcc.specs.Edges.{NamesFile}

-- each place in the answers of a session is that of an entry of the log
abbrev pub AreAllInLog : List Entry → List (List (Result ℕ Refusal)) → Type 0
AreAllInLog log answers = (session : ℕ) (reported : List (Result ℕ Refusal)) → slice_get answers session ≡ Some reported → AreInLog log reported

-- every part of each script has one answer
abbrev pub AreAllAnswered : List (List Part) → List (List (Result ℕ Refusal)) → Type 0
AreAllAnswered scripts answers = (session : ℕ) → option_map length (slice_get answers session) ≡ option_map length (slice_get scripts session)

-- the script of a session; without one, no parts
abbrev pub script_of : List (List Part) → ℕ → List Part
script_of scripts session = slice_index_or scripts session []

-- the records of the answers to the script of each session from this one on, with the replies of this log, by session and in the order of
-- the parts
abbrev pub AreAllAnswers : List Entry → List (List Part) → ℕ → List (List (Result ℕ Refusal)) → List (List (List ℕ)) → Type 0
AreAllAnswers log scripts session [] rows = rows ≡ []
AreAllAnswers log scripts session (reported ∷ others) rows =
    (these : List (List (List ℕ))) × (rest : List (List (List ℕ))) × AreAnswers log session (script_of scripts session) reported these × AreAllAnswers log scripts (session + 1) others rest × (rows ≡ these ++ rest)

-- the records of a prefix of the answers: all answers of a prefix of the sessions, and a prefix of those of the next session
abbrev pub BeginAllAnswers : List Entry → List (List Part) → ℕ → List (List (Result ℕ Refusal)) → List (List (List ℕ)) → Type 0
BeginAllAnswers log scripts session [] rows = rows ≡ []
BeginAllAnswers log scripts session (reported ∷ others) rows =
    OfFirst (AreAnswers log session (script_of scripts session)) reported rows
    ⊎ ((these : List (List (List ℕ))) × (rest : List (List (List ℕ))) × AreAnswers log session (script_of scripts session) reported these × BeginAllAnswers log scripts (session + 1) others rest × (rows ≡ these ++ rest))

-- the source gives these moves; if there is no source, there are no moves
abbrev pub GivesMoves : Option (Option (List ℕ)) → List MoveOrder → Type 0
GivesMoves None moves = moves ≡ []
GivesMoves (Some source) moves = Gives source (AreMoves moves)

-- what a run reads: the dataset, the scripts, and the moves, if there is a file of them
pub record RunInputs (S : Type 0) : Type 1 where
  pub «data» : Source
  pub scripts : List S
  pub moves : Option S

-- the dataset, the scripts and the moves, as inputs
abbrev pub run_inputs : {S : Type 0} → Source → List S → Option S → RunInputs S
run_inputs «data» scripts moves = record { «data» = «data»; scripts = scripts; moves = moves }

-- the texts of these inputs, where they are known
pub record RunTexts : Type 0 where
  pub «data» : Option (List ℕ)
  pub scripts : List (Option (List ℕ))
  pub moves : Option (Option (List ℕ))

-- the texts of the dataset, the scripts and the moves, as those of a run
abbrev pub texts_of : Option (List ℕ) → List (Option (List ℕ)) → Option (Option (List ℕ)) → RunTexts
texts_of «data» scripts moves = record { «data» = «data»; scripts = scripts; moves = moves }

-- the files that a run makes, if they are asked for
pub record RunOutputs (F : Type 0) : Type 0 where
  pub log : Option F
  pub tables : Option F

-- the files of the log and the tables, as outputs
abbrev pub run_outputs : {F : Type 0} → Option F → Option F → RunOutputs F
run_outputs log tables = record { log = log; tables = tables }

-- The scripts that the texts give were served as the settings ask, on the tables that the dataset gives, which are consistent, with this log,
-- these last tables and these answers. All moves are possible.
pub record AreServed (settings : RunSettings) (texts : RunTexts) (log : List Entry) (last : Database) (answers : List (List (Result ℕ Refusal))) : Type 0 where
  pub opening : Database
  pub is_dataset : Gives texts.«data» (AreRecordsOfEither opening)
  pub consistent : Consistent opening
  pub moves : List MoveOrder
  pub are_moves : GivesMoves texts.moves moves
  pub within : AreWithin opening settings.executors moves
  pub scripts : List (List Part)
  pub are_scripts : AllZip (λ source script. Gives source (IsScript script)) texts.scripts scripts
  pub outcome : IsOutcome opening settings.log_limit scripts log last answers

module _ {F : Type 0} (contents : F → Option (List ℕ)) (files : RunOutputs F) (output : CommandOutput) where
  -- The records of all answers were printed. Then the files, if there are such, got their names: first the log with its records, then the tables
  -- with the records of the last tables.
  pub record HandsOut (scripts : List (List Part)) (log : List Entry) (last : Database) (answers : List (List (Result ℕ Refusal))) : Type 0 where
    pub printed : Writes output.printed.before output.printed.after (AreAllAnswers log scripts 0 answers)
    pub with_log : NamedTexts
    pub logged : NamesFile contents files.log output.named.before with_log (IsLog log)
    pub left : NamesFile contents files.tables with_log output.named.after (AreRecords2 last)

  -- A beginning of these records was printed, and no file has got its name; or tables are asked for, all records were printed, and the log, if
  -- there is one, has got its name.
  abbrev pub HandsOutSome : List (List Part) → List Entry → List (List (Result ℕ Refusal)) → Type 0
  HandsOutSome scripts log answers =
      (BeginsToWrite output.printed.before output.printed.after (BeginAllAnswers log scripts 0 answers)
      × (output.named.after ≡ output.named.before))
      ⊎ ((is_some files.tables ≡ true)
      × Writes output.printed.before output.printed.after (AreAllAnswers log scripts 0 answers)
      × NamesFile contents files.log output.named.before output.named.after (IsLog log))

module _ {F : Type 0} (contents : F → Option (List ℕ)) (settings : RunSettings) (texts : RunTexts) (files : RunOutputs F) (output : CommandOutput) where
  -- nothing was printed, and no file has got its name; or the scripts were served, and a part of the output was made (`HandsOutSome`)
  abbrev pub ServesSome : Type 0
  ServesSome =
      ((output.printed.after ≡ output.printed.before) × (output.named.after ≡ output.named.before))
      ⊎ ((log : List Entry) × (last : Database) × (answers : List (List (Result ℕ Refusal)))
      × (served : AreServed settings texts log last answers) × HandsOutSome contents files output served.scripts log answers)

  -- The scripts that the texts give were served on the tables that the dataset gives, all output was made (`HandsOut`), and no fault was
  -- reported.
  pub record Serves (reported : Change (Option (List CommandFault))) : Type 0 where
    pub log : List Entry
    pub last : Database
    pub answers : List (List (Result ℕ Refusal))
    pub are_served : AreServed settings texts log last answers
    pub handed_out : HandsOut contents files output are_served.scripts log last answers
    pub no_fault : reported.after ≡ reported.before
