-- The settings and mistakes that `read_words` returns for the words of the command line.
use Rattle.std.specs.Prelude.{◌≡◌, ◌⊎◌, ℕ, List, [], ◌∷◌, Option, None, Some, MatchOption, if◌then◌else◌, codes}
use Rattle.std.specs.Str.{bytes_eq}
use Rattle.clap.specs.Words.{HasKind, IsAmong, fault_of, rows_of, subcommand_of}
use Rattle.clap.specs.declared.error.ErrorKind.TheVariants.{DisplayHelp, DisplayVersion}
use Rattle.clap.specs.declared.parser.matches.Found.{Found}
use Rattle.command_line.specs.declared.settings.Settings.{Settings}
use Rattle.command_line.specs.declared.settings.Settings.TheVariants.{Run, Sim, Populate, Script, Check, Migrate, Replay, Text}
use Rattle.command_line.specs.declared.usage.UsageFault.{UsageFault}
use Rattle.command_line.specs.declared.usage.UsageFault.TheVariants as usage
use Rattle.command_line.specs.CommandLine.{program}
use Rattle.command_line.specs.Mistakes.{IsPopulateFault, IsRunFault, IsScriptFault, IsSimFault}
use Rattle.command_line.specs.Words.{AsksForScripts, AsksToCheck, AsksToMigrate, AsksToPopulate, AsksToReplay, AsksToRun, AsksToSimulate}

-- ---- a command that is named

-- the settings are those of the command of this name; each is what clap found for it, or its default
abbrev pub AsksFor : List ℕ → Found → Settings → Type 0
AsksFor name found (Run s) = (name ≡ codes "run") × AsksToRun found s
AsksFor name found (Sim s) = (name ≡ codes "sim") × AsksToSimulate found s
AsksFor name found (Populate s) = (name ≡ codes "populate") × AsksToPopulate found s
AsksFor name found (Script s) = (name ≡ codes "script") × AsksForScripts found s
AsksFor name found (Check s) = (name ≡ codes "check") × AsksToCheck found s
AsksFor name found (Migrate s) = (name ≡ codes "migrate") × AsksToMigrate found s
AsksFor name found (Replay s) = (name ≡ codes "replay") × AsksToReplay found s
AsksFor name found (Text text) = ⊥

-- the fault is a mistake in what clap found for the command of this name, or there is no such command
abbrev pub IsFaultOf : List ℕ → Found → UsageFault → Type 0
IsFaultOf name found usage.NoCommand =
    (name ≡ codes "run" → ⊥) × (name ≡ codes "sim" → ⊥) × (name ≡ codes "populate" → ⊥) × (name ≡ codes "script" → ⊥)
    × (name ≡ codes "check" → ⊥) × (name ≡ codes "migrate" → ⊥) × (name ≡ codes "replay" → ⊥)
IsFaultOf name found fault =
    ((name ≡ codes "run") × IsRunFault found fault)
    ⊎ (((name ≡ codes "sim") × IsSimFault found fault)
    ⊎ (((name ≡ codes "populate") × IsPopulateFault found fault)
    ⊎ ((name ≡ codes "script") × IsScriptFault found fault)))

-- ---- all words, of which the first is the program's name

-- the command of `tpcc help COMMAND`, and `--help` for `tpcc help`
abbrev pub help_asked : List (List ℕ) → Option (List ℕ)
help_asked (name ∷ word ∷ []) = if bytes_eq word (codes "help") then Some (codes "--help") else None
help_asked (name ∷ word ∷ command ∷ []) = if bytes_eq word (codes "help") then Some command else None
help_asked _ = None

-- the words that ask clap for help of this command
abbrev pub help_words : List ℕ → List (List ℕ)
help_words command = codes "tpcc" ∷ command ∷ codes "--help" ∷ []

-- clap understands the words, they name a command, and `Is` holds of its name and of what clap found for it
abbrev pub NamesCommand : List (List ℕ) → (List ℕ → Found → Type 0) → Type 0
NamesCommand words Is =
    (fault_of program words ≡ []) × ((name : List ℕ) × (found : Found) × (subcommand_of program words ≡ Some (name, rows_of found)) × Is name found)

-- the settings are a text
abbrev pub IsVersion : Settings → Type 0
IsVersion (Text text) = Unit {0}
IsVersion settings = ⊥

-- The words ask for the version, and the settings are a text; or the settings are those of the command that they name.
abbrev pub MeansCommand : List (List ℕ) → Settings → Type 0
MeansCommand words (Text text) = IsAmong DisplayVersion (fault_of program words)
MeansCommand words settings = NamesCommand words (λ name found. AsksFor name found settings)

-- The settings are a text, and the words ask for help of this command.
abbrev pub MeansHelp : List ℕ → Settings → Type 0
MeansHelp command (Text text) = IsAmong DisplayHelp (fault_of program (help_words command))
MeansHelp command settings = ⊥

-- the settings are what the words ask for
abbrev pub IsAsked : List (List ℕ) → Settings → Type 0
IsAsked words settings = MatchOption (help_asked words) (MeansCommand words settings) (λ command. MeansHelp command settings)

-- The mistakes of words other than `tpcc help` and `tpcc help COMMAND`. Words: what clap finds first, or out of memory. Otherwise clap
-- understands the words, and the fault is one of the command that they name, or NoCommand: they name none.
abbrev pub MistakesCommand : List (List ℕ) → UsageFault → Type 0
MistakesCommand words (usage.Words error) = HasKind (fault_of program words) error
MistakesCommand words fault =
    NamesCommand words (λ name found. IsFaultOf name found fault)
    ⊎ ((fault ≡ usage.NoCommand) × (fault_of program words ≡ []) × (subcommand_of program words ≡ None))

-- the mistakes of words that are to ask for help
abbrev pub IsTextFault : List (List ℕ) → UsageFault → Type 0
IsTextFault words (usage.Words error) = HasKind (fault_of program words) error
IsTextFault words fault = (fault ≡ usage.NoCommand) × (fault_of program words ≡ [])

abbrev pub MistakesHelp : List ℕ → UsageFault → Type 0
MistakesHelp command fault = IsTextFault (help_words command) fault

-- the fault is what is wrong with the words
abbrev pub IsMistake : List (List ℕ) → UsageFault → Type 0
IsMistake words fault = MatchOption (help_asked words) (MistakesCommand words fault) (λ command. MistakesHelp command fault)
