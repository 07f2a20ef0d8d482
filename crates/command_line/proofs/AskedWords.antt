-- From clap's results to what the words ask for.
use Rattle.std.proofs.Common.{◌≡◌, ◌⊎◌, ℕ, List, Option, None, Some, inl, inr, sym, subst}
use Rattle.std.specs.Prelude.{MatchOption}
use Rattle.clap.specs.Words.{HasKind, IsAmong, fault_of, first_value, kind_of}
use Rattle.std.specs.Prelude.{codes}
use Rattle.rows.specs.declared.limits.TheConstants.{MOST_ENTRIES, MOST_WAREHOUSES}
use Rattle.clap.specs.declared.error.Error.{Error}
use Rattle.clap.specs.declared.error.ErrorKind.TheVariants.{OutOfMemory, DisplayVersion}
use Rattle.clap.specs.declared.parser.matches.Found.{Found}
use Rattle.command_line.specs.declared.settings.Settings.{Settings}
use Rattle.command_line.specs.declared.settings.Settings.TheVariants.{Text}
use Rattle.command_line.specs.declared.usage.UsageFault.{UsageFault}
use Rattle.command_line.specs.declared.usage.UsageFault.TheVariants as usage
use Rattle.command_line.specs.CommandLine.{program}
use Rattle.command_line.specs.Mistakes.{IsFilesFault, IsMomentFault, IsNoMemory, IsNumberFault, IsOptionFault, IsPopulateFault, IsScriptFault, IsSimFault}
use Rattle.command_line.specs.Words.{all_words}
use Rattle.command_line.specs.Asked.{AsksFor, IsAsked, IsFaultOf, IsMistake, IsVersion, MeansCommand, MeansHelp, MistakesCommand, MistakesHelp, NamesCommand, help_asked}

module _ (words : List (List ℕ)) where
  -- ---- where no help is asked for

  pub means : (settings : Settings) → None ≡ help_asked words → MeansCommand words settings → IsAsked words settings
  means settings e is =
      let Asks : Option (List ℕ) → Type 0 = λ o. MatchOption o (MeansCommand words settings) (λ command. MeansHelp command settings) in
      subst Asks e is

  pub mistakes : (fault : UsageFault) → None ≡ help_asked words → MistakesCommand words fault → IsMistake words fault
  mistakes fault e is =
      let Fails : Option (List ℕ) → Type 0 = λ o. MatchOption o (MistakesCommand words fault) (λ command. MistakesHelp command fault) in
      subst Fails e is

  -- ---- what is asked for

  pub version : (settings : Settings) → IsVersion settings → IsAmong DisplayVersion (fault_of program words) → MeansCommand words settings
  version (Text text) is among = among
  version settings is among = absurd is

  pub named : (settings : Settings) → NamesCommand words (λ name found. AsksFor name found settings) → MeansCommand words settings
  named (Text text) names = absurd names.1.3
  named settings names = names

  -- ---- mistakes

  pub no_memory : (fault : UsageFault) → IsNoMemory fault → MistakesCommand words fault
  no_memory (usage.Words error) none = inl none
  no_memory fault none = absurd none

  pub reported : (error : Error) (fault : UsageFault) → HasKind (fault_of program words) error → IsNoMemory fault ⊎ (fault ≡ usage.Words error) → MistakesCommand words fault
  reported error fault has why =
      elim why [
        | inl none ↦ no_memory fault none
        | inr is ↦ let Fails : UsageFault → Type 0 = λ f. MistakesCommand words f in subst Fails (sym is) has
      ]

-- an error of clap is no number's fault, and no moment's
no_number : (option : List ℕ) (low high : ℕ) (word : Option (List ℕ)) (error : Error) → IsNumberFault option low high word (usage.Words error) → ⊥
no_number option low high None error h = h
no_number option low high (Some word) error h = h

no_moment : (word : Option (List ℕ)) (error : Error) → IsMomentFault word (usage.Words error) → ⊥
no_moment None error h = h
no_moment (Some word) error h = h

no_populate : (found : Found) (error : Error) → IsPopulateFault found (usage.Words error) → ⊥
no_populate found error h = elim h [
  | inl a ↦ no_number _ _ _ (first_value found (codes "warehouses")) error a
  | inr g ↦ elim g.1 [
    | inl b ↦ no_number _ _ _ (first_value found (codes "items")) error b
    | inr i ↦ elim i.1 [
      | inl d ↦ no_number _ _ _ (first_value found (codes "customers")) error d
      | inr j ↦ elim j.1 [
        | inl k ↦ no_number _ _ _ (first_value found (codes "seed")) error k
        | inr l ↦ no_moment (first_value found (codes "now")) error l.1
      ]
    ]
  ]
]

-- a fault that is none of any option
module _ (found : Found) (fault : UsageFault)
    (no_number_of : (option : List ℕ) (low high : ℕ) (word : Option (List ℕ)) → IsNumberFault option low high word fault → ⊥)
    (no_moment_of : (word : Option (List ℕ)) → IsMomentFault word fault → ⊥) (no_mix : fault ≡ usage.Mix → ⊥) (no_remote : fault ≡ usage.Remote → ⊥) where
  no_option : IsOptionFault found fault → ⊥
  no_option h = elim h [
    | inl a ↦ no_number_of (codes "--requests") 0 MOST_ENTRIES (first_value found (codes "requests")) a
    | inr b ↦ elim b.1 [
      | inl d ↦ no_number_of (codes "--seed") 0 4294967295 (first_value found (codes "seed")) d
      | inr e ↦ elim e.1 [
        | inl f ↦ no_mix f.0
        | inr g ↦ elim g.1 [
          | inl i ↦ no_number_of (codes "--home") 1 MOST_WAREHOUSES (first_value found (codes "home")) i
          | inr j ↦ elim j.1 [
            | inl k ↦ no_remote k.0
            | inr l ↦ no_moment_of (first_value found (codes "now")) l.1
          ]
        ]
      ]
    ]
  ]

no_files : (files : List (List ℕ)) (error : Error) → IsFilesFault files (usage.Words error) → ⊥
no_files files error h = elim h [
  | inl count ↦ let no : usage.Words error ≡ usage.FileCount = count.0 in absurd cc
  | inr twice ↦ let no : usage.Words error ≡ usage.SameFile = twice.1 in absurd cc
]

no_script : (found : Found) (error : Error) → IsScriptFault found (usage.Words error) → kind_of error ≡ OutOfMemory
no_script found error h = elim h [
  | inl files ↦ absurd (no_files (all_words found (codes "FILE")) error files)
  | inr others ↦ elim others.1 [
    | inl none ↦ none
    | inr option ↦ absurd (no_option found (usage.Words error) (λ name low high word. no_number name low high word error) (λ word. no_moment word error) (λ e. absurd cc) (λ e. absurd cc) option)
  ]
]

-- nor is it that no command is named
no_command_number : (option : List ℕ) (low high : ℕ) (word : Option (List ℕ)) → IsNumberFault option low high word usage.NoCommand → ⊥
no_command_number option low high None h = h
no_command_number option low high (Some word) h = h

no_command_moment : (word : Option (List ℕ)) → IsMomentFault word usage.NoCommand → ⊥
no_command_moment None h = h
no_command_moment (Some word) h = h

no_command : (found : Found) → IsScriptFault found usage.NoCommand → ⊥
no_command found h = elim h [
  | inl files ↦ elim files [
    | inl count ↦ let no : usage.NoCommand ≡ usage.FileCount = count.0 in absurd cc
    | inr twice ↦ let no : usage.NoCommand ≡ usage.SameFile = twice.1 in absurd cc
  ]
  | inr others ↦ elim others.1 [
    | inl none ↦ none
    | inr option ↦ no_option found usage.NoCommand no_command_number no_command_moment (λ e. absurd cc) (λ e. absurd cc) option
  ]
]

pub of_script : (name : List ℕ) (found : Found) (fault : UsageFault) → name ≡ codes "script" → IsScriptFault found fault → IsFaultOf name found fault
of_script name found usage.NoCommand is h = absurd (no_command found h)
of_script name found fault is h = inr (inr (inr (is, h)))

no_sim : (found : Found) (error : Error) → IsSimFault found (usage.Words error) → ⊥
no_sim found error h = elim h [
  | inl a ↦ no_number _ _ _ (first_value found (codes "executors")) error a
  | inr b ↦ elim b.1 [
    | inl d ↦ no_number _ _ _ (first_value found (codes "log-limit")) error d
    | inr e ↦ no_number _ _ _ (first_value found (codes "inbox")) error e.1
  ]
]

-- an error of clap for a command is out of memory
no_words : (name : List ℕ) (found : Found) (error : Error) → IsFaultOf name found (usage.Words error) → kind_of error ≡ OutOfMemory
no_words name found error h = elim h [
  | inl run ↦ run.1
  | inr others ↦ elim others [
    | inl sim ↦ absurd (no_sim found error sim.1)
    | inr more ↦ elim more [
      | inl populate ↦ absurd (no_populate found error populate.1)
      | inr script ↦ no_script found error script.1
    ]
  ]
]

pub of_command : (words : List (List ℕ)) (fault : UsageFault) → NamesCommand words (λ name found. IsFaultOf name found fault) → MistakesCommand words fault
of_command words (usage.Words error) names = inl (no_words names.1.0 names.1.1 error names.1.3)
of_command words fault names = inl names
