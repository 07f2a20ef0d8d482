-- The settings that the words of the command line ask for.
use Rattle.std.specs.Prelude.{◌≡◌, ℕ, if◌then◌else◌, Bool, true, false, List, [], map, Option, None, Some, codes, option_copied, option_map, unwrap_or}
use Rattle.std.specs.Fmt.{decimal}
use Rattle.rows.specs.declared.limits.TheConstants.{INBOX, MOST_ENTRIES}
use Rattle.clap.specs.Words.{first_value, matched_of, one_text, raw_values}
use Rattle.clap.specs.declared.parser.matches.Found.{Found}
use Rattle.files.specs.MomentText.{IsMomentText}
use Rattle.workload.specs.declared.mix.Mix.{Mix}
use Rattle.command_line.specs.MixText.{IsMixText}
use Rattle.command_line.specs.declared.settings.check.CheckSettings.{CheckSettings}
use Rattle.command_line.specs.declared.settings.migrate.MigrateSettings.{MigrateSettings}
use Rattle.command_line.specs.declared.settings.populate.PopulateSettings.{PopulateSettings}
use Rattle.command_line.specs.declared.settings.replay.ReplaySettings.{ReplaySettings}
use Rattle.command_line.specs.declared.settings.run.RunSettings.{RunSettings}
use Rattle.command_line.specs.declared.settings.script.ScriptSettings.{ScriptSettings}
use Rattle.command_line.specs.declared.settings.sim.SimSettings.{SimSettings}

-- ---- an argument or an option

-- the number that the option's word spells, or the default if there is no word
abbrev pub IsNumber : Option (List ℕ) → ℕ → ℕ → Type 0
IsNumber None default number = number ≡ default
IsNumber (Some word) default number = decimal number ≡ word

-- the moment that the option's word spells, or the beginning of 2024 if there is no word
abbrev pub IsMoment : Option (List ℕ) → ℕ → Type 0
IsMoment None seconds = seconds ≡ 1704067200
IsMoment (Some word) seconds = IsMomentText word seconds

-- the home warehouse that the option's word spells, or none if there is no word
abbrev pub IsHome : Option (List ℕ) → Option ℕ → Type 0
IsHome None home = home ≡ None
IsHome (Some word) home = (warehouse : ℕ) × (home ≡ Some warehouse) × (decimal warehouse ≡ word)

-- the mix of which the option's word is a text, or the benchmark's if there is no word
abbrev pub IsMixOf : Option (List ℕ) → Mix → Type 0
IsMixOf None mix = (mix.new_orders ≡ 45) × (mix.payments ≡ 43) × (mix.order_statuses ≡ 4) × (mix.deliveries ≡ 4) × (mix.stock_levels ≡ 4)
IsMixOf (Some word) mix = IsMixText word mix

-- whether other warehouses take part: as the option's word says, and they do if there is no word
abbrev pub IsRemote : Option (List ℕ) → Bool → Type 0
IsRemote None remote = remote ≡ true
IsRemote (Some word) remote = word ≡ (if remote then codes "on" else codes "off")

module _ (found : Found) where
  -- the words of an argument
  abbrev pub all_words : List ℕ → List (List ℕ)
  all_words id = unwrap_or (option_map raw_values (matched_of found id)) []

  -- the word of an argument, or the empty word if it has none
  abbrev pub word_of : List ℕ → List ℕ
  word_of id = unwrap_or (first_value found id) []

  -- the flag is set where the words set it
  pub record IsFlag (id : List ℕ) (flag : Bool) : Type 0 where
    pub none : one_text found id ≡ None → flag ≡ false
    pub value : one_text found id ≡ Some (codes "true") → flag ≡ true
    pub other : one_text found id ≡ Some (codes "false") → flag ≡ false

  -- ---- the commands

  pub record AsksToRun (s : RunSettings) : Type 0 where
    pub «data» : s.«data».now ≡ word_of (codes "DATA")
    pub scripts : map (λ path. path.now) s.scripts.items ≡ all_words (codes "SCRIPT")
    pub executors : IsNumber (first_value found (codes "executors")) 2 s.executors
    pub log_limit : IsNumber (first_value found (codes "log-limit")) MOST_ENTRIES s.log_limit
    pub inbox : IsNumber (first_value found (codes "inbox")) INBOX s.inbox
    pub tries : IsNumber (first_value found (codes "tries")) 100 s.tries
    pub moves : option_copied s.moves ≡ first_value found (codes "moves")
    pub log : option_copied s.log ≡ first_value found (codes "log")
    pub tables : option_copied s.tables ≡ first_value found (codes "tables")
    pub summary : IsFlag (codes "summary") s.summary
    pub quiet : IsFlag (codes "quiet") s.quiet

  pub record AsksToSimulate (s : SimSettings) : Type 0 where
    pub «data» : s.«data».now ≡ word_of (codes "DATA")
    pub schedule : s.schedule.now ≡ word_of (codes "SCHEDULE")
    pub executors : IsNumber (first_value found (codes "executors")) 2 s.executors
    pub log_limit : IsNumber (first_value found (codes "log-limit")) MOST_ENTRIES s.log_limit
    pub inbox : IsNumber (first_value found (codes "inbox")) INBOX s.inbox
    pub locks : IsFlag (codes "locks") s.locks
    pub log : option_copied s.log ≡ first_value found (codes "log")
    pub picture : option_copied s.picture ≡ first_value found (codes "picture")
    pub tables : option_copied s.tables ≡ first_value found (codes "tables")
    pub quiet : IsFlag (codes "quiet") s.quiet

  pub record AsksToPopulate (s : PopulateSettings) : Type 0 where
    pub file : s.file.now ≡ word_of (codes "FILE")
    pub warehouses : IsNumber (first_value found (codes "warehouses")) 1 s.scale.warehouses
    pub items : IsNumber (first_value found (codes "items")) 100000 s.scale.items
    pub customers : IsNumber (first_value found (codes "customers")) 3000 s.scale.customers
    pub seed : IsNumber (first_value found (codes "seed")) 1 s.seed
    pub now : IsMoment (first_value found (codes "now")) s.now
    pub quiet : IsFlag (codes "quiet") s.quiet

  pub record AsksForScripts (s : ScriptSettings) : Type 0 where
    pub «data» : s.«data».now ≡ word_of (codes "DATA")
    pub files : map (λ path. path.now) s.files.items ≡ all_words (codes "FILE")
    pub requests : IsNumber (first_value found (codes "requests")) 1000 s.requests
    pub seed : IsNumber (first_value found (codes "seed")) 1 s.seed
    pub mix : IsMixOf (first_value found (codes "mix")) s.mix
    pub home : IsHome (first_value found (codes "home")) s.home
    pub remote : IsRemote (first_value found (codes "remote")) s.remote
    pub start : IsMoment (first_value found (codes "now")) s.start
    pub quiet : IsFlag (codes "quiet") s.quiet

  pub record AsksToCheck (s : CheckSettings) : Type 0 where
    pub «data» : s.«data».now ≡ word_of (codes "DATA")
    pub fresh : IsFlag (codes "fresh") s.fresh
    pub quiet : IsFlag (codes "quiet") s.quiet

  pub record AsksToMigrate (s : MigrateSettings) : Type 0 where
    pub «data» : s.«data».now ≡ word_of (codes "OLD")
    pub file : s.file.now ≡ word_of (codes "NEW")
    pub quiet : IsFlag (codes "quiet") s.quiet

  pub record AsksToReplay (s : ReplaySettings) : Type 0 where
    pub «data» : s.«data».now ≡ word_of (codes "DATA")
    pub log : s.log.now ≡ word_of (codes "LOG")
    pub tables : option_copied s.tables ≡ first_value found (codes "tables")
    pub summary : IsFlag (codes "summary") s.summary
    pub quiet : IsFlag (codes "quiet") s.quiet
