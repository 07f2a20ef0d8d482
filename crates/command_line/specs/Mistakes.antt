-- The mistakes in words that clap understands.
use Rattle.std.specs.Prelude.{◌≡◌, ◌⊎◌, ◌<◌, ◌≤◌, ℕ, List, length, Option, None, Some, codes, true}
use Rattle.std.specs.Fmt.{decimal}
use Rattle.std.specs.List.{slice_get}
use Rattle.std.specs.Ordering.{is_eq}
use Rattle.std.specs.Path.{path_cmp}
use Rattle.rows.specs.declared.limits.TheConstants.{INBOX, MOST_ENTRIES, MOST_WAREHOUSES}
use Rattle.clap.specs.Words.{first_value, kind_of}
use Rattle.clap.specs.declared.error.ErrorKind.TheVariants.{OutOfMemory}
use Rattle.clap.specs.declared.parser.matches.Found.{Found}
use Rattle.files.specs.MomentText.{IsMomentText}
use Rattle.workload.specs.declared.mix.Mix.{Mix}
use Rattle.command_line.specs.declared.usage.UsageFault.{UsageFault}
use Rattle.command_line.specs.declared.usage.UsageFault.TheVariants as usage
use Rattle.command_line.specs.MixText.{IsMixText}
use Rattle.command_line.specs.Settings.{IsSessionCount}
use Rattle.command_line.specs.Words.{all_words}

-- ---- mistakes of one option

-- out of memory, which is an error of clap
abbrev pub IsNoMemory : UsageFault → Type 0
IsNoMemory (usage.Words error) = kind_of error ≡ OutOfMemory
IsNoMemory _ = ⊥

-- there is no word, or it spells a number from low to high
abbrev pub IsNumberWord : ℕ → ℕ → Option (List ℕ) → Type 0
IsNumberWord low high None = Unit {0}
IsNumberWord low high (Some word) = (number : ℕ) × (decimal number ≡ word) × (low ≤ number) × (number ≤ high)

-- there is a word, and it spells no number from low to high; the fault contains the option and these limits
abbrev pub IsNumberFault : List ℕ → ℕ → ℕ → Option (List ℕ) → UsageFault → Type 0
IsNumberFault option low high (Some word) (usage.Number named from to) =
    (named.now ≡ option) × (from ≡ low) × (to ≡ high) × ((number : ℕ) → decimal number ≡ word → low ≤ number → number ≤ high → ⊥)
IsNumberFault option low high word fault = ⊥

-- there is a word, and it spells no moment of the years 1970 to 9999
abbrev pub IsMomentFault : Option (List ℕ) → UsageFault → Type 0
IsMomentFault (Some word) usage.Moment = (seconds : ℕ) → IsMomentText word seconds → seconds ≤ 253402300799 → ⊥
IsMomentFault word fault = ⊥

-- both paths are there and are equal
abbrev pub AreOnePath : Option (List ℕ) → Option (List ℕ) → Type 0
AreOnePath (Some one) (Some other) = is_eq (path_cmp one other) ≡ true
AreOnePath one other = ⊥

-- two of the paths are equal
abbrev pub HasPathTwice : List (List ℕ) → Type 0
HasPathTwice paths = (i : ℕ) × (j : ℕ) × (i < j) × AreOnePath (slice_get paths i) (slice_get paths j)

-- there is a word, and it is neither `on` nor `off`
abbrev pub IsRemoteFault : Option (List ℕ) → Type 0
IsRemoteFault None = ⊥
IsRemoteFault (Some word) = (word ≡ codes "on" → ⊥) × (word ≡ codes "off" → ⊥)

-- there is no word, or it is `on` or `off`
abbrev pub IsRemoteWord : Option (List ℕ) → Type 0
IsRemoteWord None = Unit {0}
IsRemoteWord (Some word) = (word ≡ codes "on") ⊎ (word ≡ codes "off")

-- there is a word, and it is the text of no mix
abbrev pub IsMixFault : Option (List ℕ) → Type 0
IsMixFault None = ⊥
IsMixFault (Some word) = (mix : Mix) → IsMixText word mix → ⊥

-- there is no word, or it is the text of a mix
abbrev pub IsMixWord : Option (List ℕ) → Type 0
IsMixWord None = Unit {0}
IsMixWord (Some word) = (mix : Mix) × IsMixText word mix

-- there are 1 to SESSIONS files, of different paths
abbrev pub AreFiles : List (List ℕ) → Type 0
AreFiles files = IsSessionCount (length files) × (HasPathTwice files → ⊥)

-- there are not 1 to SESSIONS files; or there are, and two of them have one path
abbrev pub IsFilesFault : List (List ℕ) → UsageFault → Type 0
IsFilesFault files fault =
    ((fault ≡ usage.FileCount) × (IsSessionCount (length files) → ⊥))
    ⊎ (IsSessionCount (length files) × (fault ≡ usage.SameFile) × HasPathTwice files)

-- ---- mistakes of each command

module _ (found : Found) where
  -- out of memory; not 1 to SESSIONS scripts; one path for log and tables; executors that are not 1 to 16; or else a log limit or an inbox out of
  -- its limits; or else tries that are not 1 to 10,000
  abbrev pub IsRunFault : UsageFault → Type 0
  IsRunFault (usage.Words error) = kind_of error ≡ OutOfMemory
  IsRunFault usage.ScriptCount = IsSessionCount (length (all_words found (codes "SCRIPT"))) → ⊥
  IsRunFault usage.SameOutput = AreOnePath (first_value found (codes "log")) (first_value found (codes "tables"))
  IsRunFault fault =
      IsNumberFault (codes "--executors") 1 16 (first_value found (codes "executors")) fault
      ⊎ (IsNumberWord 1 16 (first_value found (codes "executors")) × (
      IsNumberFault (codes "--log-limit") 1 MOST_ENTRIES (first_value found (codes "log-limit")) fault
      ⊎ (IsNumberWord 1 MOST_ENTRIES (first_value found (codes "log-limit")) × (
      IsNumberFault (codes "--inbox") 1 INBOX (first_value found (codes "inbox")) fault
      ⊎ (IsNumberWord 1 INBOX (first_value found (codes "inbox")) × IsNumberFault (codes "--tries") 1 10000 (first_value found (codes "tries")) fault)))))

  -- one path for two of log, picture and tables; or executors that are not 1 to 16; or else a log limit or an inbox out of its
  -- limits
  abbrev pub IsSimFault : UsageFault → Type 0
  IsSimFault usage.SameOutput =
      AreOnePath (first_value found (codes "log")) (first_value found (codes "picture"))
      ⊎ (AreOnePath (first_value found (codes "log")) (first_value found (codes "tables"))
      ⊎ AreOnePath (first_value found (codes "picture")) (first_value found (codes "tables")))
  IsSimFault fault =
      IsNumberFault (codes "--executors") 1 16 (first_value found (codes "executors")) fault
      ⊎ (IsNumberWord 1 16 (first_value found (codes "executors")) × (
      IsNumberFault (codes "--log-limit") 1 MOST_ENTRIES (first_value found (codes "log-limit")) fault
      ⊎ (IsNumberWord 1 MOST_ENTRIES (first_value found (codes "log-limit")) × IsNumberFault (codes "--inbox") 1 INBOX (first_value found (codes "inbox")) fault)))

  -- the fault is that of the first number that is out of its limits, or else that of the moment
  abbrev pub IsPopulateFault : UsageFault → Type 0
  IsPopulateFault fault =
      IsNumberFault (codes "--warehouses") 1 MOST_WAREHOUSES (first_value found (codes "warehouses")) fault
      ⊎ (IsNumberWord 1 MOST_WAREHOUSES (first_value found (codes "warehouses")) × (
      IsNumberFault (codes "--items") 1 100000 (first_value found (codes "items")) fault
      ⊎ (IsNumberWord 1 100000 (first_value found (codes "items")) × (
      IsNumberFault (codes "--customers") 1 3000 (first_value found (codes "customers")) fault
      ⊎ (IsNumberWord 1 3000 (first_value found (codes "customers")) × (
      IsNumberFault (codes "--seed") 0 4294967295 (first_value found (codes "seed")) fault
      ⊎ (IsNumberWord 0 4294967295 (first_value found (codes "seed")) × IsMomentFault (first_value found (codes "now")) fault)))))))

  -- the fault is that of the first option that is out of its limits
  abbrev pub IsOptionFault : UsageFault → Type 0
  IsOptionFault fault =
      IsNumberFault (codes "--requests") 0 MOST_ENTRIES (first_value found (codes "requests")) fault
      ⊎ (IsNumberWord 0 MOST_ENTRIES (first_value found (codes "requests")) × (
      IsNumberFault (codes "--seed") 0 4294967295 (first_value found (codes "seed")) fault
      ⊎ (IsNumberWord 0 4294967295 (first_value found (codes "seed")) × (
      ((fault ≡ usage.Mix) × IsMixFault (first_value found (codes "mix")))
      ⊎ (IsMixWord (first_value found (codes "mix")) × (
      IsNumberFault (codes "--home") 1 MOST_WAREHOUSES (first_value found (codes "home")) fault
      ⊎ (IsNumberWord 1 MOST_WAREHOUSES (first_value found (codes "home")) × (
      ((fault ≡ usage.Remote) × IsRemoteFault (first_value found (codes "remote")))
      ⊎ (IsRemoteWord (first_value found (codes "remote")) × IsMomentFault (first_value found (codes "now")) fault)))))))))

  -- The fault is that of the files; or else out of memory, or that of an option.
  abbrev pub IsScriptFault : UsageFault → Type 0
  IsScriptFault fault = IsFilesFault (all_words found (codes "FILE")) fault ⊎ (AreFiles (all_words found (codes "FILE")) × (IsNoMemory fault ⊎ IsOptionFault fault))
