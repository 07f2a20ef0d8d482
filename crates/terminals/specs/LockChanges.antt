-- The fields of a lock table that has changed, and the lines of a schedule's outputs with such changes among them.
use Rattle.std.specs.Prelude.{◌≡◌, ℕ, ◌+◌, Bool, List, [], ◌∷◌, ◌++◌, Option, None, Some, codes, map, nat_lt, not, if◌then◌else◌}
use Rattle.std.specs.Fmt.{decimal}
use Rattle.std.specs.List.{AllZip, flat_map}
use Rattle.requests.specs.Group.{group_text}
use Rattle.groups.specs.declared.group_wants.Mode.{Mode}
use Rattle.groups.specs.declared.group_wants.Mode.TheVariants.{Shared, Exclusive}
use Rattle.local_locks.specs.declared.entry.LockEntry.{LockEntry}
use Rattle.commit_log.specs.declared.entry.Entry.{Entry}
use Rattle.history.specs.declared.schedule.LockChange.{LockChange}
use Rattle.history.specs.declared.schedule.Output.{Output}
use Rattle.terminals.specs.Outputs.{IsOutput}

-- ---- a lock table

-- the field of an age
abbrev pub age_fields : ℕ → List (List ℕ)
age_fields age = decimal age ∷ []

-- the word for a mode
abbrev pub mode_word : Mode → List ℕ
mode_word Shared = codes "shared"
mode_word Exclusive = codes "exclusive"

-- the mode in which the group is held, and the ages of its holders; nothing if nobody holds it
abbrev pub holders_fields : Option Mode → List ℕ → List (List ℕ)
holders_fields None holders = []
holders_fields (Some mode) holders = mode_word mode ∷ flat_map age_fields holders

-- the word for waiting, and the ages of those that wait; nothing if nobody waits
abbrev pub waiters_fields : List ℕ → List (List ℕ)
waiters_fields [] = []
waiters_fields (age ∷ ages) = codes "waiting" ∷ flat_map age_fields (age ∷ ages)

-- the group's name, who holds it and who waits for it
abbrev pub entry_fields : LockEntry → List (List ℕ)
entry_fields entry = group_text entry.group ∷ (holders_fields entry.mode entry.holders.items ++ waiters_fields entry.waiters.items)

-- a word, the warehouse, and the fields of each entry
abbrev pub change_fields : LockChange → List (List ℕ)
change_fields change = codes "locks" ∷ decimal change.w_id ∷ flat_map entry_fields change.entries.items

-- ---- lines

-- a line that a schedule prints: an output, or a lock table that has changed
pub data Line : Type 0 where
  reported : Output → Line
  changed : LockChange → Line

-- these are the fields of the line
abbrev pub IsLine : List Entry → Line → List (List ℕ) → Type 0
IsLine log (reported output) fields = IsOutput log output fields
IsLine log (changed change) fields = fields ≡ change_fields change

-- the records of lines, one after the other
abbrev pub AreLines : List Entry → List Line → List (List (List ℕ)) → Type 0
AreLines log lines rows = AllZip (IsLine log) lines rows

-- whether the change comes before the output of this number, from 0
abbrev pub is_due : ℕ → LockChange → Bool
is_due n change = not (nat_lt n change.outputs)

-- the first changes, as long as they come before the output of this number
abbrev pub due : ℕ → List LockChange → List LockChange
due n [] = []
due n (change ∷ changes) = if is_due n change then change ∷ due n changes else []

-- the changes from the first one on that does not
abbrev pub later : ℕ → List LockChange → List LockChange
later n [] = []
later n (change ∷ changes) = if is_due n change then later n changes else change ∷ changes

-- The outputs from the one of this number on, with the changes among them: a change comes before the output whose number is
-- the number of outputs before it. What is left comes last.
abbrev pub lines : ℕ → List Output → List LockChange → List Line
lines n [] changes = map changed changes
lines n (output ∷ outputs) changes = map changed (due n changes) ++ reported output ∷ lines (n + 1) outputs (later n changes)
