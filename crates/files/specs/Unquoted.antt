-- A record with quotation marks, as far as it has been read.
use Rattle.std.specs.Prelude.{◌≡◌, ◌≤◌, ◌<◌, Bool, true, ◌+◌, ℕ, List, [], ◌∷◌, drop, length}
use Rattle.std.specs.List.{AllByRecursion}
use Rattle.csv.specs.Machine as Machine
use Rattle.csv.specs.Reading.{default_config}
use Rattle.csv.specs.declared.parser.State.{State as MachineState}
use Rattle.csv.specs.declared.parser.State.TheVariants as machine
use Rattle.csv.specs.declared.parser.Action.{Action as MachineAction}
use Rattle.csv.specs.declared.parser.Action.TheVariants as act
use Rattle.files.specs.declared.span.Span.{Span}
use Rattle.files.specs.declared.unquoted.Action.{Action}
use Rattle.files.specs.declared.unquoted.Action.TheVariants as action
use Rattle.files.specs.declared.unquoted.State.{State}
use Rattle.files.specs.declared.unquoted.State.TheVariants as state
use Rattle.files.specs.declared.unquoted.Unquoted.{Unquoted}
use Rattle.files.specs.Line.{is_in_record}
use Rattle.files.specs.Span.{parts, record_size}

-- the state of the machine that reads CSV
abbrev pub machine_state : State → MachineState
machine_state state.StartRecord = machine.StartRecord
machine_state state.AfterReturn = machine.AfterCr
machine_state state.StartField = machine.StartField
machine_state state.InField = machine.InField
machine_state state.InQuoted = machine.InQuoted
machine_state state.AfterQuote = machine.AfterQuote

-- the action of a byte in that machine
abbrev pub machine_action : Action → MachineAction
machine_action action.Skip = act.Skip
machine_action action.Copy = act.Copy
machine_action action.EndField = act.EndField
machine_action action.EndRecord = act.EndRecord

-- the state after a byte and its action, in that machine
abbrev pub machine_step : State × Action → MachineState × MachineAction
machine_step step = (machine_state step.0, machine_action step.1)

-- the fields that have ended
abbrev pub fields_ended : Unquoted → List Span → List (List ℕ)
fields_ended u spans = parts u.bytes.items spans

-- the bytes of the current field
abbrev pub field_begun : Unquoted → List ℕ
field_begun u = drop u.from u.bytes.items

-- the machine that reads CSV gets by this byte from the one record so far to the other; whether the byte ends the record
abbrev pub Feeds : Unquoted → List Span → ℕ → Unquoted → List Span → Bool → Type 0
Feeds old old_spans byte new new_spans ends =
    Machine.Feeds default_config (machine_state old.state) (fields_ended old old_spans) (field_begun old) (byte ∷ [])
    (machine_state new.state) (fields_ended new new_spans) (field_begun new) ends

-- the number of bytes of the record so far, with one for the end of each field
abbrev pub size_so_far : Unquoted → List Span → ℕ
size_so_far u spans = length u.bytes.items + length spans

-- the fields are in the bytes, one after the other, and the next one begins at from
pub record FieldsInTurn (s : MachineState) (bytes : List ℕ) (from : ℕ) (spans : List Span) : Type 0 where
  pub ended : AllByRecursion (λ span. span.to ≤ length bytes) spans
  pub begun : from ≤ length bytes
  pub size : record_size (parts bytes spans) ≡ from + length spans
  pub in_record : 0 < length bytes + length spans → is_in_record s ≡ true

-- the same for a record that is being read
abbrev pub IsInTurn : Unquoted → List Span → Type 0
IsInTurn u spans = FieldsInTurn (machine_state u.state) u.bytes.items u.from spans
