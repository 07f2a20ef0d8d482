-- The text that is left to read.
use Rattle.std.specs.Prelude.{◌<◌, ℕ, List, [], length, Bool, Option, option_map, if◌then◌else◌}
use Rattle.std.specs.Io.KnownBytes.{IsAtEnd, Keeps, prepend_known}
use Rattle.csv.specs.Reading.{default_config, strip_bom}
use Rattle.csv.specs.declared.parser.State.TheVariants as state
use Rattle.csv.proofs.ReadFacts.{Tracks}
use Rattle.files.specs.declared.source.Source.{Source}
use Rattle.files.specs.Window.{items}

-- the bytes that are in memory
abbrev pub at_hand : {R : Type 0} → Source R → List ℕ
at_hand s = items s.window

-- whether a byte order mark has been looked for
abbrev pub is_begun : {R : Type 0} → Source R → Bool
is_begun s = s.is_begun

-- the bytes in memory, then those that the reader has left, if they are known
abbrev pub ahead : {R : Type 0} → (R → Option (List ℕ)) → Source R → Option (List ℕ)
ahead remaining s = prepend_known (at_hand s) (remaining s.reader)

-- the text that is left, without a byte order mark that has not been looked for yet
abbrev pub unread : {R : Type 0} → (R → Option (List ℕ)) → Source R → Option (List ℕ)
unread remaining s = if s.is_begun then ahead remaining s else option_map strip_bom (ahead remaining s)

-- the bytes ahead stay the same, if they are known
abbrev pub KeepsAhead : {R : Type 0} → (R → Option (List ℕ)) → Source R → Source R → Type 0
KeepsAhead remaining old new = Keeps (ahead remaining old) (ahead remaining new)

-- the next record of the bytes ahead stays the same, if they are known
abbrev pub KeepsNextRecord : {R : Type 0} → (R → Option (List ℕ)) → Source R → Source R → Type 0
KeepsNextRecord remaining old new =
    Tracks default_config state.StartRecord (ahead remaining old) state.StartRecord [] [] (ahead remaining new)

-- if there is room in memory, the reader has no more bytes
abbrev pub EndsUnlessFull : {R : Type 0} → (R → Option (List ℕ)) → Source R → Type 0
EndsUnlessFull remaining s = length (at_hand s) < 65536 → IsAtEnd (remaining s.reader)
