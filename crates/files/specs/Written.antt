-- What a writer of records has written.
use Rattle.std.specs.Prelude.{◌≡◌, ℕ, true, List, [], ◌∷◌, ◌++◌}
use Rattle.csv.specs.Writing.{default_writer, row_text, with_flexible}
use Rattle.csv.specs.declared.writer.WriterBuilder.{WriterBuilder}

-- commas between fields, quotation marks where a field needs them, and a line feed after each record; records may have
-- any number of fields
abbrev pub format : WriterBuilder
format = with_flexible default_writer true

-- the text of a record
abbrev pub record_text : List (List ℕ) → List ℕ
record_text fields = row_text format fields

-- the text of records, one after the other
unfoldable pub csv_text : List (List (List ℕ)) → List ℕ
csv_text [] = []
csv_text (fields ∷ rows) = record_text fields ++ csv_text rows

-- fields with this property were appended to a record
abbrev pub AddsFields : List (List ℕ) → List (List ℕ) → (List (List ℕ) → Type 0) → Type 0
AddsFields old new AreSaid = (fields : List (List ℕ)) × AreSaid fields × (new ≡ old ++ fields)

-- the state of a writer: the text that has not been sent yet, and the number of records, sent or not
pub record WriterView : Type 0 where
  pub text : List ℕ
  pub number : ℕ
