-- The first record of a text.
use Rattle.std.specs.Prelude.{ℕ, List, [], ◌∷◌}
use Rattle.csv.specs.Reading.{Reached, default_config, strip_bom}
use Rattle.csv.specs.declared.parser.State.{State}
use Rattle.csv.specs.declared.parser.State.TheVariants.{StartRecord}
use Rattle.schema.specs.declared.scale.Scale.{Scale}
use Rattle.files.specs.Place.{Rows, IsCsv}
use Rattle.dataset.specs.declared.format.Format.{Format}
use Rattle.dataset.specs.Records.{IsHeader}

-- the first record of the text has these fields, whatever follows it
abbrev pub BeginsWith : List ℕ → List (List ℕ) → Type 0
BeginsWith text fields = (state : State) × (left : List ℕ) × Reached default_config StartRecord (strip_bom text) (fields ∷ []) state left

-- the first record of the text is a header of that scale, in either format
abbrev pub BeginsWithHeader : Scale → List ℕ → Type 0
BeginsWithHeader scale text =
    (format : Format) × (header : List (List ℕ)) × IsHeader format scale header × BeginsWith text header

-- no header, of any format and scale, is the first record of the text
abbrev pub HasNoHeader : List ℕ → Type 0
HasNoHeader text =
    (format : Format) (scale : Scale) (header : List (List ℕ)) (rows : Rows) → IsHeader format scale header
    → IsCsv text (header ∷ rows) → ⊥
