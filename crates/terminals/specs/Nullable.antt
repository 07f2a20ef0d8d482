-- Fields that may be null.
use Rattle.std.specs.Prelude.{◌≡◌, ℕ, List, [], Option, Some, None}
use Rattle.std.specs.Fmt.{decimal}
use Rattle.files.specs.MomentText.{IsMomentText}

-- A number, or the empty field for null.
abbrev pub nullable_text : Option ℕ → List ℕ
nullable_text None = []
nullable_text (Some number) = decimal number

-- The text of a moment, or the empty field for null.
abbrev pub IsNullableMoment : List ℕ → Option ℕ → Type 0
IsNullableMoment text None = text ≡ []
IsNullableMoment text (Some moment) = IsMomentText text moment
