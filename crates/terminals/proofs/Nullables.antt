-- Fields that may be null.
use Rattle.std.proofs.Common.{◌≡◌, ℕ, List, [], ◌∷◌, Option, Some, None, MatchOption, IfNone, IfSome, refl}
use Rattle.std.specs.Fmt.{decimal}
use Rattle.files.specs.declared.fields.Fields.{Fields}
use Rattle.files.specs.Taken.{TakesMoment, TakesWell, fault_of, fields_left}
use Rattle.terminals.specs.Nullable.{IsNullableMoment, nullable_text}

-- a moment, or the empty field, was taken
pub moment_was_taken : (old new : Fields) (moment : Option ℕ) → IfNone moment (TakesWell old new [])
    → IfSome moment (λ seconds. TakesMoment old new seconds)
    → fault_of new ≡ None → (fault_of old ≡ None) × ((text : List ℕ) × IsNullableMoment text moment × (fields_left old ≡ text ∷ fields_left new))
moment_was_taken old new None null spelt none = let taken = null none in (taken.0, ([], refl, taken.1))
moment_was_taken old new (Some seconds) null spelt none = spelt none

-- a number, or the empty field, was taken
pub number_was_taken : (old new : Fields) (number : Option ℕ) → MatchOption number (TakesWell old new []) (λ n. TakesWell old new (decimal n))
    → TakesWell old new (nullable_text number)
number_was_taken old new None taken = taken
number_was_taken old new (Some n) taken = taken
