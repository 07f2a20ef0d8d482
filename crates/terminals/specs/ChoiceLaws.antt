-- Laws of the text of a choice.
use Rattle.std.specs.Prelude.{◌≡◌, ◌<◌, ◌^◌, false}
use Rattle.requests.specs.LastName.{begins_with_hash}
use Rattle.requests.specs.declared.request.Choice.{Choice}
use Rattle.requests.specs.declared.request.Choice.TheVariants.{Number, LastName}
use Rattle.terminals.specs.ChoiceText.{choice_text}

-- A possible choice: a number of 32 bits, or a last name that does not begin with `#`.
abbrev pub IsChoice : Choice → Type 0
IsChoice (Number number) = number < 2 ^ 32
IsChoice (LastName last) = begins_with_hash last ≡ false

-- Different choices have different texts.
abbrev pub ChoiceTextsDiffer : Type 0
ChoiceTextsDiffer = (one other : Choice) → IsChoice one → IsChoice other → choice_text one ≡ choice_text other → one ≡ other
