-- The field that identifies the customer.
use Rattle.std.specs.Prelude.{ℕ, List, ◌++◌, codes}
use Rattle.std.specs.Fmt.{decimal}
use Rattle.requests.specs.declared.request.Choice.{Choice}
use Rattle.requests.specs.declared.request.Choice.TheVariants.{Number, LastName}

-- The customer: `#` and the number, or the last name unchanged.
abbrev pub choice_text : Choice → List ℕ
choice_text (Number number) = codes "#" ++ decimal number
choice_text (LastName last) = last
