-- The text of a choice determines it.
use Rattle.std.proofs.Common.{◌≡◌, ◌<◌, ◌^◌, ℕ, List, true, false, drop, sym, ap, ◌∙◌, arith}
use Rattle.std.specs.Fmt.{decimal}
use Rattle.std.proofs.lemmas.Fmt.{decimal_injective}
use Rattle.requests.specs.LastName.{begins_with_hash}
use Rattle.requests.specs.declared.request.Choice.TheVariants.{Number, LastName}
use Rattle.terminals.specs.ChoiceLaws.{ChoiceTextsDiffer}
use Rattle.terminals.specs.ChoiceText.{choice_text}

-- a last name that is the text of a number begins with `#`
no_name : (number : ℕ) (last : List ℕ) → begins_with_hash last ≡ false → choice_text (Number number) ≡ last → true ≡ false
no_name number last h e = ap begins_with_hash e ∙ h

pub choice_texts_differ : ChoiceTextsDiffer
choice_texts_differ (Number one) (Number other) h k e =
    let small : one < 2 ^ 64 = omega arith in
    let small_too : other < 2 ^ 64 = omega arith in
    let digits : decimal one ≡ decimal other = ap (drop 1) e in
    ap Number (decimal_injective one other small small_too digits)
choice_texts_differ (Number one) (LastName last) h k e = let clash : true ≡ false = no_name one last k e in cc
choice_texts_differ (LastName last) (Number other) h k e = let clash : true ≡ false = no_name other last h (sym e) in cc
choice_texts_differ (LastName one) (LastName other) h k e = ap LastName e
