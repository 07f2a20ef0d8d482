-- Decimal numbers are printable.
use Rattle.std.proofs.Common.{◌≡◌, ℕ, ◌+◌, ◌%◌, ◌<◌, ◌^◌, [], ◌∷◌, true, arith}
use Rattle.std.specs.Fmt.{decimal}
use Rattle.std.specs.List.{list_all}
use Rattle.std.proofs.lemmas.Fmt.{decimal_by_steps}
use Rattle.std.proofs.lemmas.Bool.Decides.{nat_tests}
use Rattle.rows.specs.Text.{is_printable_byte}
use Rattle.rows.proofs.Fitting.{list_all_both}

printable_digit : (d : ℕ) → d < 10 → list_all is_printable_byte ((48 + d) ∷ []) ≡ true
printable_digit d h = grind (arith, nat_tests)

pub printable-decimal : (n : ℕ) → n < 2 ^ 64 → list_all is_printable_byte (decimal n) ≡ true
printable-decimal =
    decimal_by_steps (λ n ds. list_all is_printable_byte ds ≡ true) printable_digit
    (λ n ds h k. list_all_both is_printable_byte ds ((48 + n % 10) ∷ []) k (printable_digit (n % 10) (omega arith)))
