-- The spelling of a number is what is printed of it, and `parse` reads it.
use Rattle.std.proofs.Common.{rules, lit<, ◌≡◌, ◌≢◌, ℕ, ℤ, pos, negsuc, zero, suc, ◌<◌, ◌^◌, true, false, List, [], ◌∷◌, length, get_or, Result, Ok, sym, ap, subst, ◌∙◌, arith, w64, neg_ℤ, FitsSigned}
use Rattle.std.specs.Fmt.{decimal, signed_decimal}
use Rattle.std.specs.List.{list_all}
use Rattle.std.specs.Char.{is_ascii_digit}
use Rattle.std.specs.Str.Parse.{digits_value, ParsesUnsigned}
use Rattle.std.proofs.lemmas.Str.Parse.{IsNumeralModel, numerals_by_value, parse_plain}
use Rattle.std.proofs.lemmas.Fmt.{decimal-digits_value, first_decimal, digits_decimal, decimal_digit}
use Rattle.std.proofs.lemmas.Bool.Decides.{nat_tests}
use Rattle.files.specs.Number.{is_positive, is_number}

pub own : IsNumeralModel (λ ds. list_all is_ascii_digit ds ≡ true) (digits_value 10)
own = numerals_by_value (λ ds. list_all is_ascii_digit ds ≡ true) (search rules)

-- a number's spelling does not begin with a plus sign
pub number_plain : (bs : List ℕ) → is_number bs ≡ true → get_or bs 0 0 ≢ 43
number_plain [] h = grind arith
number_plain (c ∷ cs) h = grind (arith, nat_tests)

-- and if it is digits, `0` is first only if it is alone
number_no_zeros : (bs : List ℕ) → is_number bs ≡ true → list_all is_ascii_digit bs ≡ true → get_or bs 0 0 ≡ 48 → length bs ≡ 1
number_no_zeros [] h d z = grind arith
number_no_zeros (c ∷ cs) h d z = grind (arith, nat_tests)

-- digits are the spelling of their value
pub spelling : (bs : List ℕ) → is_number bs ≡ true → list_all is_ascii_digit bs ≡ true → 0 < length bs → digits_value 10 bs < 2 ^ 64 → decimal (digits_value 10 bs) ≡ bs
spelling bs h d l v = decimal-digits_value own bs d l (number_no_zeros bs h d) v

-- what was read of a number's spelling is printed so
pub decimal-parsed : {E : Type 0} (bs : List ℕ) (r : Result ℕ E) → ParsesUnsigned 64 10 bs r → is_number bs ≡ true → (n : ℕ) → r ≡ Ok n → decimal n ≡ bs
decimal-parsed {E} bs r h number n e =
    let plain = parse_plain own 64 bs r h (number_plain bs number) in
    let read = rw e at plain in
    rw read.1 (spelling bs number read.0.0 read.0.1 read.0.2)

pub all_digits_decimal : (n : ℕ) → n < 2 ^ 64 → list_all is_ascii_digit (decimal n) ≡ true
all_digits_decimal n h = digits_decimal own n h

-- digits whose first is above 48 are a positive number
positive_of_digits : (ds : List ℕ) → list_all is_ascii_digit ds ≡ true → 48 < get_or ds 0 0 → is_positive ds ≡ true
positive_of_digits [] d f = grind arith
positive_of_digits (c ∷ cs) d f = grind (arith, nat_tests)

pub number_of_positive : (ds : List ℕ) → is_positive ds ≡ true → is_number ds ≡ true
number_of_positive [] p = p
number_of_positive (c ∷ cs) p = grind (arith, nat_tests)

positive-decimal : (n : ℕ) → 0 < n → n < 2 ^ 64 → is_positive (decimal n) ≡ true
positive-decimal n z h = positive_of_digits (decimal n) (all_digits_decimal n h) (first_decimal n z h)

-- what is printed of a number is a number's spelling
pub is_number-decimal : (n : ℕ) → n < 2 ^ 64 → is_number (decimal n) ≡ true
is_number-decimal zero h = rw (decimal_digit 0 (lit< tt))
is_number-decimal (suc n) h = number_of_positive (decimal (suc n)) (positive-decimal (suc n) (omega arith) h)

-- a negative number's spelling
pub signed_negative : (v : ℕ) (ds : List ℕ) → decimal v ≡ ds → is_positive ds ≡ true → signed_decimal (neg_ℤ (pos v)) ≡ 45 ∷ ds
signed_negative zero ds e p =
    let zero_text : 48 ∷ [] ≡ ds = sym (decimal_digit 0 (lit< tt)) ∙ e in
    let at : List ℕ → Type 0 = λ l. is_positive l ≡ true in
    let no : false ≡ true = subst at (sym zero_text) p in
    cc
signed_negative (suc k) ds e p = ap (λ l. 45 ∷ l) e

pub is_number-signed : (z : ℤ) → FitsSigned w64 z → is_number (signed_decimal z) ≡ true
is_number-signed (pos n) h = is_number-decimal n (omega arith)
is_number-signed (negsuc n) h = positive-decimal (suc n) (omega arith) (omega arith)

-- a number's spelling is not empty
pub some_digits : (n : ℕ) → n < 2 ^ 64 → decimal n ≡ [] → ⊥
some_digits n h e = let no : false ≡ true = sym (ap is_number e) ∙ is_number-decimal n h in cc
