-- A number is read digit by digit, each looked at once.
use Rattle.std.proofs.Common.{◌≡◌, ◌≢◌, ◌≤◌, ◌<◌, ◌+◌, ◌-◌, ◌*◌, ◌/◌, ◌%◌, ◌^◌, ℕ, List, [], ◌∷◌, ◌++◌, take, drop, length, get_or, Bool, true, false, IsUtf8, refl, sym, ap, ◌∙◌, arith, take_all, length-drop, length-take, get_or-drop}
use Rattle.std.specs.Char.{is_ascii_digit}
use Rattle.std.specs.Fmt.{decimal}
use Rattle.std.specs.List.{list_all}
use Rattle.std.specs.Prelude.{◌&&◌, ◌==◌, not}
use Rattle.std.specs.Str.{IsAscii}
use Rattle.std.proofs.lemmas.Bool.Decides.{nat_tests}
use Rattle.std.proofs.lemmas.Fmt.{decimal_digit, decimal_step}
use Rattle.std.proofs.lemmas.List.{take_more}
use Rattle.std.proofs.lemmas.Str.{IsUtf8-from_ascii}
use Rattle.std.proofs.lemmas.Str.Ascii.{IsAscii-nil, IsAscii-cons}
use Rattle.files.specs.Number.{is_number, is_positive}

pub first_digit : (field : List ℕ) (number : ℕ) → 1 ≤ length field → number < 10 → get_or field 0 0 ≡ 48 + number → decimal number ≡ take 1 field
first_digit [] number some small is = absurd (omega (arith, some))
first_digit (byte ∷ field) number some small is = decimal_digit number small ∙ ap (λ b. b ∷ []) (sym is)

pub next_digit : (field : List ℕ) (place number digit : ℕ) → decimal number ≡ take (place + 1) field → place < length (take (length field - 1) (drop 1 field)) → number ≢ 0 → number < 1_000_000_000_000_000_000
    → digit < 10 → get_or (take (length field - 1) (drop 1 field)) place 0 ≡ 48 + digit → decimal (number * 10 + digit) ≡ take (place + 1 + 1) field
next_digit field place number digit so_far below some small is_digit is =
    let long = length-take (length field - 1) (drop 1 field) in
    let inside : place < length field - 1 = omega (arith, below, long) in
    let rest : get_or field (1 + place) 0 ≡ 48 + digit =
    sym (get_or-drop 1 field place 0) ∙ ap (λ l. get_or l place 0) (sym (take_all (length field - 1) (drop 1 field) (let long = length-drop 1 field in omega (arith, long)))) ∙ is in
    let at : get_or field (place + 1) 0 ≡ 48 + digit = ap (λ k. get_or field k 0) (omega arith) ∙ rest in
    let low : 10 ≤ number * 10 + digit = omega (arith, some) in
    let fits : number * 10 + digit < 2 ^ 64 = omega arith in
    let tens : (number * 10 + digit) / 10 ≡ number = omega arith in
    let ones : 48 + (number * 10 + digit) % 10 ≡ 48 + digit = omega arith in
    decimal_step (number * 10 + digit) low fits
    ∙ ap (λ n. decimal n ++ ((48 + (number * 10 + digit) % 10) ∷ [])) tens
    ∙ ap (λ b. decimal number ++ (b ∷ [])) (ones ∙ sym at)
    ∙ ap (λ l. l ++ (get_or field (place + 1) 0 ∷ [])) so_far
    ∙ sym (take_more field (place + 1) 0 (omega (arith, inside)))

both : (b c : Bool) → (b && c) ≡ true → (b ≡ true) × (c ≡ true)
both true c h = (refl, h)
both false c h = absurd (cc h)

digits_ascii : (bytes : List ℕ) → list_all is_ascii_digit bytes ≡ true → IsAscii bytes
digits_ascii [] h = IsAscii-nil
digits_ascii (byte ∷ bytes) h =
    let parts = both (is_ascii_digit byte) (list_all is_ascii_digit bytes) h in
    let digit = parts.0 in
    IsAscii-cons byte bytes (grind (arith, nat_tests, digit)) (digits_ascii bytes parts.1)

positive_ascii : (bytes : List ℕ) → is_positive bytes ≡ true → IsAscii bytes
positive_ascii [] h = IsAscii-nil
positive_ascii (byte ∷ bytes) h = digits_ascii (byte ∷ bytes) (both (not (byte == 48)) (list_all is_ascii_digit (byte ∷ bytes)) h).1

number_ascii : (bytes : List ℕ) → is_number bytes ≡ true → IsAscii bytes
number_ascii [] h = IsAscii-nil
number_ascii (byte ∷ bytes) h =
    elim (byte == 45) as (λ t. byte == 45 ≡ t → IsAscii (byte ∷ bytes)) [
      | true ↦ λ e. let minus : byte < 128 = grind (arith, nat_tests) in IsAscii-cons byte bytes minus (positive_ascii bytes (rw e at h))
      | false ↦ λ e. elim (byte == 48) as (λ t. byte == 48 ≡ t → IsAscii (byte ∷ bytes)) [
        | true ↦ λ z. let zero_byte : byte < 128 = grind (arith, nat_tests) in IsAscii-cons byte bytes zero_byte (no_more bytes (rw (e, z) at h))
        | false ↦ λ z. digits_ascii (byte ∷ bytes) (rw (e, z) at h)
      ] refl
    ] refl
  where
    no_more : (bytes : List ℕ) → (length bytes == 0) ≡ true → IsAscii bytes
    no_more [] none = IsAscii-nil
    no_more (byte ∷ bytes) none = absurd (grind (arith, nat_tests, none))

-- what spells a number is text
pub number_is_text : (bytes : List ℕ) → is_number bytes ≡ true → IsUtf8 bytes
number_is_text bytes h = IsUtf8-from_ascii bytes (number_ascii bytes h)
