-- A part of some bytes.
use Rattle.std.proofs.Common.{◌≡◌, ◌≤◌, ◌<◌, ◌+◌, ◌-◌, ◌⊎◌, inl, inr, min, nat_le, ℕ, zero, suc, List, [], ◌∷◌, take, drop, length, get_or, true, false, refl, sym, ap, ◌∙◌, arith, take_all, length-take}
use Rattle.std.proofs.lemmas.List.{drop_all, drop-take}
use Rattle.std.proofs.lemmas.Bool.Decides.{nat_tests}
use Rattle.files.specs.declared.span.Span.{Span}
use Rattle.files.specs.Span.{part, parts}

split : (m n : ℕ) → (m ≤ n) ⊎ (n < m)
split m n = elim (nat_le m n) as (λ b. nat_le m n ≡ b → (m ≤ n) ⊎ (n < m)) [ true ↦ λ e. inl (grind (arith, nat_tests)) | false ↦ λ e. inr (grind (arith, nat_tests)) ] refl

front_is : (bytes : List ℕ) (to t : ℕ) → t ≡ min to (length bytes) → take to bytes ≡ take t bytes
front_is bytes to t e = elim (split to (length bytes)) [
  | inl within ↦ ap (λ n. take n bytes) (omega (arith, within, e))
  | inr past ↦ take_all to bytes (omega (arith, past)) ∙ sym (take_all t bytes (omega (arith, past, e)))
]

-- the bytes of a field, without those past the last byte
pub part_is : (bytes : List ℕ) (from to t f : ℕ) → t ≡ min to (length bytes) → f ≡ min from t → take (t - f) (drop f bytes) ≡ drop from (take to bytes)
part_is bytes from to t f is_t is_f = elim (split from t) [
  | inl before ↦
      let same : f ≡ from = omega (arith, before, is_f) in
      let whole : t ≡ from + (t - from) = omega (arith, before) in
      ap (λ n. take (t - n) (drop n bytes)) same ∙ sym (drop-take from (t - from) bytes) ∙ ap (λ n. drop from (take n bytes)) (sym whole) ∙ ap (drop from) (sym (front_is bytes to t is_t))
  | inr after ↦
      let none : t - f ≡ 0 = omega (arith, after, is_f) in
      let size = length-take to bytes in
      ap (λ n. take n (drop f bytes)) none ∙ sym (drop_all from (take to bytes) (omega (arith, after, is_t, size)))
]

-- the next field, and those after it
pub next_part : (bytes : List ℕ) (spans : List Span) (place : ℕ) (span : Span) → place < length spans → span ≡ get_or spans place span
    → drop place (parts bytes spans) ≡ part bytes span ∷ drop 1 (drop place (parts bytes spans))
next_part bytes [] place span inside is = absurd (omega (arith, inside))
next_part bytes (first ∷ spans) zero span inside is = ap (λ s. part bytes s ∷ parts bytes spans) (sym is)
next_part bytes (first ∷ spans) (suc place) span inside is = next_part bytes spans place span (omega (arith, inside)) is
