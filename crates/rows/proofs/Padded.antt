-- A text with zeros behind it, as many as its column has bytes left.
use Rattle.std.proofs.Common.{◌≡◌, ℕ, zero, suc, ◌+◌, ◌-◌, ◌<◌, ◌≤◌, ◌==◌, true, false, cond, List, [], ◌∷◌, ◌++◌, length, take, drop, replicate, leb, slice_index, Option, Some, None, IsTrue, refl, sym, ap, ◌∙◌, append_assoc, length-append, arith}
use Rattle.std.specs.List.{list_all}
use borrow.Rule.Slice.PartMut.{put_mid}
use Rattle.std.specs.Option.{unwrap_or}
use Rattle.std.proofs.lemmas.Bool.Decides.{nat_tests}
use Rattle.std.proofs.lemmas.Bool.{and_parts, leb-true, leb-false, false≢true}
use Rattle.std.proofs.lemmas.List.{take_at, drop_at, drop-replicate, length-replicate}
use Rattle.memchr.specs.Find.{IsFirstByte, is_byte}
use Rattle.rows.specs.Text.{is_printable_byte, before_zero, IsPadded}
use Rattle.rows.proofs.Fitting.{list_all_both}

not_zero : (byte : ℕ) → IsTrue (is_printable_byte byte) → (byte == 0) ≡ false
not_zero byte h = grind (arith, nat_tests)

-- a text ends where the zeros begin
pub before_zeros : (text : List ℕ) (n : ℕ) → IsTrue (list_all is_printable_byte text) → before_zero (text ++ replicate n 0) ≡ text
before_zeros [] zero h = refl
before_zeros [] (suc n) h = refl
before_zeros (byte ∷ text) n h =
    ap (λ b. cond b [] (byte ∷ before_zero (text ++ replicate n 0))) (not_zero byte (and_parts _ _ h).0)
    ∙ ap (λ t. byte ∷ t) (before_zeros text n (and_parts _ _ h).1)

-- text and zeros are as many bytes as the column is wide
pub padded_length : (width : ℕ) (bytes : List ℕ) → IsPadded width bytes → length bytes ≡ width
padded_length width bytes h =
    let text = before_zero bytes in
    ap length h.padded ∙ length-append text (replicate (width - length text) 0)
    ∙ ap (λ n. length text + n) (length-replicate (width - length text) 0)
    ∙ (let e : length text + (width - length text) ≡ width = omega (arith, h.text.fits) in e)

-- more of a text is written over the zeros
module _ (width : ℕ) (old more part : List ℕ) (h : IsPadded width old)
    (at : ℕ) (is_end : at ≡ length (before_zero old)) (room : at + length more ≤ width) (printable : IsTrue (list_all is_printable_byte more)) (same : part ≡ more) where
  abbrev new : List ℕ
  new = put_mid at (at + length more - at) old part

  now_padded : new ≡ (before_zero old ++ more) ++ replicate (width - (at + length more)) 0
  now_padded =
      let text = before_zero old in
      let many = width - length (before_zero old) in
      let kept : take at old ≡ text = ap (take at) h.padded ∙ take_at text (replicate many 0) at (sym is_end) in
      let left : drop at old ≡ replicate many 0 = ap (drop at) h.padded ∙ drop_at text (replicate many 0) at (sym is_end) in
      let later : drop (at + length more - at) (drop at old) ≡ replicate (width - (at + length more)) 0 =
      ap (drop (at + length more - at)) left ∙ drop-replicate (at + length more - at) many 0
      ∙ ap (λ n. replicate n 0) (fewer width at (length more) (length text) is_end) in
      ap (λ l. take at old ++ (l ++ drop (at + length more - at) (drop at old))) same
      ∙ ap (λ l. l ++ (more ++ drop (at + length more - at) (drop at old))) kept
      ∙ ap (λ l. text ++ (more ++ l)) later ∙ sym (append_assoc text more _)
    where
      fewer : (w a m t : ℕ) → a ≡ t → w - t - (a + m - a) ≡ w - (a + m)
      fewer w a m t e = omega arith

  now_printable : IsTrue (list_all is_printable_byte (before_zero old ++ more))
  now_printable = list_all_both is_printable_byte (before_zero old) more h.text.printable printable

  pub text_with_more : before_zero new ≡ before_zero old ++ more
  text_with_more = ap before_zero now_padded ∙ before_zeros (before_zero old ++ more) (width - (at + length more)) now_printable

  pub padded_with_more : IsPadded width new
  padded_with_more =
      let longer : length (before_zero new) ≡ at + length more = ap length text_with_more ∙ length-append (before_zero old) more ∙ ap (λ n. n + length more) (sym is_end) in
      record {
        text = record {
          fits = omega (arith, longer, room);
          printable = ap (list_all is_printable_byte) text_with_more ∙ now_printable;
        };
        padded = now_padded ∙ ap (λ l. l ++ replicate (width - (at + length more)) 0) (sym text_with_more)
            ∙ ap (λ n. before_zero new ++ replicate (width - n) 0) (sym longer);
      }

-- ---- the end of a text

zero_behind : (text : List ℕ) (n : ℕ) → 0 < n → (slice_index (text ++ replicate n 0) (length text) == 0) ≡ true
zero_behind [] zero h = absurd (omega arith)
zero_behind [] (suc n) h = refl
zero_behind (byte ∷ text) n h = zero_behind text n h

none_within : (text : List ℕ) (n k : ℕ) → IsTrue (list_all is_printable_byte text) → k < length text → (slice_index (text ++ replicate n 0) k == 0) ≡ false
none_within [] n k h below = absurd (omega arith)
none_within (byte ∷ text) n zero h below = not_zero byte (and_parts _ _ h).0
none_within (byte ∷ text) n (suc k) h below = none_within text n k (and_parts _ _ h).1 (omega arith)

-- the first zero is where the text ends
pub first_zero_ends : (width : ℕ) (bytes : List ℕ) (found : Option ℕ) → IsPadded width bytes → IsFirstByte (is_byte 0) bytes found
    → unwrap_or found width ≡ length (before_zero bytes)
first_zero_ends width bytes None h none =
    let text = before_zero bytes in
    elim (leb width (length text)) as (λ b. leb width (length text) ≡ b → width ≡ length text) [
      | true ↦ λ e. let low = leb-true width (length text) e in omega (arith, low, h.text.fits)
      | false ↦ λ e.
          let high = leb-false width (length text) e in
          absurd (none (length text) (omega arith) (omega (arith, high, padded_length width bytes h))
          (ap (λ l. slice_index l (length text) == 0) h.padded ∙ zero_behind text (width - length text) (omega (arith, high))))
    ] refl
first_zero_ends width bytes (Some k) h some =
    let text = before_zero bytes in
    let at_k : (slice_index (text ++ replicate (width - length text) 0) k == 0) ≡ true = ap (λ l. slice_index l k == 0) (sym h.padded) ∙ some.1 in
    elim (leb (length text) k) as (λ b. leb (length text) k ≡ b → k ≡ length text) [
      | true ↦ λ e.
          let low = leb-true (length text) k e in
          elim (leb k (length text)) as (λ b. leb k (length text) ≡ b → k ≡ length text) [
            | true ↦ λ e'. let high = leb-true k (length text) e' in omega (arith, low, high)
            | false ↦ λ e'.
                let above = leb-false k (length text) e' in
                let inside = some.0.high in
                absurd (some.0.before (length text) (omega arith) (omega (arith, above))
                (ap (λ l. slice_index l (length text) == 0) h.padded ∙ zero_behind text (width - length text) (omega (arith, above, inside, padded_length width bytes h))))
          ] refl
      | false ↦ λ e.
          let below = leb-false (length text) k e in
          absurd (false≢true (sym (none_within text (width - length text) k h.text.printable (omega (arith, below))) ∙ at_k))
    ] refl
