-- Chunks of rows that are split off at their end.
use Rattle.std.proofs.Common.{◌≡◌, ℕ, ◌+◌, ◌*◌, ◌≤◌, List, take, drop, sym, ap, ◌∙◌, arith}
use Rattle.std.proofs.lemmas.List.{take-take, drop-take}
use Rattle.partitions.specs.Splits.{chunk}

module _ {X : Type 0} (each : ℕ) (rows : List X) where
  -- what is split off is the last chunk
  pub split_off_chunk : (place : ℕ) → drop (place * each) (take ((place + 1) * each) rows) ≡ chunk each place rows
  split_off_chunk place =
      let e : (place + 1) * each ≡ place * each + each = grind arith in
      ap (λ n. drop (place * each) (take n rows)) e ∙ drop-take (place * each) each rows

  -- and the others are left
  pub rest_left : (place : ℕ) → take (place * each) (take ((place + 1) * each) rows) ≡ take (place * each) rows
  rest_left place = let l : place * each ≤ (place + 1) * each = grind arith in take-take (place * each) ((place + 1) * each) rows l

  -- what is left at the end is the first
  pub first_chunk : take ((0 + 1) * each) rows ≡ chunk each 0 rows
  first_chunk =
      let e : (0 + 1) * each ≡ each = grind arith in
      let z : 0 * each ≡ 0 = grind arith in
      ap (λ n. take n rows) e ∙ ap (λ n. take each (drop n rows)) (sym z)
