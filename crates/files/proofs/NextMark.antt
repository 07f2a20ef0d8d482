-- The next mark of a line, by the mask of a vector.
use Rattle.std.proofs.Common.{◌≡◌, ◌≢◌, ◌≤◌, ◌<◌, ◌+◌, ◌-◌, ◌*◌, ◌/◌, ◌%◌, ◌^◌, ℕ, zero, suc, List, [], ◌∷◌, Bool, true, false, cond, not, leb, length, get_or, map, replicate, take, drop, inl, inr, sym, ap, ◌∙◌, arith, w8, w64}
use Rattle.std.proofs.Math.Nat.{div-div-eq-div-mul, div-one, mul_comm, pow-suc, zero-div}
use Rattle.std.proofs.lemmas.Bool.{cases_lt, leb-true, leb-false}
use Rattle.std.proofs.lemmas.List.{drop-drop, drop-map, drop-take}
use Rattle.std.proofs.lemmas.Simd.{bitmask_splat, length-chunk, none_from_empty_mask, run_in_chunk_fails, run_in_chunk_stops, trailing_mask_l}
use Rattle.std.specs.Int.{trailing_zeros}
use Rattle.std.specs.List.{prefix_len}
use Rattle.std.specs.Simd.Lanes.{chunk, mask_l, top, zip2}
use Rattle.files.specs.declared.marks.Marks.{Marks}
use Rattle.files.specs.Marks.{ArePlain, IsNextMark, Reports, is_mark}

-- the mask of as many bytes as are looked at at once
abbrev mask_of : List ℕ → ℕ
mask_of lanes = mask_l (map (top 7) (zip2 (λ a b. cond (leb a b) 255 0) lanes (replicate 32 44))) % 2 ^ 64

-- the mask has a bit for each of those bytes
pub lanes_reported : (bytes : List ℕ) (at : ℕ) → at + 32 ≤ length bytes → Reports bytes at (record { mask = mask_of (chunk at 32 bytes); end = at + 32 })
lanes_reported bytes at room =
    let all : 32 ≡ at + 32 - at = omega arith in
    record {
      low = omega arith;
      few = omega arith;
      high = room;
      reported = bitmask_splat w8 leb (chunk at 32 bytes) 32 44 (length-chunk at 32 bytes room) (omega arith) ∙ ap (λ n. mask_l (map is_mark (chunk at n bytes))) all;
    }

-- a mask without its lowest bit
halved : (bit : Bool) (n : ℕ) → (cond bit 1 0 + 2 * n) / 2 ≡ n
halved true n = omega arith
halved false n = omega arith

-- a mask without its k lowest bits
mask_l-drop : (k : ℕ) (bits : List Bool) → mask_l bits / 2 ^ k ≡ mask_l (drop k bits)
mask_l-drop zero bits = div-one (mask_l bits)
mask_l-drop (suc k) [] = zero-div (2 ^ suc k)
mask_l-drop (suc k) (bit ∷ bits) =
    ap (λ n. mask_l (bit ∷ bits) / n) (pow-suc 2 k ∙ mul_comm (2 ^ k) 2)
    ∙ sym (div-div-eq-div-mul (mask_l (bit ∷ bits)) 2 (2 ^ k))
    ∙ ap (λ n. n / 2 ^ k) (halved bit (mask_l bits))
    ∙ mask_l-drop k bits

-- where a bit is set, a byte of the mask is a mark
some_set : (bytes : List ℕ) → 0 < mask_l (map is_mark bytes) → prefix_len (λ byte. not (is_mark byte)) bytes < length bytes
some_set [] some = absurd (omega arith)
some_set (byte ∷ bytes) some =
    elim (is_mark byte) as (λ b. 0 < cond b 1 0 + 2 * mask_l (map is_mark bytes) → cond (not b) (1 + prefix_len (λ x. not (is_mark x)) bytes) 0 < suc (length bytes)) [
      | true ↦ λ _. omega arith
      | false ↦ λ more. omega (arith, some_set bytes (omega arith))
    ] some

-- bytes are plain that are so up to a place and behind it
pub plain_more : (bytes : List ℕ) (at place end : ℕ) → ArePlain bytes at place → ArePlain bytes place end → ArePlain bytes at end
plain_more bytes at place end before behind k from to = elim (cases_lt k place) [ inl low ↦ before k from low | inr high ↦ behind k high to ]

-- where the bytes are plain up to a place, the next mark is the next from there on
pub next_behind : (bytes : List ℕ) (at place next : ℕ) → at ≤ place → ArePlain bytes at place → IsNextMark bytes place next → IsNextMark bytes at next
next_behind bytes at place next ordered before found = record {
  low = let low = found.low in omega arith;
  inside = found.inside;
  plain = plain_more bytes at place next before found.plain;
  mark = found.mark;
}

-- where no bit is set, the bytes of the mask are plain
pub none_reported : (bytes : List ℕ) (at : ℕ) (marks : Marks) → Reports bytes at marks → marks.mask ≡ 0 → ArePlain bytes at marks.end
none_reported bytes at marks h none k from to =
    let low = h.low in
    let high = h.high in
    leb-false (get_or bytes k 0) 44 (none_from_empty_mask is_mark bytes at (marks.end - at) 0 (omega arith) (sym h.reported ∙ none) k from (omega arith))

-- the lowest bit that is set is the next mark
pub first_reported : (bytes : List ℕ) (at : ℕ) (marks : Marks) → Reports bytes at marks → marks.mask ≢ 0
    → (trailing_zeros w64 marks.mask < marks.end - at) × IsNextMark bytes at (at + trailing_zeros w64 marks.mask)
first_reported bytes at marks h some =
    let low = h.low in
    let few = h.few in
    let high = h.high in
    let reported = h.reported in
    let room : at + (marks.end - at) ≤ length bytes = omega arith in
    let lanes = chunk at (marks.end - at) bytes in
    let long = length-chunk at (marks.end - at) bytes room in
    let run = ap (trailing_zeros w64) reported ∙ trailing_mask_l is_mark 64 lanes (omega arith) (omega arith) in
    let short = some_set lanes (omega arith) in
    let skipped : trailing_zeros w64 marks.mask < marks.end - at = omega arith in (
      skipped,
      record {
        low = omega arith;
        inside = omega arith;
        plain = λ k from to. leb-false (get_or bytes k 0) 44 (run_in_chunk_fails is_mark bytes at (marks.end - at) _ 0 room run k from to);
        mark = leb-true (get_or bytes _ 0) 44 (run_in_chunk_stops is_mark bytes at (marks.end - at) _ 0 room run skipped);
      },
    )

-- the bits after that of a byte are those of the bytes after it
pub rest_reported : (bytes : List ℕ) (at skipped : ℕ) (marks : Marks) → Reports bytes at marks → skipped < marks.end - at
    → Reports bytes (at + skipped + 1) (record { mask = marks.mask / 2 ^ (skipped + 1); end = marks.end })
rest_reported bytes at skipped marks h within =
    let low = h.low in
    let few = h.few in
    let k = skipped + 1 in
    let left = marks.end - (at + skipped + 1) in
    let all : marks.end - at ≡ k + left = omega arith in
    let same : at + k ≡ at + skipped + 1 = omega arith in
    let behind : drop k (chunk at (k + left) bytes) ≡ chunk (at + skipped + 1) left bytes = drop-take k left (drop at bytes) ∙ ap (take left) (drop-drop k at bytes ∙ ap (λ i. drop i bytes) same) in
    record {
      low = omega arith;
      few = omega arith;
      high = h.high;
      reported = ap (λ m. m / 2 ^ k) (h.reported ∙ ap (λ n. mask_l (map is_mark (chunk at n bytes))) all)
          ∙ mask_l-drop k (map is_mark (chunk at (k + left) bytes))
          ∙ ap mask_l (drop-map is_mark k (chunk at (k + left) bytes) ∙ ap (map is_mark) behind);
    }
