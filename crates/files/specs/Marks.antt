-- The bytes of a line that may be something other than part of a field.
use Rattle.std.specs.Prelude.{◌≡◌, ◌≤◌, ◌<◌, ◌+◌, ◌-◌, ℕ, Bool, List, Option, MatchOption, length, map, nat_le, slice_index}
use Rattle.std.specs.Simd.Lanes.{chunk, mask_l}
use Rattle.files.specs.declared.marks.Marks.{Marks}

-- whether a byte is a mark: at most a comma
abbrev pub is_mark : ℕ → Bool
is_mark byte = nat_le byte 44

-- no byte at these indices is a mark
abbrev pub ArePlain : List ℕ → ℕ → ℕ → Type 0
ArePlain bytes at end = (k : ℕ) → at ≤ k → k < end → 44 < slice_index bytes k

-- the first index from at on whose byte is a mark
pub record IsNextMark (bytes : List ℕ) (at place : ℕ) : Type 0 where
  pub low : at ≤ place
  pub inside : place < length bytes
  pub plain : ArePlain bytes at place
  pub mark : slice_index bytes place ≤ 44

-- the index of the next mark from at on was found, or there is none
abbrev pub FindsMark : List ℕ → ℕ → Option ℕ → Type 0
FindsMark bytes at found = MatchOption found (ArePlain bytes at (length bytes)) (IsNextMark bytes at)

-- the mask has a bit for each byte from at up to its end: 1 if the byte is a mark
pub record Reports (bytes : List ℕ) (at : ℕ) (marks : Marks) : Type 0 where
  pub low : at ≤ marks.end
  pub few : marks.end ≤ at + 32
  pub high : marks.end ≤ length bytes
  pub reported : marks.mask ≡ mask_l (map is_mark (chunk at (marks.end - at) bytes))
