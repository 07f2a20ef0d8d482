-- Fields, as spans of the bytes of a record.
use Rattle.std.specs.Prelude.{◌≡◌, ℕ, ◌+◌, List, [], ◌∷◌, ◌++◌, take, drop, length, map, sum_by}
use Rattle.files.specs.declared.span.Span.{Span}

-- the bytes of a field
abbrev pub part : List ℕ → Span → List ℕ
part bytes span = drop span.from (take span.to bytes)

-- the bytes of each field
abbrev pub parts : List ℕ → List Span → List (List ℕ)
parts bytes spans = map (part bytes) spans

-- the number of bytes of a record: those of its fields, and one for the end of each
abbrev pub record_size : List (List ℕ) → ℕ
record_size fields = sum_by (λ field. length field + 1) fields

-- the field with the bytes from one index up to the other was appended
abbrev pub AddsSpan : List Span → List Span → ℕ → ℕ → Type 0
AddsSpan old new from to = new ≡ old ++ (record { from = from; to = to } ∷ [])
