-- The text of a record none of whose bytes calls for quotation marks.
use Rattle.std.proofs.Common.{◌≡◌, ◌<◌, ◌+◌, ◌-◌, ◌∙◌, ℕ, List, [], ◌∷◌, ◌++◌, None, Some, false, length, take, drop, get_or, refl, sym, arith, take-append-drop}
use Rattle.std.proofs.lemmas.Bool.{or_parts}
use Rattle.std.proofs.lemmas.List.{take_all}
use Rattle.std.proofs.lemmas.List.Folds.{list_any-append}
use Rattle.csv.specs.Records.{Row, field_at, fields_of, prev}
use Rattle.csv.specs.Writing.{field_text, is_blank, needs_byte, needs_quotes, next_sep, row_body}
use Rattle.csv.proofs.RecordFacts.{cut-length, field-cut, field-get, field-there}
use Rattle.csv.proofs.WriteFacts.{row-step}
use Rattle.files.specs.Written.{format, record_text}

-- of bytes in two parts none calls for them: then none of either part does
plain_parts : (first more : List ℕ) → needs_quotes format (first ++ more) ≡ false → (needs_quotes format first ≡ false) × (needs_quotes format more ≡ false)
plain_parts first more plain = or_parts _ _ (sym (list_any-append (needs_byte format) first more) ∙ plain)

-- nor of any part
part_plain : (bytes : List ℕ) (from count : ℕ) → needs_quotes format bytes ≡ false → needs_quotes format (take count (drop from bytes)) ≡ false
part_plain bytes from count plain =
    let rest = plain_parts (take from bytes) (drop from bytes) (rw take-append-drop plain) in
    (plain_parts (take count (drop from bytes)) (drop count (drop from bytes)) (rw take-append-drop rest.1)).0

module _ (row : Row) (place : ℕ) (field : List ℕ) (plain : needs_quotes format row.bytes ≡ false) (within : place < length row.ends) (is : Some field ≡ field_at (fields_of row) place) where
  -- a field is in the text as it is
  field_plain : field_text format field ≡ field
  field_plain =
      let cut = field-cut 0 row.ends row.bytes place within in
      let part : field ≡ take (get_or row.ends place 0 - prev 0 row.ends place) (drop (prev 0 row.ends place) row.bytes) = cc (is, cut) in
      let none : needs_quotes format field ≡ false = rw part (part_plain row.bytes _ _ plain) in
      rw none refl

  -- the text up to one more field, preceded by a comma unless it is the first
  pub one_more : row_body format (take (place + 1) (fields_of row)) ≡ row_body format (take place (fields_of row)) ++ (next_sep format place ++ field)
  one_more =
      let fields = fields_of row in
      rw (field-get fields place field (sym is), field_plain) at (row-step format fields place (rw cut-length within))

-- the whole text, where there are several fields and no more of them
pub whole_text : (fields : List (List ℕ)) (place : ℕ) → 1 < length fields → None ≡ field_at fields place → record_text fields ≡ row_body format (take place fields) ++ (10 ∷ [])
unfolding is_blank
whole_text [] place several none = absurd (omega arith)
whole_text (field ∷ []) place several none = absurd (omega arith)
whole_text (field ∷ next ∷ rest) place several none =
    let fields = field ∷ next ∷ rest in
    let past = λ (within : place < length fields). field-there fields place within (sym none) in
    rw (take_all place fields (omega arith)) refl
