use Rattle.std.proofs.Common.{◌≡◌, [], refl, sym, subst, ◌∙◌}
use Rattle.std.proofs.Common.{MatchResult}
use Rattle.files.specs.FieldRead.{noted}
use Rattle.files.specs.KindsRead.{word_read}
use Rattle.files.specs.Taken.{fields_left, fault_of}
use Rattle.rows.proofs.Ascii.{utf8_words}
use Rattle.files.proofs.FieldsRead.{Stands, field_is}
use Rattle.files.proofs.KindsRead.{word_is, no_word}
use Rattle.files.proofs.fields.Fields.word.Goals as goal

pub returns-in-Ok-clause-field : goal.returns-in-Ok-clause-field
returns-in-Ok-clause-field c =
    let f = c.args.self.now in
    let b = c.bytes-bytes.new.self in
    let is_text = c.in-Ok.ensures.cases in
    field_is word_read [] c.in-Ok.word.now (fields_left f) (fields_left b) (fault_of f) (fault_of b) (fault_of b) c.bytes-bytes.result.now
    c.bytes-bytes.ensures.left c.bytes-bytes.ensures.none c.bytes-bytes.ensures.some (Stands (word_is [] (utf8_words [] refl)))
    (subst (λ r. MatchResult r (λ v. (c.in-Ok.word.now ≡ v) × (fault_of b ≡ fault_of b)) (λ kind. (c.in-Ok.word.now ≡ []) × (fault_of b ≡ noted (fault_of b) kind))) (sym (word_is c.bytes-bytes.result.now is_text.1)) (is_text.0, refl))

pub returns-in-Err-clause-field : goal.returns-in-Err-clause-field
returns-in-Err-clause-field c =
    let f = c.args.self.now in
    let b = c.bytes-bytes.new.self in
    let n = c.note.new.self in
    let no_text = (rw c.in-Err.is at c.from_utf8.ensures.cases).0 in
    field_is word_read [] [] (fields_left f) (fields_left n) (fault_of f) (fault_of b) (fault_of n) c.bytes-bytes.result.now
    (c.note.ensures.left ∙ c.bytes-bytes.ensures.left) c.bytes-bytes.ensures.none c.bytes-bytes.ensures.some (Stands (word_is [] (utf8_words [] refl)))
    (rw (no_word c.bytes-bytes.result.now no_text) (refl, c.note.ensures.fault))
