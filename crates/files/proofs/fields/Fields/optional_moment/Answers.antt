use Rattle.std.proofs.Common.{◌≡◌, [], ℕ, Option, Some, None, IfSome, refl, sym}
use Rattle.std.specs.Prelude.{IfNone}
use Rattle.files.specs.declared.fields.Fields.{Fields}
use Rattle.files.specs.FieldRead.{FieldsView, fields_view, field_read}
use Rattle.files.specs.KindsRead.{moment_read, optional_read}
use Rattle.files.specs.Taken.{TakesMoment, TakesWell}
use Rattle.files.proofs.FieldsRead.{Stands}
use Rattle.files.proofs.KindsRead.{field_from, optional_is, takes_field, took_field}
use Rattle.files.proofs.MomentSound.{moment_sound}
use Rattle.files.proofs.fields.Fields.optional_moment.Goals as goal

pub returns-clause-field : goal.returns-clause-field
returns-clause-field c =
    let b = c.bytes.ensures in
    let n = c.or_note.ensures in
    field_from (optional_read moment_read) None None c.or_note.result c.args.self.now c.bytes.new.self c.or_note.new.self c.bytes.result.now c.read_optional_moment-moment.result
    (Stands refl) c.read_optional_moment-moment.ensures refl b.left b.none b.some n.left n.ok n.err n.stands_in

null : (value : Option ℕ) (f n : Fields) → ◌≡◌ {A = Option ℕ × FieldsView} (value, fields_view n) (field_read (optional_read moment_read) None (fields_view f)) → IfNone value (TakesWell f n [])
null None f n is = takes_field (optional_read moment_read) None None f n [] is (λ text e. sym (optional_is moment_read text None e))
null (Some v) f n is = tt

pub returns-clause-null : goal.returns-clause-null
returns-clause-null c = null c.or_note.result c.args.self.now c.or_note.new.self (returns-clause-field c)

some : (value : Option ℕ) (f n : Fields) → ◌≡◌ {A = Option ℕ × FieldsView} (value, fields_view n) (field_read (optional_read moment_read) None (fields_view f))
    → IfSome value (λ seconds. TakesMoment f n seconds)
some None f n is = tt
some (Some seconds) f n is = λ none.
    let took = took_field (optional_read moment_read) None (Some seconds) f n is none in
    (took.faultless, (took.text, moment_sound took.text seconds (optional_is moment_read took.text (Some seconds) took.is_read), took.left))

pub returns-clause-moment : goal.returns-clause-moment
returns-clause-moment c = some c.or_note.result c.args.self.now c.or_note.new.self (returns-clause-field c)
