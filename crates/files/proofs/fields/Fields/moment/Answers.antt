use Rattle.files.specs.KindsRead.{moment_read}
use Rattle.files.proofs.FieldsRead.{no_kind}
use Rattle.files.proofs.KindsRead.{field_from, no_bytes_no_moment, took_field}
use Rattle.files.proofs.MomentSound.{moment_sound}
use Rattle.files.proofs.fields.Fields.moment.Goals as goal

pub returns-clause-field : goal.returns-clause-field
returns-clause-field c =
    let b = c.bytes.ensures in
    let n = c.or_note.ensures in
    field_from moment_read 0 c.new.result c.or_note.result c.args.self.now c.bytes.new.self c.or_note.new.self c.bytes.result.now c.read_moment-moment.result
    (no_kind no_bytes_no_moment) c.read_moment-moment.ensures.exact c.new.ensures b.left b.none b.some n.left n.ok n.err n.stands_in

pub returns-clause-taken : goal.returns-clause-taken
returns-clause-taken c = λ none.
    let took = took_field moment_read 0 c.or_note.result c.args.self.now c.or_note.new.self (returns-clause-field c) none in
    (took.faultless, (took.text, moment_sound took.text c.or_note.result took.is_read, took.left))
