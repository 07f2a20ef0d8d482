use Rattle.std.proofs.Common.{refl, pos}
use Rattle.std.specs.Fmt.{signed_decimal}
use Rattle.files.specs.KindsRead.{money_read}
use Rattle.files.proofs.KindsRead.{field_from, takes_field, money_sound}
use Rattle.files.proofs.FieldsRead.{no_kind}
use Rattle.files.proofs.fields.Fields.cents.Goals as goal

pub returns-clause-field : goal.returns-clause-field
returns-clause-field c =
    let b = c.bytes.ensures in
    let n = c.or_note.ensures in
    field_from money_read (pos 0) (pos 0) c.or_note.result c.args.self.now c.bytes.new.self c.or_note.new.self c.bytes.result.now c.read_cents-cents.result
    (no_kind refl) c.read_cents-cents.ensures.exact refl b.left b.none b.some n.left n.ok n.err n.stands_in

pub returns-clause-taken : goal.returns-clause-taken
returns-clause-taken c =
    takes_field money_read (pos 0) c.or_note.result c.args.self.now c.or_note.new.self (signed_decimal c.or_note.result) (returns-clause-field c) (λ text read. money_sound text c.or_note.result read)
