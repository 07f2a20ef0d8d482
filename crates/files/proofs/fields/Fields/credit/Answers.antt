use Rattle.std.proofs.Common.{refl}
use Rattle.rows.specs.declared.records.Credit.TheVariants.{Good}
use Rattle.files.specs.KindsRead.{credit_read}
use Rattle.files.specs.Word.{credit_text}
use Rattle.files.proofs.KindsRead.{field_from, takes_field, credit_sound}
use Rattle.files.proofs.FieldsRead.{no_range}
use Rattle.files.proofs.fields.Fields.credit.Goals as goal

pub returns-clause-field : goal.returns-clause-field
returns-clause-field c =
    let b = c.bytes.ensures in
    let n = c.or_note.ensures in
    field_from credit_read Good Good c.or_note.result c.args.self.now c.bytes.new.self c.or_note.new.self c.bytes.result.now c.read_credit-credit.result
    (no_range refl) c.read_credit-credit.ensures refl b.left b.none b.some n.left n.ok n.err n.stands_in

pub returns-clause-taken : goal.returns-clause-taken
returns-clause-taken c =
    takes_field credit_read Good c.or_note.result c.args.self.now c.or_note.new.self (credit_text c.or_note.result) (returns-clause-field c) (λ text read. credit_sound text c.or_note.result read)
