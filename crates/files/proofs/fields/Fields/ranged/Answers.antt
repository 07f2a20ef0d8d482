use Rattle.std.proofs.Common.{refl, arith}
use Rattle.files.specs.FieldRead.{whole_read}
use Rattle.files.proofs.FieldsRead.{no_kind, whole_is}
use Rattle.files.proofs.KindsRead.{field_from}
use Rattle.files.proofs.fields.Fields.ranged.Goals as goal

pub returns-clause-field : goal.returns-clause-field
returns-clause-field g c =
    let b = c.bytes.ensures in
    let n = c.or_note.ensures in
    let p = c.read_ranged-number.ensures in
    field_from (whole_read g.row.LOW g.row.HIGH) g.row.LOW c.new.result c.or_note.result c.args.self.now c.bytes.new.self c.or_note.new.self c.bytes.result.now c.read_ranged-number.result
    (no_kind refl) (whole_is g.row.LOW g.row.HIGH c.bytes.result.now c.read_ranged-number.result (omega arith) p.value p.range p.reads p.not_of_kind p.faults) c.new.ensures b.left b.none b.some n.left n.ok n.err n.stands_in
