use Rattle.std.proofs.Common.{refl, arith}
use Rattle.files.specs.FieldRead.{whole_read}
use Rattle.files.proofs.FieldsRead.{no_kind, whole_is}
use Rattle.files.proofs.KindsRead.{field_from}
use Rattle.files.proofs.fields.Fields.rate.Goals as goal

pub returns-clause-field : goal.returns-clause-field
returns-clause-field c =
    let b = c.bytes.ensures in
    let n = c.or_note.ensures in
    let p = c.read_rate-rate.ensures in
    field_from (whole_read 0 9999) 0 c.new.result c.or_note.result c.args.self.now c.bytes.new.self c.or_note.new.self c.bytes.result.now c.read_rate-rate.result
    (no_kind refl) (whole_is 0 9999 c.bytes.result.now c.read_rate-rate.result (omega arith) p.value p.range (λ n spelt low high. p.reads n spelt (omega arith)) p.not_of_kind p.faults) c.new.ensures b.left b.none b.some n.left n.ok n.err n.stands_in
