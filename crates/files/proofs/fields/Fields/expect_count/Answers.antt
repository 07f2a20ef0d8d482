use Rattle.std.proofs.Common.{ℕ, decimal, refl, ap, arith}
use Rattle.files.specs.FieldRead.{FieldsView}
use Rattle.files.specs.KindsRead.{count_read}
use Rattle.files.proofs.FieldsRead.{no_kind}
use Rattle.files.proofs.KindsRead.{field_from, takes_field, count_sound}
use Rattle.files.proofs.fields.Fields.expect_count.Goals as goal

pub returns-clause-field : goal.returns-clause-field
returns-clause-field c =
    let b = c.bytes.ensures in
    let n = c.or_note.ensures in
    ap (λ (p : ℕ × FieldsView). p.1)
    (field_from (count_read c.args.count) c.args.count c.args.count c.or_note.result c.args.self.now c.bytes.new.self c.or_note.new.self c.bytes.result.now c.read_count-counted.result
    (no_kind refl) c.read_count-counted.ensures refl b.left b.none b.some n.left n.ok n.err n.stands_in)

pub returns-clause-taken : goal.returns-clause-taken
returns-clause-taken c =
    let b = c.bytes.ensures in
    let n = c.or_note.ensures in
    let is = field_from (count_read c.args.count) c.args.count c.args.count c.or_note.result c.args.self.now c.bytes.new.self c.or_note.new.self c.bytes.result.now c.read_count-counted.result
    (no_kind refl) c.read_count-counted.ensures refl b.left b.none b.some n.left n.ok n.err n.stands_in in
    takes_field (count_read c.args.count) c.args.count c.or_note.result c.args.self.now c.or_note.new.self (decimal c.args.count) is (λ text read. count_sound c.args.count c.or_note.result text (omega arith) read)
