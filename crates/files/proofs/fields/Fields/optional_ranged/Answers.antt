use Rattle.std.proofs.Common.{decimal, None, refl, arith}
use Rattle.files.specs.FieldRead.{whole_read}
use Rattle.files.specs.KindsRead.{optional_read}
use Rattle.files.proofs.FieldsRead.{Stands}
use Rattle.files.proofs.KindsRead.{field_from, optional_takes, whole_sound}
use Rattle.files.proofs.fields.Fields.optional_ranged.Goals as goal

pub returns-clause-field : goal.returns-clause-field
returns-clause-field g c =
    let b = c.bytes.ensures in
    let n = c.or_note.ensures in
    field_from (optional_read (whole_read g.row.LOW g.row.HIGH)) None None c.or_note.result c.args.self.now c.bytes.new.self c.or_note.new.self c.bytes.result.now c.read_optional-number.result
    (Stands refl) c.read_optional-number.ensures refl b.left b.none b.some n.left n.ok n.err n.stands_in

pub returns-clause-taken : goal.returns-clause-taken
returns-clause-taken g c =
    optional_takes (whole_read g.row.LOW g.row.HIGH) decimal c.or_note.result c.args.self.now c.or_note.new.self (returns-clause-field g c) (λ text n read. whole_sound g.row.LOW g.row.HIGH text n (omega arith) read)
