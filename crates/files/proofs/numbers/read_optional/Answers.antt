use Rattle.std.proofs.Common.{Ok, Err, sym, ◌∙◌, arith}
use Rattle.files.specs.FieldRead.{whole_read}
use Rattle.files.proofs.FieldsRead.{whole_is}
use Rattle.files.proofs.KindsRead.{optional_of}
use Rattle.files.proofs.numbers.read_optional.Goals as goal

pub returns-in-Ok : goal.returns-in-Ok
returns-in-Ok g c =
    let p = c.read_ranged.ensures in
    optional_of (whole_read g.row.LOW g.row.HIGH) c.args.field.now (Ok c.in-Ok.number) (sym c.is_empty.ensures ∙ c.if-is_empty.false)
    (sym c.in-Ok.is ∙ whole_is g.row.LOW g.row.HIGH c.args.field.now c.read_ranged.result (omega arith) p.value p.range p.reads p.not_of_kind p.faults)

pub returns-in-Err : goal.returns-in-Err
returns-in-Err g c =
    let p = c.read_ranged.ensures in
    optional_of (whole_read g.row.LOW g.row.HIGH) c.args.field.now (Err c.in-Err.kind) (sym c.is_empty.ensures ∙ c.if-is_empty.false)
    (sym c.in-Err.is ∙ whole_is g.row.LOW g.row.HIGH c.args.field.now c.read_ranged.result (omega arith) p.value p.range p.reads p.not_of_kind p.faults)
