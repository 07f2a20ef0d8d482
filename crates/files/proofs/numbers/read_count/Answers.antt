use Rattle.std.proofs.Common.{arith, sym, ◌∙◌}
use Rattle.files.proofs.FieldsRead.{whole_is}
use Rattle.files.proofs.KindsRead.{count_ok, count_other}
use Rattle.files.proofs.numbers.read_count.Goals as goal

pub returns-in-Ok : goal.returns-in-Ok
returns-in-Ok c =
    let p = c.read_whole.ensures in
    let n = c.args.count in
    let is = whole_is n n c.args.field.now c.read_whole.result (omega arith) p.value p.range p.reads p.not_of_kind p.faults in
    let range = c.in-Ok.ensures.range in
    count_ok n c.in-Ok.number c.args.field.now (omega (arith, range)) (sym c.in-Ok.is ∙ is)

pub returns-in-Err-OutOfRange : goal.returns-in-Err-OutOfRange
returns-in-Err-OutOfRange c =
    let p = c.read_whole.ensures in
    let n = c.args.count in
    let is = whole_is n n c.args.field.now c.read_whole.result (omega arith) p.value p.range p.reads p.not_of_kind p.faults in
    count_other n c.args.field.now (rw c.in-Err-OutOfRange.field-0-is at (sym c.in-Err-OutOfRange.is ∙ is))
