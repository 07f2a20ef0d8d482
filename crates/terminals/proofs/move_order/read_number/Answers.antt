use Rattle.std.proofs.Common.{◌≡◌, ◌∙◌, sym, ap, arith}
use Rattle.files.specs.Columns.{found}
use Rattle.files.specs.FieldRead.{fields_view}
use Rattle.files.proofs.FieldsRead.{whole_is}
use Rattle.terminals.specs.RequestColumns.{fault_in}
use Rattle.terminals.proofs.ColumnsTaken.{noted_is}
use Rattle.terminals.proofs.move_order.read_number.Goals as goal

pub returns-in-Ok-clause-fault : goal.returns-in-Ok-clause-fault
returns-in-Ok-clause-fault c =
    let parsed = c.parse_whole.ensures in
    let high : c.from.result ≡ 4294967295 = c.from.ensures in
    let read = whole_is 0 c.from.result c.args.field.now c.parse_whole.result (omega (arith, high)) parsed.value parsed.range parsed.reads parsed.not_of_kind parsed.faults in
    ap (λ r. found (fault_in r) (fields_view c.args.fields.now)) (sym c.in-Ok.is ∙ rw high at read)

pub returns-in-Err-clause-fault : goal.returns-in-Err-clause-fault
returns-in-Err-clause-fault c =
    let parsed = c.parse_whole.ensures in
    let high : c.from.result ≡ 4294967295 = c.from.ensures in
    let read = whole_is 0 c.from.result c.args.field.now c.parse_whole.result (omega (arith, high)) parsed.value parsed.range parsed.reads parsed.not_of_kind parsed.faults in
    noted_is c.in-Err.kind c.args.fields.now c.note.new.self c.note.ensures.fault c.note.ensures.left
    ∙ ap (λ r. found (fault_in r) (fields_view c.args.fields.now)) (sym c.in-Err.is ∙ rw high at read)
