use Rattle.std.proofs.Common.{◌≡◌, ◌==◌, ◌∙◌, Some, None, true, false, cond, sym, ap, arith}
use Rattle.std.proofs.lemmas.Bool.Decides.{nat_tests}
use Rattle.files.specs.declared.fault.FaultKind.TheVariants.{OutOfOrder}
use Rattle.files.specs.Columns.{found}
use Rattle.files.specs.FieldRead.{fields_view}
use Rattle.files.proofs.FieldsRead.{whole_is}
use Rattle.terminals.specs.FirstFault.{other_place}
use Rattle.terminals.proofs.ColumnsTaken.{noted_is}
use Rattle.terminals.proofs.log_records.expect_place.Goals as goal

pub returns-then-number-place-clause-fault : goal.returns-then-number-place-clause-fault
returns-then-number-place-clause-fault c =
    let parsed = c.parse_whole.ensures in
    let high : c.from.result ≡ 4294967295 = c.from.ensures in
    let read = whole_is 0 c.from.result c.args.field.now c.parse_whole.result (omega (arith, high)) parsed.value parsed.range parsed.reads parsed.not_of_kind parsed.faults in
    let differ = c.if-number-place.true in
    let no : (c.in-Ok.number == c.args.place) ≡ false = grind (arith, nat_tests, differ) in
    noted_is OutOfOrder c.args.fields.now c.note.new.self c.note.ensures.fault c.note.ensures.left
    ∙ ap (λ b. found (cond b None (Some OutOfOrder)) (fields_view c.args.fields.now)) (sym no)
    ∙ ap (λ r. found (other_place c.args.place r) (fields_view c.args.fields.now)) (sym c.in-Ok.is ∙ rw high at read)

pub returns-else-number-place-clause-fault : goal.returns-else-number-place-clause-fault
returns-else-number-place-clause-fault c =
    let parsed = c.parse_whole.ensures in
    let high : c.from.result ≡ 4294967295 = c.from.ensures in
    let read = whole_is 0 c.from.result c.args.field.now c.parse_whole.result (omega (arith, high)) parsed.value parsed.range parsed.reads parsed.not_of_kind parsed.faults in
    let same = c.if-number-place.false in
    let yes : (c.in-Ok.number == c.args.place) ≡ true = grind (arith, nat_tests, same) in
    ap (λ b. found (cond b None (Some OutOfOrder)) (fields_view c.args.fields.now)) (sym yes)
    ∙ ap (λ r. found (other_place c.args.place r) (fields_view c.args.fields.now)) (sym c.in-Ok.is ∙ rw high at read)

pub returns-in-Err-clause-fault : goal.returns-in-Err-clause-fault
returns-in-Err-clause-fault c =
    let parsed = c.parse_whole.ensures in
    let high : c.from.result ≡ 4294967295 = c.from.ensures in
    let read = whole_is 0 c.from.result c.args.field.now c.parse_whole.result (omega (arith, high)) parsed.value parsed.range parsed.reads parsed.not_of_kind parsed.faults in
    noted_is c.in-Err.kind c.args.fields.now c.note-in-Err.new.self c.note-in-Err.ensures.fault c.note-in-Err.ensures.left
    ∙ ap (λ r. found (other_place c.args.place r) (fields_view c.args.fields.now)) (sym c.in-Err.is ∙ rw high at read)
