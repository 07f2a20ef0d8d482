use Rattle.std.proofs.Common.{◌≡◌, ◌∷◌, ◌∙◌, rules, sym, ap, arith}
use Rattle.files.proofs.FieldsRead.{whole_is}
use Rattle.terminals.specs.RequestColumns.{choice_fault, fault_in}
use Rattle.terminals.proofs.choice.parse.Goals as goal

pub returns-in-Ok-clause-fault : goal.returns-in-Ok-clause-fault
returns-in-Ok-clause-fault c =
    let hash : c.args.field.now ≡ 35 ∷ c.in-Some.digits.now = search rules in
    let parsed = c.parse_whole.ensures in
    let high : c.from.result ≡ 4294967295 = c.from.ensures in
    let read = whole_is 0 c.from.result c.in-Some.digits.now c.parse_whole.result (omega (arith, high)) parsed.value parsed.range parsed.reads parsed.not_of_kind parsed.faults in
    ap fault_in (sym c.in-Ok.is ∙ rw high at read) ∙ ap choice_fault (sym hash)

pub returns-in-Err-clause-fault : goal.returns-in-Err-clause-fault
returns-in-Err-clause-fault c =
    let hash : c.args.field.now ≡ 35 ∷ c.in-Some.digits.now = search rules in
    let parsed = c.parse_whole.ensures in
    let high : c.from.result ≡ 4294967295 = c.from.ensures in
    let read = whole_is 0 c.from.result c.in-Some.digits.now c.parse_whole.result (omega (arith, high)) parsed.value parsed.range parsed.reads parsed.not_of_kind parsed.faults in
    ap fault_in (sym c.in-Err.is ∙ rw high at read) ∙ ap choice_fault (sym hash)
