use Rattle.std.proofs.Common.{ℕ, List, Option, refl, sym, ap, subst, ◌∙◌}
use Rattle.files.specs.declared.fault.FaultKind.{FaultKind}
use Rattle.files.specs.FirstFault.{ReportsKind}
use Rattle.files.specs.Place.{record_fields, record_number}
use Rattle.dataset.specs.Columns.{fields_fault, sizes}
use Rattle.dataset.specs.Order.{place_numbers}
use Rattle.dataset.specs.TakenAs.{IsDone}
use Rattle.dataset.specs.Writing.{table_counts}
use Rattle.dataset.proofs.reader.read_record.Goals as goal

pub returns-in-Some-clause-exact : goal.returns-in-Some-clause-exact
returns-in-Some-clause-exact g c = λ small.
    let l = c.args.loader.now in
    let is = c.in_ok-taken.ensures c.fields-fields.ensures.fault in
    let known : List (List ℕ) → Option FaultKind = fields_fault (sizes l.format l.scale) (place_numbers l.last) (table_counts l.rows) in
    let reported = ap known (sym c.fields-fields.ensures.left) ∙ sym (is.fault small) ∙ sym c.fault.ensures ∙ c.in-Some.is in
    subst (λ e. ReportsKind e (known (record_fields c.args.records.now)) (record_number c.args.records.now)) (sym c.fault-in-Some.ensures) (reported, refl)

pub returns-in-None-clause-exact : goal.returns-in-None-clause-exact
returns-in-None-clause-exact g c = λ small.
    let l = c.args.loader.now in
    let is = c.in_ok-taken.ensures c.fields-fields.ensures.fault in
    let known : List (List ℕ) → Option FaultKind = fields_fault (sizes l.format l.scale) (place_numbers l.last) (table_counts l.rows) in
    ap known (sym c.fields-fields.ensures.left) ∙ sym (is.fault small) ∙ sym c.fault.ensures ∙ c.in-None.is

pub returns-in-None-clause-done : goal.returns-in-None-clause-done
returns-in-None-clause-done g c =
    let is = c.in_ok-taken.ensures c.fields-fields.ensures.fault in
    subst (IsDone c.in_ok-taken.taken c.args.loader.now c.take.new.self) c.fields-fields.ensures.left (is.done (sym c.fault.ensures ∙ c.in-None.is))
