use Rattle.std.proofs.Common.{◌≡◌, Some, cond, codes, refl, sym, ap, subst, ◌∙◌}
use Rattle.files.specs.Columns.{Count, take_column}
use Rattle.files.specs.FieldRead.{fields_view}
use Rattle.files.specs.FirstFault.{ReportsKind}
use Rattle.files.specs.Place.{record_fields, record_number}
use Rattle.files.specs.Taken.{fault_of, fields_left}
use Rattle.files.proofs.ColumnsRead.{ended}
use Rattle.terminals.specs.FirstFault.{after_listed, fields_fault}
use Rattle.files.proofs.Unlike.{other}
use Rattle.terminals.proofs.FirstFaults.{fields_were_taken}
use Rattle.terminals.proofs.listing.parse.Goals.{in-END, in_default+in_ok-item-in_default}
use Rattle.terminals.proofs.listing.parse.Goals as goal

pub returns-in-Some-clause-exact : goal.returns-in-Some-clause-exact
returns-in-Some-clause-exact g c =
    let take = g.T.Listed.after in
    let row = record_fields c.args.records.now in
    let word = c.word.result.now in
    let mid = c.word.new.self in
    let last = c.match-word.fields in
    let is : fields_view last ≡ after_listed take c.args.count word (fields_view mid) = elim c.match-word.branch [
      | in-END w ↦ ap fields_view w.fields-is ∙ w.expect_count.ensures.field ∙ sym (ap (λ a. after_listed take c.args.count a (fields_view mid)) w.in-END.is)
      | in_default+in_ok-item-in_default w ↦
          ap fields_view w.fields-is ∙ w.in_ok-item-in_default.ensures.columns
          ∙ sym (ap (λ b. cond b (take_column (Count c.args.count) (fields_view mid)) (take c.args.count word (fields_view mid))) (other word (codes "END") w.in_default.not-END))
    ] in
    let fault = fields_were_taken take c.args.count row c.fields-fields.result mid last word c.fields-fields.ensures.left c.fields-fields.ensures.fault c.word.ensures.field is in
    let end = ended (fields_left last) (fault_of last) (fault_of c.finish.new.self) c.finish.ensures.none_left c.finish.ensures.some_left in
    let known : fields_fault take c.args.count row ≡ Some c.in-Some.kind = fault ∙ sym end ∙ sym c.finish.ensures.fault ∙ c.in-Some.is in
    subst (λ e. ReportsKind e (fields_fault take c.args.count row) (record_number c.args.records.now)) (sym c.fault.ensures) (known, refl)
