use Rattle.std.proofs.Common.{ℕ, List, [], ap, ◌∙◌}
use Rattle.files.specs.FieldRead.{FieldsView}
use Rattle.files.specs.KindsRead.{word_read}
use Rattle.files.specs.Taken.{fault_of, fields_left}
use Rattle.files.proofs.FieldsLeft.{next_left}
use Rattle.terminals.proofs.choice.take.Goals as goal

pub returns-in-Err-clause-left : goal.returns-in-Err-clause-left
returns-in-Err-clause-left c =
    let fields = c.args.fields.now in
    c.note.ensures.left ∙ ap (λ (p : List ℕ × FieldsView). p.1.left) c.word.ensures.field ∙ next_left word_read [] (fields_left fields) (fault_of fields)
