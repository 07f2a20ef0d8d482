use Rattle.std.proofs.Common.{◌∷◌, ◌∙◌, ap, sym}
use Rattle.files.specs.Span.{parts}
use Rattle.files.proofs.FieldsLeft.{drop-next}
use Rattle.files.proofs.fields.Fields.bytes.Goals as goal

pub returns-in-Some-clause-left : goal.returns-in-Some-clause-left
returns-in-Some-clause-left c = let f = c.args.self.now in drop-next f.place (parts f.bytes.now f.spans.now)

pub returns-in-Some-clause-taken : goal.returns-in-Some-clause-taken
returns-in-Some-clause-taken c = λ none.
    let f = c.args.self.now in
    (none, c.in-Some.ensures.some ∙ ap (λ l. c.in-Some.bytes.now ∷ l) (sym (drop-next f.place (parts f.bytes.now f.spans.now))))
