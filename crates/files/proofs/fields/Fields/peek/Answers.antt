use Rattle.std.proofs.Common.{◌∷◌, ◌∙◌, ap, sym, drop}
use Rattle.files.specs.Taken.{fields_left}
use Rattle.files.proofs.Parts.{next_part}
use Rattle.files.proofs.fields.Fields.peek.Goals as goal

pub returns-in-Some-clause-some : goal.returns-in-Some-clause-some
returns-in-Some-clause-some c =
    let f = c.args.self.now in
    let found = c.in-Some.ensures.lookup in
    next_part f.bytes.now f.spans.now f.place c.in-Some.field-0.now found.3.0 found.1 ∙ ap (λ b. b ∷ drop 1 (fields_left f)) (sym c.part.ensures)
