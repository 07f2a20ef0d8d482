use Rattle.std.proofs.Common.{◌≡◌, ◌-◌, length, sym, ap, ◌∙◌, arith}
use Rattle.std.proofs.lemmas.List.{length-drop, length-map}
use Rattle.files.specs.Span.{part, parts}
use Rattle.files.proofs.fields.Fields.finish.Goals.{then-self, else-self}
use Rattle.files.proofs.fields.Fields.finish.Goals as goal

pub returns-clause-none_left : goal.returns-clause-none_left
returns-clause-none_left c = λ none.
    let f = c.args.self.now in
    let left : 0 ≡ length (parts f.bytes.now f.spans.now) - f.place = ap length (sym none) ∙ length-drop f.place (parts f.bytes.now f.spans.now) in
    let many = length-map f.spans.now (part f.bytes.now) in
    elim c.if-self.branch [
      | then-self w ↦ let some = w.if-self.true in absurd (omega (arith, left, many, some))
      | else-self w ↦ cc
    ]
