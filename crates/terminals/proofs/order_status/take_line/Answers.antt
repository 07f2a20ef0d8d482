use Rattle.std.proofs.Common.{[], ◌∷◌, refl, ap, ◌∙◌}
use Rattle.std.specs.Fmt.{decimal}
use Rattle.terminals.proofs.Nullables.{moment_was_taken}
use Rattle.files.proofs.ColumnsRead.{and_then, maybe_moment, whole}
use Rattle.terminals.proofs.order_status.take_line.Goals as goal

pub returns-clause-taken : goal.returns-clause-taken
returns-clause-taken c = λ none.
    let delivery =
    moment_was_taken c.ranged-2.new.self c.optional_moment.new.self c.optional_moment.result c.optional_moment.ensures.null c.optional_moment.ensures.moment none in
    let amount = c.ranged-2.ensures.taken delivery.0 in
    let quantity = c.ranged.ensures.taken amount.0 in
    let supply = c.whole-2.ensures.taken quantity.0 in
    let item = c.whole.ensures.taken supply.0 in
    let text = delivery.1.0 in
    let line = decimal c.whole.result ∷ decimal c.whole-2.result ∷ decimal c.ranged.result ∷ decimal c.ranged-2.result ∷ text ∷ [] in
    let last = amount.1 ∙ ap (λ l. decimal c.ranged-2.result ∷ l) delivery.1.2 in
    let rest = supply.1 ∙ ap (λ l. decimal c.whole-2.result ∷ l) (quantity.1 ∙ ap (λ l. decimal c.ranged.result ∷ l) last) in
    record { faultless = item.0; texts = line; are_said = (text, delivery.1.1, refl); left = item.1 ∙ ap (λ l. decimal c.whole.result ∷ l) rest }

pub returns-clause-columns : goal.returns-clause-columns
returns-clause-columns c =
    (and_then (whole 0 4294967295 c.args.fields.now c.whole.new.self c.whole.ensures.field)
    (and_then (whole 0 4294967295 c.whole.new.self c.whole-2.new.self c.whole-2.ensures.field)
    (and_then (whole 1 10 c.whole-2.new.self c.ranged.new.self c.ranged.ensures.field)
    (and_then (whole 0 999999 c.ranged.new.self c.ranged-2.new.self c.ranged-2.ensures.field)
    (maybe_moment c.ranged-2.new.self c.optional_moment.new.self c.optional_moment.ensures.field))))).is
