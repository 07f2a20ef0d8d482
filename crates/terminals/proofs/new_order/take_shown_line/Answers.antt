use Rattle.std.proofs.Common.{ℕ, List, [], ◌∷◌, refl, ap, ◌∙◌}
use Rattle.std.specs.Fmt.{decimal}
use Rattle.terminals.specs.NewOrder.{brand_text}
use Rattle.files.specs.Columns.{Spelt}
use Rattle.terminals.specs.ReplyColumns.{brand_fault}
use Rattle.files.proofs.ColumnsRead.{and_then, several, whole, words}
use Rattle.terminals.proofs.new_order.take_shown_line.Goals as goal

pub returns-clause-taken : goal.returns-clause-taken
returns-clause-taken c = λ none.
    let amount = c.ranged-4.ensures.taken none in
    let price = c.ranged-3.ensures.taken amount.0 in
    let brand = c.take_brand.ensures.taken price.0 in
    let stock = c.ranged-2.ensures.taken brand.0 in
    let quantity = c.ranged.ensures.taken stock.0 in
    let name = c.text.ensures.taken quantity.0 in
    let item = c.whole-2.ensures.taken name.0 in
    let supply = c.whole.ensures.taken item.0 in
    let what : List (List ℕ) → List (List ℕ) = λ l. decimal c.whole.result ∷ decimal c.whole-2.result ∷ c.text.result ∷ l in
    let left : List (List ℕ) → List (List ℕ) = λ l. decimal c.ranged.result ∷ decimal c.ranged-2.result ∷ brand_text c.take_brand.result ∷ l in
    let paid = price.1 ∙ ap (λ l. decimal c.ranged-3.result ∷ l) amount.1 in
    let stocked = quantity.1 ∙ ap (λ l. decimal c.ranged.result ∷ l) (stock.1 ∙ ap (λ l. decimal c.ranged-2.result ∷ l) (brand.1 ∙ ap (λ l. brand_text c.take_brand.result ∷ l) paid)) in
    let all = supply.1 ∙ ap (λ l. decimal c.whole.result ∷ l) (item.1 ∙ ap (λ l. decimal c.whole-2.result ∷ l) (name.1 ∙ ap (λ l. c.text.result ∷ l) stocked)) in
    record { faultless = supply.0; texts = what (left (decimal c.ranged-3.result ∷ decimal c.ranged-4.result ∷ [])); are_said = refl; left = all }

pub returns-clause-columns : goal.returns-clause-columns
returns-clause-columns c =
    (and_then (whole 0 4294967295 c.args.fields.now c.whole.new.self c.whole.ensures.field)
    (and_then (whole 0 4294967295 c.whole.new.self c.whole-2.new.self c.whole-2.ensures.field)
    (and_then (words 24 c.whole-2.new.self c.text.new.self c.text.ensures.field)
    (and_then (whole 1 10 c.text.new.self c.ranged.new.self c.ranged.ensures.field)
    (and_then (whole 10 100 c.ranged.new.self c.ranged-2.new.self c.ranged-2.ensures.field)
    (and_then (several (Spelt brand_fault ∷ []) c.ranged-2.new.self c.take_brand.new.fields c.take_brand.ensures.column)
    (and_then (whole 1 99999 c.take_brand.new.fields c.ranged-3.new.self c.ranged-3.ensures.field)
    (whole 0 999999 c.ranged-3.new.self c.ranged-4.new.self c.ranged-4.ensures.field)))))))).is
