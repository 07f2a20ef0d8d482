use Rattle.std.proofs.Common.{◌≡◌, true, [], length, refl, sym, ap, ◌∙◌}
use Rattle.std.specs.declared.ops.Bound.TheVariants.{Included}
use Rattle.std.specs.Option.{option_copied, unwrap_or}
use Rattle.schema.specs.Database.{rows_where, is_of_order}
use Rattle.schema.specs.OrderRows.{line_table}
use Rattle.schema.proofs.PackedLines.{lines_between, own, own_between}
use Rattle.schema.proofs.OrderSpans.{one_order}
use Rattle.schema.proofs.order_lines.OrderLines.count_of.Goals as goal
use Rattle.schema.proofs.order_lines.OrderLines.count_of.Goals.{After-get}

-- the number of lines under the order
many : (c : After-get) → length (own c.self.inside.orders.entries c.args.order) ≡ length (rows_where (is_of_order c.args.order) (line_table c.args.self.now))
many c =
    let orders = c.self.inside.orders.entries in
    let order = c.args.order in
    let lines = lines_between (Included order) (Included order) (λ _. true) (is_of_order order) orders c.self.invariant.ordered c.self.invariant.numbered (λ _ _ _. refl) (λ key _. one_order order key) in
    sym (own_between order orders c.self.invariant.ordered) ∙ ap length lines ∙ ap (λ l. length (rows_where (is_of_order order) (line_table l))) c.self.view_is

pub returns-in-Some : goal.returns-in-Some
returns-in-Some c =
    ap length (c.as_slice.ensures.rows ∙ ap (λ r. unwrap_or r []) (sym (ap option_copied c.in-Some.is) ∙ c.get.ensures.value))
    ∙ many (goal.at.returns-in-Some c).After-get

pub returns-in-None : goal.returns-in-None
returns-in-None c =
    ap (λ r. length (unwrap_or r [])) (sym (ap option_copied c.in-None.is) ∙ c.get.ensures.value) ∙ many (goal.at.returns-in-None c).After-get
