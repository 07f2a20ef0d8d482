use Rattle.std.proofs.Common.{List, [], ℕ, Option, sym, ap, ◌∙◌}
use Rattle.std.specs.BTreeMap.{is_at}
use Rattle.std.specs.FinMap as table
use Rattle.std.specs.Map.{lookup}
use Rattle.std.specs.Option.{option_copied, unwrap_or}
use Rattle.std.specs.Ordering.{nat_cmp}
use Rattle.rows.specs.declared.records.OrderLine.{OrderLine}
use Rattle.rows.specs.Keys.{order_cmp}
use Rattle.schema.specs.OrderRows.{line_table}
use Rattle.schema.specs.PackedLines.{numbered}
use Rattle.schema.proofs.PackedLines.{read_own}
use Rattle.schema.proofs.order_lines.OrderLines.get.Goals as goal

pub returns-in_err-get : goal.returns-in_err-get
returns-in_err-get c =
    let entries = c.self.inside.orders.entries in
    ap option_copied c.from_residual.ensures ∙ sym (table.get-empty nat_cmp c.args.key.number)
    ∙ ap (λ (r : Option (List (ℕ × OrderLine))). table.get (numbered (unwrap_or r [])) c.args.key.number) (c.in_err-get.ensures.value ∙ ap (λ o. lookup (is_at (order_cmp o)) entries) c.order.ensures)
    ∙ sym (read_own entries c.self.invariant.ordered c.args.key) ∙ ap (λ l. table.get (line_table l) c.args.key) c.self.view_is

pub returns : goal.returns
returns c =
    let entries = c.self.inside.orders.entries in
    c.get-2.ensures
    ∙ ap (λ (r : Option (List (ℕ × OrderLine))). table.get (numbered (unwrap_or r [])) c.args.key.number) (c.in_ok-get.ensures.value ∙ ap (λ o. lookup (is_at (order_cmp o)) entries) c.order.ensures)
    ∙ sym (read_own entries c.self.invariant.ordered c.args.key) ∙ ap (λ l. table.get (line_table l) c.args.key) c.self.view_is
