use Rattle.std.proofs.Common.{◌≡◌, [], rules, ap, ◌∙◌, sym}
use Rattle.std.specs.FinMap.{get, insert, get-empty}
use Rattle.std.specs.Option.{option_or}
use Rattle.rows.specs.Keys.{line_cmp}
use Rattle.schema.specs.OrderRows.{line_table}
use Rattle.schema.specs.PackedLines.{with_keys}
use Rattle.schema.proofs.PackedLines.{one_more_put}
use Rattle.schema.proofs.order_lines.OrderLines.put_all.Goals as goal

pub loop-number-preserved : goal.loop-number-preserved
loop-number-preserved c = λ q.
    one_more_put c.args.order c.pop.new.self.items c.loop-number.rest.items c.in-Some.number c.in-Some.row (line_table c.loop-number.self) (line_table c.put.new.self) c.in-Some.ensures.items
    (c.in_ok-put.ensures.ok ∙ ap (λ k. insert (line_table c.loop-number.self) k c.in-Some.row) c.line_key.ensures) q
    ∙ c.loop-number.invariant q

pub returns : goal.returns
returns c = λ key.
    let none : c.loop-number.rest.items ≡ [] = search rules in
    sym (ap (λ r. option_or r (get (line_table c.loop-number.self) key)) (ap (λ ls. get (line_table (with_keys c.args.order ls)) key) none ∙ get-empty line_cmp key))
    ∙ c.loop-number.invariant key
