use Rattle.std.proofs.Common.{sym, ap, ◌∙◌}
use Rattle.std.specs.FinMap as table
use Rattle.std.specs.FinMap.{entries-insert}
use Rattle.std.specs.FinMap.Entries.{put}
use Rattle.rows.specs.Keys.{line_cmp}
use Rattle.schema.specs.OrderRows.{line_table}
use Rattle.schema.proofs.KeyOrders.{lines_total}
use Rattle.schema.proofs.OrderedParts.{entries-ordered, put_is_insert}
use Rattle.schema.proofs.order_lines.OrderLines.insert.Goals as goal

pub returns-clause-ok : goal.returns-clause-ok
returns-clause-ok c =
    let old = c.args.self.now in
    sym (entries-ordered lines_total c.put.new.self c.len-2.ensures.ordered) ∙ ap table.entries c.in_ok-put.ensures.ok
    ∙ entries-insert lines_total (line_table old) c.args.key c.args.row ∙ ap (put line_cmp c.args.key c.args.row) (entries-ordered lines_total old c.len.ensures.ordered)
    ∙ put_is_insert line_cmp c.args.key c.args.row old
