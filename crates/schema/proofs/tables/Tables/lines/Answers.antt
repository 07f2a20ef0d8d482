use Rattle.std.proofs.Common.{sym, ap, ◌∙◌}
use Rattle.std.specs.FinMap as map
use Rattle.schema.specs.Database.{Database}
use Rattle.schema.proofs.KeyOrders.{lines_total}
use Rattle.schema.proofs.OrderedParts.{entries-ordered}
use Rattle.schema.proofs.tables.Tables.lines.Goals as goal

pub returns-clause-rows : goal.returns-clause-rows
returns-clause-rows c =
    c.entries.ensures.rows ∙ sym (entries-ordered lines_total c.self.inside.rows.lines c.entries.ensures.ordered)
    ∙ ap (λ (m : Database). map.entries m.lines) c.self.view_is
