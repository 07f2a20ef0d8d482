use Rattle.std.proofs.Common.{ap, ◌∙◌}
use Rattle.schema.specs.Database.{Database, rows_where, is_of_order}
use Rattle.schema.proofs.tables.Tables.lines_of.Goals as goal

pub returns-clause-rows : goal.returns-clause-rows
returns-clause-rows c = c.of_order.ensures.rows ∙ ap (λ (m : Database). rows_where (is_of_order c.args.order) m.lines) c.self.view_is
