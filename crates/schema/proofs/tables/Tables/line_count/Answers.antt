use Rattle.std.proofs.Common.{ap, length, ◌∙◌}
use Rattle.schema.specs.Database.{Database, rows_where, is_of_order}
use Rattle.schema.proofs.tables.Tables.line_count.Goals as goal

pub returns : goal.returns
returns c = c.count_of.ensures ∙ ap (λ (m : Database). length (rows_where (is_of_order c.args.order) m.lines)) c.self.view_is
