use Rattle.std.proofs.Common.{ap, ◌∙◌}
use Rattle.schema.specs.Database.{rows_where, is_of_order}
use Rattle.partitions.specs.Parts.{Part}
use Rattle.partitions.proofs.partition.Partition.lines_of.Goals as goal

pub returns-clause-rows : goal.returns-clause-rows
returns-clause-rows c = c.of_order.ensures.rows ∙ ap (λ (v : Part). rows_where (is_of_order c.args.order) v.tables.lines) c.self.view_is
