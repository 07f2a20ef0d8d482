use Rattle.std.proofs.Common.{ap, ◌∙◌}
use Rattle.schema.specs.Database.{rows_where}
use Rattle.schema.specs.OrderRows.{is_in_span}
use Rattle.partitions.specs.Parts.{Part}
use Rattle.partitions.proofs.partition.Partition.lines_of_span.Goals as goal

pub returns-clause-rows : goal.returns-clause-rows
returns-clause-rows c =
    c.in_span.ensures.rows ∙ ap (λ (v : Part). rows_where (is_in_span c.args.home c.args.from c.args.to) v.tables.lines) c.self.view_is
