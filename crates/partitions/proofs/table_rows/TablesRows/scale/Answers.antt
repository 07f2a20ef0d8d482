use Rattle.partitions.proofs.TableSlots.{tables_are_rows}
use Rattle.partitions.proofs.table_rows.TablesRows.scale.Goals as goal

pub returns-clause-rows : goal.returns-clause-rows
returns-clause-rows c = tables_are_rows c.scale.result c.args.self.now c.scale.ensures.value c.scale.ensures.within
