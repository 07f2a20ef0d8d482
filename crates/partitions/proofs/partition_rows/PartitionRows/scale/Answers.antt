use Rattle.partitions.proofs.HomeSlots.{are_home_rows}
use Rattle.partitions.proofs.partition_rows.PartitionRows.scale.Goals as goal

pub returns-clause-rows : goal.returns-clause-rows
returns-clause-rows c = are_home_rows c.args.self.now c.scale.ensures.part
