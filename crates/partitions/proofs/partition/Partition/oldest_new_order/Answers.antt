use Rattle.std.proofs.Common.{ap, ◌∙◌}
use Rattle.schema.specs.OrderRows.{oldest_new_order}
use Rattle.partitions.specs.Parts.{Part}
use Rattle.partitions.specs.Partitions.{part}
use Rattle.partitions.proofs.HomeDeliveries.{new_numbered}
use Rattle.partitions.proofs.partition.Partition.oldest_new_order.Goals as goal

pub oldest_number-requires : goal.oldest_number-requires
oldest_number-requires c = let p = c.self.inside in new_numbered (part p.catalog p.home p.rows) c.self.invariant.is_part

pub returns : goal.returns
returns c = c.oldest_number.ensures ∙ ap (λ (v : Part). oldest_new_order v.tables c.args.home) c.self.view_is
