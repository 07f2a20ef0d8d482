use Rattle.schema.proofs.KeyOrders.{orders_total}
use Rattle.schema.proofs.OrderedParts.{entries-ordered}
use Rattle.partitions.proofs.new_order_rows.NewOrderRows.new.Goals as goal

pub returns-clause-entries : goal.returns-clause-entries
returns-clause-entries c = entries-ordered orders_total c.args.rows.entries c.len.ensures.ordered
