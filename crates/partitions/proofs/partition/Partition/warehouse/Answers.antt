use Rattle.std.proofs.Common.{sym, ap, ◌∙◌}
use Rattle.std.specs.FinMap as map
use Rattle.partitions.specs.Parts.{Part}
use Rattle.partitions.proofs.HomeReads.{warehouse_read}
use Rattle.partitions.proofs.partition.Partition.warehouse.Goals as goal

pub returns-then-w_id-self : goal.returns-then-w_id-self
returns-then-w_id-self c =
    let p = c.self.inside in
    sym (warehouse_read p.home p.rows.warehouse c.args.w_id c.if-w_id-self.true)
    ∙ ap (λ (v : Part). map.get v.tables.warehouses c.args.w_id) c.self.view_is
