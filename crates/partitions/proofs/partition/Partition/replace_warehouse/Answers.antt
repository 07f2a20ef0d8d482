use Rattle.std.proofs.Common.{Some, sym, ap, ◌∙◌}
use Rattle.std.specs.FinMap as map
use Rattle.rows.specs.declared.records.Warehouse.{Warehouse}
use Rattle.partitions.specs.Parts.{Part}
use Rattle.partitions.specs.Partitions.{part}
use Rattle.partitions.proofs.HomeReads.{warehouse_read}
use Rattle.partitions.proofs.HomeWrites.{warehouse_fits, warehouse_put}
use Rattle.partitions.proofs.partition.Partition.replace_warehouse.Goals as goal

pub invariant_of-self : goal.invariant_of-self
invariant_of-self c = warehouse_fits c.self.inside.catalog c.self.inside.home c.self.inside.rows c.self.invariant c.replace.new.dest

pub returns-then-w_id-self-clause-tables : goal.returns-then-w_id-self-clause-tables
returns-then-w_id-self-clause-tables c =
    let p = c.self.inside in
    ap (λ (row : Warehouse). part p.catalog p.home (record p.rows { warehouse = row })) c.replace.ensures.after
    ∙ warehouse_put p.catalog p.home p.rows c.self.invariant c.args.w_id c.args.row c.if-w_id-self.true
    ∙ ap (λ (v : Part). record v { tables = record v.tables { warehouses = map.insert v.tables.warehouses c.args.w_id c.args.row } }) c.self.view_is

pub returns-then-w_id-self-clause-was : goal.returns-then-w_id-self-clause-was
returns-then-w_id-self-clause-was c =
    let p = c.self.inside in
    ap Some c.replace.ensures.value
    ∙ sym (warehouse_read p.home p.rows.warehouse c.args.w_id c.if-w_id-self.true)
    ∙ ap (λ (v : Part). map.get v.tables.warehouses c.args.w_id) c.self.view_is
