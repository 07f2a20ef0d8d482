use Rattle.std.proofs.Common.{Some, sym, ap, ◌∙◌}
use Rattle.std.specs.Cmp.{nat_cmp_total}
use Rattle.std.specs.FinMap.{nat_cmp-IsAntisymmetric}
use Rattle.std.specs.FinMap as map
use Rattle.std.proofs.lemmas.Option.{slice_get-get_or}
use Rattle.rows.specs.declared.records.Warehouse.{Warehouse}
use Rattle.schema.specs.Scale.{warehouse_ids, warehouse_slot}
use Rattle.schema.specs.Database.{Database}
use Rattle.schema.specs.Rows.{database}
use Rattle.schema.proofs.ScalePlaces.{warehouse_place}
use Rattle.schema.proofs.RowReads.{read_slot}
use Rattle.schema.proofs.RowWrites.{warehouse_within, warehouse_put, warehouse_fits}
use Rattle.schema.proofs.tables.Tables.replace_warehouse.Goals as goal

pub invariant_of-self : goal.invariant_of-self
invariant_of-self c = warehouse_fits c.self.inside.scale c.self.inside.rows c.self.invariant c.replace.new.dest c.in_ok-slot.slot

pub returns-clause-tables : goal.returns-clause-tables
returns-clause-tables c =
    let t = c.self.inside in
    let found = sym c.warehouse_slot.ensures ∙ c.in_ok-slot.was in
    warehouse_put t.scale t.rows c.self.invariant c.args.warehouse c.replace.new.dest c.in_ok-slot.slot found
    ∙ ap (λ (row : Warehouse). record (database t.scale t.rows) { warehouses = map.insert (database t.scale t.rows).warehouses c.args.warehouse row }) c.replace.ensures.after
    ∙ ap (λ (m : Database). record m { warehouses = map.insert m.warehouses c.args.warehouse c.args.row }) c.self.view_is

pub returns-clause-was : goal.returns-clause-was
returns-clause-was c =
    let t = c.self.inside in
    let items = t.rows.warehouses.items in
    let slot = c.in_ok-slot.slot in
    let found = sym c.warehouse_slot.ensures ∙ c.in_ok-slot.was in
    ap Some (c.replace.ensures.value ∙ c.index_mut.ensures.value)
    ∙ sym (slice_get-get_or items slot c.index_mut.result.now (warehouse_within t.scale t.rows c.self.invariant c.args.warehouse slot found))
    ∙ sym (read_slot nat_cmp_total nat_cmp-IsAntisymmetric (warehouse_ids t.scale) items c.args.warehouse (warehouse_slot t.scale c.args.warehouse) c.warehouse_slot.result slot (warehouse_place t.scale c.args.warehouse) c.warehouse_slot.ensures c.in_ok-slot.was)
    ∙ ap (λ m. map.get m.warehouses c.args.warehouse) c.self.view_is
