use Rattle.std.proofs.Common.{sym, ap, ◌∙◌}
use Rattle.std.specs.Cmp.{nat_cmp_total}
use Rattle.std.specs.FinMap.{nat_cmp-IsAntisymmetric}
use Rattle.std.specs.FinMap as map
use Rattle.schema.specs.Scale.{warehouse_ids, warehouse_slot}
use Rattle.schema.proofs.ScalePlaces.{warehouse_place}
use Rattle.schema.proofs.RowReads.{copied_item, read_slot}
use Rattle.schema.proofs.tables.Tables.warehouse.Goals as goal

pub returns : goal.returns
returns c =
    let t = c.self.inside in
    let items = t.rows.warehouses.items in
    copied_item items c.deref.result.now c.deref.ensures.value c.in_ok-warehouse_slot.field-0 c.get.result c.get.ensures.lookup
    ∙ sym (read_slot nat_cmp_total nat_cmp-IsAntisymmetric (warehouse_ids t.scale) items c.args.warehouse (warehouse_slot t.scale c.args.warehouse) c.warehouse_slot.result c.in_ok-warehouse_slot.field-0 (warehouse_place t.scale c.args.warehouse) c.warehouse_slot.ensures c.in_ok-warehouse_slot.was)
    ∙ ap (λ m. map.get m.warehouses c.args.warehouse) c.self.view_is
