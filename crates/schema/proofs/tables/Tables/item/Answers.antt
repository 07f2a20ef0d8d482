use Rattle.std.proofs.Common.{sym, ap, ◌∙◌}
use Rattle.std.specs.Cmp.{nat_cmp_total}
use Rattle.std.specs.FinMap.{nat_cmp-IsAntisymmetric}
use Rattle.std.specs.FinMap as map
use Rattle.schema.specs.Scale.{item_ids, item_slot}
use Rattle.schema.proofs.ScalePlaces.{item_place}
use Rattle.schema.proofs.RowReads.{copied_item, read_slot}
use Rattle.schema.proofs.tables.Tables.item.Goals as goal

pub returns : goal.returns
returns c =
    let t = c.self.inside in
    let items = t.rows.items.items in
    copied_item items c.deref.result.now c.deref.ensures.value c.in_ok-item_slot.field-0 c.get.result c.get.ensures.lookup
    ∙ sym (read_slot nat_cmp_total nat_cmp-IsAntisymmetric (item_ids t.scale) items c.args.item (item_slot t.scale c.args.item) c.item_slot.result c.in_ok-item_slot.field-0 (item_place t.scale c.args.item) c.item_slot.ensures c.in_ok-item_slot.was)
    ∙ ap (λ m. map.get m.items c.args.item) c.self.view_is
