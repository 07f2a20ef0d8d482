use Rattle.std.proofs.Common.{sym, ap, ◌∙◌}
use Rattle.std.specs.Arc.{arc_value}
use Rattle.std.specs.Option.{option_copied}
use Rattle.std.specs.Cmp.{nat_cmp_total}
use Rattle.std.specs.FinMap.{nat_cmp-IsAntisymmetric}
use Rattle.std.specs.FinMap as map
use Rattle.schema.specs.Scale.{item_ids, item_slot}
use Rattle.schema.proofs.ScalePlaces.{item_place}
use Rattle.schema.proofs.RowReads.{copied_item, read_slot, read_no_slot}
use Rattle.partitions.specs.Parts.{SharedTables}
use Rattle.partitions.proofs.catalog.Catalog.item.Goals as goal

pub returns-in_err-item_slot : goal.returns-in_err-item_slot
returns-in_err-item_slot c =
    let t = c.self.inside in
    ap option_copied c.from_residual.ensures
    ∙ sym (read_no_slot nat_cmp_total nat_cmp-IsAntisymmetric (item_ids t.scale) (arc_value t.items).items c.args.i_id (item_slot t.scale c.args.i_id) c.item_slot.result (item_place t.scale c.args.i_id) c.item_slot.ensures c.in_err-item_slot.was)
    ∙ ap (λ (m : SharedTables). map.get m.items c.args.i_id) c.self.view_is

pub returns : goal.returns
returns c =
    let t = c.self.inside in
    let items = (arc_value t.items).items in
    copied_item items c.deref-2.result.now (c.deref-2.ensures.value ∙ ap (λ v. v.items) c.deref.ensures) c.in_ok-item_slot.field-0 c.get.result c.get.ensures.lookup
    ∙ sym (read_slot nat_cmp_total nat_cmp-IsAntisymmetric (item_ids t.scale) items c.args.i_id (item_slot t.scale c.args.i_id) c.item_slot.result c.in_ok-item_slot.field-0 (item_place t.scale c.args.i_id) c.item_slot.ensures c.in_ok-item_slot.was)
    ∙ ap (λ (m : SharedTables). map.get m.items c.args.i_id) c.self.view_is
