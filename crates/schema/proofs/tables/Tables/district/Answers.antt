use Rattle.std.proofs.Common.{sym, ap, ◌∙◌}
use Rattle.schema.proofs.KeyOrders.{districts_total, districts_exact}
use Rattle.std.specs.FinMap as map
use Rattle.schema.specs.Scale.{district_keys, district_slot}
use Rattle.schema.proofs.ScalePlaces.{district_place}
use Rattle.schema.proofs.RowReads.{copied_item, read_slot}
use Rattle.schema.proofs.tables.Tables.district.Goals as goal

pub returns : goal.returns
returns c =
    let t = c.self.inside in
    let items = t.rows.districts.items in
    copied_item items c.deref.result.now c.deref.ensures.value c.in_ok-district_slot.field-0 c.get.result c.get.ensures.lookup
    ∙ sym (read_slot districts_total districts_exact (district_keys t.scale) items c.args.key (district_slot t.scale c.args.key) c.district_slot.result c.in_ok-district_slot.field-0 (district_place t.scale c.args.key) c.district_slot.ensures c.in_ok-district_slot.was)
    ∙ ap (λ m. map.get m.districts c.args.key) c.self.view_is
