use Rattle.std.proofs.Common.{refl, sym, ap, ◌∙◌}
use Rattle.std.specs.FinMap as map
use Rattle.schema.proofs.KeyOrders.{districts_total, districts_exact}
use Rattle.schema.proofs.RowReads.{copied_item, read_slot}
use Rattle.partitions.specs.Parts.{Part}
use Rattle.partitions.specs.Partitions.{district_keys_of}
use Rattle.partitions.specs.Slots.{home_slot}
use Rattle.partitions.proofs.HomePlaces.{district_place}
use Rattle.partitions.proofs.partition.Partition.district.Goals as goal

pub returns : goal.returns
returns c =
    let p = c.self.inside in
    let items = p.rows.districts.items in
    let slot = c.in_ok-slot_of_district.field-0 in
    let found = ap (λ (v : Part). home_slot v.home c.args.key) c.self.view_is ∙ sym c.slot_of_district.ensures ∙ c.in_ok-slot_of_district.was in
    copied_item items c.deref.result.now c.deref.ensures.value slot c.get.result c.get.ensures.lookup
    ∙ sym (read_slot districts_total districts_exact (district_keys_of p.home) items c.args.key (home_slot p.home c.args.key) (home_slot p.home c.args.key) slot (district_place p.home c.args.key) refl found)
    ∙ ap (λ (v : Part). map.get v.tables.districts c.args.key) c.self.view_is
