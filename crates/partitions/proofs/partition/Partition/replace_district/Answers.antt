use Rattle.std.proofs.Common.{Some, refl, sym, ap, ◌∙◌}
use Rattle.std.specs.FinMap as map
use Rattle.std.specs.Vec.{with_item}
use Rattle.std.proofs.lemmas.Option.{slice_get-get_or}
use Rattle.rows.specs.declared.records.District.{District}
use Rattle.schema.proofs.KeyOrders.{districts_total, districts_exact}
use Rattle.schema.proofs.RowReads.{read_slot}
use Rattle.partitions.specs.Parts.{Part}
use Rattle.partitions.specs.Partitions.{district_keys_of, part}
use Rattle.partitions.specs.Slots.{home_slot}
use Rattle.partitions.proofs.HomePlaces.{district_place}
use Rattle.partitions.proofs.HomeWrites.{district_within, district_fits, district_put}
use Rattle.partitions.proofs.partition.Partition.replace_district.Goals as goal

pub invariant_of-self : goal.invariant_of-self
invariant_of-self c = district_fits c.self.inside.catalog c.self.inside.home c.self.inside.rows c.self.invariant c.replace.new.dest c.in_ok-slot.slot

pub returns-clause-tables : goal.returns-clause-tables
returns-clause-tables c =
    let p = c.self.inside in
    let found = ap (λ (v : Part). home_slot v.home c.args.key) c.self.view_is ∙ sym c.slot_of_district.ensures ∙ c.in_ok-slot.was in
    ap (λ (row : District). part p.catalog p.home (record p.rows { districts = with_item p.rows.districts c.in_ok-slot.slot row })) c.replace.ensures.after
    ∙ district_put p.catalog p.home p.rows c.self.invariant c.args.key c.args.row c.in_ok-slot.slot found
    ∙ ap (λ (v : Part). record v { tables = record v.tables { districts = map.insert v.tables.districts c.args.key c.args.row } }) c.self.view_is

pub returns-clause-was : goal.returns-clause-was
returns-clause-was c =
    let p = c.self.inside in
    let items = p.rows.districts.items in
    let slot = c.in_ok-slot.slot in
    let found = ap (λ (v : Part). home_slot v.home c.args.key) c.self.view_is ∙ sym c.slot_of_district.ensures ∙ c.in_ok-slot.was in
    ap Some (c.replace.ensures.value ∙ c.index_mut.ensures.value)
    ∙ sym (slice_get-get_or items slot c.index_mut.result.now (district_within p.catalog p.home p.rows c.self.invariant c.args.key slot found))
    ∙ sym (read_slot districts_total districts_exact (district_keys_of p.home) items c.args.key (home_slot p.home c.args.key) (home_slot p.home c.args.key) slot (district_place p.home c.args.key) refl found)
    ∙ ap (λ (v : Part). map.get v.tables.districts c.args.key) c.self.view_is
