use Rattle.std.proofs.Common.{Some, sym, ap, ◌∙◌}
use Rattle.std.specs.FinMap as map
use Rattle.std.proofs.lemmas.Option.{slice_get-get_or}
use Rattle.rows.specs.declared.records.District.{District}
use Rattle.schema.specs.Scale.{district_keys, district_slot}
use Rattle.schema.specs.Database.{Database}
use Rattle.schema.specs.Rows.{database}
use Rattle.schema.proofs.KeyOrders.{districts_total, districts_exact}
use Rattle.schema.proofs.ScalePlaces.{district_place}
use Rattle.schema.proofs.RowReads.{read_slot}
use Rattle.schema.proofs.RowWrites.{district_within, district_put, district_fits}
use Rattle.schema.proofs.tables.Tables.replace_district.Goals as goal

pub invariant_of-self : goal.invariant_of-self
invariant_of-self c = district_fits c.self.inside.scale c.self.inside.rows c.self.invariant c.replace.new.dest c.in_ok-slot.slot

pub returns-clause-tables : goal.returns-clause-tables
returns-clause-tables c =
    let t = c.self.inside in
    let found = sym c.district_slot.ensures ∙ c.in_ok-slot.was in
    district_put t.scale t.rows c.self.invariant c.args.key c.replace.new.dest c.in_ok-slot.slot found
    ∙ ap (λ (row : District). record (database t.scale t.rows) { districts = map.insert (database t.scale t.rows).districts c.args.key row }) c.replace.ensures.after
    ∙ ap (λ (m : Database). record m { districts = map.insert m.districts c.args.key c.args.row }) c.self.view_is

pub returns-clause-was : goal.returns-clause-was
returns-clause-was c =
    let t = c.self.inside in
    let items = t.rows.districts.items in
    let slot = c.in_ok-slot.slot in
    let found = sym c.district_slot.ensures ∙ c.in_ok-slot.was in
    ap Some (c.replace.ensures.value ∙ c.index_mut.ensures.value)
    ∙ sym (slice_get-get_or items slot c.index_mut.result.now (district_within t.scale t.rows c.self.invariant c.args.key slot found))
    ∙ sym (read_slot districts_total districts_exact (district_keys t.scale) items c.args.key (district_slot t.scale c.args.key) c.district_slot.result slot (district_place t.scale c.args.key) c.district_slot.ensures c.in_ok-slot.was)
    ∙ ap (λ m. map.get m.districts c.args.key) c.self.view_is
