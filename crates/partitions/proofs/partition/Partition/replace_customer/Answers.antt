use Rattle.std.proofs.Common.{Some, ◌<◌, length, refl, sym, ap, ◌∙◌, arith}
use Rattle.std.specs.FinMap as map
use Rattle.std.specs.Vec.{with_item}
use Rattle.std.proofs.lemmas.Option.{slice_get-get_or}
use Rattle.rows.specs.declared.records.Customer.{Customer}
use Rattle.schema.proofs.KeyOrders.{customers_total, customers_exact}
use Rattle.schema.proofs.RowReads.{read_slot}
use Rattle.partitions.specs.Parts.{Part}
use Rattle.partitions.specs.Partitions.{customer_keys_of, part}
use Rattle.partitions.specs.Slots.{customer_slot_by, home_slot}
use Rattle.partitions.proofs.HomePlaces.{customer_place}
use Rattle.partitions.proofs.HomeWrites.{customer_within, customer_fits, customer_put}
use Rattle.partitions.proofs.partition.Partition.replace_customer.Goals as goal

pub index_mut-requires : goal.index_mut-requires
index_mut-requires c =
    let p = c.self.inside in
    let found = ap (λ (v : Part). customer_slot_by (home_slot v.home) v.tables.scale.customers c.args.key) c.self.view_is ∙ sym c.slot_of_customer.ensures ∙ c.in_ok-slot.was in
    let below : c.in_ok-slot.slot < length p.rows.customers.items = customer_within p.catalog p.home p.rows c.self.invariant c.args.key c.in_ok-slot.slot found in
    omega (arith, p.rows.customers.ok.0)

pub invariant_of-self : goal.invariant_of-self
invariant_of-self c = customer_fits c.self.inside.catalog c.self.inside.home c.self.inside.rows c.self.invariant c.replace.new.dest c.in_ok-slot.slot

pub returns-clause-tables : goal.returns-clause-tables
returns-clause-tables c =
    let p = c.self.inside in
    let found = ap (λ (v : Part). customer_slot_by (home_slot v.home) v.tables.scale.customers c.args.key) c.self.view_is ∙ sym c.slot_of_customer.ensures ∙ c.in_ok-slot.was in
    ap (λ (row : Customer). part p.catalog p.home (record p.rows { customers = with_item p.rows.customers c.in_ok-slot.slot row })) c.replace.ensures.after
    ∙ customer_put p.catalog p.home p.rows c.self.invariant c.args.key c.args.row c.in_ok-slot.slot found
    ∙ ap (λ (v : Part). record v { tables = record v.tables { customers = map.insert v.tables.customers c.args.key c.args.row } }) c.self.view_is

pub returns-clause-was : goal.returns-clause-was
returns-clause-was c =
    let p = c.self.inside in
    let scale = p.catalog.scale in
    let items = p.rows.customers.items in
    let slot = c.in_ok-slot.slot in
    let found = ap (λ (v : Part). customer_slot_by (home_slot v.home) v.tables.scale.customers c.args.key) c.self.view_is ∙ sym c.slot_of_customer.ensures ∙ c.in_ok-slot.was in
    ap Some (c.replace.ensures.value ∙ c.index_mut.ensures.value)
    ∙ sym (slice_get-get_or items slot c.index_mut.result.now (customer_within p.catalog p.home p.rows c.self.invariant c.args.key slot found))
    ∙ sym (read_slot customers_total customers_exact (customer_keys_of scale p.home) items c.args.key (customer_slot_by (home_slot p.home) scale.customers c.args.key) (customer_slot_by (home_slot p.home) scale.customers c.args.key) slot (customer_place scale p.home c.args.key) refl found)
    ∙ ap (λ (v : Part). map.get v.tables.customers c.args.key) c.self.view_is
