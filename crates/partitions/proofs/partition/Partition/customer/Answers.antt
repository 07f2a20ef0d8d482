use Rattle.std.proofs.Common.{refl, sym, ap, ◌∙◌}
use Rattle.std.specs.FinMap as map
use Rattle.schema.proofs.KeyOrders.{customers_total, customers_exact}
use Rattle.schema.proofs.RowReads.{copied_item, read_slot}
use Rattle.partitions.specs.Parts.{Part}
use Rattle.partitions.specs.Partitions.{customer_keys_of}
use Rattle.partitions.specs.Slots.{customer_slot_by, home_slot}
use Rattle.partitions.proofs.HomePlaces.{customer_place}
use Rattle.partitions.proofs.partition.Partition.customer.Goals as goal

pub returns : goal.returns
returns c =
    let p = c.self.inside in
    let scale = p.catalog.scale in
    let items = p.rows.customers.items in
    let slot = c.in_ok-slot_of_customer.field-0 in
    let found = ap (λ (v : Part). customer_slot_by (home_slot v.home) v.tables.scale.customers c.args.key) c.self.view_is ∙ sym c.slot_of_customer.ensures ∙ c.in_ok-slot_of_customer.was in
    copied_item items c.deref.result.now c.deref.ensures.value slot c.get.result c.get.ensures.lookup
    ∙ sym (read_slot customers_total customers_exact (customer_keys_of scale p.home) items c.args.key (customer_slot_by (home_slot p.home) scale.customers c.args.key) (customer_slot_by (home_slot p.home) scale.customers c.args.key) slot (customer_place scale p.home c.args.key) refl found)
    ∙ ap (λ (v : Part). map.get v.tables.customers c.args.key) c.self.view_is
