use Rattle.std.proofs.Common.{sym, ap, ◌∙◌}
use Rattle.schema.proofs.KeyOrders.{customers_total, customers_exact}
use Rattle.std.specs.FinMap as map
use Rattle.schema.specs.Scale.{customer_keys, customer_slot}
use Rattle.schema.proofs.ScalePlaces.{customer_place}
use Rattle.schema.proofs.RowReads.{copied_item, read_slot}
use Rattle.schema.proofs.tables.Tables.customer.Goals as goal

pub returns : goal.returns
returns c =
    let t = c.self.inside in
    let items = t.rows.customers.items in
    copied_item items c.deref.result.now c.deref.ensures.value c.in_ok-customer_slot.field-0 c.get.result c.get.ensures.lookup
    ∙ sym (read_slot customers_total customers_exact (customer_keys t.scale) items c.args.key (customer_slot t.scale c.args.key) c.customer_slot.result c.in_ok-customer_slot.field-0 (customer_place t.scale c.args.key) c.customer_slot.ensures c.in_ok-customer_slot.was)
    ∙ ap (λ m. map.get m.customers c.args.key) c.self.view_is
