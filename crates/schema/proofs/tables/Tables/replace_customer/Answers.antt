use Rattle.std.proofs.Common.{Some, ◌<◌, length, sym, ap, ◌∙◌, arith}
use Rattle.std.specs.FinMap as map
use Rattle.std.proofs.lemmas.Option.{slice_get-get_or}
use Rattle.rows.specs.declared.records.Customer.{Customer}
use Rattle.schema.specs.Scale.{customer_keys, customer_slot}
use Rattle.schema.specs.Database.{Database}
use Rattle.schema.specs.Rows.{database}
use Rattle.schema.proofs.KeyOrders.{customers_total, customers_exact}
use Rattle.schema.proofs.ScalePlaces.{customer_place}
use Rattle.schema.proofs.RowReads.{read_slot}
use Rattle.schema.proofs.RowWrites.{customer_within, customer_put, customer_fits}
use Rattle.schema.proofs.tables.Tables.replace_customer.Goals as goal

pub index_mut-requires : goal.index_mut-requires
index_mut-requires c =
    let t = c.self.inside in
    let found = sym c.customer_slot.ensures ∙ c.in_ok-slot.was in
    let below : c.in_ok-slot.slot < length t.rows.customers.items = customer_within t.scale t.rows c.self.invariant c.args.key c.in_ok-slot.slot found in
    omega (arith, t.rows.customers.ok.0)

pub invariant_of-self : goal.invariant_of-self
invariant_of-self c = customer_fits c.self.inside.scale c.self.inside.rows c.self.invariant c.replace.new.dest c.in_ok-slot.slot

pub returns-clause-tables : goal.returns-clause-tables
returns-clause-tables c =
    let t = c.self.inside in
    let found = sym c.customer_slot.ensures ∙ c.in_ok-slot.was in
    customer_put t.scale t.rows c.self.invariant c.args.key c.replace.new.dest c.in_ok-slot.slot found
    ∙ ap (λ (row : Customer). record (database t.scale t.rows) { customers = map.insert (database t.scale t.rows).customers c.args.key row }) c.replace.ensures.after
    ∙ ap (λ (m : Database). record m { customers = map.insert m.customers c.args.key c.args.row }) c.self.view_is

pub returns-clause-was : goal.returns-clause-was
returns-clause-was c =
    let t = c.self.inside in
    let items = t.rows.customers.items in
    let slot = c.in_ok-slot.slot in
    let found = sym c.customer_slot.ensures ∙ c.in_ok-slot.was in
    ap Some (c.replace.ensures.value ∙ c.index_mut.ensures.value)
    ∙ sym (slice_get-get_or items slot c.index_mut.result.now (customer_within t.scale t.rows c.self.invariant c.args.key slot found))
    ∙ sym (read_slot customers_total customers_exact (customer_keys t.scale) items c.args.key (customer_slot t.scale c.args.key) c.customer_slot.result slot (customer_place t.scale c.args.key) c.customer_slot.ensures c.in_ok-slot.was)
    ∙ ap (λ m. map.get m.customers c.args.key) c.self.view_is
