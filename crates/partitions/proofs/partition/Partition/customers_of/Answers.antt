use Rattle.std.proofs.Common.{◌≡◌, ℕ, ◌+◌, IfSome, sym, ap, subst, ◌∙◌}
use Rattle.std.specs.List.{slice_get}
use Rattle.std.specs.FinMap as map
use Rattle.schema.specs.Scale.{customer_key}
use Rattle.partitions.specs.Parts.{Part}
use Rattle.partitions.specs.Slots.{home_slot}
use Rattle.partitions.proofs.HomeReads.{customers_part}
use Rattle.partitions.proofs.partition.Partition.customers_of.Goals as goal

pub returns-clause-rows : goal.returns-clause-rows
returns-clause-rows c =
    let p = c.self.inside in
    let found = ap (λ (v : Part). home_slot v.home c.args.home) c.self.view_is ∙ sym c.slot_of_district.ensures ∙ c.in_ok-slot.was in
    let many = ap (λ s. s.customers) c.scale-customers.ensures.value ∙ sym (ap (λ (v : Part). v.tables.scale.customers) c.self.view_is) in
    subst (λ (v : Part). IfSome c.get.result (λ cut. (n : ℕ) → slice_get cut.now n ≡ map.get v.tables.customers (customer_key c.args.home (n + 1)))) c.self.view_is
    (customers_part p.catalog p.home p.rows c.args.home c.in_ok-slot.slot found c.scale-customers.result.customers many c.deref.result.now c.deref.ensures.value c.get.result c.get.ensures.lookup)
