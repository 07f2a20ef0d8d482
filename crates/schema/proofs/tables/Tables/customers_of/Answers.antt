use Rattle.std.proofs.Common.{◌≡◌, ℕ, ◌+◌, IfSome, sym, ap, subst, ◌∙◌}
use Rattle.std.specs.List.{slice_get}
use Rattle.std.specs.FinMap as map
use Rattle.schema.specs.Scale.{has_district, customer_key}
use Rattle.schema.specs.Database.{Database}
use Rattle.schema.proofs.DistrictRows.{has_slot, customers_part, customers_there}
use Rattle.schema.proofs.tables.Tables.customers_of.Goals as goal

pub returns-clause-district : goal.returns-clause-district
returns-clause-district c =
    let t = c.self.inside in
    let slot = c.in_ok-slot.slot in
    let found = sym c.district_slot.ensures ∙ c.in_ok-slot.was in
    customers_there t.scale t.rows c.self.invariant c.args.home slot found c.deref.result.now c.deref.ensures.value c.get.result c.get.ensures.lookup
    ∙ sym (has_slot t.scale c.args.home slot found) ∙ ap (λ (m : Database). has_district m.scale c.args.home) c.self.view_is

pub returns-clause-rows : goal.returns-clause-rows
returns-clause-rows c =
    let t = c.self.inside in
    let slot = c.in_ok-slot.slot in
    let found = sym c.district_slot.ensures ∙ c.in_ok-slot.was in
    subst (λ (m : Database). IfSome c.get.result (λ part. (n : ℕ) → slice_get part.now n ≡ map.get m.customers (customer_key c.args.home (n + 1)))) c.self.view_is
    (customers_part t.scale t.rows c.self.invariant c.args.home slot found c.deref.result.now c.deref.ensures.value c.get.result c.get.ensures.lookup)
