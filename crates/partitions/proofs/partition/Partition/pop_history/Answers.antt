use Rattle.std.proofs.Common.{List, sym, ap, subst, ◌∙◌}
use Rattle.std.specs.Vec.{with_item}
use Rattle.rows.specs.declared.records.History.{History}
use Rattle.schema.specs.Database.{without_payment}
use Rattle.partitions.specs.Parts.{Part}
use Rattle.partitions.specs.Partitions.{part, FitsPart}
use Rattle.partitions.specs.Slots.{home_slot}
use Rattle.partitions.proofs.HomeWrites.{payment_gone_fits, payment_gone_put}
use Rattle.partitions.proofs.partition.Partition.pop_history.Goals as goal

pub invariant_of-self : goal.invariant_of-self
invariant_of-self c =
    let p = c.self.inside in
    let slot = c.in-Some.slot in
    let found = ap (λ (v : Part). home_slot v.home c.args.key) c.self.view_is ∙ sym c.slot_of_district.ensures ∙ c.in-Some.is in
    subst (λ (l : List History). FitsPart p.catalog p.home (record p.rows { histories = with_item p.rows.histories slot l })) (sym c.pop.ensures)
    (payment_gone_fits p.catalog p.home p.rows c.self.invariant c.args.key slot c.index_mut.result.now found c.index_mut.ensures.value)

pub returns-in-Some : goal.returns-in-Some
returns-in-Some c =
    let p = c.self.inside in
    let slot = c.in-Some.slot in
    let found = ap (λ (v : Part). home_slot v.home c.args.key) c.self.view_is ∙ sym c.slot_of_district.ensures ∙ c.in-Some.is in
    ap (λ (l : List History). part p.catalog p.home (record p.rows { histories = with_item p.rows.histories slot l })) c.pop.ensures
    ∙ payment_gone_put p.catalog p.home p.rows c.self.invariant c.args.key slot c.index_mut.result.now found c.index_mut.ensures.value
    ∙ ap (λ (v : Part). record v { tables = record v.tables { histories = without_payment v.tables.histories c.args.key } }) c.self.view_is
