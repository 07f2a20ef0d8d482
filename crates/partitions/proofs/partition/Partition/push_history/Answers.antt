use Rattle.std.proofs.Common.{List, IsTrue, sym, ap, subst, ◌∙◌}
use Rattle.std.specs.Vec.{with_item}
use Rattle.std.proofs.lemmas.Result.{on_ok_weaker, on_err_weaker}
use Rattle.rows.specs.declared.records.History.{History}
use Rattle.schema.specs.Scale.{has_customer}
use Rattle.schema.specs.Database.{with_payment}
use Rattle.schema.proofs.RowWrites.{by_outcome}
use Rattle.partitions.specs.Parts.{Part}
use Rattle.partitions.specs.Partitions.{part, FitsPart}
use Rattle.partitions.specs.Slots.{home_slot}
use Rattle.partitions.proofs.HomeWrites.{list_known, history_fits, history_same, payment_fits, payment_put}
use Rattle.partitions.proofs.partition.Partition.push_history.Goals as goal

pub invariant_of-self : goal.invariant_of-self
invariant_of-self c =
    let p = c.self.inside in
    let slot = c.in-Some.slot in
    let found = ap (λ (v : Part). home_slot v.home c.args.key) c.self.view_is ∙ sym c.slot_of_district.ensures ∙ c.in-Some.is in
    let list = c.index_mut.result.now in
    let read = c.index_mut.ensures.value in
    let known = subst (λ (v : Part). IsTrue (has_customer v.tables.scale c.args.row.customer)) (sym c.self.view_is) c.requires.payer in
    let fits = λ (l : List History). FitsPart p.catalog p.home (record p.rows { histories = with_item p.rows.histories slot l }) in
    by_outcome c.push.result c.push.ensures.ok c.push.ensures.err
    (λ e. subst fits (sym e) (payment_fits p.catalog p.home p.rows c.self.invariant c.args.key slot list found read c.args.row known))
    (λ e. subst fits (sym e) (history_fits p.catalog p.home p.rows c.self.invariant c.args.key list slot found
    (list_known p.catalog p.home p.rows c.self.invariant c.args.key slot list found read)))

pub returns-in-Some-clause-ok : goal.returns-in-Some-clause-ok
returns-in-Some-clause-ok c =
    let p = c.self.inside in
    let slot = c.in-Some.slot in
    let found = ap (λ (v : Part). home_slot v.home c.args.key) c.self.view_is ∙ sym c.slot_of_district.ensures ∙ c.in-Some.is in
    on_ok_weaker c.push.result (λ e.
    ap (λ (l : List History). part p.catalog p.home (record p.rows { histories = with_item p.rows.histories slot l })) e
    ∙ payment_put p.catalog p.home p.rows c.self.invariant c.args.key slot c.index_mut.result.now found c.index_mut.ensures.value c.args.row
    ∙ ap (λ (v : Part). record v { tables = record v.tables { histories = with_payment v.tables.histories c.args.key c.args.row } }) c.self.view_is) c.push.ensures.ok

pub returns-in-Some-clause-err : goal.returns-in-Some-clause-err
returns-in-Some-clause-err c =
    let p = c.self.inside in
    let slot = c.in-Some.slot in
    on_err_weaker c.push.result (λ e.
    ap (λ (l : List History). part p.catalog p.home (record p.rows { histories = with_item p.rows.histories slot l })) e
    ∙ history_same p.catalog p.home p.rows c.self.invariant slot c.index_mut.result.now c.index_mut.ensures.value
    ∙ c.self.view_is) c.push.ensures.err
