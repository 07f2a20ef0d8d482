use Rattle.std.proofs.Common.{List, IsTrue, sym, ap, subst, ◌∙◌}
use Rattle.std.specs.FinMap as map
use Rattle.std.proofs.lemmas.Result.{on_ok_weaker, on_err_weaker}
use Rattle.std.specs.Vec.{with_item}
use Rattle.rows.specs.declared.records.History.{History}
use Rattle.schema.specs.Database.{Database, with_payment}
use Rattle.schema.specs.Rows.{FitsScale, database}
use Rattle.schema.proofs.RowWrites.{by_outcome, list_read, history_fits, history_same, payment_fits, payment_put}
use Rattle.schema.proofs.tables.Tables.push_history.Goals as goal

pub invariant_of-self : goal.invariant_of-self
invariant_of-self c =
    let t = c.self.inside in
    let found = sym c.district_slot.ensures ∙ c.in-Some.is in
    let list = c.index_mut.result.now in
    let read = c.index_mut.ensures.value in
    let payer = subst (λ (m : Database). IsTrue (map.contains_key m.customers c.args.row.customer)) (sym c.self.view_is) c.requires.payer in
    let known = sym (c.self.invariant.within.customers c.args.row.customer) ∙ payer in
    let fits = λ (l : List History). FitsScale t.scale (record t.rows { histories = with_item t.rows.histories c.in-Some.slot l }) in
    by_outcome c.push.result c.push.ensures.ok c.push.ensures.err
    (λ e. subst fits (sym e) (payment_fits t.scale t.rows c.self.invariant c.args.key c.in-Some.slot list c.args.row found read known))
    (λ e. subst fits (sym e) (history_fits t.scale t.rows c.self.invariant c.args.key list c.in-Some.slot found
    (c.self.invariant.within.payers_known c.args.key list (list_read t.scale t.rows c.self.invariant c.args.key c.in-Some.slot list found read))))

pub returns-in-Some-clause-ok : goal.returns-in-Some-clause-ok
returns-in-Some-clause-ok c =
    let t = c.self.inside in
    let found = sym c.district_slot.ensures ∙ c.in-Some.is in
    let list = c.index_mut.result.now in
    on_ok_weaker c.push.result (λ e.
    ap (λ (l : List History). database t.scale (record t.rows { histories = with_item t.rows.histories c.in-Some.slot l })) e
    ∙ payment_put t.scale t.rows c.self.invariant c.args.key c.in-Some.slot list c.args.row found c.index_mut.ensures.value
    ∙ ap (λ (m : Database). record m { histories = with_payment m.histories c.args.key c.args.row }) c.self.view_is) c.push.ensures.ok

pub returns-in-Some-clause-err : goal.returns-in-Some-clause-err
returns-in-Some-clause-err c =
    let t = c.self.inside in
    let list = c.index_mut.result.now in
    on_err_weaker c.push.result (λ e.
    ap (λ (l : List History). database t.scale (record t.rows { histories = with_item t.rows.histories c.in-Some.slot l })) e
    ∙ history_same t.scale t.rows c.self.invariant c.in-Some.slot list c.index_mut.ensures.value
    ∙ c.self.view_is) c.push.ensures.err
