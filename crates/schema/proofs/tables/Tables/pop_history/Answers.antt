use Rattle.std.proofs.Common.{List, sym, ap, subst, ◌∙◌}
use Rattle.std.specs.Vec.{with_item}
use Rattle.rows.specs.declared.records.History.{History}
use Rattle.schema.specs.Database.{Database, without_payment}
use Rattle.schema.specs.Rows.{FitsScale, database}
use Rattle.schema.proofs.RowWrites.{payment_gone_fits, payment_gone_put}
use Rattle.schema.proofs.tables.Tables.pop_history.Goals as goal

pub invariant_of-self : goal.invariant_of-self
invariant_of-self c =
    let t = c.self.inside in
    let found = sym c.district_slot.ensures ∙ c.in-Some.is in
    subst (λ (l : List History). FitsScale t.scale (record t.rows { histories = with_item t.rows.histories c.in-Some.slot l })) (sym c.pop.ensures)
    (payment_gone_fits t.scale t.rows c.self.invariant c.args.key c.in-Some.slot c.index_mut.result.now found c.index_mut.ensures.value)

pub returns-in-Some : goal.returns-in-Some
returns-in-Some c =
    let t = c.self.inside in
    let found = sym c.district_slot.ensures ∙ c.in-Some.is in
    ap (λ (l : List History). database t.scale (record t.rows { histories = with_item t.rows.histories c.in-Some.slot l })) c.pop.ensures
    ∙ payment_gone_put t.scale t.rows c.self.invariant c.args.key c.in-Some.slot c.index_mut.result.now found c.index_mut.ensures.value
    ∙ ap (λ (m : Database). record m { histories = without_payment m.histories c.args.key }) c.self.view_is
