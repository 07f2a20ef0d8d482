use Rattle.std.proofs.Common.{refl, sym, subst, ◌∙◌}
use Rattle.std.proofs.lemmas.Result.{on_ok_weaker}
use Rattle.files.specs.Columns.{Cents, Moment, Words}
use Rattle.dataset.specs.Columns.{Histories, customer_key, district_key}
use Rattle.dataset.specs.Payments.{Pays}
use Rattle.dataset.specs.TableRow.{TableRow, OfHistory}
use Rattle.dataset.proofs.RowTaken.{TakesRow, added_at, none_added, row_taken}
use Rattle.files.proofs.ColumnValues.{of_reads, read_more, read_none, read_then}
use Rattle.dataset.proofs.histories.take.Goals.{After-text}
use Rattle.dataset.proofs.histories.take.Goals as goal

row : After-text → TableRow
row c = OfHistory c.key-home.result (record { customer = c.key.result; date = c.moment.result; amount = c.cents.result; «data» = c.text.result })

takes : (c : After-text) → TakesRow Histories c.args.loader.now (row c) c.args.fields.now c.text.new.self
unfolding row
takes c =
    let l = c.args.loader.now in
    row_taken Histories l (row c) c.args.fields.now c.text.new.self
    (read_more (district_key l.scale.warehouses) (of_reads c.key-home.ensures.reads)
    (read_more (customer_key l.scale.warehouses l.scale.customers) (of_reads c.key.ensures)
    (read_then (Moment) c.moment.ensures.field
    (read_then (Cents) c.cents.ensures.field
    (read_then (Words 24) c.text.ensures.field read_none)))))
    (λ i. OfHistory (c.key-home.ensures.reads.value i) (record { customer = c.key.ensures.value i; date = c.moment.result; amount = c.cents.result; «data» = c.text.result }))

pub returns-in-Some : goal.returns-in-Some
unfolding row
returns-in-Some c =
    on_ok_weaker c.push.result (λ pays. takes (goal.at.returns-in-Some c).After-text _ _ c.stand_at.ensures.fault (λ _. added_at c.stand_at.ensures.same (
      refl,
      subst (λ slot. Pays slot (record { customer = c.key.result; date = c.moment.result; amount = c.cents.result; «data» = c.text.result }) c.stand_at.new.self.rows.histories.items c.push.new.lists.items)
          (sym c.in-Some.is ∙ c.district_slot.ensures) pays,
    ))) c.push.ensures

pub returns-then-not-stand_at : goal.returns-then-not-stand_at
unfolding row
returns-then-not-stand_at c = takes (goal.at.returns-then-not-stand_at c).After-text _ _ c.stand_at.ensures.fault (none_added c.stand_at.ensures.free c.if-not-stand_at.true)
