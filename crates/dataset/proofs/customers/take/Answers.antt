use Rattle.std.proofs.Common.{refl}
use Rattle.files.specs.Columns.{Cents, Credit, Moment, Whole, Words}
use Rattle.dataset.specs.Columns.{Customers, address_columns, customer_key}
use Rattle.dataset.specs.TableRow.{TableRow, OfCustomer}
use Rattle.dataset.proofs.RowTaken.{TakesRow, added_at, none_added, row_taken}
use Rattle.files.proofs.ColumnValues.{of_reads, read_more, read_none, read_then}
use Rattle.dataset.proofs.customers.take.Goals.{After-text-5}
use Rattle.dataset.proofs.customers.take.Goals as goal

row : After-text-5 → TableRow
row c = OfCustomer c.key-key.result (record { first = c.text.result; middle = c.text-2.result; last = c.text-3.result; address = c.address.result; phone = c.text-4.result; since = c.moment.result; credit = c.credit.result; credit_lim = c.cents.result; discount = c.rate.result; balance = c.cents-2.result; ytd_payment = c.cents-3.result; payment_cnt = c.ranged.result; delivery_cnt = c.ranged-2.result; «data» = c.text-5.result })

takes : (c : After-text-5) → TakesRow Customers c.args.loader.now (row c) c.args.fields.now c.text-5.new.self
unfolding row
takes c =
    let l = c.args.loader.now in
    row_taken Customers l (row c) c.args.fields.now c.text-5.new.self
    (read_more (customer_key l.scale.warehouses l.scale.customers) (of_reads c.key-key.ensures)
    (read_then (Words 16) c.text.ensures.field
    (read_then (Words 2) c.text-2.ensures.field
    (read_then (Words 16) c.text-3.ensures.field
    (read_more (address_columns) (of_reads c.address.ensures)
    (read_then (Words 16) c.text-4.ensures.field
    (read_then (Moment) c.moment.ensures.field
    (read_then (Credit) c.credit.ensures.field
    (read_then (Cents) c.cents.ensures.field
    (read_then (Whole 0 9999) c.rate.ensures.field
    (read_then (Cents) c.cents-2.ensures.field
    (read_then (Cents) c.cents-3.ensures.field
    (read_then (Whole 0 999999999) c.ranged.ensures.field
    (read_then (Whole 0 999999999) c.ranged-2.ensures.field
    (read_then (Words 500) c.text-5.ensures.field read_none)))))))))))))))
    (λ i. OfCustomer (c.key-key.ensures.value i) (record { first = c.text.result; middle = c.text-2.result; last = c.text-3.result; address = c.address.ensures.value i; phone = c.text-4.result; since = c.moment.result; credit = c.credit.result; credit_lim = c.cents.result; discount = c.rate.result; balance = c.cents-2.result; ytd_payment = c.cents-3.result; payment_cnt = c.ranged.result; delivery_cnt = c.ranged-2.result; «data» = c.text-5.result }))

pub returns-in_ok-push : goal.returns-in_ok-push
unfolding row
returns-in_ok-push c = takes (goal.at.returns-in_ok-push c).After-text-5 _ _ c.stand_at.ensures.fault (λ _. added_at c.stand_at.ensures.same (refl, c.in_ok-push.ensures.items))

pub returns-else-stand_at : goal.returns-else-stand_at
unfolding row
returns-else-stand_at c = takes (goal.at.returns-else-stand_at c).After-text-5 _ _ c.stand_at.ensures.fault (none_added c.stand_at.ensures.free c.if-stand_at.false)
