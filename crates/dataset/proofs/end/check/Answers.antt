use Rattle.std.proofs.Common.{◌≡◌}
use Rattle.files.specs.FieldRead.{fields_view}
use Rattle.files.specs.Columns.{Count, take_columns}
use Rattle.files.proofs.ColumnsRead.{and_then, count, several}
use Rattle.std.proofs.Common.{rules, [], ◌∷◌, List, length, map, sum, subst}
use Rattle.rows.specs.declared.records.History.{History}
use Rattle.files.specs.Taken.{Takes}
use Rattle.dataset.specs.Records.{Number, AreSpelt}
use Rattle.dataset.proofs.Taking.{takes-fields, takes-then, takes-counted}
use Rattle.std.proofs.Common.{◌<◌, ◌^◌, sym}
use Rattle.dataset.proofs.end.check.Goals as goal

pub returns-clause-taken : goal.returns-clause-taken
returns-clause-taken c =
    let rows = c.args.rows.now in
    let paid : List (List History) → Type 0 = λ lists. Takes c.expect_count-5.new.self c.check_payments.new.fields (AreSpelt (Number (sum (map length lists)) ∷ [])) in
    (takes-then (takes-counted (length rows.items.items) _ c.expect_count.new.self (search rules) c.expect_count.ensures.taken)
    (takes-then (takes-counted (length rows.warehouses.items) _ c.expect_count-2.new.self (search rules) c.expect_count-2.ensures.taken)
    (takes-then (takes-counted (length rows.districts.items) _ c.expect_count-3.new.self (search rules) c.expect_count-3.ensures.taken)
    (takes-then (takes-counted (length rows.stocks.items) _ c.expect_count-4.new.self (search rules) c.expect_count-4.ensures.taken)
    (takes-then (takes-counted (length rows.customers.items) _ c.expect_count-5.new.self (search rules) c.expect_count-5.ensures.taken)
    (takes-then (takes-fields (Number (sum (map length rows.histories.items)) ∷ []) (subst paid c.deref.ensures.value c.check_payments.ensures.taken))
    (takes-then (takes-counted (length rows.orders.entries) _ c.expect_count-6.new.self (search rules) c.expect_count-6.ensures.taken)
    (takes-then (takes-counted (length rows.new_orders.entries) _ c.expect_count-7.new.self (search rules) c.expect_count-7.ensures.taken)
    (takes-counted (length rows.lines) _ c.expect_count-8.new.self (search rules) c.expect_count-8.ensures.taken))))))))).well

pub returns-clause-columns : goal.returns-clause-columns
returns-clause-columns c = λ small.
    let rows = c.args.rows.now in
    let lists = c.deref.result.now in
    let few : sum (map length lists) < 2 ^ 64 = subst (λ l. sum (map length l) < 2 ^ 64) (sym c.deref.ensures.value) small in
    let paid = subst (λ l. fields_view c.check_payments.new.fields ≡ take_columns (Count (sum (map length l)) ∷ []) (fields_view c.expect_count-5.new.self)) c.deref.ensures.value (c.check_payments.ensures.columns few) in
    (and_then (count (length rows.items.items) _ c.args.fields.now c.expect_count.new.self (search rules) c.expect_count.ensures.field)
    (and_then (count (length rows.warehouses.items) _ c.expect_count.new.self c.expect_count-2.new.self (search rules) c.expect_count-2.ensures.field)
    (and_then (count (length rows.districts.items) _ c.expect_count-2.new.self c.expect_count-3.new.self (search rules) c.expect_count-3.ensures.field)
    (and_then (count (length rows.stocks.items) _ c.expect_count-3.new.self c.expect_count-4.new.self (search rules) c.expect_count-4.ensures.field)
    (and_then (count (length rows.customers.items) _ c.expect_count-4.new.self c.expect_count-5.new.self (search rules) c.expect_count-5.ensures.field)
    (and_then (several (Count (sum (map length rows.histories.items)) ∷ []) c.expect_count-5.new.self c.check_payments.new.fields paid)
    (and_then (count (length rows.orders.entries) _ c.check_payments.new.fields c.expect_count-6.new.self (search rules) c.expect_count-6.ensures.field)
    (and_then (count (length rows.new_orders.entries) _ c.expect_count-6.new.self c.expect_count-7.new.self (search rules) c.expect_count-7.ensures.field)
    (count (length rows.lines) _ c.expect_count-7.new.self c.expect_count-8.new.self (search rules) c.expect_count-8.ensures.field))))))))).is
