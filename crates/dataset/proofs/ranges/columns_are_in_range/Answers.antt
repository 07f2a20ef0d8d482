use Rattle.std.proofs.Common.{sym, ap, subst, ◌∙◌}
use Rattle.std.specs.List.{AllByRecursion}
use Rattle.std.specs.Map.{values_of}
use Rattle.std.specs.FinMap.{entries}
use Rattle.schema.specs.Database.{Database}
use Rattle.dataset.specs.Ranges.{InRange, ItemInRange, WarehouseInRange, DistrictInRange, StockInRange, CustomerInRange, HistoryInRange, OrderInRange, LineInRange}
use Rattle.dataset.proofs.ColumnRanges.{rows_in_range}
use Rattle.dataset.proofs.ranges.columns_are_in_range.Goals as goal

pub returns : goal.returns
returns c =
    let rows = c.rows-rows in
    let same = rows.ensures.same in
    subst InRange same
    (rows_in_range c.args.tables.now.scale rows.result.now rows.ensures.fits.counts
    (subst (AllByRecursion ItemInRange) c.deref.ensures.value c.read_each.ensures)
    (subst (AllByRecursion WarehouseInRange) c.deref-2.ensures.value c.read_each-2.ensures)
    (subst (AllByRecursion DistrictInRange) c.deref-3.ensures.value c.read_each-3.ensures)
    (subst (AllByRecursion StockInRange) c.deref-4.ensures.value c.read_each-4.ensures)
    (subst (AllByRecursion CustomerInRange) c.deref-5.ensures.value c.read_each-5.ensures)
    (subst (AllByRecursion (AllByRecursion HistoryInRange)) c.deref-6.ensures.value c.read_each-6.ensures)
    (subst (λ es. AllByRecursion OrderInRange (values_of es)) (c.orders.ensures.rows ∙ sym (ap (λ (t : Database). entries t.orders) same)) (c.read_values.ensures (λ s. s) (λ s r t h. h)))
    (subst (λ es. AllByRecursion LineInRange (values_of es)) (c.lines.ensures.rows ∙ sym (ap (λ (t : Database). entries t.lines) same)) (c.read_values-2.ensures (λ s. s) (λ s r t h. h))))
