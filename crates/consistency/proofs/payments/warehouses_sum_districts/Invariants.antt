use Rattle.consistency.proofs.TotalsLoops.{EachBefore}
use Rattle.consistency.proofs.PaymentsRows.{WarehouseAddsUp}
use Rattle.consistency.proofs.payments.warehouses_sum_districts.Given as goal

abbrev pub invariant-loop-place : goal.invariant-loop-place
invariant-loop-place l = EachBefore (WarehouseAddsUp l.rows) l.rows.warehouses.items l.place
