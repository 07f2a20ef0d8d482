use Rattle.consistency.proofs.TotalsLoops.{EachBefore}
use Rattle.consistency.proofs.PaymentsRows.{WarehouseIsPaid}
use Rattle.consistency.proofs.payments.warehouses_sum_payments.Given as goal

abbrev pub invariant-loop-place : goal.invariant-loop-place
invariant-loop-place l = EachBefore (WarehouseIsPaid l.rows) l.rows.warehouses.items l.place
