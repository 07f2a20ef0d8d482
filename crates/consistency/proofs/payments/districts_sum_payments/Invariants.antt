use Rattle.consistency.proofs.TotalsLoops.{EachBefore}
use Rattle.consistency.proofs.PaymentsRows.{DistrictIsPaid}
use Rattle.consistency.proofs.payments.districts_sum_payments.Given as goal

abbrev pub invariant-loop-place : goal.invariant-loop-place
invariant-loop-place l = EachBefore (DistrictIsPaid l.rows) l.rows.districts.items l.place
