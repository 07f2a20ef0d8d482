use Rattle.consistency.proofs.TotalsLoops.{EachBefore}
use Rattle.consistency.proofs.BalancesRows.{CustomerIsPaid}
use Rattle.consistency.proofs.balances.balances_are_paid.Given as goal

abbrev pub invariant-loop-place : goal.invariant-loop-place
invariant-loop-place l = EachBefore (CustomerIsPaid l.deliveries) l.customer-items l.place
