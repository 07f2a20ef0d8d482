use Rattle.consistency.proofs.TotalsLoops.{EachBefore}
use Rattle.consistency.proofs.BalancesRows.{CustomerIsOwed}
use Rattle.consistency.proofs.balances.balances_are_owed.Given as goal

abbrev pub invariant-loop-place : goal.invariant-loop-place
invariant-loop-place l = EachBefore (CustomerIsOwed l.deliveries l.payments.items) l.customer-items l.place
