use Rattle.std.proofs.Common.{◌*◌, ◌^◌, drop}
use Rattle.std.specs.Prelude.{◌-ℤ◌}
use Rattle.consistency.specs.Totals.{sum_of}
use Rattle.consistency.specs.Balances.{AreTotals, AreWithin}
use Rattle.consistency.proofs.BalancesPayments.{paid_in}
use Rattle.consistency.proofs.balances.paid_totals.Given as goal

abbrev pub invariant-loop-list : goal.invariant-loop-list
invariant-loop-list l = record {
  totals : AreTotals l.scale (λ key. sum_of (paid_in key) l.list-items -ℤ sum_of (paid_in key) (drop l.list-index l.list-items)) l.totals.items;
  within : AreWithin (2 ^ 114 * l.list-index) l.totals.items;
}
