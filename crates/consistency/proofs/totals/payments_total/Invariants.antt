use Rattle.std.proofs.Common.{◌≡◌, ◌^◌, ◌*◌, drop, ◌+ℤ◌}
use Rattle.schema.specs.Consistency.{amounts_of}
use Rattle.consistency.specs.Totals.{IsWithin}
use Rattle.consistency.proofs.totals.payments_total.Given as goal

abbrev pub invariant-loop-payment : goal.invariant-loop-payment
invariant-loop-payment l = record {
  so_far : l.total +ℤ amounts_of (drop l.payment-index l.payments) ≡ amounts_of l.payments;
  within : IsWithin (2 ^ 50 * l.payment-index) l.total;
}
