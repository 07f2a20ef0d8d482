use Rattle.std.proofs.Common.{◌≡◌, ℕ, ◌+◌, ◌*◌, ◌^◌, length, drop}
use Rattle.std.specs.Prelude.{ℤ, ◌+ℤ◌, ◌-ℤ◌}
use Rattle.std.specs.List.{filter}
use Rattle.rows.specs.declared.keys.CustomerKey.{CustomerKey}
use Rattle.schema.specs.Consistency.{amounts_of, is_payer}
use Rattle.consistency.specs.Balances.{AreTotals, AreWithin}
use Rattle.consistency.proofs.balances.credit_payers.Given as goal

abbrev pub invariant-loop-payment : goal.invariant-loop-payment
invariant-loop-payment l = record {
  length : length l.totals ≡ length l.fn.totals;
  added : (before : CustomerKey → ℤ) → AreTotals l.scale before l.fn.totals
      → AreTotals l.scale (λ key. (before key +ℤ amounts_of (filter (is_payer key) l.payments)) -ℤ amounts_of (filter (is_payer key) (drop l.payment-index l.payments))) l.totals;
  within : (limit : ℕ) → AreWithin limit l.fn.totals → AreWithin (limit + 2 ^ 50 * l.payment-index) l.totals;
}
