use Rattle.std.proofs.Common.{◌≡◌, ◌+◌, ◌*◌, ◌≤◌, length}
use Rattle.rows.specs.declared.limits.TheConstants.{RECENT_LINES}
use Rattle.machine.specs.Delivery.{amount_of}
use Rattle.machine.proofs.BalanceDelivered.{come_to}
use Rattle.transactions.proofs.delivery.orders.amount_of.Given as goal

-- the lines that are still to come bring it to what all come to
abbrev pub invariant-loop-line : goal.invariant-loop-line
invariant-loop-line l = record {
  sum : l.amount + come_to l.line-iterator ≡ amount_of l.fn.rows.tables l.fn.order;
  fits : l.amount + 999999 * length l.line-iterator ≤ 999999 * RECENT_LINES;
}
