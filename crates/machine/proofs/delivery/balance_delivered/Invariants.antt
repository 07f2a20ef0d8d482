use Rattle.std.proofs.Common.{◌≡◌}
use Rattle.std.specs.Prelude.{pos, ◌+ℤ◌}
use Rattle.amounts.specs.Money.{IsMoney}
use Rattle.machine.specs.Delivery.{amount_of}
use Rattle.machine.proofs.BalanceDelivered.{come_to}
use Rattle.machine.proofs.delivery.balance_delivered.Given as goal

-- the lines that are still to come bring the balance to where all bring it
abbrev pub invariant-loop-line : goal.invariant-loop-line
invariant-loop-line l = IsMoney l.cents × (l.cents +ℤ pos (come_to l.line-iterator) ≡ l.fn.balance +ℤ pos (amount_of l.fn.tables l.fn.order))
