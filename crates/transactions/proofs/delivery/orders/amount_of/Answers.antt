use Rattle.std.proofs.Common.{◌≡◌, ◌≤◌, length, ap, ◌∙◌, arith}
use Rattle.rows.specs.declared.limits.TheConstants.{RECENT_LINES}
use Rattle.schema.specs.Consistency.{lines_of}
use Rattle.machine.proofs.BalanceDelivered.{come_to}
use Rattle.transactions.proofs.DeliveryAmount.{few_lines_of}
use Rattle.transactions.proofs.delivery.orders.amount_of.Goals as goal

pub loop-line-init : goal.loop-line-init
loop-line-init c =
    let t = c.args.rows.now.tables in
    let rows = c.into_iter-line-iterator.ensures.into_iter_gives ∙ c.lines_of-line-items.ensures.rows in
    let few : length (lines_of t c.args.order) ≤ RECENT_LINES = few_lines_of t c.args.order c.requires.lines_numbered in
    let sum : come_to c.into_iter-line-iterator.result ≡ come_to (lines_of t c.args.order) = ap come_to rows in
    record { sum = omega (arith, sum); fits = omega (arith, few, ap length rows) }
