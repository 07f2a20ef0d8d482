use Rattle.machine.proofs.LinesSoFar.{AreSoFar}
use Rattle.machine.proofs.new_order_lines.place_lines.Given as goal

abbrev pub invariant-loop-line : goal.invariant-loop-line
invariant-loop-line l = AreSoFar l.tables l.order l.line-index l.rows.items l.shown.items l.stocks.items
