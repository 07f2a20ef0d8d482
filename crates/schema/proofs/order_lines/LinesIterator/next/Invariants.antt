use Rattle.std.proofs.Common.{◌≡◌, ◌++◌, length}
use Rattle.schema.specs.PackedLines.{all_lines, with_keys}
use Rattle.schema.proofs.order_lines.LinesIterator.next.Given as goal

abbrev pub invariant-loop-self : goal.invariant-loop-self
invariant-loop-self l = with_keys l.self-inside.order l.self-inside.lines.now ++ all_lines l.self-inside.orders ≡ l.fn.self

abbrev pub decreases-loop-self : goal.decreases-loop-self
decreases-loop-self l = length l.self-inside.orders
