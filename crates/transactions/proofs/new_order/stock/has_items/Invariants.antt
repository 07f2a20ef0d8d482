use Rattle.std.proofs.Common.{◌≡◌, ◌+◌, drop}
use Rattle.std.specs.List.{filter, list_all}
use Rattle.transactions.specs.NewOrder.{has_item_of, is_in, lines_in, numbered}
use Rattle.transactions.proofs.new_order.stock.has_items.Given as goal

abbrev pub invariant-loop-line : goal.invariant-loop-line
invariant-loop-line l =
    list_all (has_item_of l.rows.tables) (filter (is_in l.group) (numbered (l.line-index + 1) (drop l.line-index l.lines)))
    ≡ list_all (has_item_of l.rows.tables) (lines_in l.group l.lines)
