use Rattle.std.proofs.Common.{◌≡◌, ◌≢◌, [], ◌∷◌, length}
use Rattle.requests.specs.declared.group.Group.{Group}
use Rattle.groups.specs.Content.{content}
use Rattle.tickets.specs.Claims.{leaving}
use Rattle.slices.specs.SliceView.{SliceKeeps}
use Rattle.transactions.specs.NewOrderStock.{AreOfGroup, puts_done}
use Rattle.transactions.proofs.new_order.stock.put_stocks.Given as goal

abbrev pub invariant-loop-put : goal.invariant-loop-put
invariant-loop-put g l = record {
  kept : SliceKeeps (l.initial.stock ∷ []) l.initial.slice (l.stock ∷ []) l.slice;
  claim : l.stock ≡ leaving l.initial.stock l.stock.left;
  slice : l.slice ≡ record l.initial.slice { tables = record l.initial.slice.tables { stocks = l.slice.tables.stocks } };
  same : puts_done l.puts.items l.slice.tables.stocks ≡ puts_done l.initial.puts.items l.initial.slice.tables.stocks;
  keys : AreOfGroup l.initial.stock l.slice.tables.stocks l.puts.items;
  elsewhere : (other : Group) → other ≢ l.initial.stock.group → content l.slice.tables other ≡ content l.initial.slice.tables other;
}

abbrev pub decreases-loop-put : goal.decreases-loop-put
decreases-loop-put g l = length l.puts.items
