use Rattle.std.proofs.Common.{◌≡◌, map}
use Rattle.transactions.specs.declared.new_order.LineSold.{LineSold}
use Rattle.transactions.proofs.new_order.deciding.columns.Given as goal

abbrev pub invariant-loop-line : goal.invariant-loop-line
invariant-loop-line l = record {
  rows : l.rows.items ≡ map (λ (line : LineSold). line.row) l.yielded;
  shown : l.shown.items ≡ map (λ (line : LineSold). line.shown) l.yielded;
}
