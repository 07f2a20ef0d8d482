use Rattle.std.proofs.Common.{◌≡◌, ◌++◌, map, take, drop}
use Rattle.schema.proofs.LinesDelivered.{dated}
use Rattle.schema.proofs.numbered.deliver.Given as goal

abbrev pub invariant-loop-row : goal.invariant-loop-row
invariant-loop-row l = l.row-items ≡ map (dated l.moment) (take l.row-index l.fn.rows.items) ++ drop l.row-index l.fn.rows.items
