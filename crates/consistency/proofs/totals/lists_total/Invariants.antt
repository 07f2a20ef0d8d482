use Rattle.std.proofs.Common.{◌≡◌, ◌^◌, ◌*◌, drop, ◌+ℤ◌}
use Rattle.schema.specs.Consistency.{amounts_of}
use Rattle.consistency.specs.Totals.{sum_of, IsWithin}
use Rattle.consistency.proofs.totals.lists_total.Given as goal

abbrev pub invariant-loop-list : goal.invariant-loop-list
invariant-loop-list l = record {
  so_far : l.total +ℤ sum_of amounts_of (drop l.list-index l.lists) ≡ sum_of amounts_of l.lists;
  within : IsWithin (2 ^ 114 * l.list-index) l.total;
}
