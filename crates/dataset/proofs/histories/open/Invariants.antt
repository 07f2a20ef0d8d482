use Rattle.std.proofs.Common.{◌≡◌, ◌-◌, ◌++◌, ◌≤◌, List, [], length, vec_len}
use Rattle.std.specs.List.{AllByRecursion}
use Rattle.rows.specs.declared.records.History.{History}
use Rattle.dataset.proofs.histories.open.Given as goal

abbrev pub invariant-loop-alloc : goal.invariant-loop-alloc
invariant-loop-alloc l =
    (opened : List (List History)) × AllByRecursion (λ list. list ≡ []) opened × (l.lists.items ≡ l.fn.lists.items ++ opened)
    × (length l.fn.lists.items ≤ l.count → length l.lists.items ≤ l.count)

abbrev pub decreases-loop-alloc : goal.decreases-loop-alloc
decreases-loop-alloc l = l.count - vec_len l.lists
