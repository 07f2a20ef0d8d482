use Rattle.std.proofs.Common.{sym, subst}
use Rattle.std.specs.List.Sorted.{IsStrictlySortedBy}
use Rattle.std.specs.Map.{keys_of}
use Rattle.rows.specs.Keys.{order_cmp}
use Rattle.schema.proofs.RowsLeft.{passed_first}
use Rattle.schema.proofs.beside.Beside.new.Goals as goal

pub invariant_of-result : goal.invariant_of-result
invariant_of-result g c =
    subst (λ rows. IsStrictlySortedBy order_cmp (keys_of rows))
    (sym (passed_first c.args.rows c.next-first.result c.next-first.new.self c.next-first.ensures.steps)) c.requires
