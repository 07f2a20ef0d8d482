use Rattle.std.proofs.Common.{◌++◌, ◌∷◌, [], List, ap, subst, ◌∙◌}
use Rattle.tickets.specs.Claims.{ClaimView}
use Rattle.wait_die.specs.declared.deciding.Holder.{Holder}
use Rattle.local_locks.specs.declared.table.Turn.{Turn}
use Rattle.local_locks.specs.Asking.{TakesTurn}
use Rattle.local_locks.proofs.Left.{out_more}
use Rattle.local_locks.proofs.tests.Trial.next_grant.Goals as goal

pub invariant_of-self-in-Granted : goal.invariant_of-self-in-Granted
invariant_of-self-in-Granted g c =
    let said = subst (λ (t : Turn g.row.J.Denot). TakesTurn c.self.inside.table t c.next_grant.new.self) c.in-Granted.is c.in-Some.ensures.turn in
    let put = c.push_reserved.ensures.items ∙ ap (λ (gs : List (Holder × List ClaimView)). gs ++ (c.in-Granted.by, c.in-Granted.claims.items) ∷ []) c.in_ok-reserve.ensures.items in
    out_more c.self.inside.table c.next_grant.new.self c.self.inside.out.items c.push_reserved.new.self.items c.in-Granted.by said.0 c.in-Granted.claims.items c.self.invariant said.2 put
