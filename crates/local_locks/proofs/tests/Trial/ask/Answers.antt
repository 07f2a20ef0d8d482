use Rattle.std.proofs.Common.{◌++◌, ◌∷◌, [], List, ap, subst, ◌∙◌}
use Rattle.tickets.specs.Claims.{ClaimView}
use Rattle.wait_die.specs.declared.deciding.Holder.{Holder}
use Rattle.local_locks.specs.declared.table.Asked.{Asked}
use Rattle.local_locks.specs.Asking.{Answers}
use Rattle.local_locks.proofs.Left.{out_more}
use Rattle.local_locks.proofs.tests.Trial.ask.Goals as goal

pub invariant_of-self-in-Granted : goal.invariant_of-self-in-Granted
invariant_of-self-in-Granted g c =
    let said = subst (λ (r : Asked g.row.J.Denot). Answers c.args.by c.args.wants.now c.self.inside.table r c.ask.new.self) c.in-Granted.is c.in_ok-claims.ensures.answers in
    let put = c.push_reserved.ensures.items ∙ ap (λ (gs : List (Holder × List ClaimView)). gs ++ (c.args.by, c.in-Granted.claims.items) ∷ []) c.in_ok-reserve.ensures.items in
    out_more c.self.inside.table c.ask.new.self c.self.inside.out.items c.push_reserved.new.self.items c.args.by c.args.wants.now c.in-Granted.claims.items c.self.invariant said.0 put
