use Rattle.std.proofs.Common.{subst, sym, arith, vec_capacity}
use Rattle.engine.specs.Rules.{rules_of}
use Rattle.engine.specs.Asking.{IsRefusedNext, ReadyView}
use Rattle.engine.proofs.Asked.{ready_refused}
use Rattle.engine.proofs.asking.Ready.refused.Goals as goal

pub invariant_of-result : goal.invariant_of-result
invariant_of-result g c =
    let own = c.self.inside in
    let rules = rules_of g.J.LogNames.opening g.J.LogNames.most in
    let pushed = c.push_reserved.ensures in
    let after = c.push_reserved.new.self in
    ready_refused rules g.J.ServeNames.scripts own.script.now own.seat own.pass own.answers.items after.items (vec_capacity own.answers) (vec_capacity after) own.is_full c.args.refusal c.self.invariant
    (subst (λ (s : ReadyView). IsRefusedNext rules s c.args.refusal) (sym c.self.view_is) c.requires) pushed.items (omega (arith, pushed.capacity))
