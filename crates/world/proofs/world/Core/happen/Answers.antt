use Rattle.std.proofs.Common.{sym, subst, ◌∷◌, []}
use Rattle.history.specs.declared.event.Event.{Event}
use Rattle.history.specs.History.{step}
use Rattle.world.specs.Happening.{Happens}
use Rattle.world.specs.Together.{together}
use Rattle.world.specs.Worlds.{Advances}
use Rattle.world.proofs.world.Core.happen.Goals as goal

pub returns-in-Submit-clause-advances : goal.returns-in-Submit-clause-advances
returns-in-Submit-clause-advances g c =
    subst (λ (e : Event). Advances (together c.args.self.now) (step e c.submit.result ∷ []) (together c.submit.new.self)) (sym c.in-Submit.is) c.submit.ensures.advances

pub returns-in-Order-clause-advances : goal.returns-in-Order-clause-advances
returns-in-Order-clause-advances g c =
    subst (λ (e : Event). Advances (together c.args.self.now) (step e c.order.result ∷ []) (together c.order.new.self)) (sym c.in-Order.is) c.order.ensures.advances

pub returns-in-Take-clause-advances : goal.returns-in-Take-clause-advances
returns-in-Take-clause-advances g c =
    subst (λ (e : Event). Advances (together c.args.self.now) (step e c.take.result ∷ []) (together c.take.new.self)) (sym c.in-Take.is) c.take.ensures.advances

pub returns-in-Send-clause-advances : goal.returns-in-Send-clause-advances
returns-in-Send-clause-advances g c =
    subst (λ (e : Event). Advances (together c.args.self.now) (step e c.send.result ∷ []) (together c.send.new.self)) (sym c.in-Send.is) c.send.ensures.advances

pub returns-in-Submit-clause-happens : goal.returns-in-Submit-clause-happens
returns-in-Submit-clause-happens g c =
    subst (λ (e : Event). Happens e c.args.self.now c.submit.result c.submit.new.self) (sym c.in-Submit.is) c.submit.ensures.happens
