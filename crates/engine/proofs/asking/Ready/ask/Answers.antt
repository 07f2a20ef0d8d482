use Rattle.std.proofs.Common.{◌≡◌, length, Some, slice_get, ap, subst, sym, ◌∙◌, vec_capacity}
use Rattle.engine.specs.Rules.{rules_of}
use Rattle.engine.specs.Asking.{ReadyView}
use Rattle.engine.proofs.Asked.{asks_next}
use Rattle.engine.proofs.asking.Ready.ask.Goals as goal

-- the request is in flight
pub invariant_of-asked : goal.invariant_of-asked
invariant_of-asked g c =
    let own = c.self.inside in
    let next = subst (λ (s : ReadyView). slice_get s.script (length s.answers) ≡ Some c.args.part.now) (sym c.self.view_is) c.requires.part in
    asks_next (rules_of g.J.LogNames.opening g.J.LogNames.most) g.J.ServeNames.scripts own.script.now own.seat c.ask.new.self own.pass own.answers.items (vec_capacity own.answers) own.is_full c.args.part.now c.self.invariant
    (ap (λ (s : ReadyView). s.is_full) c.self.view_is ∙ c.requires.open) next c.requires.accepted c.ask.ensures.seat

pub invariant_of-asked-in-Err : goal.invariant_of-asked-in-Err
invariant_of-asked-in-Err g c =
    let own = c.self.inside in
    let next = subst (λ (s : ReadyView). slice_get s.script (length s.answers) ≡ Some c.args.part.now) (sym c.self.view_is) c.requires.part in
    asks_next (rules_of g.J.LogNames.opening g.J.LogNames.most) g.J.ServeNames.scripts own.script.now own.seat c.ask.new.self own.pass own.answers.items (vec_capacity own.answers) own.is_full c.args.part.now c.self.invariant
    (ap (λ (s : ReadyView). s.is_full) c.self.view_is ∙ c.requires.open) next c.requires.accepted c.ask.ensures.seat
