use Rattle.std.proofs.Common.{List, Result, ℕ, length, ap, subst, sym, ◌∙◌}
use Rattle.requests.specs.declared.script.Part.{Part}
use Rattle.requests.specs.declared.refusal.Refusal.{Refusal}
use Rattle.requests.specs.Script.{AreNumberedByPlace}
use Rattle.commit_log.specs.Items.{items_of}
use Rattle.engine.specs.Rules.{rules_of}
use Rattle.engine.specs.Asking.{ReadyView}
use Rattle.engine.specs.Served.{Served}
use Rattle.engine.proofs.Answered.{resting_audited}
use Rattle.engine.proofs.session.Left.audit.Goals as goal

pub returns-clause-served : goal.returns-clause-served
returns-clause-served g c =
    let own = c.session.inside in
    let rules = rules_of g.J.LogNames.opening g.J.LogNames.most in
    let log = c.args.log.now in
    let recorded = c.audit.ensures in
    subst (λ (ps : List Part). Served rules ps c.of.result (items_of c.args.number log) (length log)) (ap (λ (s : ReadyView). s.script) c.session.view_is)
    (subst (λ (all : List (Result ℕ Refusal)). Served rules own.parts.items all (items_of c.args.number log) (length log)) (sym c.of.ensures)
    (resting_audited rules own.parts.items own.seat own.pass own.answers.items own.is_full c.args.number log c.session.invariant.resting (sym c.session-2.ensures ∙ c.if-session-number.false) recorded.mine recorded.reached))

pub returns-clause-numbered : goal.returns-clause-numbered
returns-clause-numbered g c = subst AreNumberedByPlace (sym c.in_ok-script.ensures.value) c.session.invariant.numbered
