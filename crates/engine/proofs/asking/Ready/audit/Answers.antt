use Rattle.std.proofs.Common.{◌≡◌, ℕ, List, Result, length, ap, subst, sym, ◌∙◌, arith, vec_capacity}
use Rattle.requests.specs.declared.refusal.Refusal.{Refusal}
use Rattle.commit_log.specs.Items.{items_of}
use Rattle.engine.specs.Rules.{rules_of}
use Rattle.engine.specs.Served.{Served}
use Rattle.engine.proofs.Asked.{audited}
use Rattle.engine.proofs.asking.Ready.audit.Goals as goal

pub returns-clause-served : goal.returns-clause-served
returns-clause-served g c = λ script found.
    let own = c.self.inside in
    let rules = rules_of g.J.LogNames.opening g.J.LogNames.most in
    let log = c.args.log.now in
    let recorded = c.audit.ensures in
    let session_is = sym c.session.ensures ∙ c.if-session.false in
    let same = ap length c.parts.ensures.value in
    let all : length own.answers.items ≡ length own.script.now = omega (arith, c.if-len-parts.false, c.len.ensures, own.answers.ok.0, same) in
    subst (λ (answers : List (Result ℕ Refusal)). Served rules script answers (items_of c.args.session log) (length log)) (sym c.of.ensures)
    (audited rules g.J.ServeNames.scripts own.script.now own.seat own.pass own.answers.items (vec_capacity own.answers) c.args.session own.is_full log c.self.invariant
    session_is all recorded.mine recorded.reached script found)
