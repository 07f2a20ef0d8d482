use Rattle.std.proofs.Common.{List, length, slice_get, ap, subst, ◌∙◌}
use Rattle.requests.specs.declared.script.Part.{Part}
use Rattle.commit_log.specs.declared.entry.Entry.{Entry}
use Rattle.commit_log.specs.Items.{items_of}
use Rattle.engine.specs.Rules.{rules_of}
use Rattle.engine.specs.Served.{Served}
use Rattle.engine.proofs.Sessions.{each_next, one_longer}
use Rattle.engine.proofs.Together.{reaches}
use Rattle.engine.proofs.closing.audit_served.Goals as goal

-- one session more, which was served its script
pub loop-session-preserved : goal.loop-session-preserved
loop-session-preserved g c =
    let rules = rules_of g.J.LogNames.opening g.J.LogNames.most in
    let known = c.loop-session.invariant in
    let session = c.loop-session.session in
    let scripts = c.args.scripts.now in
    let recorded = c.in-Some-audit.recorded in
    let script = reaches scripts session c.loop-session-test.true in
    let asked = ap (λ (l : List (List Part)). slice_get l session) c.requires.scripts ∙ script.1 in
    let served = subst (λ (l : List Entry). Served rules script.0 recorded (items_of session l) (length l)) known.same (c.in-Some-audit.ensures.served script.0 asked) in
    record {
      count = one_longer c.loop-session.answers.items c.put.new.items.items recorded session known.count c.in_ok-put.ensures;
      each = each_next rules scripts c.args.log.now c.loop-session.answers.items c.put.new.items.items session script.0 recorded known.each known.count script.1 served c.in_ok-put.ensures;
      same = c.in-Some-audit.ensures.same ∙ known.same;
    }
