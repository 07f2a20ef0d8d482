use Rattle.std.proofs.Common.{◌≡◌, ◌+◌, List, ◌++◌, drop, length, sym, ap, subst, ◌∙◌, arith, length-append}
use Rattle.std.proofs.lemmas.List.{drop_at, length-map}
use Rattle.partitions.specs.Parts.{SharedTables}
use Rattle.requests.specs.declared.script.Part.{Part}
use Rattle.machine.specs.Machine.{tables_after}
use Rattle.commit_log.specs.declared.entry.Entry.{Entry}
use Rattle.commit_log.specs.Log.{requests_of}
use Rattle.slices.specs.SliceView.{AreSlicesOf}
use Rattle.engine.specs.Rules.{rules_of}
use Rattle.engine.specs.Interactive.{recorded_by}
use Rattle.engine.specs.Served.{ServedEach}
use Rattle.engine.specs.Sessions.{AreAskedFrom}
use Rattle.engine.specs.declared.session.Left.{Left}
use Rattle.engine.proofs.Closed.{closed}
use Rattle.engine.proofs.Sessions.{asked_behind, served_among}
use Rattle.engine.proofs.Settled.{settled_slices}
use Rattle.engine.proofs.closing.close.Goals as goal

pub whole-requires : goal.whole-requires
whole-requires g c =
    let opening = g.J.LogNames.opening in
    let slices = c.in_ok-slices.slices.items in
    subst (λ (s : SharedTables). AreSlicesOf s slices) (sym c.requires.catalog)
    (settled_slices opening (tables_after opening (requests_of c.audit_idle.new.log)) slices c.in_ok-slices.ensures.settled)

pub returns : goal.returns
returns g c =
    let opening = g.J.LogNames.opening in
    let scripts = c.args.scripts.now in
    let answers = c.in_ok-answers.answers.items in
    let interactive = c.args.left.items in
    let asked = c.in_ok-asked.asked.items in
    let served = c.in_ok-answers.ensures in
    let left = c.in_ok-asked.ensures in
    let idle = c.audit_idle.ensures in
    let settled = c.in_ok-slices.ensures in
    let log = c.entries.ensures in
    let many : length asked ≡ length interactive = ap length left.asked ∙ length-map interactive (λ (one : Left g.row.J.Denot). one.session.script) in
    let all : length scripts + length asked ≡ c.args.idle.first = omega (arith, c.if-scripts-idle.false, c.if-len-idle.false, c.len.ensures, many, c.args.left.ok.0) in
    let both = length-append scripts asked in
    let recorded = ap length left.recorded ∙ length-append answers (recorded_by interactive) in
    let recorded_each = length-map interactive (λ (one : Left g.row.J.Denot). one.session.answers) in
    let count : length c.audit_left.new.answers.items ≡ length (scripts ++ asked) = omega (arith, recorded, recorded_each, served.count, many, both) in
    let behind : AreAskedFrom (length answers) (scripts ++ asked) interactive =
    subst (λ (rest : List (List Part)). AreAskedFrom (length answers) (scripts ++ rest) interactive) (sym left.asked) (asked_behind scripts interactive (length answers) served.count) in
    let among = subst (λ (l : List Entry). ServedEach (rules_of opening g.J.LogNames.most) (scripts ++ asked) l answers) (sym served.same) (served_among (rules_of opening g.J.LogNames.most) scripts asked c.into_inner-log.result answers served.count served.each) in
    let each = subst (λ (l : List Entry). ServedEach (rules_of opening g.J.LogNames.most) (scripts ++ asked) l c.audit_left.new.answers.items) served.same (left.each (scripts ++ asked) behind among) in
    record {
      outcome = closed opening g.J.LogNames.most (scripts ++ asked) c.audit_left.new.answers.items c.into_inner-log.result c.audit_left.new.log c.audit_idle.new.log c.settle_all.new.log c.into_entries.result.items
          c.args.catalog c.in_ok-slices.slices.items c.in_ok-tables.tables c.requires.catalog c.requires.within
          (left.same ∙ served.same) idle.same settled.same c.into_entries.ensures count each (λ s from low. idle.none s (omega (arith, from, both, all)) low) settled.settled c.in_ok-tables.ensures c.scale.ensures.within
          log.legal log.accepted log.sessions log.few;
      asked = left.asked;
      numbered = left.numbered;
      recorded = ap (drop (length scripts)) left.recorded ∙ drop_at answers (recorded_by interactive) (length scripts) served.count;
      all = all;
    }
