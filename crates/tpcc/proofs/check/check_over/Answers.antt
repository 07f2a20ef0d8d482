use Rattle.std.proofs.Common.{◌≡◌, true, false, refl, subst}
use Rattle.tpcc.specs.Effects.{change, source_of}
use Rattle.tpcc.specs.Check.{Checks}
use Rattle.tpcc.proofs.CheckTellings.{check_ends_early}
use Rattle.tpcc.proofs.check.check_over.Goals as goal

pub returns-in-Ok-true : goal.returns-in-Ok-true
returns-in-Ok-true g c =
    let broken : c.in-Ok-true.field-0 ≡ true = cc in
    (subst (Checks c.args.settings.now.fresh (g.D.Input.remaining c.args.data) (change g.A.Write.contents c.args.found.now c.check.new.found)) broken c.in-Ok-true.ensures.checks, refl)

pub returns-in-Ok-false : goal.returns-in-Ok-false
returns-in-Ok-false g c =
    let met : c.in-Ok-false.field-0 ≡ false = cc in
    (subst (Checks c.args.settings.now.fresh (g.D.Input.remaining c.args.data) (change g.A.Write.contents c.args.found.now c.check.new.found)) met c.in-Ok-false.ensures.checks, refl)

pub returns-in-Err : goal.returns-in-Err
returns-in-Err g c =
    check_ends_early c.args.settings.now (source_of g.D.Input.remaining g.D.Input.lasts c.args.data) (change g.A.Write.contents c.args.found.now c.check.new.found)
    (change g.E.Report.reported c.args.errors.now c.report.new.self) c.in-Err.fault c.report.result c.report.ensures.status c.in-Err.ensures.some c.in-Err.ensures.fault c.report.ensures.reports
