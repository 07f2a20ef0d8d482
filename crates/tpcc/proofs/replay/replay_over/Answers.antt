use Rattle.std.proofs.Common.{subst}
use Rattle.tpcc.specs.Faults.{Reports}
use Rattle.tpcc.specs.Effects.{change, output_of, source_of}
use Rattle.tpcc.specs.Replay.{replay_streams}
use Rattle.tpcc.proofs.ReplayTellings.{replay_ends_early}
use Rattle.tpcc.proofs.replay.replay_over.Goals as goal

pub returns-in-Err : goal.returns-in-Err
returns-in-Err g c =
    let reported' = g.E.Report.reported c.report.new.self in
    let reports = subst (λ reported. Reports reported reported' c.in-Err.fault) c.in-Err.ensures.reported c.report.ensures.reports in
    let streams = replay_streams (source_of g.D.Input.remaining g.D.Input.lasts c.args.data) (source_of g.L.Input.remaining g.L.Input.lasts c.args.log) c.args.tables in
    let output = output_of g.A.Write.contents c.args.found.now c.replay_log.new.found g.N.OutputFiles.named c.args.output_files.now c.replay_log.new.output_files in
    replay_ends_early g.T.Write.contents c.args.settings.now streams output (change g.E.Report.reported c.args.errors.now c.report.new.self)
    c.in-Err.fault c.report.result c.report.ensures.status c.in-Err.ensures.fault reports c.in-Err.ensures.named c.in-Err.ensures.some
