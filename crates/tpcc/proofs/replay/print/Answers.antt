use Rattle.std.proofs.Common.{[], refl, sym, subst}
use Rattle.commit_log.specs.declared.verdict.Replay.{Replay}
use Rattle.command_line.specs.declared.status.Status.TheVariants as status
use Rattle.files.specs.Sending.{Begins}
use Rattle.files.proofs.Sent.{on_any_err, sends_all}
use Rattle.tpcc.specs.Effects.{output_of}
use Rattle.tpcc.specs.Replay.{ReportsReplay, found_line, found_of, found_text}
use Rattle.tpcc.proofs.replay.print.Goals as goal

pub returns-in_ok-write_tables-in-Equal-clause-reports : goal.returns-in_ok-write_tables-in-Equal-clause-reports
returns-in_ok-write_tables-in-Equal-clause-reports g c =
    let Reports : Replay → Type 0 = λ replay. ReportsReplay g.T.Write.contents c.args.tables
    (output_of g.A.Write.contents c.args.found.now c.print_lines.new.sink g.N.OutputFiles.named c.args.output_files.now c.write_tables.new.output_files) c.args.entries.now replay status.Success in
    subst Reports (sym c.in-Equal.is)
    (refl, c.in_ok-print_lines-in-Equal.ensures.printed found_text (λ one. refl), c.in_ok-write_tables-in-Equal.ensures.named)

pub returns-in_ok-print_lines-in-Differs-clause-reports : goal.returns-in_ok-print_lines-in-Differs-clause-reports
returns-in_ok-print_lines-in-Differs-clause-reports g c =
    let Reports : Replay → Type 0 = λ replay. ReportsReplay g.T.Write.contents c.args.tables
    (output_of g.A.Write.contents c.args.found.now c.print_lines-in-Differs.new.sink g.N.OutputFiles.named c.args.output_files.now c.args.output_files.now) c.args.entries.now replay status.NotConsistent in
    subst Reports (sym c.in-Differs.is)
    (refl, c.in_ok-print_lines-in-Differs.ensures.printed found_text (λ one. refl), refl)

-- the line was not printed
pub returns-in_err-print_lines-in-Equal-clause-begun : goal.returns-in_err-print_lines-in-Equal-clause-begun
returns-in_err-print_lines-in-Equal-clause-begun g c =
    let Reported : Replay → Type 0 = λ replay. Begins (g.A.Write.contents c.args.found.now) (g.A.Write.contents c.print_lines.new.sink) (found_line (found_of c.args.entries.now replay)) in
    on_any_err c.from_residual.result (subst Reported (sym c.in-Equal.is) (c.in_err-print_lines-in-Equal.ensures.begun found_text (λ one. refl)))

pub returns-in_err-print_lines-in-Differs-clause-begun : goal.returns-in_err-print_lines-in-Differs-clause-begun
returns-in_err-print_lines-in-Differs-clause-begun g c =
    let Reported : Replay → Type 0 = λ replay. Begins (g.A.Write.contents c.args.found.now) (g.A.Write.contents c.print_lines-in-Differs.new.sink) (found_line (found_of c.args.entries.now replay)) in
    on_any_err c.from_residual-in_err-print_lines-in-Differs.result (subst Reported (sym c.in-Differs.is) (c.in_err-print_lines-in-Differs.ensures.begun found_text (λ one. refl)))

-- it was, and the tables were not written
pub returns-in_err-write_tables-in-Equal-clause-begun : goal.returns-in_err-write_tables-in-Equal-clause-begun
returns-in_err-write_tables-in-Equal-clause-begun g c =
    let before = g.A.Write.contents c.args.found.now in
    let after = g.A.Write.contents c.print_lines.new.sink in
    let Reported : Replay → Type 0 = λ replay. Begins before after (found_line (found_of c.args.entries.now replay)) in
    let reported = c.in_ok-print_lines-in-Equal.ensures.printed found_text (λ one. refl) in
    on_any_err c.from_residual-in_err-write_tables-in-Equal.result (subst Reported (sym c.in-Equal.is) ([], sends_all before after _ reported))
