use Rattle.std.proofs.Common.{inl, inr, List, refl, sym, subst, ◌∙◌}
use Rattle.std.proofs.lemmas.Result.{err_from_is_err_and}
use Rattle.commit_log.specs.declared.entry.Entry.{Entry}
use Rattle.commit_log.specs.Replay.{IsReplayOf}
use Rattle.files.specs.Sending.{Begins}
use Rattle.files.proofs.Sent.{on_any_err}
use Rattle.tpcc.specs.Effects.{change, output_of, source_of}
use Rattle.tpcc.specs.Replay.{IsReplayed, ReplaysSome, ReportsReplay, found_line, found_of, replay_streams}
use Rattle.tpcc.proofs.ReplayTellings.{replay_ends}
use Rattle.tpcc.proofs.replay.replay_log.Goals as goal

pub equal_entries-equal-requires : goal.equal_entries-equal-requires
equal_entries-equal-requires g c =
    let opening = c.in_ok-opening.opening in
    let Of : List Entry → Type 0 = λ entries. IsReplayOf opening entries c.in_ok-came_to.came_to in
    (opening, subst Of (c.as_slice.ensures.value ∙ sym c.as_slice-2.ensures.value) c.in_ok-came_to.ensures)

pub returns-clause-ends : goal.returns-clause-ends
returns-clause-ends g c =
    let opening = c.in_ok-opening.opening in
    let came_to = c.in_ok-came_to.came_to in
    let status = c.in_ok-status.status in
    let streams = replay_streams (source_of g.D.Input.remaining g.D.Input.lasts c.args.data) (source_of g.L.Input.remaining g.L.Input.lasts c.args.log) c.args.tables in
    let output = output_of g.A.Write.contents c.args.found.now c.print.new.found g.N.OutputFiles.named c.args.output_files.now c.print.new.output_files in
    let Of : List Entry → Type 0 = λ entries. IsReplayOf opening entries came_to in
    let Reports : List Entry → Type 0 = λ entries. ReportsReplay g.T.Write.contents c.args.tables output entries came_to status in
    replay_ends g.T.Write.contents c.args.settings.now streams output (change g.E.Report.reported c.args.errors.now c.sum_up.new.errors)
    opening c.in_ok-entries.entries.items came_to status c.in_ok-opening.ensures.tables c.in_ok-entries.ensures.entries
    (subst Of c.as_slice.ensures.value c.in_ok-came_to.ensures)
    (subst Reports c.as_slice-3.ensures.value c.in_ok-status.ensures.reports)
    (c.sum_up.ensures ∙ c.begin.ensures)

pub returns-in_err-opening-clause-some : goal.returns-in_err-opening-clause-some
returns-in_err-opening-clause-some g c =
    let none : ReplaysSome (g.D.Input.remaining c.args.data) (g.L.Input.remaining c.args.log) (change g.A.Write.contents c.args.found.now c.args.found.now) = inl refl in
    on_any_err c.from_residual.result none

pub returns-in_err-entries-clause-some : goal.returns-in_err-entries-clause-some
returns-in_err-entries-clause-some g c =
    let none : ReplaysSome (g.D.Input.remaining c.args.data) (g.L.Input.remaining c.args.log) (change g.A.Write.contents c.args.found.now c.args.found.now) = inl refl in
    on_any_err c.from_residual-in_err-entries.result none

pub returns-in_err-came_to-clause-some : goal.returns-in_err-came_to-clause-some
returns-in_err-came_to-clause-some g c =
    let none : ReplaysSome (g.D.Input.remaining c.args.data) (g.L.Input.remaining c.args.log) (change g.A.Write.contents c.args.found.now c.args.found.now) = inl refl in
    on_any_err c.from_residual-in_err-came_to.result none

pub returns-in_err-status-clause-some : goal.returns-in_err-status-clause-some
returns-in_err-status-clause-some g c =
    let «data» = g.D.Input.remaining c.args.data in
    let log = g.L.Input.remaining c.args.log in
    let before = g.A.Write.contents c.args.found.now in
    let after = g.A.Write.contents c.print.new.found in
    let opening = c.in_ok-opening.opening in
    let came_to = c.in_ok-came_to.came_to in
    let entries = c.in_ok-entries.entries.items in
    let Of : List Entry → Type 0 = λ l. IsReplayOf opening l came_to in
    let Reported : List Entry → Type 0 = λ l. Begins before after (found_line (found_of l came_to)) in
    let is : IsReplayed «data» log entries came_to = record {
      opening = opening;
      is_dataset = c.in_ok-opening.ensures.tables;
      is_log = c.in_ok-entries.ensures.entries;
      is_replay = subst Of c.as_slice.ensures.value c.in_ok-came_to.ensures;
    } in
    let some : ReplaysSome «data» log (change g.A.Write.contents c.args.found.now c.print.new.found) = inr (entries, came_to, is, subst Reported c.as_slice-3.ensures.value c.in_err-status.ensures.begun) in
    on_any_err c.from_residual-in_err-status.result some

pub returns-in_err-opening-clause-fault : goal.returns-in_err-opening-clause-fault
returns-in_err-opening-clause-fault g c =
    let p = err_from_is_err_and c.from_residual.result c.from_residual.ensures.1 in
    rw (p.1, p.2) (inl c.in_err-opening.ensures.fault)

pub returns-in_err-entries-clause-fault : goal.returns-in_err-entries-clause-fault
returns-in_err-entries-clause-fault g c =
    let p = err_from_is_err_and c.from_residual-in_err-entries.result c.from_residual-in_err-entries.ensures.1 in
    rw (p.1, p.2) (inr (inl ((c.in_ok-opening.opening, c.in_ok-opening.ensures.tables), c.in_err-entries.ensures.fault)))

pub returns-in_err-status-clause-fault : goal.returns-in_err-status-clause-fault
returns-in_err-status-clause-fault g c =
    let p = err_from_is_err_and c.from_residual-in_err-status.result c.from_residual-in_err-status.ensures.1 in
    rw (p.1, p.2) (inr (inr c.in_err-status.ensures.fault))
