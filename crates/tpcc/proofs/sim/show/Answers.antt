use Rattle.std.proofs.Common.{◌⊎◌, ℕ, List, Option, inl, inr, is_some, sym, subst, ◌∙◌}
use Rattle.std.proofs.lemmas.Result.{err_from_is_err_and, IfErr-weaker, on_err_weaker, on_ok_weaker}
use Rattle.commit_log.specs.declared.entry.Entry.{Entry}
use Rattle.history.specs.declared.schedule.LockChange.{LockChange}
use Rattle.history.specs.declared.schedule.Output.{Output}
use Rattle.files.specs.Sending.{BeginsToWrite, OfFirst, Writes}
use Rattle.files.proofs.Sent.{on_any_err}
use Rattle.terminals.specs.LogRecord.{IsLog}
use Rattle.terminals.specs.LockChanges.{AreLines, lines}
use Rattle.terminals.specs.Outputs.{NameEntries}
use Rattle.tpcc.specs.declared.command_fault.CommandFault.{CommandFault}
use Rattle.tpcc.specs.EarlyEnds.{IsOfGathering, IsOfShowing}
use Rattle.tpcc.specs.Edges.{HasWritten, NamesFile}
use Rattle.tpcc.specs.Faults.{IsOfWritingSome}
use Rattle.tpcc.specs.Effects.{output_of}
use Rattle.tpcc.specs.Sim.{NamesPicture, ShowsSome, lines_of, played_schedule, setup_of, sim_outputs}
use Rattle.tpcc.proofs.FaultsOfSources.{log_or_output, of_printing}
use Rattle.tpcc.proofs.FileNames.{names_written, printed_well}
use Rattle.tpcc.proofs.SimulationEnds.{all-first, no_output}
use Rattle.tpcc.proofs.SomePrinted.{all_or_some}
use Rattle.tpcc.proofs.sim.show.Goals as goal

-- what is printed names entries of what is written
pub print_outputs-printed-requires : goal.print_outputs-printed-requires
print_outputs-printed-requires g c =
    subst (λ (reported : List Entry × List Output). NameEntries reported.0 reported.1) (λ i. (sym c.as_slice-entries.ensures.value i, sym c.as_slice-outputs.ensures.value i)) c.requires.entries

-- the log was not written: nothing is printed
pub returns-in_err-log-clause-some : goal.returns-in_err-log-clause-some
returns-in_err-log-clause-some g c =
    let before = g.A.Write.contents c.args.reported.now in
    let output = output_of g.A.Write.contents c.args.reported.now c.args.reported.now g.N.OutputFiles.named c.args.output_files.now c.write_entries.new.output_files in
    let some : ShowsSome g.F.Write.contents (setup_of c.args.settings.now) c.args.schedule.now c.args.simulation.now (sim_outputs c.args.log c.args.picture c.args.tables) output = inl (no_output before c.args.simulation.now.log.items (lines_of c.args.simulation.now), c.in_err-log.ensures.same) in
    on_any_err c.from_residual.result some

-- not all was printed, or the log has not got its name
pub returns-in_err-name_printed-clause-some : goal.returns-in_err-name_printed-clause-some
returns-in_err-name_printed-clause-some g c =
    let before = g.A.Write.contents c.args.reported.now in
    let after = g.A.Write.contents c.print_outputs-printed.new.sink in
    let output = output_of g.A.Write.contents c.args.reported.now c.print_outputs-printed.new.sink g.N.OutputFiles.named c.args.output_files.now c.name_printed.new.output_files in
    let printed : BeginsToWrite before after (OfFirst (AreLines c.args.simulation.now.log.items) (lines_of c.args.simulation.now)) =
    subst (λ (reported : List Entry × (List Output × List LockChange)). BeginsToWrite before after (OfFirst (AreLines reported.0) (lines 0 reported.1.0 reported.1.1))) (λ i. (c.as_slice-entries.ensures.value i, (c.as_slice-outputs.ensures.value i, c.as_slice-locks.ensures.value i)))
    (all_or_some c.print_outputs-printed.result before after _ _ (all-first c.as_slice-entries.result.now (lines 0 c.as_slice-outputs.result.now c.as_slice-locks.result.now)) c.print_outputs-printed.ensures.printed c.print_outputs-printed.ensures.begun) in
    let some : ShowsSome g.F.Write.contents (setup_of c.args.settings.now) c.args.schedule.now c.args.simulation.now (sim_outputs c.args.log c.args.picture c.args.tables) output = inl (printed, c.in_err-name_printed.ensures.err ∙ c.in_ok-log.ensures.same) in
    on_any_err c.from_residual-in_err-name_printed.result some

-- the picture was not drawn
pub returns-in_err-draw-clause-some : goal.returns-in_err-draw-clause-some
returns-in_err-draw-clause-some g c =
    let before = g.A.Write.contents c.args.reported.now in
    let after = g.A.Write.contents c.print_outputs-printed.new.sink in
    let names = g.N.OutputFiles.named in
    let log = c.args.simulation.now.log.items in
    let Prints : List Entry × (List Output × List LockChange) → Type 0 = λ (reported : List Entry × (List Output × List LockChange)). Writes before after (AreLines reported.0 (lines 0 reported.1.0 reported.1.1)) in
    let printed = subst Prints (λ i. (c.as_slice-entries.ensures.value i, (c.as_slice-outputs.ensures.value i, c.as_slice-locks.ensures.value i))) (printed_well c.print_outputs-printed.result tt c.in_ok-name_printed.ensures.printed c.print_outputs-printed.ensures.printed) in
    let Logs : List Entry → Type 0 = λ l. HasWritten g.F.Write.contents c.args.log (IsLog l) c.in_ok-log.log in
    let with_log = names c.name_printed.new.output_files in
    let logged : NamesFile g.F.Write.contents c.args.log (names c.args.output_files.now) with_log (IsLog log) =
    names_written g.F.Write.contents c.args.log (IsLog log) c.in_ok-log.log (names c.args.output_files.now) (names c.write_entries.new.output_files) with_log
    c.in_ok-log.ensures.same (subst Logs c.as_slice-entries.ensures.value c.in_ok-log.ensures.written) c.in_ok-name_printed.ensures.named in
    let output = output_of g.A.Write.contents c.args.reported.now c.print_outputs-printed.new.sink g.N.OutputFiles.named c.args.output_files.now c.draw.new.output_files in
    let some : ShowsSome g.F.Write.contents (setup_of c.args.settings.now) c.args.schedule.now c.args.simulation.now (sim_outputs c.args.log c.args.picture c.args.tables) output = inr (printed, with_log, logged, inl c.in_err-draw.ensures.err) in
    on_any_err c.from_residual-in_err-draw.result some

-- the tables were not written
pub returns-clause-some : goal.returns-clause-some
returns-clause-some g c =
    let before = g.A.Write.contents c.args.reported.now in
    let after = g.A.Write.contents c.print_outputs-printed.new.sink in
    let names = g.N.OutputFiles.named in
    let log = c.args.simulation.now.log.items in
    let Prints : List Entry × (List Output × List LockChange) → Type 0 = λ (reported : List Entry × (List Output × List LockChange)). Writes before after (AreLines reported.0 (lines 0 reported.1.0 reported.1.1)) in
    let printed = subst Prints (λ i. (c.as_slice-entries.ensures.value i, (c.as_slice-outputs.ensures.value i, c.as_slice-locks.ensures.value i))) (printed_well c.print_outputs-printed.result tt c.in_ok-name_printed.ensures.printed c.print_outputs-printed.ensures.printed) in
    let Logs : List Entry → Type 0 = λ l. HasWritten g.F.Write.contents c.args.log (IsLog l) c.in_ok-log.log in
    let with_log = names c.name_printed.new.output_files in
    let logged : NamesFile g.F.Write.contents c.args.log (names c.args.output_files.now) with_log (IsLog log) =
    names_written g.F.Write.contents c.args.log (IsLog log) c.in_ok-log.log (names c.args.output_files.now) (names c.write_entries.new.output_files) with_log
    c.in_ok-log.ensures.same (subst Logs c.as_slice-entries.ensures.value c.in_ok-log.ensures.written) c.in_ok-name_printed.ensures.named in
    let Draws : List Entry × List Output → Type 0 = λ (reported : List Entry × List Output). NamesPicture g.F.Write.contents c.args.picture with_log (names c.draw.new.output_files) (played_schedule c.args.settings.now.executors c.args.schedule.now reported.1 reported.0) in
    let drawn = subst Draws (λ i. (c.as_slice-entries.ensures.value i, c.as_slice-outputs.ensures.value i)) c.in_ok-draw.ensures.named in
    let Named : Option (List (Option (List ℕ))) → Type 0 = λ named. NamesPicture g.F.Write.contents c.args.picture with_log named (played_schedule c.args.settings.now.executors c.args.schedule.now c.args.simulation.now.outputs.items c.args.simulation.now.log.items) in
    on_err_weaker c.name_gathered.result (λ still. inr (printed, with_log, logged, inr (subst Named (sym still) drawn))) c.name_gathered.ensures.err

pub returns-clause-all : goal.returns-clause-all
returns-clause-all g c =
    let before = g.A.Write.contents c.args.reported.now in
    let after = g.A.Write.contents c.print_outputs-printed.new.sink in
    let names = g.N.OutputFiles.named in
    let log = c.args.simulation.now.log.items in
    let Prints : List Entry × (List Output × List LockChange) → Type 0 = λ (reported : List Entry × (List Output × List LockChange)). Writes before after (AreLines reported.0 (lines 0 reported.1.0 reported.1.1)) in
    let Logs : List Entry → Type 0 = λ l. HasWritten g.F.Write.contents c.args.log (IsLog l) c.in_ok-log.log in
    let with_log = names c.name_printed.new.output_files in
    let Draws : List Entry × List Output → Type 0 = λ (reported : List Entry × List Output). NamesPicture g.F.Write.contents c.args.picture with_log (names c.draw.new.output_files) (played_schedule c.args.settings.now.executors c.args.schedule.now reported.1 reported.0) in
    on_ok_weaker c.name_gathered.result (λ gathered. record {
      printed = subst Prints (λ i. (c.as_slice-entries.ensures.value i, (c.as_slice-outputs.ensures.value i, c.as_slice-locks.ensures.value i))) (printed_well c.print_outputs-printed.result tt c.in_ok-name_printed.ensures.printed c.print_outputs-printed.ensures.printed);
      with_log = with_log;
      with_picture = names c.draw.new.output_files;
      logged = names_written g.F.Write.contents c.args.log (IsLog log) c.in_ok-log.log (names c.args.output_files.now) (names c.write_entries.new.output_files) with_log
          c.in_ok-log.ensures.same (subst Logs c.as_slice-entries.ensures.value c.in_ok-log.ensures.written) c.in_ok-name_printed.ensures.named;
      drawn = subst Draws (λ i. (c.as_slice-entries.ensures.value i, c.as_slice-outputs.ensures.value i)) c.in_ok-draw.ensures.named;
      gathered = gathered;
    }) c.name_gathered.ensures.named

pub returns-in_err-log-clause-fault : goal.returns-in_err-log-clause-fault
returns-in_err-log-clause-fault g c =
    let p = err_from_is_err_and c.from_residual.result c.from_residual.ensures.1 in
    rw (p.1, p.2) (inr (inl c.in_err-log.ensures.fault))

pub returns-in_err-name_printed-clause-fault : goal.returns-in_err-name_printed-clause-fault
returns-in_err-name_printed-clause-fault g c =
    let p = err_from_is_err_and c.from_residual-in_err-name_printed.result c.from_residual-in_err-name_printed.ensures.1 in
    rw (p.1, p.2) (inr (log_or_output (of_printing c.print_outputs-printed.result _ c.args.settings.now.log _ c.print_outputs-printed.ensures.fault c.in_ok-log.ensures.path c.in_err-name_printed.ensures.fault)))

pub returns-in_err-draw-clause-fault : goal.returns-in_err-draw-clause-fault
returns-in_err-draw-clause-fault g c =
    let p = err_from_is_err_and c.from_residual-in_err-draw.result c.from_residual-in_err-draw.ensures.1 in
    rw (p.1, p.2) (inr (inr (inr (inl c.in_err-draw.ensures.fault))))

pub returns-clause-fault : goal.returns-clause-fault
returns-clause-fault g c =
    let settings = c.args.settings.now in
    let by : (of : CommandFault) → IsOfWritingSome settings.tables of ⊎ IsOfGathering (is_some settings.tables) c.args.simulation.now.tables of
    → IsOfGathering (is_some settings.tables) c.args.simulation.now.tables of ⊎ IsOfShowing settings of = λ of said. elim said [
      | inl written ↦ inr (inr (inr (inr written)))
      | inr gathering ↦ inl gathering
    ] in
    IfErr-weaker c.name_gathered.result _ _ by c.name_gathered.ensures.fault
