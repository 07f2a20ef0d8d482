use Rattle.std.proofs.Common.{ℕ, List, Option, Result, inl, inr, sym, subst, ◌∙◌}
use Rattle.std.proofs.lemmas.Result.{err_from_is_err_and, IfErr-weaker, on_err_weaker, on_ok_weaker}
use Rattle.commit_log.specs.declared.entry.Entry.{Entry}
use Rattle.requests.specs.declared.refusal.Refusal.{Refusal}
use Rattle.files.specs.Sending.{BeginsToWrite, Writes}
use Rattle.files.proofs.Sent.{on_any_err}
use Rattle.terminals.specs.LogRecord.{IsLog}
use Rattle.tpcc.specs.Edges.{HasWritten, NamesFile}
use Rattle.tpcc.specs.Effects.{output_of}
use Rattle.tpcc.specs.Run.{AreAllAnswers, BeginAllAnswers, HandsOutSome, run_outputs}
use Rattle.tpcc.proofs.AnswerRecords.{all-begun, begins-none}
use Rattle.tpcc.proofs.SomePrinted.{all_or_some}
use Rattle.tpcc.proofs.FaultsOfSources.{both_on_err, log_or_output, of_printing}
use Rattle.tpcc.proofs.FileNames.{names_written, printed_well}
use Rattle.tpcc.proofs.run.hand_out.Goals as goal

-- the log was not written: nothing is printed
pub returns-in_err-log-clause-some : goal.returns-in_err-log-clause-some
returns-in_err-log-clause-some g c =
    let before = g.A.Write.contents c.args.answers.now in
    let answers = c.args.outcome.now.answers.items in
    let output = output_of g.A.Write.contents c.args.answers.now c.args.answers.now g.N.OutputFiles.named c.args.output_files.now c.write_entries.new.output_files in
    let some : HandsOutSome g.F.Write.contents (run_outputs c.args.log c.args.tables) output c.args.scripts.now c.args.outcome.now.log.items answers =
    inl (begins-none c.args.outcome.now.log.items c.args.scripts.now before answers, c.in_err-log.ensures.same) in
    on_any_err c.from_residual.result some

-- not all was printed, or the log has not got its name
pub returns-in_err-name_printed-clause-some : goal.returns-in_err-name_printed-clause-some
returns-in_err-name_printed-clause-some g c =
    let before = g.A.Write.contents c.args.answers.now in
    let after = g.A.Write.contents c.print_answers-printed.new.sink in
    let output = output_of g.A.Write.contents c.args.answers.now c.print_answers-printed.new.sink g.N.OutputFiles.named c.args.output_files.now c.name_printed.new.output_files in
    let Prints : List Entry → List (List (Result ℕ Refusal)) → Type 0 = λ log l. BeginsToWrite before after (BeginAllAnswers log c.args.scripts.now 0 l) in
    let printed = all_or_some c.print_answers-printed.result before after _ _ (all-begun c.as_slice-entries.result.now c.args.scripts.now 0 c.as_slice.result.now) c.print_answers-printed.ensures.printed c.print_answers-printed.ensures.begun in
    let reported = subst (Prints c.as_slice-entries.result.now) c.as_slice.ensures.value printed in
    let some : HandsOutSome g.F.Write.contents (run_outputs c.args.log c.args.tables) output c.args.scripts.now c.args.outcome.now.log.items c.args.outcome.now.answers.items =
    inl (subst (λ log. Prints log c.args.outcome.now.answers.items) c.as_slice-entries.ensures.value reported, c.in_err-name_printed.ensures.err ∙ c.in_ok-log.ensures.same) in
    on_any_err c.from_residual-in_err-name_printed.result some

-- the tables were not written
pub returns-clause-some : goal.returns-clause-some
returns-clause-some g c =
    let before = g.A.Write.contents c.args.answers.now in
    let after = g.A.Write.contents c.print_answers-printed.new.sink in
    let names = g.N.OutputFiles.named in
    let log = c.args.outcome.now.log.items in
    let Prints : List Entry → List (List (Result ℕ Refusal)) → Type 0 = λ es l. Writes before after (AreAllAnswers es c.args.scripts.now 0 l) in
    let well = printed_well c.print_answers-printed.result tt c.in_ok-name_printed.ensures.printed c.print_answers-printed.ensures.printed in
    let printed = subst (λ es. Prints es c.args.outcome.now.answers.items) c.as_slice-entries.ensures.value (subst (Prints c.as_slice-entries.result.now) c.as_slice.ensures.value well) in
    let Logs : List Entry → Type 0 = λ l. HasWritten g.F.Write.contents c.args.log (IsLog l) c.in_ok-log.log in
    let with_log = names c.name_printed.new.output_files in
    let logged : NamesFile g.F.Write.contents c.args.log (names c.args.output_files.now) with_log (IsLog log) =
    names_written g.F.Write.contents c.args.log (IsLog log) c.in_ok-log.log (names c.args.output_files.now) (names c.write_entries.new.output_files) with_log
    c.in_ok-log.ensures.same (subst Logs c.as_slice-entries.ensures.value c.in_ok-log.ensures.written) c.in_ok-name_printed.ensures.named in
    let Named : Option (List (Option (List ℕ))) → Type 0 = λ named. NamesFile g.F.Write.contents c.args.log (names c.args.output_files.now) named (IsLog log) in
    on_err_weaker c.write_tables.result (λ early. inr (early.0, printed, subst Named (sym early.1) logged)) (both_on_err _ _ c.write_tables.result c.write_tables.ensures.asked c.write_tables.ensures.err)

pub returns-clause-all : goal.returns-clause-all
returns-clause-all g c =
    let before = g.A.Write.contents c.args.answers.now in
    let after = g.A.Write.contents c.print_answers-printed.new.sink in
    let names = g.N.OutputFiles.named in
    let log = c.args.outcome.now.log.items in
    let Prints : List Entry → List (List (Result ℕ Refusal)) → Type 0 = λ es l. Writes before after (AreAllAnswers es c.args.scripts.now 0 l) in
    let well = printed_well c.print_answers-printed.result tt c.in_ok-name_printed.ensures.printed c.print_answers-printed.ensures.printed in
    let Logs : List Entry → Type 0 = λ l. HasWritten g.F.Write.contents c.args.log (IsLog l) c.in_ok-log.log in
    let with_log = names c.name_printed.new.output_files in
    on_ok_weaker c.write_tables.result (λ left. record {
      printed = subst (λ es. Prints es c.args.outcome.now.answers.items) c.as_slice-entries.ensures.value (subst (Prints c.as_slice-entries.result.now) c.as_slice.ensures.value well);
      with_log = with_log;
      logged = names_written g.F.Write.contents c.args.log (IsLog log) c.in_ok-log.log (names c.args.output_files.now) (names c.write_entries.new.output_files) with_log
          c.in_ok-log.ensures.same (subst Logs c.as_slice-entries.ensures.value c.in_ok-log.ensures.written) c.in_ok-name_printed.ensures.named;
      left = left;
    }) c.write_tables.ensures.named

pub returns-in_err-log-clause-fault : goal.returns-in_err-log-clause-fault
returns-in_err-log-clause-fault g c =
    let p = err_from_is_err_and c.from_residual.result c.from_residual.ensures.1 in
    rw (p.1, p.2) (inl c.in_err-log.ensures.fault)

pub returns-in_err-name_printed-clause-fault : goal.returns-in_err-name_printed-clause-fault
returns-in_err-name_printed-clause-fault g c =
    let p = err_from_is_err_and c.from_residual-in_err-name_printed.result c.from_residual-in_err-name_printed.ensures.1 in
    rw (p.1, p.2) (log_or_output (of_printing c.print_answers-printed.result _ c.args.settings.now.log _ c.print_answers-printed.ensures.fault c.in_ok-log.ensures.path c.in_err-name_printed.ensures.fault))

pub returns-clause-fault : goal.returns-clause-fault
returns-clause-fault g c = IfErr-weaker c.write_tables.result _ _ (λ of said. inr (inr said)) c.write_tables.ensures.fault
