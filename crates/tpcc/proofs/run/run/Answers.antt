use Rattle.std.proofs.Common.{◌≡◌, ◌≤◌, ℕ, List, inl, inr, length, map, refl, ap, sym, subst, ◌∙◌, arith}
use Rattle.std.specs.Borrow.{Bor}
use Rattle.std.specs.Option.{option_map}
use Rattle.std.proofs.lemmas.Result.{err_from_is_err_and}
use Rattle.rows.specs.declared.limits.TheConstants.{SESSIONS}
use Rattle.requests.specs.declared.script.Part.{Part}
use Rattle.range_moves.specs.declared.order.MoveOrder.{MoveOrder}
use Rattle.engine.specs.Faults.{AreWithin, IsFaultOf}
use Rattle.engine.specs.Outcome.{IsOutcome}
use Rattle.files.proofs.Sent.{on_any_err}
use Rattle.tpcc.specs.declared.command_fault.CommandFault.{CommandFault}
use Rattle.tpcc.specs.EarlyEnds.{IsOfScripts, IsOfServing}
use Rattle.tpcc.specs.Effects.{output_of}
use Rattle.tpcc.specs.Run.{AreAllAnswered, AreServed, HandsOut, HandsOutSome, ServesSome, run_outputs, texts_of}
use Rattle.tpcc.proofs.AnswerRecords.{outcome_in_log, same_count}
use Rattle.tpcc.proofs.ServeFaults.{of_tables}
use Rattle.tpcc.proofs.run.run.Goals as goal

pub returns-in-Err-clause-fault : goal.returns-in-Err-clause-fault
returns-in-Err-clause-fault g c =
    let source = g.D.Input.remaining c.args.data in
    let executors = c.args.settings.now.executors in
    let moving = option_map g.S.Input.remaining c.args.moves in
    let opening = c.in_ok-opening.opening in
    let moves = c.in_ok-moves.moves.items in
    let IsFault : List MoveOrder → Type 0 = λ l. IsFaultOf opening executors l c.in-Err.fault in
    let is = subst IsFault c.as_slice-3.ensures.value c.in-Err.ensures.fault in
    inr (inl (subst (IsOfServing source executors moving) (sym c.of_serving.ensures)
    (of_tables source executors moving opening moves c.in-Err.fault c.in_ok-opening.ensures.tables c.in_ok-moves.ensures.moves is)))

pub hand_out-requires-clause-few : goal.hand_out-requires-clause-few
hand_out-requires-clause-few g c =
    let answers = c.in-Ok.outcome.answers.items in
    let asked : length answers ≡ length c.as_slice-2.result.now = same_count answers c.as_slice-2.result.now (c.in-Ok.ensures.scripts refl).answered in
    let scripts : length c.as_slice-2.result.now ≡ length c.in_ok-scripts.scripts.items = ap length c.as_slice-2.ensures.value in
    let paths : length c.in_ok-scripts.scripts.items ≡ length c.args.settings.now.scripts.items = c.in_ok-scripts.ensures.count ∙ ap length c.deref.ensures.value in
    let few : length c.args.settings.now.scripts.items ≤ SESSIONS = c.requires.limits.0.1 in
    omega arith

pub hand_out-requires-clause-each : goal.hand_out-requires-clause-each
hand_out-requires-clause-each g c =
    let answers = c.in-Ok.outcome.answers.items in
    subst (λ (l : List (List Part)). AreAllAnswered l answers) (c.as_slice-2.ensures.value ∙ sym c.as_slice-4.ensures.value) (c.in-Ok.ensures.scripts refl).answered

pub hand_out-requires-clause-placed : goal.hand_out-requires-clause-placed
hand_out-requires-clause-placed g c =
    let outcome = c.in-Ok.outcome in
    outcome_in_log c.in_ok-opening.opening c.args.settings.now.log_limit c.as_slice-2.result.now outcome.log.items outcome.tables outcome.answers.items (c.in-Ok.ensures.scripts refl)

pub returns-in_err-hand_out-clause-some : goal.returns-in_err-hand_out-clause-some
returns-in_err-hand_out-clause-some g c =
    let opening = c.in_ok-opening.opening in
    let log = c.in-Ok.outcome.log.items in
    let last = c.in-Ok.outcome.tables in
    let answers = c.in-Ok.outcome.answers.items in
    let Serves : List (List Part) → Type 0 = λ l. IsOutcome opening c.args.settings.now.log_limit l log last answers in
    let Within : List MoveOrder → Type 0 = AreWithin opening c.args.settings.now.executors in
    let texts = texts_of (g.D.Input.remaining c.args.data) (map g.S.Input.remaining c.args.scripts.now) (option_map g.S.Input.remaining c.args.moves) in
    let are : AreServed c.args.settings.now texts log last answers = record {
      opening = opening;
      is_dataset = c.in_ok-opening.ensures.tables;
      consistent = c.in-Ok.ensures.consistent;
      moves = c.in_ok-moves.moves.items;
      are_moves = c.in_ok-moves.ensures.moves;
      within = subst Within c.as_slice-3.ensures.value c.in-Ok.ensures.within;
      scripts = c.in_ok-scripts.scripts.items;
      are_scripts = c.in_ok-scripts.ensures.scripts;
      outcome = subst Serves c.as_slice-2.ensures.value (c.in-Ok.ensures.scripts refl);
    } in
    let output = output_of g.A.Write.contents c.args.answers.now c.hand_out.new.answers g.N.OutputFiles.named c.args.output_files.now c.hand_out.new.output_files in
    let HasHandedOut : List (List Part) → Type 0 = λ l. HandsOutSome g.F.Write.contents (run_outputs c.args.log c.args.tables) output l log answers in
    let some : ServesSome g.F.Write.contents c.args.settings.now texts (run_outputs c.args.log c.args.tables) output = inr (log, last, answers, are, subst HasHandedOut c.as_slice-4.ensures.value c.in_err-hand_out.ensures.some) in
    on_any_err c.from_residual-in_err-hand_out.result some

pub returns-clause-serves : goal.returns-clause-serves
returns-clause-serves g c =
    let opening = c.in_ok-opening.opening in
    let log = c.in-Ok.outcome.log.items in
    let last = c.in-Ok.outcome.tables in
    let answers = c.in-Ok.outcome.answers.items in
    let Serves : List (List Part) → Type 0 = λ l. IsOutcome opening c.args.settings.now.log_limit l log last answers in
    let Within : List MoveOrder → Type 0 = AreWithin opening c.args.settings.now.executors in
    let texts = texts_of (g.D.Input.remaining c.args.data) (map g.S.Input.remaining c.args.scripts.now) (option_map g.S.Input.remaining c.args.moves) in
    let are : AreServed c.args.settings.now texts log last answers = record {
      opening = opening;
      is_dataset = c.in_ok-opening.ensures.tables;
      consistent = c.in-Ok.ensures.consistent;
      moves = c.in_ok-moves.moves.items;
      are_moves = c.in_ok-moves.ensures.moves;
      within = subst Within c.as_slice-3.ensures.value c.in-Ok.ensures.within;
      scripts = c.in_ok-scripts.scripts.items;
      are_scripts = c.in_ok-scripts.ensures.scripts;
      outcome = subst Serves c.as_slice-2.ensures.value (c.in-Ok.ensures.scripts refl);
    } in
    let output = output_of g.A.Write.contents c.args.answers.now c.hand_out.new.answers g.N.OutputFiles.named c.args.output_files.now c.hand_out.new.output_files in
    let HasHandedOut : List (List Part) → Type 0 = λ l. HandsOut g.F.Write.contents (run_outputs c.args.log c.args.tables) output l log last answers in
    record {
      log = log;
      last = last;
      answers = answers;
      are_served = are;
      handed_out = subst HasHandedOut c.as_slice-4.ensures.value c.in_ok-hand_out.ensures.all;
      no_fault = c.sum_up.ensures;
    }

pub returns-in_err-opening-clause-fault : goal.returns-in_err-opening-clause-fault
returns-in_err-opening-clause-fault g c =
    let p = err_from_is_err_and c.from_residual.result c.from_residual.ensures.1 in
    rw (p.1, p.2) (inl (inl c.in_err-opening.ensures.fault))

pub returns-in_err-scripts-clause-fault : goal.returns-in_err-scripts-clause-fault
returns-in_err-scripts-clause-fault g c =
    let p = err_from_is_err_and c.from_residual-in_err-scripts.result c.from_residual-in_err-scripts.ensures.1 in
    let of = c.in_err-scripts.field-0.0 in
    let Serving : CommandFault → Type 0 = IsOfServing (g.D.Input.remaining c.args.data) c.args.settings.now.executors (option_map g.S.Input.remaining c.args.moves) in
    let Of : List (Bor (List ℕ)) → Type 0 = λ paths. IsOfScripts g.S.Input.remaining g.S.Input.lasts paths c.args.scripts.now of in
    rw (p.1, p.2) (elim c.in_err-scripts.ensures.fault [
      | inl none ↦ inr (inl (subst Serving (sym none) tt))
      | inr said ↦ inl (inr ((c.in_ok-opening.opening, c.in_ok-opening.ensures.tables), inl (subst Of c.deref.ensures.value said)))
    ])

pub returns-in_err-moves-clause-fault : goal.returns-in_err-moves-clause-fault
returns-in_err-moves-clause-fault g c =
    let p = err_from_is_err_and c.from_residual-in_err-moves.result c.from_residual-in_err-moves.ensures.1 in
    rw (p.1, p.2) (inl (inr ((c.in_ok-opening.opening, c.in_ok-opening.ensures.tables), inr ((c.in_ok-scripts.scripts.items, c.in_ok-scripts.ensures.scripts), c.in_err-moves.ensures.fault))))

pub returns-in_err-hand_out-clause-fault : goal.returns-in_err-hand_out-clause-fault
returns-in_err-hand_out-clause-fault g c =
    let p = err_from_is_err_and c.from_residual-in_err-hand_out.result c.from_residual-in_err-hand_out.ensures.1 in
    rw (p.1, p.2) (inr (inr c.in_err-hand_out.ensures.fault))
