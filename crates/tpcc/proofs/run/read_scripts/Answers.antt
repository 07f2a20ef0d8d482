use Rattle.std.proofs.Common.{◌+◌, ◌<◌, inl, inr, ℕ, [], get_or, List, length, map, take, ap, sym, subst, ◌∙◌, arith}
use Rattle.std.specs.List.{AllZip}
use Rattle.std.specs.Borrow.{Bor}
use Rattle.std.proofs.lemmas.List.{drop-set-lt, get_or_default, length_push}
use Rattle.std.proofs.lemmas.Result.{err_from_is_err_and}
use Rattle.requests.specs.declared.script.Part.{Part}
use Rattle.terminals.specs.FirstFault.{script_fault}
use Rattle.terminals.specs.Script.{IsScript}
use Rattle.tpcc.specs.Faults.{IsFirst, IsOfReading}
use Rattle.tpcc.proofs.FaultsOfSources.{of_records}
use Rattle.files.specs.Place.{Gives}
use Rattle.tpcc.proofs.SourceLists.{next_source, read_more}
use Rattle.tpcc.proofs.run.read_scripts.Goals as goal

pub loop-session-preserved : goal.loop-session-preserved
loop-session-preserved g c =
    let i = c.loop-session.session in
    let old = c.args.sources.now in
    let now = c.loop-session.sources in
    let source = c.index-sources-session.result in
    let here : i < length now = omega arith in
    let there : i < length old = omega arith in
    let next = next_source old now i source there here c.loop-session.invariant.others c.index-sources-session.is in
    let scripts = c.loop-session.scripts.items in
    let script = c.in-Ok.script in
    let before : i < i + 1 = omega arith in
    let GivesScript : g.row.S.Denot → Type 0 = λ s. Gives (g.S.Input.remaining s) (IsScript script) in
    let one : GivesScript source = subst GivesScript (sym c.index-sources-session.is) c.in-Ok.ensures.script in
    let AreRead : List (List Part) → Type 0 = λ l. AllZip (λ source script. Gives source (IsScript script)) (map g.S.Input.remaining (take (i + 1) old)) l in
    record {
      count = ap length c.in_ok-push-in-Ok.ensures.items ∙ length_push scripts script ∙ ap (λ n. n + 1) c.loop-session.invariant.count;
      read = subst AreRead (sym c.in_ok-push-in-Ok.ensures.items)
          (read_more g.S.Input.remaining (λ source script. Gives source (IsScript script)) old i source scripts script there next.0 c.loop-session.invariant.read one);
      others = drop-set-lt (i + 1) now i _ before ∙ next.1;
    }

pub returns-in_err-push-in-Ok-clause-fault : goal.returns-in_err-push-in-Ok-clause-fault
returns-in_err-push-in-Ok-clause-fault g c =
    let p = err_from_is_err_and c.from_residual.result c.from_residual.ensures.1 in
    rw p.1 (inl p.2)

pub returns-in-Err-clause-fault : goal.returns-in-Err-clause-fault
returns-in-Err-clause-fault g c =
    let i = c.loop-session.session in
    let old = c.args.sources.now in
    let now = c.loop-session.sources in
    let source = c.index-sources-session.result in
    let paths = c.args.paths.now in
    let nowhere : Bor (List ℕ) = record { ref_ptr = (0, 0); now = [] } in
    let path = get_or paths i nowhere in
    let here : i < length now = omega arith in
    let there : i < length old = omega arith in
    let at : i < length paths = omega (arith, there, c.requires) in
    let next = next_source old now i source there here c.loop-session.invariant.others c.index-sources-session.is in
    let Said : g.row.S.Denot → Type 0 = λ s. IsOfReading path.now (g.S.Input.remaining s) (g.S.Input.lasts s) (IsFirst script_fault) c.of_file.result in
    inr (record {
      place = i;
      path_there = at;
      path = path;
      is_path = get_or_default paths i nowhere path at;
      there = there;
      source = source;
      is_source = next.0;
      before = (c.loop-session.scripts.items, c.loop-session.invariant.read);
      said = subst Said (sym c.index-sources-session.is)
          (of_records path _ _ script_fault c.in-Err.fault c.of_file.result c.of_file.ensures c.in-Err.ensures.lasts c.in-Err.ensures.first);
    })
