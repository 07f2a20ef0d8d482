use Rattle.std.proofs.lemmas.Result.{err_from_is_err_and}
use Rattle.std.proofs.Common.{◌≡◌, inl, inr, [], ◌+◌, ◌<◌, ℕ, List, length, take, drop, get_or, Option, sym, ap, subst, ◌∙◌, arith}
use Rattle.std.specs.List.{All}
use Rattle.std.specs.Borrow.{Bor}
use Rattle.std.proofs.lemmas.List.{drop-drop, get_or-drop, get_or_default}
use Rattle.requests.specs.declared.terminal_request.TerminalRequest.{TerminalRequest}
use Rattle.terminals.specs.Script.{AreAsked}
use Rattle.workload.specs.Within.{AreAccepted}
use Rattle.tpcc.specs.Script.{AreDrawn, NamesScripts}
use Rattle.files.proofs.Sent.{on_any_err}
use Rattle.tpcc.proofs.ScriptFiles.{names-first, scripts-more}
use Rattle.tpcc.proofs.script.write_scripts.Goals as goal

pub returns-in_err-asked-clause-some : goal.returns-in_err-asked-clause-some
returns-in_err-asked-clause-some g c =
    on_any_err c.from_residual.result
    (names-first g.T.Write.contents c.args.workload.now c.args.files.items c.loop-session.session (g.N.OutputFiles.named c.args.output_files.now) (g.N.OutputFiles.named c.loop-session.output_files) c.loop-session.invariant.named)

pub returns-in_err-write_requests-clause-some : goal.returns-in_err-write_requests-clause-some
returns-in_err-write_requests-clause-some g c =
    let Names : Option (List (Option (List ℕ))) → Type 0 = λ n. NamesScripts g.T.Write.contents c.args.workload.now 0 (take c.loop-session.session c.args.files.items) (g.N.OutputFiles.named c.args.output_files.now) n in
    on_any_err c.from_residual-in_err-write_requests.result
    (names-first g.T.Write.contents c.args.workload.now c.args.files.items c.loop-session.session (g.N.OutputFiles.named c.args.output_files.now) (g.N.OutputFiles.named c.write_requests.new.output_files)
    (subst Names (sym c.in_err-write_requests.ensures.err) c.loop-session.invariant.named))

pub loop-session-preserved : goal.loop-session-preserved
loop-session-preserved g c =
    let session = c.loop-session.session in
    let files = c.args.files.items in
    let left = c.loop-session.files.items in
    let file = c.remove-file.result in
    let workload = c.args.workload.now in
    let there : session < length files = omega (arith, c.loop-session-test.true, c.requires.files) in
    let is_left : left ≡ drop session files = c.loop-session.invariant.left in
    let at : session + 0 ≡ session = omega arith in
    let is : file ≡ get_or files session file =
    c.remove-file.ensures.value ∙ ap (λ l. get_or l 0 file) is_left ∙ get_or-drop session files 0 file ∙ ap (λ n. get_or files n file) at in
    let ok = c.in_ok-write_requests.ensures.ok in
    let Accepted : List TerminalRequest → Type 0 = λ l. All (AreAccepted workload.scale) l in
    let Records : List TerminalRequest → Type 0 = λ l. AreAsked l ok.1.0 in
    let asked = c.as_slice.ensures.value ∙ c.in_ok-asked.ensures.drawn in
    let drawn : AreDrawn workload session ok.1.0 = (subst Records asked ok.1.1, subst Accepted c.in_ok-asked.ensures.drawn c.in_ok-asked.ensures.accepted) in
    record {
      left = c.remove-file.ensures.items ∙ ap (drop 1) is_left ∙ drop-drop 1 session files;
      named = scripts-more g.T.Write.contents workload files session file (g.N.OutputFiles.named c.args.output_files.now) (g.N.OutputFiles.named c.loop-session.output_files) (g.N.OutputFiles.named c.write_requests.new.output_files) there is
          c.loop-session.invariant.named (ok.0, (ok.1.0, drawn, ok.1.2), ok.2);
    }

pub returns-in_err-asked-clause-fault : goal.returns-in_err-asked-clause-fault
returns-in_err-asked-clause-fault g c =
    let p = err_from_is_err_and c.from_residual.result c.from_residual.ensures.1 in
    rw p.1 (inl p.2)

pub returns-in_err-write_requests-clause-fault : goal.returns-in_err-write_requests-clause-fault
returns-in_err-write_requests-clause-fault g c =
    let p = err_from_is_err_and c.from_residual-in_err-write_requests.result c.from_residual-in_err-write_requests.ensures.1 in
    let session = c.loop-session.session in
    let paths = c.args.paths.now in
    let nowhere : Bor (List ℕ) = record { ref_ptr = (0, 0); now = [] } in
    let path = get_or paths session nowhere in
    let there : session < length paths = omega (arith, c.loop-session-test.true) in
    rw (p.1, p.2) (inr (record { place = session; there = there; path = path; is_path = get_or_default paths session nowhere path there; said = c.in_err-write_requests.ensures.fault }))
