use Rattle.std.proofs.lemmas.Result.{err_from_is_err_and}
use Rattle.std.proofs.Common.{◌≡◌, inl, inr, List, map, refl, ap, subst, ◌∙◌}
use Rattle.std.specs.List.{list_any}
use Rattle.std.specs.Io.KnownBytes.{Appends}
use Rattle.files.specs.Sending.{Begins}
use Rattle.files.proofs.Sent.{on_any_err}
use Rattle.tpcc.specs.declared.verdicts.Verdict.{Verdict}
use Rattle.tpcc.specs.Effects.{change}
use Rattle.tpcc.specs.Check.{ChecksSome, IsChecked}
use Rattle.tpcc.specs.Edges.{lines_text}
use Rattle.tpcc.specs.Verdicts.{verdict_text, verdicts_of, is_broken}
use Rattle.tpcc.proofs.check.check.Goals as goal

pub returns-clause-checks : goal.returns-clause-checks
returns-clause-checks g c =
    let answers = c.in_ok-answers.answers in
    let verdicts = verdicts_of c.args.settings.now.fresh 1 answers in
    let are : c.as_slice.result.now ≡ verdicts = c.as_slice.ensures.value ∙ c.in_ok-verdicts.ensures in
    let still : c.as_slice-2.result.now ≡ verdicts = c.as_slice-2.ensures.value ∙ c.in_ok-verdicts.ensures in
    let Prints : List Verdict → Type 0 = λ vs. Appends (g.A.Write.contents c.args.found.now) (g.A.Write.contents c.print_lines.new.sink) (lines_text (map verdict_text vs)) in
    record {
      answers = answers;
      is_checked = record { tables = c.in_ok-tables.tables; is_dataset = c.in_ok-tables.ensures.tables; exact = c.in_ok-answers.ensures };
      appended = subst Prints are (c.in_ok-print_lines.ensures.printed verdict_text (λ one. refl));
      any_broken = c.any_broken.ensures ∙ ap (list_any (λ (verdict : Verdict). is_broken verdict.found)) still;
    }

pub returns-in_err-tables-clause-some : goal.returns-in_err-tables-clause-some
returns-in_err-tables-clause-some g c =
    let none : ChecksSome c.args.settings.now.fresh (g.D.Input.remaining c.args.data) (change g.A.Write.contents c.args.found.now c.args.found.now) = inl refl in
    on_any_err c.from_residual.result none

pub returns-in_err-answers-clause-some : goal.returns-in_err-answers-clause-some
returns-in_err-answers-clause-some g c =
    let none : ChecksSome c.args.settings.now.fresh (g.D.Input.remaining c.args.data) (change g.A.Write.contents c.args.found.now c.args.found.now) = inl refl in
    on_any_err c.from_residual-in_err-answers.result none

pub returns-in_err-verdicts-clause-some : goal.returns-in_err-verdicts-clause-some
returns-in_err-verdicts-clause-some g c =
    let none : ChecksSome c.args.settings.now.fresh (g.D.Input.remaining c.args.data) (change g.A.Write.contents c.args.found.now c.args.found.now) = inl refl in
    on_any_err c.from_residual-in_err-verdicts.result none

pub returns-in_err-print_lines-clause-some : goal.returns-in_err-print_lines-clause-some
returns-in_err-print_lines-clause-some g c =
    let before = g.A.Write.contents c.args.found.now in
    let after = g.A.Write.contents c.print_lines.new.sink in
    let answers = c.in_ok-answers.answers in
    let are : c.as_slice.result.now ≡ verdicts_of c.args.settings.now.fresh 1 answers = c.as_slice.ensures.value ∙ c.in_ok-verdicts.ensures in
    let Prints : List Verdict → Type 0 = λ vs. Begins before after (lines_text (map verdict_text vs)) in
    let is : IsChecked (g.D.Input.remaining c.args.data) answers = record { tables = c.in_ok-tables.tables; is_dataset = c.in_ok-tables.ensures.tables; exact = c.in_ok-answers.ensures } in
    let some : ChecksSome c.args.settings.now.fresh (g.D.Input.remaining c.args.data) (change g.A.Write.contents c.args.found.now c.print_lines.new.sink) =
    inr (answers, is, subst Prints are (c.in_err-print_lines.ensures.begun verdict_text (λ one. refl))) in
    on_any_err c.from_residual-in_err-print_lines.result some

pub returns-in_err-tables-clause-fault : goal.returns-in_err-tables-clause-fault
returns-in_err-tables-clause-fault g c =
    let p = err_from_is_err_and c.from_residual.result c.from_residual.ensures.1 in
    rw (p.1, p.2) (inl c.in_err-tables.ensures.fault)

pub returns-in_err-print_lines-clause-fault : goal.returns-in_err-print_lines-clause-fault
returns-in_err-print_lines-clause-fault g c =
    let p = err_from_is_err_and c.from_residual-in_err-print_lines.result c.from_residual-in_err-print_lines.ensures.1 in
    rw (p.1, p.2) (inr c.in_err-print_lines.ensures.fault)
