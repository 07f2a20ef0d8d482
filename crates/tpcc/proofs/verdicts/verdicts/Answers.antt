use Rattle.std.proofs.Common.{◌+◌, ◌<◌, List, [], ◌∷◌, ◌++◌, length, take, sym, ap, ◌∙◌}
use Rattle.tpcc.specs.declared.verdicts.Found.{Found}
use Rattle.tpcc.specs.declared.verdicts.Verdict.{Verdict}
use Rattle.tpcc.specs.Verdicts.{verdicts_of}
use Rattle.tpcc.proofs.VerdictLists.{verdicts-more}
use Rattle.tpcc.proofs.verdicts.verdicts.Goals as goal

pub loop-place-preserved : goal.loop-place-preserved
loop-place-preserved c =
    let fresh = c.args.fresh in
    let place = c.loop-place.place in
    let answers = c.args.answers.now in
    let there : place < length answers = c.loop-place-test.true in
    let verdict : Found → Verdict = λ f. record { condition = place + 1; found = f } in
    c.in_ok-push.ensures.items
    ∙ ap (λ (l : List Verdict). l ++ verdict c.found_of.result ∷ []) c.loop-place.invariant
    ∙ ap (λ f. verdicts_of fresh 1 (take place answers) ++ verdict f ∷ []) c.found_of.ensures
    ∙ sym (verdicts-more fresh answers place _ there)
