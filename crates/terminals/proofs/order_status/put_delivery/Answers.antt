use Rattle.std.proofs.Common.{◌≡◌, ℕ, List, [], ◌∷◌, ◌++◌, OnOk, Option, Some, sym, subst}
use Rattle.std.proofs.lemmas.Result.{on_ok_weaker}
use Rattle.files.specs.MomentText.{IsMomentText}
use Rattle.terminals.specs.Nullable.{IsNullableMoment}
use Rattle.terminals.proofs.order_status.put_delivery.Goals as goal

pub returns-in-Some : goal.returns-in-Some
returns-in-Some c =
    let old = c.args.row.now in
    let new = c.push.new.self in
    let moment = c.in-Some.moment in
    let IsMoment : List ℕ → Type 0 = λ text. IsMomentText text moment in
    let spelt = subst IsMoment (sym c.as_str.ensures.value) c.moment_text.ensures in
    let Said : Option ℕ → Type 0 = λ delivery. OnOk c.push.result ((text : List ℕ) × IsNullableMoment text delivery × (new ≡ old ++ (text ∷ []))) in
    let said : Said (Some moment) = on_ok_weaker c.push.result (λ added. (c.as_str.result.now, spelt, added)) c.push.ensures.added in
    subst Said (sym c.in-Some.is) said
