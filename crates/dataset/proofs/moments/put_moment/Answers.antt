use Rattle.std.proofs.Common.{List, ℕ, [], ◌∷◌, sym, subst}
use Rattle.std.proofs.lemmas.Result.{on_ok_weaker}
use Rattle.files.specs.MomentText.{IsMomentText}
use Rattle.dataset.proofs.moments.put_moment.Goals as goal

pub returns : goal.returns
returns c =
    let spells : List ℕ → Type 0 = λ text. IsMomentText text c.args.moment in
    let spelt = subst spells (sym c.as_str.ensures.value) c.moment_text.ensures in
    on_ok_weaker c.push.result (λ last. record { texts = c.as_str.result.now ∷ []; are_spelt = (spelt, tt); added = last }) c.push.ensures.added
