use Rattle.std.proofs.Common.{List, ℕ, ◌∷◌, refl, ap, ◌∙◌}
use Rattle.std.specs.Fmt.{decimal}
use Rattle.terminals.proofs.schedules.take_submit.Goals as goal

pub returns-in-Some-clause-taken : goal.returns-in-Some-clause-taken
returns-in-Some-clause-taken c = λ none.
    let request = (rw c.in-Some.is at c.in_ok-request.ensures.taken) none in
    let first = c.word-letter.ensures.taken request.faultless in
    let of_number = c.whole-number.ensures.taken first.0 in
    let of_session = c.whole-session.ensures.taken of_number.0 in
    let session = decimal c.whole-session.result in
    let number = decimal c.whole-number.result in
    let letter = c.word-letter.result.now in
    let asked : List (List ℕ) = letter ∷ request.texts in
    let all = of_session.1 ∙ ap (λ l. session ∷ l) (of_number.1 ∙ ap (λ l. number ∷ l) (first.1 ∙ ap (λ l. letter ∷ l) request.left)) in
    record { faultless = of_session.0; texts = session ∷ number ∷ asked; are_said = (asked, request.are_said, refl); left = all }
