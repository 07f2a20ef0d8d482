use Rattle.std.proofs.Common.{◌≡◌, ◌++◌, ℕ, List, ◌∷◌, length, sym, ap, ◌∙◌}
use Rattle.std.proofs.lemmas.List.{append_assoc}
use Rattle.std.specs.Fmt.{decimal}
use Rattle.files.specs.Taken.{fields_left}
use Rattle.terminals.proofs.log_records.EntryListed.take.Goals as goal

pub returns-in-Some-3-clause-taken : goal.returns-in-Some-3-clause-taken
returns-in-Some-3-clause-taken c = λ none.
    let reply = (rw c.in-Some-3.is at c.in_ok-reply.ensures.taken) none in
    let letter = c.word-letter.ensures.taken reply.faultless in
    let request = (rw c.in-Some-2.is at c.in_ok-request.ensures.taken) letter.0 in
    let count = c.in-Some.ensures.taken request.faultless in
    let number = c.whole-number.ensures.taken count.0 in
    let session = c.whole-session.ensures.taken number.0 in
    let place = c.expect_place.ensures.place session.0 in
    let asked : List (List ℕ) = request.texts in
    let replied : List (List ℕ) = c.word-letter.result.now ∷ reply.texts in
    let long : length asked ≡ c.in-Some.count = request.are_said.1 in
    let of_count : ℕ → List (List ℕ) = λ n. decimal c.whole-session.result ∷ decimal c.whole-number.result ∷ decimal n ∷ (asked ++ replied) in
    let after = letter.1 ∙ ap (λ l. c.word-letter.result.now ∷ l) reply.left in
    let of_request = request.left ∙ ap (λ l. asked ++ l) after ∙ sym (append_assoc asked replied (fields_left c.take.new.fields)) in
    let of_session = session.1 ∙ ap (λ l. decimal c.whole-session.result ∷ l) (number.1 ∙ ap (λ l. decimal c.whole-number.result ∷ l) (count.1 ∙ ap (λ l. decimal c.in-Some.count ∷ l) of_request)) in
    let left = sym c.expect_place.ensures.left ∙ of_session in
    let record_is : c.args.first.now ∷ of_count c.in-Some.count ≡ decimal c.args.place ∷ of_count (length asked) =
    ap (λ (l : List ℕ). l ∷ of_count c.in-Some.count) place.1 ∙ ap (λ n. decimal c.args.place ∷ of_count n) (sym long) in
    record { faultless = place.0; texts = of_count c.in-Some.count; are_said = (asked, request.are_said.0, replied, reply.are_said, record_is); left = left }
