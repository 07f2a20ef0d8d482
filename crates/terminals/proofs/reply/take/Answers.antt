use Rattle.std.proofs.Common.{List, ℕ, ◌∷◌, ap}
use Rattle.terminals.specs.ReplyFields.{fault_fields}
use Rattle.terminals.proofs.reply.take.Goals as goal

pub returns-in-Some-clause-taken : goal.returns-in-Some-clause-taken
returns-in-Some-clause-taken c = λ none.
    let taken = c.in-Some.ensures.taken none in
    let why : List (List ℕ) = fault_fields c.in-Some.fault in
    record { faultless = taken.0; texts = why; are_said = ap (λ (l : List ℕ). l ∷ why) c.in-X.is; left = taken.1 }
