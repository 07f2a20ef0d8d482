use Rattle.std.proofs.Common.{◌≡◌, ℕ, List, [], ◌∷◌, ap, ◌∙◌, codes}
use Rattle.std.specs.Fmt.{decimal}
use Rattle.files.specs.declared.fields.Fields.{Fields}
use Rattle.files.specs.Taken.{TakesWell, Takes}
use Rattle.terminals.proofs.schedules.take.Goals as goal

-- a letter and an executor
executor_was_read : (letter wanted : List ℕ) (executor : ℕ) (old new : Fields) → letter ≡ wanted → TakesWell old new (decimal executor)
    → Takes old new (λ said. letter ∷ said ≡ wanted ∷ decimal executor ∷ [])
executor_was_read letter wanted executor old new is taken none =
    let read = taken none in
    record { faultless = read.0; texts = decimal executor ∷ []; are_said = ap (λ (l : List ℕ). l ∷ decimal executor ∷ []) is; left = read.1 }

pub returns-in-M-clause-taken : goal.returns-in-M-clause-taken
returns-in-M-clause-taken c = λ none.
    let order = c.take_order.ensures.taken none in
    let lo = c.word-lo.ensures.taken order.faultless in
    let texts : List (List ℕ) = c.word-lo.result.now ∷ order.texts in
    record {
      faultless = lo.0;
      texts = texts;
      are_said = ap (λ (l : List ℕ). l ∷ texts) c.in-M.is ∙ ap (λ (l : List (List ℕ)). codes "M" ∷ l) order.are_said;
      left = lo.1 ∙ ap (λ l. c.word-lo.result.now ∷ l) order.left;
    }

pub returns-in-T-clause-taken : goal.returns-in-T-clause-taken
returns-in-T-clause-taken c = executor_was_read _ _ c.whole.result c.args.fields.now c.whole.new.self c.in-T.is c.whole.ensures.taken

pub returns-in-X-clause-taken : goal.returns-in-X-clause-taken
returns-in-X-clause-taken c = executor_was_read _ _ c.whole-in-X.result c.args.fields.now c.whole-in-X.new.self c.in-X.is c.whole-in-X.ensures.taken
