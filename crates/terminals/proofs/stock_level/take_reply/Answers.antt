use Rattle.std.proofs.Common.{[], ◌∷◌, refl}
use Rattle.std.specs.Fmt.{decimal}
use Rattle.files.proofs.ColumnsRead.{whole}
use Rattle.terminals.proofs.stock_level.take_reply.Goals as goal

pub returns-clause-taken : goal.returns-clause-taken
returns-clause-taken c = λ none.
    let count = c.whole.ensures.taken none in
    record { faultless = count.0; texts = decimal c.whole.result ∷ []; are_said = refl; left = count.1 }

pub returns-clause-columns : goal.returns-clause-columns
returns-clause-columns c =
    (whole 0 4294967295 c.args.fields.now c.whole.new.self c.whole.ensures.field).is
