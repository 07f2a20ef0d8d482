use Rattle.files.proofs.ColumnsRead.{count}
use Rattle.std.proofs.Common.{arith, length, map, sum, ◌∙◌}
use Rattle.dataset.proofs.Taking.{takes-counted}
use Rattle.dataset.proofs.end.check_payments.Goals as goal

pub returns-in-Ok-clause-taken : goal.returns-in-Ok-clause-taken
returns-in-Ok-clause-taken c =
    (takes-counted (sum (map length c.args.lists.now)) c.in-Ok.count c.expect_count.new.self (c.in-Ok.ensures.1 ∙ c.count.ensures) c.expect_count.ensures.taken).well

pub returns-in-Ok-clause-columns : goal.returns-in-Ok-clause-columns
returns-in-Ok-clause-columns c = λ small.
    (count (sum (map length c.args.lists.now)) c.in-Ok.count c.args.fields.now c.expect_count.new.self (c.in-Ok.ensures.1 ∙ c.count.ensures) c.expect_count.ensures.field).is

pub returns-in-Err-clause-columns : goal.returns-in-Err-clause-columns
returns-in-Err-clause-columns c = λ small.
    let count = c.count.ensures in
    absurd (c.in-Err.ensures (omega arith))
