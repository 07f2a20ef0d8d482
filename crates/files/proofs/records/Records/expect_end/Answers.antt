use Rattle.std.proofs.Common.{[], rules}
use Rattle.files.proofs.Progress.{first_left_too_long, none_was_left, one_was_left}
use Rattle.files.proofs.records.Records.expect_end.Goals as goal

pub returns-in-Ok-false-clause-none_left : goal.returns-in-Ok-false-clause-none_left
returns-in-Ok-false-clause-none_left g c = λ rows h.
    none_was_left g.R.Input.remaining rows c.in-Ok-false.field-0 c.args.self.now c.next_record.new.self (search rules) c.in-Ok-false.ensures.next h

pub returns-in-Ok-true-clause-after_end : goal.returns-in-Ok-true-clause-after_end
returns-in-Ok-true-clause-after_end g c = λ _ h.
    one_was_left g.R.Input.remaining c.in-Ok-true.field-0 c.args.self.now c.next_record.new.self (search rules) c.in-Ok-true.ensures.next h

pub returns-in-Err-TooLong-clause-after_end : goal.returns-in-Err-TooLong-clause-after_end
returns-in-Err-TooLong-clause-after_end g c = λ _ h.
    first_left_too_long g.R.Input.remaining [] c.args.self.now (c.in-Err-TooLong.ensures.too_long c.in-Err-TooLong.field-0-is) h
