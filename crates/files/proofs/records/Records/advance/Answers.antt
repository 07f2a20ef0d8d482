use Rattle.files.proofs.Progress.{read_on, left_after, first_left_too_long}
use Rattle.files.proofs.records.Records.advance.Goals as goal

pub returns-in-Ok-clause-reads : goal.returns-in-Ok-clause-reads
returns-in-Ok-clause-reads g c = λ text rows h.
    read_on g.R.Input.remaining text rows c.in-Ok.found c.args.self.now c.next_record.new.self c.in-Ok.ensures.next h

pub returns-in-Ok-clause-reads_next : goal.returns-in-Ok-clause-reads_next
returns-in-Ok-clause-reads_next g c = λ rows h.
    left_after g.R.Input.remaining rows c.in-Ok.found c.args.self.now c.next_record.new.self c.in-Ok.ensures.next h

pub returns-in-Err-TooLong-clause-too_long : goal.returns-in-Err-TooLong-clause-too_long
returns-in-Err-TooLong-clause-too_long g c = λ _ rows h.
    first_left_too_long g.R.Input.remaining rows c.args.self.now (c.in-Err-TooLong.ensures.too_long c.in-Err-TooLong.field-0-is) h
