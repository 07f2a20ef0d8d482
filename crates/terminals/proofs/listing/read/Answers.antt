use Rattle.std.proofs.lemmas.Result.{err_from_is_err_and}
use Rattle.terminals.proofs.FirstFaults.{fault_at_end, none_behind}
use Rattle.terminals.proofs.listing.read.Goals as goal

pub returns-clause-listed : goal.returns-clause-listed
returns-clause-listed g c = λ text known.
    let read = c.in_ok-items.ensures.listed text (c.new-records.ensures.none_read text known) in
    (read.0, c.in_ok-expect_end.ensures.reads text read.0 read.1, read.2)

pub returns-clause-first : goal.returns-clause-first
returns-clause-first g c = λ text rows known csv few.
    let ended = c.in_ok-items.ensures.first rows few c.new-records.ensures.number (c.new-records.ensures.all_left text rows known csv) in
    none_behind g.R.Input.remaining g.T.Listed.after rows _ ended c.in_ok-expect_end.ensures.none_left

pub returns-in_err-expect_end-clause-first : goal.returns-in_err-expect_end-clause-first
returns-in_err-expect_end-clause-first g c =
    let p = err_from_is_err_and c.from_residual-in_err-expect_end.result c.from_residual-in_err-expect_end.ensures.1 in
    let failed = c.in_err-expect_end.ensures in
    rw (p.1, p.2) (λ text rows known csv few.
    let ended = c.in_ok-items.ensures.first rows few c.new-records.ensures.number (c.new-records.ensures.all_left text rows known csv) in
    fault_at_end g.R.Input.remaining g.T.Listed.after rows 0 _ c.expect_end.new.self 0 few c.expect_end.ensures.number ended _ failed.faults failed.after_end)
