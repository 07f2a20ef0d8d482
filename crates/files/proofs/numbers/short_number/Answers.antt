use Rattle.files.proofs.ShortNumbers.{first_digit, next_digit}
use Rattle.files.proofs.numbers.short_number.Goals as goal

pub loop-byte-init : goal.loop-byte-init
loop-byte-init c =
    let digit = c.in_ok-number.ensures in
    first_digit c.args.field.now c.in_ok-number.number c.in-len1-up.len_at_least digit.0 digit.1

pub loop-byte-preserved : goal.loop-byte-preserved
loop-byte-preserved c =
    let digit = c.in_ok-number-2.ensures in
    next_digit c.args.field.now c.loop-byte.byte-index c.loop-byte.number c.in_ok-number-2.field-0 c.loop-byte.invariant c.loop-byte-test.true c.if-number-eq0.false c.if-number-ge1000000000000000000.false digit.0 digit.1
