use Rattle.std.proofs.Common.{◌<◌, ◌^◌, arith}
use Rattle.rows.proofs.Decimals.{printable-decimal}
use Rattle.rows.proofs.payment_note.push_number.Goals as goal

pub push_fitting-requires : goal.push_fitting-requires
push_fitting-requires c =
    let small : c.args.number < 2 ^ 64 = omega arith in
    (omega arith, rw c.format.ensures.text (printable-decimal c.args.number small))
