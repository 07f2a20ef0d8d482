use Rattle.std.proofs.Common.{arith}
use Rattle.std.proofs.lemmas.Grind.{common_steps}
use Rattle.std.proofs.lemmas.List.Folds.{list_all_more}
use Rattle.rows.specs.Text.{is_printable_byte}
use Rattle.rows.proofs.text.is_printable.Goals as goal

pub loop-byte-preserved : goal.loop-byte-preserved
loop-byte-preserved c =
    let more = list_all_more is_printable_byte c.args.bytes.now c.loop-byte.byte-index 0 c.loop-byte-test.true in
    grind (arith, common_steps)
