use Rattle.std.proofs.Common.{arith}
use Rattle.std.proofs.lemmas.Grind.{common_steps}
use Rattle.csv.specs.Records.{fields_of}
use Rattle.files.proofs.PlainRecords.{one_more, whole_text}
use Rattle.files.proofs.record_writer.with_plain.Goals.{then-place-gt0+in_ok-push, else-place-gt0}
use Rattle.files.proofs.record_writer.with_plain.Goals as goal

pub loop-field-preserved : goal.loop-field-preserved
loop-field-preserved c =
    let more = one_more c.args.row.now c.loop-field.place c.in-Some.field.now c.requires.plain c.in-Some.ensures.place.0 c.in-Some.ensures.value in
    elim c.if-place-gt0.branch [
      | then-place-gt0+in_ok-push w ↦ grind (arith, common_steps)
      | else-place-gt0 w ↦ grind (arith, common_steps)
    ]

pub returns : goal.returns
returns c =
    let whole = whole_text (fields_of c.args.row.now) c.loop-field.place c.requires.several c.in_default.ensures.value in
    grind (arith, common_steps)
