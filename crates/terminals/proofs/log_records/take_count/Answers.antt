use Rattle.std.proofs.Common.{◌∙◌, ℕ, List, Some, sym, ap, arith}
use Rattle.files.specs.declared.fault.FaultKind.TheVariants.{WrongShape}
use Rattle.files.specs.Columns.{found}
use Rattle.files.specs.FieldRead.{FieldsView, whole_read}
use Rattle.files.proofs.FieldsRead.{whole_is}
use Rattle.terminals.proofs.ColumnsTaken.{noted_is}
use Rattle.terminals.proofs.log_records.take_count.Goals as goal

pub returns-in-Ok-clause-counted : goal.returns-in-Ok-clause-counted
returns-in-Ok-clause-counted c =
    let parsed = c.parse_whole.ensures in
    let field = c.word.ensures.field in
    let read = whole_is 0 18446744073709551615 c.word.result.now c.parse_whole.result (omega arith) parsed.value parsed.range parsed.reads parsed.not_of_kind parsed.faults in (
      ap (λ (p : List ℕ × FieldsView). whole_read 0 18446744073709551615 p.0) (sym field) ∙ sym read ∙ c.in-Ok.is,
      ap (λ (p : List ℕ × FieldsView). p.1) field,
    )

pub returns-in-Err-OutOfRange-clause-counted : goal.returns-in-Err-OutOfRange-clause-counted
returns-in-Err-OutOfRange-clause-counted c =
    let parsed = c.parse_whole.ensures in
    let field = c.word.ensures.field in
    let read = whole_is 0 18446744073709551615 c.word.result.now c.parse_whole.result (omega arith) parsed.value parsed.range parsed.reads parsed.not_of_kind parsed.faults in (
      c.in-Err-OutOfRange.field-0,
      ap (λ (p : List ℕ × FieldsView). whole_read 0 18446744073709551615 p.0) (sym field) ∙ sym read ∙ c.in-Err-OutOfRange.is,
      rw c.in-Err-OutOfRange.field-0-is (noted_is WrongShape c.word.new.self c.note.new.self c.note.ensures.fault c.note.ensures.left ∙ ap (λ (p : List ℕ × FieldsView). found (Some WrongShape) p.1) field),
    )
