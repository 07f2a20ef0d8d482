use Rattle.std.proofs.Common.{◌≡◌, ◌++◌, ◌-◌, length, take}
use Rattle.csv.specs.Records.{fields_of}
use Rattle.csv.specs.Writing.{row_body}
use Rattle.files.specs.Written.{format}
use Rattle.files.proofs.record_writer.with_plain.Given as goal

abbrev pub invariant-loop-field : goal.invariant-loop-field
invariant-loop-field l = l.text.items ≡ l.fn.text.items ++ row_body format (take l.place (fields_of l.row))

abbrev pub decreases-loop-field : goal.decreases-loop-field
decreases-loop-field l = length l.row.ends - l.place
