use Rattle.std.proofs.Common.{◌≡◌, ◌<◌, ◌-◌, ℕ, false, get_or, length}
use Rattle.csv.specs.Writing.{needs_byte}
use Rattle.files.specs.Marks.{Reports}
use Rattle.files.specs.Written.{format}
use Rattle.files.proofs.record_writer.needs_quotes.Given as goal

abbrev pub invariant-loop-place : goal.invariant-loop-place
invariant-loop-place l = Reports l.bytes l.at l.marks × ((k : ℕ) → k < l.at → needs_byte format (get_or l.bytes k 0) ≡ false)

abbrev pub decreases-loop-place : goal.decreases-loop-place
decreases-loop-place l = length l.bytes - l.at
