use Rattle.std.proofs.Common.{◌≡◌, true, false}
use Rattle.std.specs.Io.KnownBytes.{Keeps}
use Rattle.files.specs.Line.{BeginsRecord}
use Rattle.files.specs.Place.{input}
use Rattle.files.specs.Source.{ahead, at_hand, is_begun}
use Rattle.files.proofs.records.Records.cut.Given as goal

abbrev pub invariant-loop : goal.invariant-loop
invariant-loop g l =
    Keeps (ahead g.R.Input.remaining l.fn.self.source) (ahead g.R.Input.remaining l.self.source)
    × BeginsRecord (at_hand l.self.source)
    × (is_begun l.self.source ≡ true)
    × (l.self.taken ≡ 0)
    × (l.self.is_quoted ≡ false)
    × (l.self.number ≡ l.fn.self.number)
    × (g.R.Input.lasts (input l.fn.self) → g.R.Input.lasts (input l.self))
