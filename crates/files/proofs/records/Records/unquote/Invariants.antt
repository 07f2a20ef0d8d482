use Rattle.std.proofs.Common.{◌≡◌, true}
use Rattle.files.specs.Place.{IsUnquoting, input}
use Rattle.files.specs.Source.{ahead, is_begun}
use Rattle.files.specs.Unquoted.{IsInTurn}
use Rattle.files.proofs.records.Records.unquote.Given as goal

abbrev pub invariant-loop : goal.invariant-loop
invariant-loop g l =
    IsUnquoting g.R.Input.remaining (ahead g.R.Input.remaining l.fn.self.source) l.self
    × IsInTurn l.self.unquoted l.self.spans.items
    × (is_begun l.self.source ≡ true)
    × (l.self.taken ≡ 0)
    × (l.self.is_quoted ≡ true)
    × (l.self.number ≡ l.fn.self.number)
    × (g.R.Input.lasts (input l.fn.self) → g.R.Input.lasts (input l.self))
