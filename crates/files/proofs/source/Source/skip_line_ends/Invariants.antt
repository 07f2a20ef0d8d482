use Rattle.std.proofs.Common.{◌≡◌}
use Rattle.files.specs.Source.{KeepsNextRecord, is_begun}
use Rattle.files.proofs.source.Source.skip_line_ends.Given as goal

abbrev pub invariant-loop : goal.invariant-loop
invariant-loop g l =
    KeepsNextRecord g.R.Input.remaining l.fn.self l.self
    × (is_begun l.self ≡ is_begun l.fn.self)
    × (g.R.Input.lasts l.fn.self.reader → g.R.Input.lasts l.self.reader)
