use Rattle.std.proofs.Common.{ap, ◌∙◌}
use Rattle.std.specs.FinMap as map
use Rattle.schema.proofs.tables.Tables.line.Goals as goal

pub returns : goal.returns
returns c = c.get.ensures ∙ ap (λ m. map.get m.lines c.args.key) c.self.view_is
