use Rattle.std.proofs.Common.{sym, subst}
use Rattle.slices.specs.Fitting.{FitRows}
use Rattle.slices.proofs.indexed.IndexedRows.replace_stock.Goals as goal

pub invariant_of-self : goal.invariant_of-self
invariant_of-self c = subst (FitRows c.self.inside.names c.self.inside.latest) (sym c.replace_stock.ensures.tables) c.self.invariant
