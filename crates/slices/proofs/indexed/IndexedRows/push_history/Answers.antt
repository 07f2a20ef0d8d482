use Rattle.std.proofs.Common.{◌≡◌, Result, Ok, Err, OnOk, OnErr, sym, subst}
use Rattle.partitions.specs.Parts.{Part}
use Rattle.slices.specs.Fitting.{FitRows}
use Rattle.slices.proofs.indexed.IndexedRows.push_history.Goals as goal

either_fits : {T E : Type 0} (names : _) (latest : _) (p done q : Part) (result : Result T E) → OnOk result (q ≡ done) → OnErr result (q ≡ p) → FitRows names latest done → FitRows names latest p → FitRows names latest q
either_fits names latest p done q (Ok x) ok err later fits = subst (FitRows names latest) (sym ok) later
either_fits names latest p done q (Err e) ok err later fits = subst (FitRows names latest) (sym err) fits

pub invariant_of-self : goal.invariant_of-self
invariant_of-self c =
    either_fits c.self.inside.names c.self.inside.latest c.self.inside.partition _ c.push_history.new.self c.push_history.result c.push_history.ensures.ok c.push_history.ensures.err c.self.invariant c.self.invariant
