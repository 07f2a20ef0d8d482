use Rattle.std.proofs.Common.{sym, subst}
use Rattle.population.specs.Population.{IsOpening}
use Rattle.population.proofs.Populated.{fits}
use Rattle.population.proofs.Opening.{opening}
use Rattle.population.proofs.initial.tables.Goals as goal

pub unreachable-requires : goal.unreachable-requires
unreachable-requires c =
    let no = c.in-Err.ensures.fits.1 (fits c.args.scale c.args.rows c.requires.2) in
    absurd cc

pub returns : goal.returns
returns c seed now h = subst (IsOpening c.args.scale seed now) (sym c.in-Ok.ensures.made) (opening c.args.scale c.args.rows h)
