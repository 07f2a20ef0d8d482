use Rattle.std.proofs.Common.{sym, subst}
use Rattle.tickets.specs.Places.{IsBetween}
use Rattle.tickets.proofs.OnePlace.{home_known}
use Rattle.tickets.proofs.claim.Claim.home.Goals as goal

pub returns-clause-known : goal.returns-clause-known
returns-clause-known g c =
    subst (IsBetween 1 g.J.GroupNames.warehouses) (sym c.warehouse_of.ensures) (home_known g.J.GroupNames.warehouses c.self.inside.group c.self.invariant.1)
