use Rattle.std.proofs.Common.{None}
use Rattle.rendezvous.proofs.SolePlaces.{round_first, none_reported}
use Rattle.rendezvous.proofs.sole.SoleConvener.convene.Goals as goal

pub invariant_of-result : goal.invariant_of-result
invariant_of-result g c = round_first None _ _ c.args.places c.self.inside.seat.me c.convene.new.seat c.convene.ensures.seat c.self.invariant.slots c.ranges.places.fits c.convene.ensures.convened

pub returns : goal.returns
returns g c = none_reported None c.args.places c.self.inside.seat.me c.convene.new.seat.me c.convene.ensures.convened
