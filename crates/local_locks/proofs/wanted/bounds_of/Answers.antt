use Rattle.std.proofs.Common.{◌<◌, length, get_or, ap, arith}
use Rattle.local_locks.proofs.Spots.{extent_inside, no_want}
use Rattle.local_locks.proofs.WantedPlaces.{one_more}
use Rattle.local_locks.proofs.wanted.bounds_of.Goals as goal

pub loop-want-preserved : goal.loop-want-preserved
loop-want-preserved g c =
    let wants = c.args.wants.now in
    let i = c.loop-want.want-index in
    let known = c.loop-want.invariant in
    let places = c.places_of-from in
    let there : i < length wants = c.loop-want-test.true in
    let fits = extent_inside g.J.GroupNames.warehouses (get_or wants i no_want).extent (c.requires i no_want there) in
    record {
      none = λ empty. absurd (omega (arith, there, ap length empty));
      most = omega (arith, known.most, c.min-first.ensures);
      inside = omega (arith, known.inside, fits, places.ensures.end, c.later_of-end.ensures.one);
      before = λ place small. one_more wants i place places.result.0 places.result.1 there places.ensures.first places.ensures.end (known.before place (omega (arith, small, c.min-first.ensures))) (λ after below. omega (arith, small, after, c.min-first.ensures));
      after = λ place past. one_more wants i place places.result.0 places.result.1 there places.ensures.first places.ensures.end (known.after place (omega (arith, past, c.later_of-end.ensures.both))) (λ after below. omega (arith, past, below, c.later_of-end.ensures.both));
    }

pub returns-clause-none : goal.returns-clause-none
returns-clause-none g c = λ empty. omega (arith, c.loop-want.invariant.none empty, c.min.ensures)
