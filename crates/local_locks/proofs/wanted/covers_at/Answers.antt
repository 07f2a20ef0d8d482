use Rattle.local_locks.specs.Rulings.{first_place, count_in}
use Rattle.local_locks.proofs.WantedPlaces.{spots_after, spots_from}
use Rattle.local_locks.proofs.wanted.covers_at.Goals as goal

pub returns-then-first-place : goal.returns-then-first-place
returns-then-first-place g c =
    let extent = c.args.want.extent in
    let places = c.places_of-first in
    spots_from c.args.place places.result.0 places.result.1 (first_place extent) (count_in extent) c.args.want.mode places.ensures.first places.ensures.end c.if-first-place.true

pub returns-else-first-place : goal.returns-else-first-place
returns-else-first-place g c =
    let extent = c.args.want.extent in
    let places = c.places_of-first in
    spots_after c.args.place places.result.0 (first_place extent) (count_in extent) c.args.want.mode places.ensures.first c.if-first-place.false
