use Rattle.std.proofs.Common.{ap, ◌∙◌, ◌||◌, ◌&&◌, false}
use Rattle.std.proofs.lemmas.List.{get_or-replicate}
use Rattle.std.specs.Prelude.{nat_le, nat_lt}
use Rattle.local_locks.proofs.WantedPlaces.{want_more}
use Rattle.local_locks.proofs.wanted.wanted_places.Goals as goal

pub loop-want-init : goal.loop-want-init
loop-want-init g c = λ place small. get_or-replicate 105 place false false small

pub loop-want-preserved : goal.loop-want-preserved
loop-want-preserved g c = λ place small.
    let from = c.places_of-first.result.0 in
    let to = c.places_of-first.result.1 in
    c.mark.ensures place small ∙ ap (λ b. b || (nat_le from place && nat_lt place to)) (c.loop-want.invariant place small)
    ∙ want_more c.args.wants.now c.loop-want.want-index place from to c.loop-want-test.true c.places_of-first.ensures.first c.places_of-first.ensures.end
