use Rattle.std.proofs.Common.{map, ap, ◌∙◌, subst}
use Rattle.tickets.specs.LogSeats.{after_one}
use Rattle.tickets.specs.Places.{IsGroupOf, place_of}
use Rattle.tickets.proofs.OnePlace.{group_at, settled_seats}
use Rattle.tickets.proofs.log_seats.LogSeats.settle.Goals as goal

pub returns-clause-contents : goal.returns-clause-contents
returns-clause-contents g c =
    let seats = c.self.inside.seats.items in
    let claim = c.args.claim.now in
    let group = ap (λ k. k.group) c.claim.view_is in
    let known = subst (IsGroupOf g.J.GroupNames.warehouses) group c.claim.invariant.1 in
    let place = c.place_of-place.ensures ∙ ap place_of group in
    let at = group_at g.J.GroupNames.warehouses seats claim.group c.place_of-place.result c.index_mut.result.now c.self.invariant known place c.index_mut.ensures.value in
    settled_seats g.J.GroupNames.warehouses seats claim c.index_mut.result.now c.settle.new.self c.place_of-place.result c.self.invariant at.0 place at.1 c.index_mut.ensures.value c.settle.ensures.content
    ∙ ap (map (after_one claim)) c.self.view_is
