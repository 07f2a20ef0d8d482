use Rattle.std.proofs.Common.{◌≡◌, ◌∷◌, ◌++◌, [], List, ap, arith, length, length-append, refl, subst, ◌∙◌}
use Rattle.std.specs.Prelude.{All, slice_set}
use Rattle.std.proofs.lemmas.List.{length-set, get_or-set_same}
use Rattle.std.proofs.lemmas.List.Elements.{All-tail}
use Rattle.world.specs.declared.flight.Item.{Item}
use Rattle.world.specs.declared.flight.Outgoing.{Outgoing}
use Rattle.world.specs.Happening.{bringing}
use Rattle.world.specs.Envelopes.{HasHomeIn, outgoing_by}
use Rattle.world.specs.Queues.{put_into, queue_of}
use Rattle.world.proofs.Rounds.{bring_one}
use Rattle.world.proofs.world.Core.post_all.Goals as goal

pub loop-item-preserved : goal.loop-item-preserved
loop-item-preserved g c =
    let old = c.loop-item.self in
    let e = c.args.executor in
    let i = c.in-Some.item in
    let rest = c.take.new.self in
    let first : old.parts.outbox ≡ i ∷ rest = c.in-Some.ensures.first in
    let one : List (Outgoing g.row.J.Denot) = outgoing_by old.placements i ∷ [] in
    let there = c.loop-item.invariant.there in
    let put : c.put.new.self ≡ put_into e one old.outboxes =
    c.put.ensures ∙ ap (λ (p : Outgoing g.row.J.Denot). slice_set old.outboxes e (queue_of e old.outboxes ++ p ∷ [])) c.outgoing_by-outgoing.ensures in
    let queue : queue_of e c.put.new.self ≡ queue_of e old.outboxes ++ one =
    ap (λ (qs : List (List (Outgoing g.row.J.Denot))). queue_of e qs) put ∙ get_or-set_same old.outboxes e (queue_of e old.outboxes ++ one) [] there in
    record {
      executor = refl;
      there = omega (arith, there, ap (λ (qs : List (List (Outgoing g.row.J.Denot))). length qs) put, length-set old.outboxes e (queue_of e old.outboxes ++ one));
      homes = All-tail HasHomeIn i rest (subst (λ (items : List (Item g.row.J.Denot)). All HasHomeIn items) first c.loop-item.invariant.homes);
      room = omega (arith, c.loop-item.invariant.room, ap (λ (items : List (Item g.row.J.Denot)). length items) first, ap (λ (q : List (Outgoing g.row.J.Denot)). length q) queue, length-append (queue_of e old.outboxes) one);
      whole = (λ k. bringing e (record old.parts { outbox = rest }) (record old { parts = record old.parts { outbox = rest }; outboxes = put k })) ∙ bring_one e i rest old there first ∙ c.loop-item.invariant.whole;
    }
