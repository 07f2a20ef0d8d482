use Rattle.std.proofs.Common.{◌≡◌, ◌<◌, ◌+◌, ◌-◌, suc, ◌∷◌, ◌++◌, [], ℕ, List, Option, ap, arith, length, length-append, refl, subst, sym, ◌∙◌}
use Rattle.std.specs.Prelude.{slice_set}
use Rattle.std.proofs.lemmas.List.{length-set, get_or-set_same}
use Rattle.partitions.specs.Parts.{shared_of}
use Rattle.range_moves.specs.declared.order.Moving.TheVariants as moving
use Rattle.range_moves.specs.Placements.{PlacementsView, fetched_from, placement_moved, placement_of, place_of, with_placement}
use Rattle.range_moves.specs.Orders.{IsWithin, size_of}
use Rattle.range_moves.proofs.Knowing.{placements_same}
use Rattle.world.specs.declared.flight.Load.TheVariants.{Move}
use Rattle.world.specs.declared.flight.Outgoing.{Outgoing}
use Rattle.world.specs.Happening.{placements_begun, outgoing_for, posting, posts_begun}
use Rattle.world.specs.Queues.{put_into, queue_of}
use Rattle.world.proofs.Rounds.{begin_one}
use Rattle.world.proofs.Steps.{can_begin, can_open}
use Rattle.world.proofs.world.Core.begin_move.Goals as goal
use Rattle.world.proofs.world.Core.begin_move.Goals.{in-None, in-Some}

pub size-before-end-requires-clause-first : goal.size-before-end-requires-clause-first
size-before-end-requires-clause-first g c = (can_begin (shared_of g.J.LogNames.opening) c.args.executor c.args.order.now c.args.self.now c.requires).first

pub size-before-end-requires-clause-some : goal.size-before-end-requires-clause-some
size-before-end-requires-clause-some g c = (can_begin (shared_of g.J.LogNames.opening) c.args.executor c.args.order.now c.args.self.now c.requires).some

pub loop-before-init : goal.loop-before-init
loop-before-init g c =
    let order = c.args.order.now in
    let self = c.args.self.now in
    let can = can_begin (shared_of g.J.LogNames.opening) c.args.executor order self c.requires in
    let opened = can_open (shared_of g.J.LogNames.opening) c.args.executor (Move (moving.Order order)) self c.requires in
    let all : size_of order - 0 ≡ size_of order = omega arith in
    let start : order.lo + 0 ≡ order.lo = omega arith in
    record {
      to = refl;
      within = can;
      there = opened.there;
      room = omega (arith, opened.room, can.first, can.some, can.last, opened.kept.many);
      whole = λ k. posting c.args.executor (posts_begun (all k) (start k) order.to self.placements) (record self { placements = placements_begun (all k) (start k) order.to self.placements });
    }

pub loop-before-preserved : goal.loop-before-preserved
loop-before-preserved g c =
    let order = c.args.order.now in
    let old = c.loop-before.self in
    let inv = c.loop-before.invariant in
    let e = c.args.executor in
    let to = order.to in
    let b = c.loop-before.before in
    let v = order.lo + b in
    let n = size_of order - (b + 1) in
    let more : b < size_of order = omega (arith, c.loop-before-test.true, c.size-before-end.ensures) in
    let next : PlacementsView = with_placement old.placements v (placement_moved (placement_of old.placements v) to) in
    let next_is : c.move_to.new.self ≡ next = c.move_to.ensures.placement in
    let one : Outgoing g.row.J.Denot = outgoing_for (fetched_from (place_of old.placements v) to) v to in
    let outgoing_is : c.match-move_to.outgoing ≡ one =
    elim c.match-move_to.branch [
      | in-None w ↦ w.outgoing-is ∙ ap (λ (o : Option ℕ). outgoing_for o v to) (sym w.in-None.is ∙ c.move_to.ensures.from)
      | in-Some w ↦ w.outgoing-is ∙ ap (λ (o : Option ℕ). outgoing_for o v to) (sym w.in-Some.is ∙ c.move_to.ensures.from)
    ] in
    let put : c.put.new.self ≡ put_into e (one ∷ []) old.outboxes = c.put.ensures ∙ ap (λ (p : Outgoing g.row.J.Denot). slice_set old.outboxes e (queue_of e old.outboxes ++ p ∷ [])) outgoing_is in
    let queue : queue_of e c.put.new.self ≡ queue_of e old.outboxes ++ one ∷ [] =
    ap (λ (qs : List (List (Outgoing g.row.J.Denot))). queue_of e qs) put ∙ get_or-set_same old.outboxes e (queue_of e old.outboxes ++ one ∷ []) [] inv.there in
    let v_is : order.lo + (b + 1) ≡ v + 1 = omega arith in
    let count : suc n ≡ size_of order - b = omega (arith, more) in
    record {
      to = refl;
      within = subst (λ (h : PlacementsView). IsWithin (length h.placements) h.executors order) (sym next_is)
          (subst (λ k. IsWithin k old.placements.executors order) (sym (placements_same old.placements v (placement_moved (placement_of old.placements v) to))) inv.within);
      there = omega (arith, inv.there, ap (λ (qs : List (List (Outgoing g.row.J.Denot))). length qs) put, length-set old.outboxes e (queue_of e old.outboxes ++ one ∷ []));
      room = omega (arith, inv.room, more, ap (λ (q : List (Outgoing g.row.J.Denot)). length q) queue, length-append (queue_of e old.outboxes) (one ∷ []));
      whole = (λ k. posting e (posts_begun n (v_is k) to (next_is k)) (record old { placements = placements_begun n (v_is k) to (next_is k); outboxes = put k }))
          ∙ begin_one e n v to old inv.there
          ∙ (λ k. posting e (posts_begun (count k) v to old.placements) (record old { placements = placements_begun (count k) v to old.placements }))
          ∙ inv.whole;
    }
