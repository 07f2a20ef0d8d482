use Rattle.std.proofs.Common.{◌≡◌, ◌<◌, ◌∷◌, ◌++◌, [], true, false, List, ap, append-nil, arith, eq-eqb, ne_eqb, length, length-append, refl, sym, ◌∙◌}
use Rattle.std.proofs.lemmas.List.{length-set, get_or-set_same}
use Rattle.partitions.specs.Parts.{shared_of}
use Rattle.range_moves.specs.declared.order.Moving.TheVariants as moving
use Rattle.world.specs.declared.flight.Load.TheVariants.{Move, Work}
use Rattle.world.specs.declared.flight.Message.{Message}
use Rattle.world.specs.declared.flight.Outgoing.{Outgoing}
use Rattle.world.specs.declared.flight.Outgoing.TheVariants as outgoing
use Rattle.world.specs.declared.world.Core.{Core}
use Rattle.world.specs.Happening.{posting}
use Rattle.world.specs.Envelopes.{HasHome, home_of_message, is_at_home, envelope}
use Rattle.world.specs.Queues.{queue_of}
use Rattle.world.proofs.Rounds.{round_first, round_goes, round_stays, some_left}
use Rattle.world.proofs.Steps.{can_install, can_open, parked_homes}
use Rattle.world.proofs.world.Core.install.Goals as goal
use Rattle.world.proofs.world.Core.install.Goals.{else-home_of_message-w_id, then-home_of_message-w_id}

pub install-requires-clause-warehouse : goal.install-requires-clause-warehouse
install-requires-clause-warehouse g c = can_install (shared_of g.J.LogNames.opening) c.args.executor c.args.w_id c.args.self.now c.requires

pub put-requires : goal.put-requires
put-requires g c =
    let can = can_open (shared_of g.J.LogNames.opening) c.args.executor (Move (moving.Parcel c.args.w_id)) c.args.self.now c.requires in
    let room : length (queue_of c.args.executor c.args.self.now.outboxes) < 4096 = omega (arith, can.room) in
    (omega arith, (can.there, room))

pub loop-init : goal.loop-init
loop-init g c =
    let old = c.args.self.now in
    let e = c.args.executor in
    let can = can_open (shared_of g.J.LogNames.opening) e (Move (moving.Parcel c.args.w_id)) old c.requires in
    let one : List (Outgoing g.row.J.Denot) = outgoing.Arrived ∷ [] in
    let queue : queue_of e c.put.new.self ≡ queue_of e old.outboxes ++ one =
    ap (λ (qs : List (List (Outgoing g.row.J.Denot))). queue_of e qs) c.put.ensures ∙ get_or-set_same old.outboxes e (queue_of e old.outboxes ++ one) [] can.there in
    record {
      there = omega (arith, can.there, ap (λ (qs : List (List (Outgoing g.row.J.Denot))). length qs) c.put.ensures, length-set old.outboxes e (queue_of e old.outboxes ++ one));
      room = omega (arith, can.room, ap (λ (q : List (Outgoing g.row.J.Denot)). length q) queue, length-append (queue_of e old.outboxes) one);
      few = omega arith;
      round = ([], (old.parked, (refl, (refl, λ k. record old { placements = c.install.ensures k; parked = sym (append-nil old.parked) k; outboxes = c.put.ensures k }))));
    }

pub unreachable-requires : goal.unreachable-requires
unreachable-requires g c =
    omega (
      arith,
      some_left c.args.executor c.args.w_id c.loop.counter c.args.self.now c.loop.self c.loop.invariant.round (omega (arith, c.loop-test.true, c.len-end.ensures)),
      ap (λ (ms : List (Message g.row.J.Denot)). length ms) c.in_default.ensures.none.0,
    )

pub home_of_message-requires : goal.home_of_message-requires
home_of_message-requires g c =
    round_first HasHome c.args.executor c.args.w_id c.loop.counter c.args.self.now c.loop.self c.in-Some.message c.take.new.self c.loop.invariant.round (omega (arith, c.loop-test.true, c.len-end.ensures)) c.in-Some.ensures.first
    (parked_homes (shared_of g.J.LogNames.opening) c.args.executor (Move (moving.Parcel c.args.w_id)) c.args.self.now c.requires)

pub put-requires-else-home_of_message-w_id : goal.put-requires-else-home_of_message-w_id
put-requires-else-home_of_message-w_id g c =
    let can = can_open (shared_of g.J.LogNames.opening) c.args.executor (Move (moving.Parcel c.args.w_id)) c.args.self.now c.requires in
    let room : length c.take.new.self < 4096 = omega (arith, can.room, c.loop.invariant.few, ap (λ (ms : List (Message g.row.J.Denot)). length ms) c.in-Some.ensures.first) in
    (omega arith, room)

pub loop-preserved : goal.loop-preserved
loop-preserved g c =
    let old = c.args.self.now in
    let e = c.args.executor in
    let w_id = c.args.w_id in
    let now = c.loop.self in
    let inv = c.loop.invariant in
    let m = c.in-Some.message in
    let rest = c.take.new.self in
    let new = c.if-home_of_message-w_id.self in
    let first : now.parked ≡ m ∷ rest = c.in-Some.ensures.first in
    let fewer = ap (λ (ms : List (Message g.row.J.Denot)). length ms) first in
    let can = can_open (shared_of g.J.LogNames.opening) e (Move (moving.Parcel w_id)) old c.requires in
    let below : c.loop.counter < length old.parked = omega (arith, c.loop-test.true, c.len-end.ensures) in
    elim c.if-home_of_message-w_id.branch [
      | then-home_of_message-w_id w ↦
          let one : List (Outgoing g.row.J.Denot) = outgoing.Envelope (envelope e (Work m)) ∷ [] in
          let home : is_at_home w_id m ≡ true = eq-eqb (home_of_message m) w_id (sym c.home_of_message.ensures ∙ w.if-home_of_message-w_id.true) in
          let new_is : new ≡ posting e one (record now { parked = rest }) = w.self-is ∙ (λ k. record now { parked = rest; outboxes = w.put-then-home_of_message-w_id.ensures k }) in
          let queue : queue_of e new.outboxes ≡ queue_of e now.outboxes ++ one =
          ap (λ (v : Core g.row.J.Denot). queue_of e v.outboxes) new_is ∙ get_or-set_same now.outboxes e (queue_of e now.outboxes ++ one) [] inv.there in
          record {
            there = omega (arith, inv.there, ap (λ (v : Core g.row.J.Denot). length v.outboxes) new_is, length-set now.outboxes e (queue_of e now.outboxes ++ one));
            room = omega (arith, inv.room, below, ap (λ (q : List (Outgoing g.row.J.Denot)). length q) queue, length-append (queue_of e now.outboxes) one);
            few = omega (arith, inv.few, fewer, ap (λ (v : Core g.row.J.Denot). length v.parked) new_is);
            round = round_goes e w_id c.loop.counter old now new m rest inv.round can.there below first home new_is;
          }
      | else-home_of_message-w_id w ↦
          let home : is_at_home w_id m ≡ false = ne_eqb (home_of_message m) w_id (λ same. w.if-home_of_message-w_id.false (c.home_of_message.ensures ∙ same)) in
          let new_is : new ≡ record now { parked = rest ++ m ∷ [] } = w.self-is ∙ (λ k. record now { parked = w.put-else-home_of_message-w_id.ensures k }) in
          record {
            there = omega (arith, inv.there, ap (λ (v : Core g.row.J.Denot). length v.outboxes) new_is);
            room = omega (arith, inv.room, below, ap (λ (v : Core g.row.J.Denot). length (queue_of e v.outboxes)) new_is);
            few = omega (arith, inv.few, fewer, ap (λ (v : Core g.row.J.Denot). length v.parked) new_is, length-append rest (m ∷ []));
            round = round_stays e w_id c.loop.counter old now new m rest inv.round below first home new_is;
          }
    ]
