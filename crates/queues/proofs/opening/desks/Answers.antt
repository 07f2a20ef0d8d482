use Rattle.std.proofs.Common.{◌≡◌, [], ◌∷◌, length, ap, rules, arith, length-append}
use Rattle.queues.specs.Ends.{taking}
use Rattle.queues.specs.Desks.{AreSendersOf, new_desk}
use Rattle.queues.proofs.Lists.{all_pushed, length_pushed, all_next, found}
use Rattle.queues.proofs.NewDesks.{new_is_desk, new_desk_is}
use Rattle.queues.proofs.opening.desks.Goals as goal

pub loop-number-preserved : goal.loop-number-preserved
loop-number-preserved g c =
    let kept = c.loop-number.invariant in
    let made = c.in_ok-senders_of.ensures in
    record {
      takers = made.takers;
      count = search rules;
      rows = all_pushed (λ k row. AreSendersOf g.J.InboxNames.inboxes g.J.InboxNames.inbox k row.items) c.loop-number.all.items c.push_back.new.self.items c.in_ok-senders_of.field-0 c.loop-number.number
          c.in_ok-push_back.ensures.items kept.count kept.rows made.senders;
    }

pub invariant_of-push : goal.invariant_of-push
invariant_of-push g c =
    let kept = c.loop-taker.invariant in
    let taker = all_next (λ k t. t ≡ taking (g.J.InboxNames.inbox k) g.J.InboxNames.inboxes []) _ _ _ _ c.in-Some.ensures.steps.0 kept.takers in
    let row = all_next (λ k row. AreSendersOf g.J.InboxNames.inboxes g.J.InboxNames.inbox k row.items) _ _ _ _ c.in-Some-pop_front.ensures.items kept.rows in
    let long = ap length c.in-Some.ensures.steps.0 in
    let left = kept.left in
    new_is_desk _ _ _ _ _ (omega arith) row.0 taker.0

pub loop-taker-preserved : goal.loop-taker-preserved
loop-taker-preserved g c =
    let inboxes = g.J.InboxNames.inboxes in
    let kept = c.loop-taker.invariant in
    let taker = all_next (λ k t. t ≡ taking (g.J.InboxNames.inbox k) inboxes []) _ _ _ _ c.in-Some.ensures.steps.0 kept.takers in
    let row = all_next (λ k row. AreSendersOf inboxes g.J.InboxNames.inbox k row.items) _ _ _ _ c.in-Some-pop_front.ensures.items kept.rows in
    let takers_long = ap length c.in-Some.ensures.steps.0 in
    let rows_long = ap length c.in-Some-pop_front.ensures.items in
    let left = kept.left in
    let count = kept.count in
    let number = kept.number in
    let pushed = c.in_ok-push.ensures.items in
    record {
      can = tt;
      finite = tt;
      number = omega (arith, length-append c.loop-taker.yielded (c.in-Some.taker ∷ []), number);
      takers = taker.1;
      left = omega arith;
      count = omega arith;
      rows = row.1;
      desks = length_pushed c.loop-taker.desks.items c.push.new.self.items _ c.loop-taker.number pushed kept.desks;
      each = all_pushed (λ k desk. desk ≡ new_desk inboxes k) c.loop-taker.desks.items c.push.new.self.items _ c.loop-taker.number pushed kept.desks kept.each
          (new_desk_is inboxes g.J.InboxNames.inbox c.loop-taker.number c.in-Some-pop_front.senders.items c.in-Some.taker row.0 taker.0);
    }

pub returns-clause-each : goal.returns-clause-each
returns-clause-each g c =
    let kept = c.loop-taker.invariant in
    let all : length c.loop-taker.desks.items ≡ g.J.InboxNames.inboxes = search rules in
    λ number low. found (new_desk g.J.InboxNames.inboxes) c.loop-taker.desks.items number _ all kept.each low
