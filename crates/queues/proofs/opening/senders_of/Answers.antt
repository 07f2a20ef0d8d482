use Rattle.std.proofs.Common.{◌≡◌, ◌+◌, ◌<◌, ◌≤◌, [], length, refl, rules, arith}
use Rattle.std.proofs.lemmas.Option.{slice_get_read, slice_get_within}
use Rattle.queues.specs.Ends.{sending}
use Rattle.queues.proofs.Lists.{all_pushed}
use Rattle.queues.proofs.NewDesks.{done_set, left_set, taker_after, sender_made}
use Rattle.queues.proofs.opening.senders_of.Goals as goal

pub loop-inbox-preserved : goal.loop-inbox-preserved
loop-inbox-preserved g c =
    let inbox = g.J.InboxNames.inbox in
    let kept = c.loop-inbox.invariant in
    let k = c.loop-inbox.inbox in
    let low : k < length c.loop-inbox.takers.items = search rules in
    let at = slice_get_read c.loop-inbox.takers.items _ k c.index_mut.result.now refl low c.index_mut.ensures.value in
    let before = kept.left k _ at (omega arith) in
    let made = taker_after (inbox k) c.args.number c.index_mut.result.now c.sender.new.self before c.in_ok-sender.ensures.taker in
    let sender = sender_made (inbox k) c.args.number c.index_mut.result.now c.in_ok-sender.field-0 before c.in_ok-sender.ensures.sender in
    record {
      takers = search rules;
      done = done_set inbox (c.args.number + 1) k c.loop-inbox.takers.items c.sender.new.self kept.done made;
      left = left_set inbox c.args.number k c.loop-inbox.takers.items c.sender.new.self kept.left;
      senders = search rules;
      each = all_pushed (λ k s. s ≡ sending (inbox k) c.args.number []) c.loop-inbox.senders.items c.push.new.self.items c.in_ok-sender.field-0 k c.in_ok-push.ensures.items kept.senders kept.each sender;
    }

pub returns-clause-takers : goal.returns-clause-takers
returns-clause-takers g c =
    let kept = c.loop-inbox.invariant in
    let past = c.loop-inbox-test.false in
    let all : length c.loop-inbox.takers.items ≤ c.loop-inbox.inbox = search rules in
    record { count = kept.takers; each = λ k t e. let within = slice_get_within c.loop-inbox.takers.items k t e in kept.done k t e (omega arith) }
