use Rattle.std.proofs.Common.{ℕ, arith, subst, sym}
use Rattle.partitions.specs.Parts.{shared_of}
use Rattle.world.specs.declared.flight.Outgoing.TheVariants as outgoing
use Rattle.world.specs.Events.{SendsItem}
use Rattle.world.proofs.Steps.{can_post, can_post_item, can_send_item}
use Rattle.world.proofs.world.Core.send_item.Goals as goal

pub send_item-answer-requires-clause-no_push : goal.send_item-answer-requires-clause-no_push
send_item-answer-requires-clause-no_push g c = (can_post (shared_of g.J.LogNames.opening) c.args.executor (outgoing.Item c.args.item) c.args.self.now c.requires.sending).1

pub send_item-answer-requires-clause-can : goal.send_item-answer-requires-clause-can
send_item-answer-requires-clause-can g c = can_send_item g.J.LogNames.opening c.args.executor c.args.item c.args.self.now c.requires.sending

pub post_all-requires-clause-homes : goal.post_all-requires-clause-homes
post_all-requires-clause-homes g c =
    (can_post_item g.J.LogNames.most (shared_of g.J.LogNames.opening) c.args.executor c.args.item c.args.self.now c.requires.sending c.send_item-answer.result c.send_item-answer.new.self c.send_item-answer.ensures.sends).0

pub post_all-requires-clause-room : goal.post_all-requires-clause-room
post_all-requires-clause-room g c =
    let more = can_post_item g.J.LogNames.most (shared_of g.J.LogNames.opening) c.args.executor c.args.item c.args.self.now c.requires.sending c.send_item-answer.result c.send_item-answer.new.self c.send_item-answer.ensures.sends in
    omega (arith, more.1)

pub returns : goal.returns
returns g c =
    let old = c.args.self.now in
    let sends = subst (λ (n : ℕ). SendsItem n c.args.item old.parts c.send_item-answer.result c.send_item-answer.new.self) (sym c.requires.limit) c.send_item-answer.ensures.sends in
    (c.send_item-answer.new.self, (sends, c.post_all.ensures))
