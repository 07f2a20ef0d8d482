use Rattle.std.proofs.Common.{rules, arith}
use Rattle.queues.specs.Audited.{PairInOrder, PairWhole}
use Rattle.queues.proofs.Audited.{both_true, one_more_sender}
use Rattle.queues.proofs.auditing.audit_one.Goals as goal

pub loop-sender-preserved : goal.loop-sender-preserved
loop-sender-preserved g c =
    let desks = c.args.desks.now.items in
    let now = c.loop-sender.desks.items in
    let sender = c.loop-sender.sender in
    let kept = c.loop-sender.invariant in
    let recorded = c.audit_pair-got_all.ensures in
    record {
      same = search rules;
      in_order = one_more_sender PairInOrder desks now c.args.taker sender kept.same kept.in_order recorded.in_order;
      whole = λ h. let both = both_true c.loop-sender.whole c.audit_pair-got_all.result h in one_more_sender PairWhole desks now c.args.taker sender kept.same (kept.whole both.0) (recorded.whole both.1);
    }

pub returns-clause-in_order : goal.returns-clause-in_order
returns-clause-in_order g c =
    let past = c.loop-sender-test.false in
    let long = c.len-sender-end.ensures in
    λ sender low. c.loop-sender.invariant.in_order sender (omega arith)
