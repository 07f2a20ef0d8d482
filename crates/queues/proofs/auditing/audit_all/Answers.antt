use Rattle.std.proofs.Common.{◌≤◌, length, rules, arith}
use Rattle.std.proofs.lemmas.Option.{slice_get_within}
use Rattle.queues.specs.Audited.{PairInOrder, PairWhole}
use Rattle.queues.proofs.Audited.{both_true, one_more_taker}
use Rattle.queues.proofs.auditing.audit_all.Goals as goal

pub loop-taker-preserved : goal.loop-taker-preserved
loop-taker-preserved g c =
    let desks = c.args.desks.now.items in
    let now = c.loop-taker.desks.items in
    let taker = c.loop-taker.taker in
    let kept = c.loop-taker.invariant in
    let recorded = c.audit_one-got_all.ensures in
    record {
      same = search rules;
      in_order = one_more_taker PairInOrder desks now taker kept.same kept.in_order (λ s here. recorded.in_order s (search rules));
      whole = λ h. let both = both_true c.loop-taker.whole c.audit_one-got_all.result h in one_more_taker PairWhole desks now taker kept.same (kept.whole both.0) (λ s here. recorded.whole both.1 s (search rules));
    }

pub returns-clause-in_order : goal.returns-clause-in_order
returns-clause-in_order g c =
    let desks = c.args.desks.now.items in
    let all : length desks ≤ c.loop-taker.taker = search rules in
    λ taker sender mine other at there.
    let here = slice_get_within desks taker mine at in
    c.loop-taker.invariant.in_order taker sender (omega arith) (slice_get_within desks sender other there) mine other at there

pub returns-clause-whole : goal.returns-clause-whole
returns-clause-whole g c =
    let desks = c.args.desks.now.items in
    let all : length desks ≤ c.loop-taker.taker = search rules in
    λ whole taker sender mine other at there.
    let here = slice_get_within desks taker mine at in
    c.loop-taker.invariant.whole whole taker sender (omega arith) (slice_get_within desks sender other there) mine other at there
