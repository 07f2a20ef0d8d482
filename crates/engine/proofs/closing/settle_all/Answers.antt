use Rattle.std.proofs.Common.{List, ℕ, ◌+◌, ◌∙◌, subst}
use Rattle.machine.specs.Machine.{tables_after}
use Rattle.commit_log.specs.declared.entry.Entry.{Entry}
use Rattle.commit_log.specs.Log.{requests_of}
use Rattle.engine.specs.Closing.{IsSettledAt}
use Rattle.engine.proofs.Sessions.{one_longer}
use Rattle.engine.proofs.Settled.{settled_more}
use Rattle.engine.proofs.closing.settle_all.Goals as goal

pub loop-place-preserved : goal.loop-place-preserved
loop-place-preserved g c =
    let opening = g.J.LogNames.opening in
    let known = c.loop-place.invariant in
    let place = c.loop-place.place in
    let before = c.loop-place.slices.items in
    let after = c.put.new.items.items in
    let s = c.in-Some-2.slice in
    let settled = rw c.in-Some-2.is at c.in_ok-slice.ensures.settled in
    let there = subst (λ (home : ℕ). IsSettledAt opening (tables_after opening (requests_of c.loop-place.log)) home s) c.in-Some.ensures.home_is settled in
    let here = subst (λ (l : List Entry). IsSettledAt opening (tables_after opening (requests_of l)) (place + 1) s) known.same there in
    let last = tables_after opening (requests_of c.args.log.now) in
    record {
      many = one_longer before after s place known.many c.in_ok-put.ensures;
      each = settled_more opening last before after place s known.each known.many here c.in_ok-put.ensures;
      same = c.in_ok-slice.ensures.same ∙ known.same;
    }
