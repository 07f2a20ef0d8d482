use Rattle.std.proofs.Common.{◌+◌, ◌-◌, ◌^◌, ◌<◌, Option, length, ap, sym, subst, ◌∙◌, arith}
use Rattle.atomic_table.specs.Table.{Me}
use Rattle.rendezvous.specs.Stages.{RoundView}
use Rattle.rendezvous.specs.Meetings.{ResultsView}
use Rattle.rendezvous.specs.Hands.{IsInHand}
use Rattle.rendezvous.proofs.Hands.{first_in_hand, next_in_hand}
use Rattle.rendezvous.proofs.SharedPlaces.{at_own}
use Rattle.rendezvous.proofs.meeting.Meeting.next_result.Goals as goal

pub take-own-requires-clause-first : goal.take-own-requires-clause-first
take-own-requires-clause-first g c = first_in_hand _ c.results.inside.next c.results.inside.left c.results.inside.seat.me.1 c.results.invariant.hand (omega (arith, c.if-results-eq0.false))

pub overflow_add-results : goal.overflow_add-results
overflow_add-results g c = omega (arith, c.results.invariant.hand.all, c.results.invariant.fits_word, c.if-results-eq0.false, c.results.ranges)

pub invariant_of-results : goal.invariant_of-results
invariant_of-results g c =
    let hand = ap (λ (m : Me (Option g.row.R.Denot) (RoundView g.row.T.Denot g.row.R.Denot)). m.1) c.take-own.ensures.left in
    let view = ap (λ (m : Me (Option g.row.R.Denot) (RoundView g.row.T.Denot g.row.R.Denot)). m.0) c.take-own.ensures.left in
    let goes = next_in_hand _ c.results.inside.next c.results.inside.left c.results.inside.seat.me.1 c.take-own.new.seat.me.1 c.take-own.result c.results.invariant.hand (omega (arith, c.if-results-eq0.false)) c.take-own.ensures.taken hand in
    record {
      at = at_own _ c.take-own.new.seat c.take-own.ensures.seat;
      fits_word = subst (λ (v : RoundView g.row.T.Denot g.row.R.Denot). v.size < 2 ^ 64) (sym view) c.results.invariant.fits_word;
      convenes = ap (λ (v : RoundView g.row.T.Denot g.row.R.Denot). v.convenes) view ∙ c.results.invariant.convenes;
      hand = subst (λ (v : RoundView g.row.T.Denot g.row.R.Denot). IsInHand v.size (c.results.inside.next + 1) (c.results.inside.left - 1) c.take-own.new.seat.me.1) (sym view) goes.0;
    }

pub returns-clause-items : goal.returns-clause-items
returns-clause-items g c =
    let hand = ap (λ (m : Me (Option g.row.R.Denot) (RoundView g.row.T.Denot g.row.R.Denot)). m.1) c.take-own.ensures.left in
    let goes = next_in_hand _ c.results.inside.next c.results.inside.left c.results.inside.seat.me.1 c.take-own.new.seat.me.1 c.take-own.result c.results.invariant.hand (omega (arith, c.if-results-eq0.false)) c.take-own.ensures.taken hand in
    ap (λ (r : ResultsView g.row.R.Denot). r.items) (sym c.results.view_is) ∙ goes.1

pub returns-clause-some : goal.returns-clause-some
returns-clause-some g c =
    let hand = ap (λ (m : Me (Option g.row.R.Denot) (RoundView g.row.T.Denot g.row.R.Denot)). m.1) c.take-own.ensures.left in
    let goes = next_in_hand _ c.results.inside.next c.results.inside.left c.results.inside.seat.me.1 c.take-own.new.seat.me.1 c.take-own.result c.results.invariant.hand (omega (arith, c.if-results-eq0.false)) c.take-own.ensures.taken hand in
    let long = ap (λ (r : ResultsView g.row.R.Denot). length r.items) c.results.view_is in
    (λ _. omega (arith, long, c.results.invariant.hand.count, c.if-results-eq0.false), λ _. goes.2)
