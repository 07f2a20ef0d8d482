use Rattle.std.proofs.Common.{◌+◌, ◌-◌, ◌^◌, ◌<◌, List, Option, length, ap, sym, subst, ◌∙◌, arith}
use Rattle.atomic_table.specs.Table.{Me}
use Rattle.rendezvous.specs.Stages.{RoundView}
use Rattle.rendezvous.specs.declared.rule.Anything.{Anything}
use Rattle.rendezvous.specs.Hands.{IsInHand}
use Rattle.rendezvous.proofs.Hands.{first_in_hand, next_in_hand}
use Rattle.rendezvous.proofs.SharedPlaces.{at_own}
use Rattle.rendezvous.proofs.sole.SoleResults.next.Goals as goal

pub take-own-requires-clause-first : goal.take-own-requires-clause-first
take-own-requires-clause-first g c = first_in_hand _ c.self.inside.next c.self.inside.left c.self.inside.seat.me.1 c.self.invariant.results.hand (omega (arith, c.if-self-eq0.false))

pub invariant_of-self : goal.invariant_of-self
invariant_of-self g c =
    let hand = ap (λ (m : Me (Option g.row.R.Denot) (RoundView Anything g.row.R.Denot)). m.1) c.take-own.ensures.left in
    let view = ap (λ (m : Me (Option g.row.R.Denot) (RoundView Anything g.row.R.Denot)). m.0) c.take-own.ensures.left in
    let goes = next_in_hand _ c.self.inside.next c.self.inside.left c.self.inside.seat.me.1 c.take-own.new.seat.me.1 c.take-own.result c.self.invariant.results.hand (omega (arith, c.if-self-eq0.false)) c.take-own.ensures.taken hand in
    record {
      at = c.take-own.ensures.seat;
      slots = c.self.invariant.slots;
      results = record {
        at = at_own _ c.take-own.new.seat c.take-own.ensures.seat;
        convenes = ap (λ (v : RoundView Anything g.row.R.Denot). v.convenes) view ∙ c.self.invariant.results.convenes;
        fits_word = subst (λ (v : RoundView Anything g.row.R.Denot). v.size < 2 ^ 64) (sym view) c.self.invariant.results.fits_word;
        hand = subst (λ (v : RoundView Anything g.row.R.Denot). IsInHand v.size (c.self.inside.next + 1) (c.self.inside.left - 1) c.take-own.new.seat.me.1) (sym view) goes.0;
      };
    }

pub returns-clause-results : goal.returns-clause-results
returns-clause-results g c =
    let hand = ap (λ (m : Me (Option g.row.R.Denot) (RoundView Anything g.row.R.Denot)). m.1) c.take-own.ensures.left in
    let goes = next_in_hand _ c.self.inside.next c.self.inside.left c.self.inside.seat.me.1 c.take-own.new.seat.me.1 c.take-own.result c.self.invariant.results.hand (omega (arith, c.if-self-eq0.false)) c.take-own.ensures.taken hand in
    sym c.self.view_is ∙ goes.1

pub returns-clause-some : goal.returns-clause-some
returns-clause-some g c =
    let hand = ap (λ (m : Me (Option g.row.R.Denot) (RoundView Anything g.row.R.Denot)). m.1) c.take-own.ensures.left in
    let goes = next_in_hand _ c.self.inside.next c.self.inside.left c.self.inside.seat.me.1 c.take-own.new.seat.me.1 c.take-own.result c.self.invariant.results.hand (omega (arith, c.if-self-eq0.false)) c.take-own.ensures.taken hand in
    let long = ap (λ (l : List g.row.R.Denot). length l) c.self.view_is in
    (λ _. omega (arith, long, c.self.invariant.results.hand.count, c.if-self-eq0.false), λ _. goes.2)
