use Rattle.std.proofs.Common.{List, length, ◌∷◌, [], sym, ap, ◌∙◌, subst, arith, true≢false}
use Rattle.std.proofs.lemmas.List.{append-nil, length-map}
use Rattle.atomic_table.specs.Seated.{TableId}
use Rattle.rendezvous.specs.Seats.{IsAt}
use Rattle.rendezvous.specs.Rule.{awaited}
use Rattle.rendezvous.specs.Stages.{Stage}
use Rattle.rendezvous.specs.Meetings.{stage_of}
use Rattle.rendezvous.proofs.SharedPlaces.{comes_before, first_taken, is_after, some_place, taken_in, one_more, all_taken, settled}
use Rattle.rendezvous.proofs.meeting.Meeting.compare.Goals as goal

pub unreachable-requires : goal.unreachable-requires
unreachable-requires g c = absurd (true≢false (sym (c.in_default.ensures.variant.1 (omega (arith, c.requires.some)))))

pub loop-receipt-init : goal.loop-receipt-init
loop-receipt-init g c =
    let r = c.in-Some.last in
    let comes = comes_before c.args.self.now c.args.round _ c.args.receipts.items c.args.receipts.items c.pop.new.self.items [] r c.requires.all c.in-Some.ensures.items (sym (append-nil c.args.receipts.items)) in (
      r ∷ [],
      comes.5,
      first_taken r _ _ _ c.into_seat-seat.result.me c.into_seat-seat.ensures.one comes.1 comes.2 comes.3,
      c.into_seat-seat.ensures.reported,
      subst (λ (t : TableId). IsAt t c.into_seat-seat.result) comes.0 c.into_seat-seat.ensures.seat,
    )

pub gather-requires-clause-seat : goal.gather-requires-clause-seat
gather-requires-clause-seat g c =
    let r = c.in-Some-pop.receipt in
    let taken = c.loop-receipt.invariant.0 in
    let comes = comes_before c.args.self.now c.args.round _ c.args.receipts.items c.loop-receipt.receipts.items c.pop-in-loop-receipt.new.self.items taken r c.requires.all c.in-Some-pop.ensures.items c.loop-receipt.invariant.1 in
    subst (λ (t : TableId). IsAt t c.into_seat-before.result) (comes.0 ∙ sym c.self.view_is) c.into_seat-before.ensures.seat

pub gather-requires-clause-round : goal.gather-requires-clause-round
gather-requires-clause-round g c =
    let r = c.in-Some-pop.receipt in
    let taken = c.loop-receipt.invariant.0 in
    let comes = comes_before c.args.self.now c.args.round _ c.args.receipts.items c.loop-receipt.receipts.items c.pop-in-loop-receipt.new.self.items taken r c.requires.all c.in-Some-pop.ensures.items c.loop-receipt.invariant.1 in
    c.loop-receipt.invariant.2.is_round ∙ sym comes.1 ∙ sym c.into_seat-before.ensures.one.is_round

pub gather-requires-clause-after : goal.gather-requires-clause-after
gather-requires-clause-after g c =
    let r = c.in-Some-pop.receipt in
    let taken = c.loop-receipt.invariant.0 in
    let comes = comes_before c.args.self.now c.args.round _ c.args.receipts.items c.loop-receipt.receipts.items c.pop-in-loop-receipt.new.self.items taken r c.requires.all c.in-Some-pop.ensures.items c.loop-receipt.invariant.1 in
    is_after r _ _ _ _ c.into_seat-before.result.me c.loop-receipt.seat.me _ c.into_seat-before.ensures.one c.loop-receipt.invariant.2 comes.3 comes.4

pub gather-requires-clause-reported : goal.gather-requires-clause-reported
gather-requires-clause-reported g c = ap (λ (l : List (Stage g.row.R.Denot)). awaited l) c.into_seat-before.ensures.one.stages ∙ c.into_seat-before.ensures.reported

pub gather-requires-clause-others_reported : goal.gather-requires-clause-others_reported
gather-requires-clause-others_reported g c = ap (λ (l : List (Stage g.row.R.Denot)). awaited l) c.loop-receipt.invariant.2.stages ∙ c.loop-receipt.invariant.3

pub gather-requires-clause-some : goal.gather-requires-clause-some
gather-requires-clause-some g c = some_place c.in-Some-pop.receipt c.into_seat-before.result.me c.into_seat-before.ensures.one

pub loop-receipt-preserved : goal.loop-receipt-preserved
loop-receipt-preserved g c =
    let r = c.in-Some-pop.receipt in
    let taken = c.loop-receipt.invariant.0 in
    let comes = comes_before c.args.self.now c.args.round _ c.args.receipts.items c.loop-receipt.receipts.items c.pop-in-loop-receipt.new.self.items taken r c.requires.all c.in-Some-pop.ensures.items c.loop-receipt.invariant.1 in (
      r ∷ taken,
      comes.5,
      taken_in c.pop-in-loop-receipt.new.self.items taken r _ _ _ c.into_seat-before.result.me c.loop-receipt.seat.me c.gather.new.seat.me comes.1 comes.2 comes.3 c.into_seat-before.ensures.one c.loop-receipt.invariant.2 c.gather.ensures.both,
      one_more r taken c.into_seat-before.ensures.reported c.loop-receipt.invariant.3,
      subst (λ (t : TableId). IsAt t c.gather.new.seat) c.self.view_is c.gather.ensures.seat,
    )

pub look-requires-clause-whole : goal.look-requires-clause-whole
look-requires-clause-whole g c =
    let all = all_taken c.args.receipts.items c.loop-receipt.receipts.items c.loop-receipt.invariant.0 _ _ c.loop-receipt.seat.me c.loop-receipt.invariant.1 c.loop-receipt.invariant.2 c.loop-receipt.invariant.3 (λ any. true≢false (sym (c.in_default-pop.ensures.variant.1 (omega (arith, any, c.loop-receipt.receipts.ok))))) in
    (all.0.from, ap length all.0.stages ∙ length-map c.args.receipts.items stage_of ∙ sym all.0.size)

pub look-requires-clause-some : goal.look-requires-clause-some
look-requires-clause-some g c =
    let all = all_taken c.args.receipts.items c.loop-receipt.receipts.items c.loop-receipt.invariant.0 _ _ c.loop-receipt.seat.me c.loop-receipt.invariant.1 c.loop-receipt.invariant.2 c.loop-receipt.invariant.3 (λ any. true≢false (sym (c.in_default-pop.ensures.variant.1 (omega (arith, any, c.loop-receipt.receipts.ok))))) in
    omega (arith, ap length all.0.stages, length-map c.args.receipts.items (stage_of {R = g.row.R.Denot}), c.requires.some)

pub returns-clause-all : goal.returns-clause-all
returns-clause-all g c =
    let all = all_taken c.args.receipts.items c.loop-receipt.receipts.items c.loop-receipt.invariant.0 _ _ c.loop-receipt.seat.me c.loop-receipt.invariant.1 c.loop-receipt.invariant.2 c.loop-receipt.invariant.3 (λ any. true≢false (sym (c.in_default-pop.ensures.variant.1 (omega (arith, any, c.loop-receipt.receipts.ok))))) in
    (settled c.args.receipts.items _ _ c.loop-receipt.seat.me c.look.new.seat.me all.0 all.1 c.look.ensures.settled).1

pub returns-clause-one : goal.returns-clause-one
returns-clause-one g c =
    let all = all_taken c.args.receipts.items c.loop-receipt.receipts.items c.loop-receipt.invariant.0 _ _ c.loop-receipt.seat.me c.loop-receipt.invariant.1 c.loop-receipt.invariant.2 c.loop-receipt.invariant.3 (λ any. true≢false (sym (c.in_default-pop.ensures.variant.1 (omega (arith, any, c.loop-receipt.receipts.ok))))) in
    (settled c.args.receipts.items _ _ c.loop-receipt.seat.me c.look.new.seat.me all.0 all.1 c.look.ensures.settled).0
