use Rattle.std.proofs.Common.{◌≡◌, length, subst, arith}
use Rattle.consistency.proofs.FirstBroken.{HoldBelow, none_below, one_place_more, all_met, first_broken_at, twelve}
use Rattle.consistency.proofs.breaks.first_broken.Goals as goal

pub loop-place-init : goal.loop-place-init
loop-place-init c = none_below c.args.tables.now

pub loop-place-preserved : goal.loop-place-preserved
loop-place-preserved c =
    let exact = c.in_ok-answers.ensures in
    let many : length c.in_ok-answers.answers ≡ 12 = twelve c.args.tables.now c.in_ok-answers.answers exact in
    one_place_more c.args.tables.now c.in_ok-answers.answers c.loop-place.place exact (omega arith) c.else-not-holds.either c.loop-place.invariant

pub returns-then-place-ne-FRESH_ORDERS : goal.returns-then-place-ne-FRESH_ORDERS
returns-then-place-ne-FRESH_ORDERS c =
    let exact = c.in_ok-answers.ensures in
    let many : length c.in_ok-answers.answers ≡ 12 = twelve c.args.tables.now c.in_ok-answers.answers exact in
    first_broken_at c.args.tables.now c.in_ok-answers.answers c.loop-place.place exact (omega arith) c.loop-place-test.true
    c.if-not-holds.true c.if-place-ne-FRESH_ORDERS.true c.loop-place.invariant

pub returns : goal.returns
returns c =
    let ended : c.loop-place.place ≡ 12 = omega arith in
    all_met c.args.tables.now (subst (HoldBelow c.args.tables.now) ended c.loop-place.invariant)
