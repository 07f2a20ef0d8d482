use Rattle.std.proofs.Common.{◌≡◌, arith, inl, true}
use Rattle.std.specs.Prelude.{slice_get}
use Rattle.world.specs.Happening.{can_admit}
use Rattle.world.proofs.Submitting.{can_ask, found, has_both, is_there, submits, unrefused}
use Rattle.world.proofs.world.Parts.submit.Goals as goal

pub admit-requires-clause-here : goal.admit-requires-clause-here
admit-requires-clause-here g c =
    let desks = c.args.self.now.desk.sessions.items in
    let desk = c.in-Some.desk.now in
    let looked = c.in-Some.ensures.lookup in
    can_ask (slice_get desks c.args.session) desk
    (found desks c.deref.result.now c.args.session desk c.deref.ensures.value looked.3.0 looked.1)
    (is_there desk.pass c.is_none.result c.is_none.ensures c.if-is_none.false)

pub returns-in-Err-admit : goal.returns-in-Err-admit
returns-in-Err-admit g c =
    let old = c.args.self.now in
    let asked = c.args.request.now in
    let desk = c.in-Some.desk.now in
    let looked = c.in-Some.ensures.lookup in
    let at = found old.desk.sessions.items c.deref.result.now c.args.session desk c.deref.ensures.value looked.3.0 looked.1 in
    let there = is_there desk.pass c.is_none.result c.is_none.ensures c.if-is_none.false in
    let none = unrefused desk asked old c.scale.result c.in_default-check.field-0 there c.scale.ensures c.in_default-check.ensures.first c.in-Some-first_free.ensures.room.1 in
    let can : can_admit c.args.has_room old ≡ true = has_both c.args.has_room old.desk.admitted 18446744073709551615 c.if-not-has_room.false (omega arith) in
    submits c.args.has_room (slice_get old.desk.sessions.items c.args.session) desk c.args.session c.args.number asked old c.refused-in-Err-admit.result c.admit.new.self true at none can
    (inl (c.refused-in-Err-admit.ensures, c.in-Err-admit.ensures.err))
