use Rattle.std.proofs.Common.{sym, arith}
use Rattle.rendezvous.proofs.SolePlaces.{of_round, seen_of, waits_there, sits_there, slot_is, slot_empty, last_is, kept_is, round_kept, last_has}
use Rattle.rendezvous.proofs.sole.SoleMeeting.report.Goals as goal

pub sit-requires-clause-waits : goal.sit-requires-clause-waits
sit-requires-clause-waits g c =
    waits_there _ _ _ c.in-Some.round.seat c.args.place c.args.self.now (of_round _ _ _ (sym c.in-Some.ensures.value) c.self.invariant) (seen_of _ _ _ _ (sym c.in-Some.ensures.value) c.self.view_is) c.requires

pub tell-awaited-requires-clause-sits : goal.tell-awaited-requires-clause-sits
tell-awaited-requires-clause-sits g c =
    sits_there _ _ _ c.in-Some.round.seat c.args.place c.args.own c.args.self.now c.sit.new.seat.me (of_round _ _ _ (sym c.in-Some.ensures.value) c.self.invariant) (seen_of _ _ _ _ (sym c.in-Some.ensures.value) c.self.view_is) c.requires c.sit.ensures.sits

pub tell-awaited-requires-clause-slot : goal.tell-awaited-requires-clause-slot
tell-awaited-requires-clause-slot g c =
    slot_is _ _ _ c.in-Some.round.seat c.args.place c.args.own c.args.self.now c.sit.new.seat.me (of_round _ _ _ (sym c.in-Some.ensures.value) c.self.invariant) (seen_of _ _ _ _ (sym c.in-Some.ensures.value) c.self.view_is) c.requires c.sit.ensures.sits

pub tell-awaited-requires-clause-empty : goal.tell-awaited-requires-clause-empty
tell-awaited-requires-clause-empty g c =
    slot_empty _ _ _ c.in-Some.round.seat c.args.place c.args.own c.args.self.now c.sit.new.seat.me (of_round _ _ _ (sym c.in-Some.ensures.value) c.self.invariant) (seen_of _ _ _ _ (sym c.in-Some.ensures.value) c.self.view_is) c.requires c.sit.ensures.sits

pub invariant_of-self : goal.invariant_of-self
invariant_of-self g c =
    round_kept _ _ _ c.in-Some.round.seat c.args.place c.args.own c.args.self.now c.sit.new.seat.me (of_round _ _ _ (sym c.in-Some.ensures.value) c.self.invariant) (seen_of _ _ _ _ (sym c.in-Some.ensures.value) c.self.view_is) c.requires c.sit.ensures.sits
    _ c.tell-awaited.result c.tell-awaited.new.seat c.tell-awaited.ensures.reported (λ one. omega (arith, c.if-awaited-ne1.true, one)) c.tell-awaited.ensures.seat

pub returns-then-awaited-ne1-clause-last : goal.returns-then-awaited-ne1-clause-last
returns-then-awaited-ne1-clause-last g c =
    let last = last_is _ _ _ c.in-Some.round.seat c.args.place c.args.own c.args.self.now c.sit.new.seat.me (of_round _ _ _ (sym c.in-Some.ensures.value) c.self.invariant) (seen_of _ _ _ _ (sym c.in-Some.ensures.value) c.self.view_is) c.requires c.sit.ensures.sits
    _ c.tell-awaited.result c.tell-awaited.new.seat c.tell-awaited.ensures.reported in
    (λ never. absurd never, λ none_left. let one = last.1 none_left in absurd (omega (arith, c.if-awaited-ne1.true, one)))

pub returns-then-awaited-ne1-clause-meeting : goal.returns-then-awaited-ne1-clause-meeting
returns-then-awaited-ne1-clause-meeting g c =
    kept_is _ _ _ c.in-Some.round.seat c.args.place c.args.own c.args.self.now c.sit.new.seat.me (of_round _ _ _ (sym c.in-Some.ensures.value) c.self.invariant) (seen_of _ _ _ _ (sym c.in-Some.ensures.value) c.self.view_is) c.requires c.sit.ensures.sits
    _ c.tell-awaited.result c.tell-awaited.new.seat c.tell-awaited.ensures.reported (λ one. omega (arith, c.if-awaited-ne1.true, one))

pub invariant_of-result : goal.invariant_of-result
invariant_of-result g c =
    (last_has _ _ _ c.in-Some.round.seat c.args.place c.args.own c.args.self.now c.sit.new.seat.me (of_round _ _ _ (sym c.in-Some.ensures.value) c.self.invariant) (seen_of _ _ _ _ (sym c.in-Some.ensures.value) c.self.view_is) c.requires c.sit.ensures.sits
    _ c.tell-awaited.result c.tell-awaited.new.seat c.tell-awaited.ensures.reported (omega (arith, c.if-awaited-ne1.false)) c.tell-awaited.ensures.seat).0

pub returns-clause-last : goal.returns-clause-last
returns-clause-last g c =
    let last = last_is _ _ _ c.in-Some.round.seat c.args.place c.args.own c.args.self.now c.sit.new.seat.me (of_round _ _ _ (sym c.in-Some.ensures.value) c.self.invariant) (seen_of _ _ _ _ (sym c.in-Some.ensures.value) c.self.view_is) c.requires c.sit.ensures.sits
    _ c.tell-awaited.result c.tell-awaited.new.seat c.tell-awaited.ensures.reported in
    (λ _. last.0 (omega (arith, c.if-awaited-ne1.false)), λ _. tt)

pub returns-clause-results : goal.returns-clause-results
returns-clause-results g c =
    (last_has _ _ _ c.in-Some.round.seat c.args.place c.args.own c.args.self.now c.sit.new.seat.me (of_round _ _ _ (sym c.in-Some.ensures.value) c.self.invariant) (seen_of _ _ _ _ (sym c.in-Some.ensures.value) c.self.view_is) c.requires c.sit.ensures.sits
    _ c.tell-awaited.result c.tell-awaited.new.seat c.tell-awaited.ensures.reported (omega (arith, c.if-awaited-ne1.false)) c.tell-awaited.ensures.seat).1
