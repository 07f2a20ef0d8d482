use Rattle.std.proofs.Common.{◌≡◌, List, Option, length, slice_get, ap, sym, subst, ◌∙◌, arith}
use Rattle.atomic_table.specs.Seated.{TableId}
use Rattle.atomic_table.specs.Table.{Me}
use Rattle.rendezvous.specs.Stages.{RoundView, took}
use Rattle.rendezvous.specs.Meetings.{PlaceView, receipt_view, receipt_of, first_stage, AllSuit}
use Rattle.rendezvous.proofs.SharedPlaces.{last_one, last_receipt, still_has}
use Rattle.rendezvous.proofs.meeting.Meeting.report.Goals as goal

pub invariant_of-results : goal.invariant_of-results
invariant_of-results g c = (still_has g.T.Topic.suits c.place.inside.places c.place.inside.number c.args.own c.place.inside.seat c.tell.result c.tell.new.seat.me c.place.invariant c.tell.ensures.reported (omega (arith, c.if-tell-ne1.false)) c.resign.new.seat _ c.resign.ensures.seat c.resign.ensures.left).0

pub returns-clause-all : goal.returns-clause-all
returns-clause-all g c =
    let last = last_one g.T.Topic.suits c.place.inside.places c.place.inside.number c.args.own c.place.inside.seat c.tell.result c.tell.new.seat.me c.place.invariant c.tell.ensures.reported (omega (arith, c.if-tell-ne1.false)) in
    let has = still_has g.T.Topic.suits c.place.inside.places c.place.inside.number c.args.own c.place.inside.seat c.tell.result c.tell.new.seat.me c.place.invariant c.tell.ensures.reported (omega (arith, c.if-tell-ne1.false)) c.resign.new.seat _ c.resign.ensures.seat c.resign.ensures.left in
    ap length has.1 ∙ last.2 ∙ sym c.place.invariant.size ∙ ap (λ (p : PlaceView g.row.T.Denot). p.of_round.places) c.place.view_is

pub returns-clause-own : goal.returns-clause-own
returns-clause-own g c =
    let last = last_one g.T.Topic.suits c.place.inside.places c.place.inside.number c.args.own c.place.inside.seat c.tell.result c.tell.new.seat.me c.place.invariant c.tell.ensures.reported (omega (arith, c.if-tell-ne1.false)) in
    let has = still_has g.T.Topic.suits c.place.inside.places c.place.inside.number c.args.own c.place.inside.seat c.tell.result c.tell.new.seat.me c.place.invariant c.tell.ensures.reported (omega (arith, c.if-tell-ne1.false)) c.resign.new.seat _ c.resign.ensures.seat c.resign.ensures.left in
    ap (λ (l : List g.row.R.Denot). slice_get l c.args.place.number) has.1 ∙ ap (λ (p : PlaceView g.row.T.Denot). slice_get last.0 p.number) (sym c.place.view_is) ∙ last.3

pub returns-clause-suit : goal.returns-clause-suit
returns-clause-suit g c = λ topic is.
    let last = last_one g.T.Topic.suits c.place.inside.places c.place.inside.number c.args.own c.place.inside.seat c.tell.result c.tell.new.seat.me c.place.invariant c.tell.ensures.reported (omega (arith, c.if-tell-ne1.false)) in
    let has = still_has g.T.Topic.suits c.place.inside.places c.place.inside.number c.args.own c.place.inside.seat c.tell.result c.tell.new.seat.me c.place.invariant c.tell.ensures.reported (omega (arith, c.if-tell-ne1.false)) c.resign.new.seat _ c.resign.ensures.seat c.resign.ensures.left in
    subst (λ (l : List g.row.R.Denot). AllSuit (g.T.Topic.suits topic) l) (sym has.1) (last.4 topic (ap (λ (p : PlaceView g.row.T.Denot). p.of_round.topic) c.place.view_is ∙ is))

pub returns-clause-last : goal.returns-clause-last
returns-clause-last g c =
    let last = last_one g.T.Topic.suits c.place.inside.places c.place.inside.number c.args.own c.place.inside.seat c.tell.result c.tell.new.seat.me c.place.invariant c.tell.ensures.reported (omega (arith, c.if-tell-ne1.false)) in
    let has = still_has g.T.Topic.suits c.place.inside.places c.place.inside.number c.args.own c.place.inside.seat c.tell.result c.tell.new.seat.me c.place.invariant c.tell.ensures.reported (omega (arith, c.if-tell-ne1.false)) c.resign.new.seat _ c.resign.ensures.seat c.resign.ensures.left in
    let me = last_receipt g.T.Topic.suits c.place.inside.places c.place.inside.number c.args.own c.place.inside.seat c.tell.result c.tell.new.seat.me c.place.invariant c.tell.ensures.reported (omega (arith, c.if-tell-ne1.false)) c.resign.result c.resign.ensures.part in
    let table : c.resign.result.table_id ≡ c.place.inside.seat.table_id = c.resign.ensures.new_seat.at_table ∙ c.self.view_is ∙ sym c.requires.here ∙ ap (λ (p : PlaceView g.row.T.Denot). p.of_round.meeting) (sym c.place.view_is) in
    ap (λ (t : TableId). receipt_view t c.resign.result.me.0.round c.resign.result.me.0.size c.resign.result.me.0.from (first_stage c.resign.result.me.0.stages)) table
    ∙ ap (λ (m : Me (Option g.row.R.Denot) (RoundView g.row.T.Denot g.row.R.Denot)). receipt_view c.place.inside.seat.table_id m.0.round m.0.size m.0.from (first_stage m.0.stages)) me
    ∙ ap (λ (p : PlaceView g.row.T.Denot). receipt_of p (took c.args.own last.0)) c.place.view_is
    ∙ ap (λ (l : List g.row.R.Denot). receipt_of c.args.place (took c.args.own l)) (sym has.1)
