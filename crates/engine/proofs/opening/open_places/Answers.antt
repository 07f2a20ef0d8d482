use Rattle.std.proofs.Common.{List, [], ◌∷◌, ◌++◌, Some, slice_get, refl, sym, ap, subst, ◌∙◌, arith}
use Rattle.std.specs.Prelude.{All}
use Rattle.std.specs.Vec.Iter.{into_iter_items}
use Rattle.std.proofs.lemmas.List.Elements.{All-push}
use Rattle.schema.proofs.RowReads.{copied_item}
use Rattle.requests.specs.declared.script.Part.{Part}
use Rattle.commit_log.specs.PassView.{PassView, SessionSeatView}
use Rattle.engine.specs.Interactive.{HasAskedNothing}
use Rattle.engine.specs.Sessions.{AreNewFrom}
use Rattle.engine.proofs.Sessions.{new_next}
use Rattle.engine.proofs.opening.open_places.Goals as goal
use Rattle.engine.proofs.opening.open_places.Goals.{in-Some-get+in_ok-ready-in-Some-get, in-None+in_ok-outlets-in-None+in_ok-push-in-None}

-- the pass and the seat are those of this session, which has asked nothing and has this script
pub open-requires-in-Some-get-clause-script : goal.open-requires-in-Some-get-clause-script
open-requires-in-Some-get-clause-script g c =
    let slot = c.loop-slot.slot in
    let below = c.loop-slot-test.true in
    let most = c.requires.most in
    let next = c.in-Some.ensures.cases in
    let rest = new_next slot c.in-Some.pass c.in-Some.seat (into_iter_items c.next.new.self) (subst (AreNewFrom slot) next.0 c.loop-slot.invariant.new) (omega (arith, below, most)) in
    ap (slice_get g.J.ServeNames.scripts) (ap (λ (p : PassView). p.session) rest.0)
    ∙ ap (λ (l : List (List Part)). slice_get l slot) c.requires.scripts
    ∙ sym (copied_item c.args.scripts.now c.args.scripts.now refl slot (Some c.in-Some-get.script) c.in-Some-get.ensures.lookup)

pub open-requires-in-Some-get-clause-seat : goal.open-requires-in-Some-get-clause-seat
open-requires-in-Some-get-clause-seat g c =
    let slot = c.loop-slot.slot in
    let below = c.loop-slot-test.true in
    let most = c.requires.most in
    let next = c.in-Some.ensures.cases in
    let rest = new_next slot c.in-Some.pass c.in-Some.seat (into_iter_items c.next.new.self) (subst (AreNewFrom slot) next.0 c.loop-slot.invariant.new) (omega (arith, below, most)) in
    ap (λ (s : SessionSeatView). s.session) rest.1 ∙ sym (ap (λ (p : PassView). p.session) rest.0)

pub open-requires-in-Some-get-clause-nothing : goal.open-requires-in-Some-get-clause-nothing
open-requires-in-Some-get-clause-nothing g c =
    let slot = c.loop-slot.slot in
    let below = c.loop-slot-test.true in
    let most = c.requires.most in
    let next = c.in-Some.ensures.cases in
    let rest = new_next slot c.in-Some.pass c.in-Some.seat (into_iter_items c.next.new.self) (subst (AreNewFrom slot) next.0 c.loop-slot.invariant.new) (omega (arith, below, most)) in
    ap (λ (p : PassView). p.mine) rest.0

-- one place more
pub loop-slot-preserved : goal.loop-slot-preserved
loop-slot-preserved g c =
    let slot = c.loop-slot.slot in
    let known = c.loop-slot.invariant in
    let below = c.loop-slot-test.true in
    let most = c.requires.most in
    let next = c.in-Some.ensures.cases in
    let rest = new_next slot c.in-Some.pass c.in-Some.seat (into_iter_items c.next.new.self) (subst (AreNewFrom slot) next.0 known.new) (omega (arith, below, most)) in
    record {
      sessions = omega (arith, known.sessions, next.1);
      new = rest.2;
      asked = elim c.match-get.branch [
        | in-Some-get+in_ok-ready-in-Some-get w ↦ rw w.sessions-is known.asked
        | in-None+in_ok-outlets-in-None+in_ok-push-in-None w ↦
            rw w.sessions-is (subst (All HasAskedNothing) {x = c.loop-slot.sessions.items ++ w.new.result ∷ []} (sym w.in_ok-push-in-None.ensures.items) (All-push HasAskedNothing c.loop-slot.sessions.items w.new.result known.asked w.new.ensures))
      ];
    }

-- a session that asks interactively has a pass and a seat of its own, and has asked nothing
pub new-requires-clause-seat : goal.new-requires-clause-seat
new-requires-clause-seat g c =
    let slot = c.loop-slot.slot in
    let below = c.loop-slot-test.true in
    let most = c.requires.most in
    let next = c.in-Some.ensures.cases in
    let rest = new_next slot c.in-Some.pass c.in-Some.seat (into_iter_items c.next.new.self) (subst (AreNewFrom slot) next.0 c.loop-slot.invariant.new) (omega (arith, below, most)) in
    ap (λ (s : SessionSeatView). s.session) rest.1 ∙ sym (ap (λ (p : PassView). p.session) rest.0)

pub new-requires-clause-nothing : goal.new-requires-clause-nothing
new-requires-clause-nothing g c =
    let slot = c.loop-slot.slot in
    let below = c.loop-slot-test.true in
    let most = c.requires.most in
    let next = c.in-Some.ensures.cases in
    let rest = new_next slot c.in-Some.pass c.in-Some.seat (into_iter_items c.next.new.self) (subst (AreNewFrom slot) next.0 c.loop-slot.invariant.new) (omega (arith, below, most)) in
    ap (λ (p : PassView). p.mine) rest.0
