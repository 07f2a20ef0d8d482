use Rattle.std.proofs.Common.{◌≡◌, ◌+◌, [], ◌∷◌, length, length-append, sym, ap, ◌∙◌, subst, arith}
use Rattle.std.specs.Arc.{arc_value}
use Rattle.rendezvous.specs.Meetings.{PlaceView, PlacesView}
use Rattle.executor.specs.declared.phase_owner.AgreedPhase.{AgreedPhase}
use Rattle.executor.specs.AgreedPhases.{AreHandles, ArePlacesIn, IsHandle, IsPlaceIn}
use Rattle.executor.proofs.Phases.{handles_but_last}
use Rattle.executor.proofs.phase_owner.PhasePlaces.next.Goals as goal

-- each handle is the meeting
pub unreachable-requires-in_default-handle : goal.unreachable-requires-in_default-handle
unreachable-requires-in_default-handle g c =
    let meeting = arc_value c.self.inside.meeting in
    let last = handles_but_last arc_value meeting c.pop.new.self.items c.in-Some.handle (subst (AreHandles arc_value meeting) c.in-Some.ensures.items c.self.invariant.each) in
    subst (IsHandle arc_value meeting) c.in_default-handle.is last.1

-- the place has the last handle
pub invariant_of-result : goal.invariant_of-result
invariant_of-result g c =
    let old = c.self.invariant in
    let meeting = arc_value c.self.inside.meeting in
    let last = handles_but_last arc_value meeting c.pop.new.self.items c.in-Some.handle (subst (AreHandles arc_value meeting) c.in-Some.ensures.items old.each) in
    let is : arc_value c.in-Some-handle.meeting ≡ meeting = subst (IsHandle arc_value meeting) c.in-Some-handle.is last.1 in
    let handed = c.in_ok-place.ensures.some in
    subst (λ (p : PlaceView AgreedPhase). IsPlaceIn (arc_value c.in-Some-handle.meeting) c.self.inside.slot p) (sym handed.1) (record {
      here = old.here ∙ sym is;
      room = ap (λ t. t.slots) is ∙ old.room;
      phase = old.phase;
    })

-- and the others are left
pub invariant_of-self-2 : goal.invariant_of-self-2
invariant_of-self-2 g c =
    let old = c.self.invariant in
    let meeting = arc_value c.self.inside.meeting in
    let items = c.in-Some.ensures.items in
    let last = handles_but_last arc_value meeting c.pop.new.self.items c.in-Some.handle (subst (AreHandles arc_value meeting) items old.each) in
    let handed = c.in_ok-place.ensures.some in
    let many : length c.self.inside.handles.items ≡ length c.pop.new.self.items + 1 = ap length items ∙ length-append c.pop.new.self.items (c.in-Some.handle ∷ []) in
    subst (λ (p : PlacesView AgreedPhase). ArePlacesIn arc_value c.self.inside.meeting c.pop.new.self.items c.self.inside.slot p) (sym handed.2) (record {
      here = old.here;
      room = old.room;
      phase = old.phase;
      many = omega (arith, many, old.many, handed.0);
      each = last.0;
    })
