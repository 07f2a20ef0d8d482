use Rattle.std.proofs.Common.{◌≡◌, ◌+◌, [], ◌∷◌, Some, length, length-append, sym, ap, ◌∙◌, subst, arith}
use Rattle.std.specs.Arc.{arc_value}
use Rattle.executor.specs.AgreedPhases.{AreHandles}
use Rattle.executor.proofs.Phases.{one_handle_more}
use Rattle.executor.proofs.phase_owner.handles_of.Goals as goal

pub loop-preserved : goal.loop-preserved
loop-preserved g c =
    let known = c.loop.invariant in
    let meeting = arc_value c.args.meeting.now in
    let before = c.loop.handles.items in
    let one = c.in_ok-try_clone.field-0 in
    let items = c.push.ensures.items in
    record {
      each = subst (AreHandles arc_value meeting) (sym items) (one_handle_more arc_value meeting before one known.each c.in_ok-try_clone.ensures);
      many = ap length items ∙ length-append before (Some one ∷ []) ∙ (let more : length before + 1 ≡ c.loop.counter + 1 = omega (arith, known.many) in more);
    }
