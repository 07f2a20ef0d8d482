use Rattle.std.proofs.Common.{[], ◌∷◌, ap, subst, sym, ◌∙◌}
use Rattle.slices.specs.UndoLogs.{slice_view}
use Rattle.slices.specs.SliceView.{SliceView, SliceKeeps}
use Rattle.slices.proofs.Keeps.{back_keeps, back_slice}
use Rattle.slices.proofs.slice.Slice.take_back.Goals as goal

pub take_back-requires-clause-home : goal.take_back-requires-clause-home
take_back-requires-clause-home g c = c.requires.home ∙ sym (ap (λ (s : SliceView). s.home) c.self.view_is) ∙ sym c.self.invariant.home

pub invariant_of-self : goal.invariant_of-self
invariant_of-self g c =
    let near = c.requires.home ∙ sym (ap (λ (s : SliceView). s.home) c.self.view_is) in
    back_slice g.J.GroupNames.warehouses c.self.inside.rows c.self.inside.locks c.take_back.new.self c.self.inside.undo_logs.items c.place_of_claim.result c.index_mut.result.now c.forget.new.self c.args.claim c.self.invariant c.agree.ensures.stands
    c.place_of_claim.ensures.known near c.place_of_claim.ensures.place c.index_mut.ensures.value c.forget.ensures c.take_back.ensures.stands c.take_back.ensures.warehouse

pub returns-clause-kept : goal.returns-clause-kept
returns-clause-kept g c =
    let e = c.take_back.ensures in
    subst (λ (s : SliceView). SliceKeeps (c.args.claim ∷ []) s [] (slice_view c.self.inside.rows c.take_back.new.self)) c.self.view_is
    (back_keeps c.self.inside.rows c.self.inside.locks c.take_back.new.self c.args.claim c.agree.ensures.none_conflict c.requires.committed e.out e.holdings e.waiters)
