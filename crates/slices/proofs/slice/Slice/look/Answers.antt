use Rattle.std.proofs.Common.{ap, sym, ◌∙◌}
use Rattle.groups.specs.Content.{content}
use Rattle.slices.specs.SliceView.{SliceView}
use Rattle.slices.proofs.UndoLogs.{left_content}
use Rattle.slices.proofs.slice.Slice.look.Goals as goal

pub returns-clause-left : goal.returns-clause-left
returns-clause-left g c =
    let locks = c.self.inside.locks in
    let near = c.requires.home ∙ sym (ap (λ (s : SliceView). s.home) c.self.view_is) ∙ sym c.self.invariant.home in
    c.look.ensures.left
    ∙ left_content g.J.GroupNames.warehouses locks.w_id c.self.inside.rows locks.stands c.self.inside.undo_logs.items c.args.claim.now.group c.agree.ensures.stands c.self.invariant.undo_log_view c.look.ensures.known near
    ∙ ap (λ (s : SliceView). content s.tables c.args.claim.now.group) c.self.view_is
