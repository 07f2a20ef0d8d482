use Rattle.std.proofs.Common.{◌≡◌, [], ℕ, ap, subst, sym, ◌∙◌}
use Rattle.local_locks.specs.declared.table.Asked.{Asked}
use Rattle.local_locks.specs.Asking.{AnswersAtOnce}
use Rattle.local_locks.specs.GroupWants.{CanAsk}
use Rattle.slices.specs.Asked.{GrantsIn}
use Rattle.slices.specs.UndoLogs.{slice_view, IsSlice}
use Rattle.slices.specs.SliceView.{SliceView, SliceKeeps}
use Rattle.slices.proofs.Asking.{granted_at_once}
use Rattle.slices.proofs.slice.Slice.ask_at_once.Given as given
use Rattle.slices.proofs.slice.Slice.ask_at_once.Goals as goal
use Rattle.slices.proofs.slice.Slice.ask_at_once.Goals.{After-agree-2}

can : (g : given.Over) (c : After-agree-2 g) → CanAsk g.J.GroupNames.warehouses c.self.inside.locks.w_id c.args.wants.now
can g c =
    let home : c.args.self.now.home ≡ c.self.inside.locks.w_id = sym (c.self.invariant.home ∙ ap (λ (s : SliceView). s.home) c.self.view_is) in
    subst (λ (n : ℕ). CanAsk g.J.GroupNames.warehouses n c.args.wants.now) home c.requires

-- what the slice grants, as its lock table does
recorded : (g : given.Over) (c : After-agree-2 g)
    → GrantsIn c.args.by c.args.wants.now (slice_view c.self.inside.rows c.self.inside.locks) c.in-Ok-Granted.claims.items (slice_view c.self.inside.rows c.ask_at_once.new.self)
    × SliceKeeps [] (slice_view c.self.inside.rows c.self.inside.locks) c.in-Ok-Granted.claims.items (slice_view c.self.inside.rows c.ask_at_once.new.self)
    × IsSlice g.J.GroupNames.warehouses c.self.inside.rows c.ask_at_once.new.self c.self.inside.undo_logs.items
recorded g c =
    let answers =
    subst (λ (a : Asked g.row.J.Denot). AnswersAtOnce c.args.by c.args.wants.now c.self.inside.locks a c.ask_at_once.new.self) c.in-Ok-Granted.field-0-is c.in-Ok-Granted.ensures.answers in
    granted_at_once g.J.GroupNames.warehouses c.self.inside.rows c.self.inside.locks c.ask_at_once.new.self c.self.inside.undo_logs.items c.self.invariant c.agree.ensures.stands c.agree-2.ensures.none_conflict
    c.args.by c.args.wants.now c.in-Ok-Granted.claims.items (can g c) answers.0 answers.1

pub returns-clause-granted : goal.returns-clause-granted
returns-clause-granted g c =
    subst (λ (s : SliceView). GrantsIn c.args.by c.args.wants.now s c.in-Ok-Granted.claims.items (slice_view c.self.inside.rows c.ask_at_once.new.self)) c.self.view_is
    (recorded g (goal.at.returns-clause-granted g c).After-agree-2).0

pub returns-clause-kept : goal.returns-clause-kept
returns-clause-kept g c =
    subst (λ (s : SliceView). SliceKeeps [] s c.in-Ok-Granted.claims.items (slice_view c.self.inside.rows c.ask_at_once.new.self)) c.self.view_is (recorded g (goal.at.returns-clause-kept g c).After-agree-2).1
