use Rattle.std.proofs.Common.{◌≡◌, [], ℕ, Result, Ok, Err, OnErr, ap, subst, sym, ◌∙◌}
use Rattle.requests.specs.declared.group.Group.{Group}
use Rattle.local_locks.specs.Conflicts.{MustDie}
use Rattle.local_locks.specs.GroupWants.{CanAsk}
use Rattle.slices.specs.Asked.{AnswersIn, claims_asked}
use Rattle.slices.specs.UndoLogs.{slice_view, IsSlice}
use Rattle.slices.specs.SliceView.{SliceView, SliceKeeps, with_waiters}
use Rattle.slices.proofs.Asking.{answered}
use Rattle.slices.proofs.slice.Slice.ask.Given as given
use Rattle.slices.proofs.slice.Slice.ask.Goals as goal
use Rattle.slices.proofs.slice.Slice.ask.Goals.{After-agree, After-agree-2}

always_err : {T E P : Type 0} (result : Result T E) → P → OnErr result P
always_err (Ok x) p = tt
always_err (Err e) p = p

can : (g : given.Over) (c : After-agree g) → CanAsk g.J.GroupNames.warehouses c.self.inside.locks.w_id c.args.wants.now
can g c =
    let home : c.args.self.now.home ≡ c.self.inside.locks.w_id = sym (c.self.invariant.home ∙ ap (λ (s : SliceView). s.home) c.self.view_is) in
    subst (λ (n : ℕ). CanAsk g.J.GroupNames.warehouses n c.args.wants.now) home c.requires

pub ask-requires : goal.ask-requires
ask-requires g c = can g (goal.at.ask-requires g c).After-agree

-- what the slice answers, as its lock table does
recorded : (g : given.Over) (c : After-agree-2 g) → CanAsk g.J.GroupNames.warehouses c.self.inside.locks.w_id c.args.wants.now
    → AnswersIn c.args.by c.args.wants.now (slice_view c.self.inside.rows c.self.inside.locks) c.in_ok-asked.asked (slice_view c.self.inside.rows c.ask.new.self)
    × SliceKeeps [] (with_waiters c.ask.new.self.waiters (slice_view c.self.inside.rows c.self.inside.locks)) (claims_asked c.in_ok-asked.asked) (slice_view c.self.inside.rows c.ask.new.self)
    × IsSlice g.J.GroupNames.warehouses c.self.inside.rows c.ask.new.self c.self.inside.undo_logs.items
recorded g c may =
    answered g.J.GroupNames.warehouses c.self.inside.rows c.self.inside.locks c.ask.new.self c.self.inside.undo_logs.items c.self.invariant c.agree.ensures.stands c.agree-2.ensures.none_conflict
    c.args.by c.args.wants.now c.in_ok-asked.asked may c.in_ok-asked.ensures.answers

pub invariant_of-self : goal.invariant_of-self
invariant_of-self g c = subst (λ t. IsSlice g.J.GroupNames.warehouses c.self.inside.rows t c.self.inside.undo_logs.items) (sym c.in_err-asked.ensures.err) c.self.invariant

pub invariant_of-self-2 : goal.invariant_of-self-2
invariant_of-self-2 g c = let at = goal.at.invariant_of-self-2 g c in (recorded g at.After-agree-2 (can g at.After-agree)).2

pub returns-in_err-asked-clause-death_takes_none : goal.returns-in_err-asked-clause-death_takes_none
returns-in_err-asked-clause-death_takes_none g c =
    always_err c.from_residual.result
    (subst (λ (s : SliceView). (group : Group) (age : ℕ) → MustDie s.holdings c.args.by.age c.args.wants.now group age → ⊥) c.self.view_is (λ group age. c.in_err-asked.ensures.death_takes_none group age))

pub returns-clause-answers : goal.returns-clause-answers
returns-clause-answers g c =
    let at = goal.at.returns-clause-answers g c in
    subst (λ (s : SliceView). AnswersIn c.args.by c.args.wants.now s c.in_ok-asked.asked (slice_view c.self.inside.rows c.ask.new.self)) c.self.view_is (recorded g at.After-agree-2 (can g at.After-agree)).0

pub returns-clause-kept : goal.returns-clause-kept
returns-clause-kept g c =
    let at = goal.at.returns-clause-kept g c in
    subst (λ (s : SliceView). SliceKeeps [] (with_waiters c.ask.new.self.waiters s) (claims_asked c.in_ok-asked.asked) (slice_view c.self.inside.rows c.ask.new.self)) c.self.view_is (recorded g at.After-agree-2 (can g at.After-agree)).1
