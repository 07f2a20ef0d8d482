use Rattle.std.proofs.Common.{[], Option, Some, None, IfNone, subst, sym}
use Rattle.std.specs.Prelude.{All}
use Rattle.local_locks.specs.Asking.{StillWaits}
use Rattle.slices.specs.Asked.{TakesTurnIn, claims_of_turn}
use Rattle.slices.specs.UndoLogs.{slice_view, IsSlice}
use Rattle.slices.specs.SliceView.{SliceView, SliceKeeps, with_waiters}
use Rattle.slices.proofs.Asking.{turned}
use Rattle.slices.proofs.slice.Slice.next_grant.Given as given
use Rattle.slices.proofs.slice.Slice.next_grant.Goals as goal
use Rattle.slices.proofs.slice.Slice.next_grant.Goals.{After-agree-2}

if_none : {T : Type 0} (o : Option T) (P : Type 0) → P → IfNone o P
if_none (Some x) P p = tt
if_none None P p = p

-- whose turn it is in the slice, as in its lock table
recorded : (g : given.Over) (c : After-agree-2 g)
    → TakesTurnIn (slice_view c.self.inside.rows c.self.inside.locks) c.in_ok-turn.turn (slice_view c.self.inside.rows c.next_grant.new.self)
    × SliceKeeps [] (with_waiters c.next_grant.new.self.waiters (slice_view c.self.inside.rows c.self.inside.locks)) (claims_of_turn c.in_ok-turn.turn) (slice_view c.self.inside.rows c.next_grant.new.self)
    × IsSlice g.J.GroupNames.warehouses c.self.inside.rows c.next_grant.new.self c.self.inside.undo_logs.items
recorded g c =
    turned g.J.GroupNames.warehouses c.self.inside.rows c.self.inside.locks c.next_grant.new.self c.self.inside.undo_logs.items c.self.invariant c.agree.ensures.stands c.agree-2.ensures.none_conflict
    c.in_ok-turn.turn c.agree.ensures.waiters c.in_ok-turn.ensures.turn

pub invariant_of-self : goal.invariant_of-self
invariant_of-self g c = subst (λ t. IsSlice g.J.GroupNames.warehouses c.self.inside.rows t c.self.inside.undo_logs.items) (sym c.in_err-turn.ensures.same) c.self.invariant

pub invariant_of-self-2 : goal.invariant_of-self-2
invariant_of-self-2 g c = (recorded g (goal.at.invariant_of-self-2 g c).After-agree-2).2

pub returns-in_err-turn-clause-none : goal.returns-in_err-turn-clause-none
returns-in_err-turn-clause-none g c =
    if_none c.from_residual.result _ (subst (λ (s : SliceView). All (StillWaits s.holdings) s.waiters) c.self.view_is c.in_err-turn.ensures.none)

pub returns-clause-turn : goal.returns-clause-turn
returns-clause-turn g c =
    subst (λ (s : SliceView). TakesTurnIn s c.in_ok-turn.turn (slice_view c.self.inside.rows c.next_grant.new.self)) c.self.view_is (recorded g (goal.at.returns-clause-turn g c).After-agree-2).0

pub returns-clause-kept : goal.returns-clause-kept
returns-clause-kept g c =
    subst (λ (s : SliceView). SliceKeeps [] (with_waiters c.next_grant.new.self.waiters s) (claims_of_turn c.in_ok-turn.turn) (slice_view c.self.inside.rows c.next_grant.new.self)) c.self.view_is
    (recorded g (goal.at.returns-clause-kept g c).After-agree-2).1
