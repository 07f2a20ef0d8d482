use Rattle.std.proofs.Common.{[], ◌∷◌, set, ap, subst, sym, ◌∙◌}
use Rattle.groups.specs.Content.{content}
use Rattle.groups.specs.Laws.{ChangesOneGroup}
use Rattle.local_locks.specs.LockTableView.{LockTableView}
use Rattle.slices.specs.UndoLogs.{slice_view}
use Rattle.slices.specs.SliceView.{SliceView, SliceKeeps}
use Rattle.slices.specs.Undo.{AreKept}
use Rattle.slices.proofs.Keeps.{IsWritten, kept_there, undo_keeps}
use Rattle.slices.proofs.slice.Slice.undo.Given as given
use Rattle.slices.proofs.slice.Slice.undo.Goals as goal
use Rattle.slices.proofs.slice.Slice.undo.Goals.{After-undo, After-index_mut-undo_log}

-- the steps of the claim's group can be taken back
can : (g : given.Over) (c : After-index_mut-undo_log g) → AreKept c.self.inside.rows.tables.scale c.args.claim.now.group c.index_mut-undo_log.result.now.undo (content c.self.inside.rows.tables c.args.claim.now.group)
can g c =
    let near = c.requires.home ∙ sym (ap (λ (s : SliceView). s.home) c.self.view_is) in
    kept_there g.J.GroupNames.warehouses c.self.inside.rows c.self.inside.locks c.self.inside.undo_logs.items c.place_of_claim.result c.index_mut-undo_log.result.now c.args.claim.now.group c.self.invariant c.agree.ensures.stands
    c.place_of_claim.ensures.known near c.place_of_claim.ensures.place c.index_mut-undo_log.ensures.value

pub put_back-requires : goal.put_back-requires
put_back-requires g c = record { kept = (c.args.claim.now.group, can g (goal.at.put_back-requires g c).After-index_mut-undo_log) }

pub undo-requires-clause-here : goal.undo-requires-clause-here
undo-requires-clause-here g c = c.requires.home ∙ sym (ap (λ (s : SliceView). s.home) c.self.view_is) ∙ sym c.self.invariant.home

-- all that was done is taken back
undone : (g : given.Over) (c : After-undo g) → AreKept c.self.inside.rows.tables.scale c.args.claim.now.group c.index_mut-undo_log.result.now.undo (content c.self.inside.rows.tables c.args.claim.now.group)
    → IsWritten g.J.GroupNames.warehouses c.self.inside.rows c.put_back.new.rows c.self.inside.locks c.undo.new.self (set c.self.inside.undo_logs.items c.place_of_claim.result c.put_back.new.self) c.args.claim.now c.undo.new.claim c.args.claim.now.back
undone g c kept =
    let near = c.requires.home ∙ sym (ap (λ (s : SliceView). s.home) c.self.view_is) in
    let e = c.undo.ensures in
    undo_keeps g.J.GroupNames.warehouses c.self.inside.rows c.put_back.new.rows c.self.inside.locks c.undo.new.self c.self.inside.undo_logs.items c.place_of_claim.result c.index_mut-undo_log.result.now c.put_back.new.self
    c.args.claim.now c.undo.new.claim c.self.invariant c.agree.ensures.stands c.place_of_claim.ensures.known near c.place_of_claim.ensures.place c.index_mut-undo_log.ensures.value
    (c.put_back.ensures.rows c.args.claim.now.group kept) c.requires.exclusive e.back e.claim e.table c.put_back.ensures.none

pub invariant_of-self : goal.invariant_of-self
invariant_of-self g c = let at = goal.at.invariant_of-self g c in (undone g at.After-undo (can g at.After-index_mut-undo_log)).invariant

pub returns-clause-kept : goal.returns-clause-kept
returns-clause-kept g c =
    let at = goal.at.returns-clause-kept g c in
    subst (λ (s : SliceView). SliceKeeps (c.args.claim.now ∷ []) s (c.undo.new.claim ∷ []) (slice_view c.put_back.new.rows c.undo.new.self)) c.self.view_is
    (undone g at.After-undo (can g at.After-index_mut-undo_log)).keeps

pub returns-clause-rows : goal.returns-clause-rows
returns-clause-rows g c =
    let at = goal.at.returns-clause-rows g c in
    subst (λ (s : SliceView). ChangesOneGroup c.args.claim.now.group (λ before. c.args.claim.now.back) s.tables c.put_back.new.rows.tables) c.self.view_is
    (undone g at.After-undo (can g at.After-index_mut-undo_log)).rows

pub returns-clause-locks : goal.returns-clause-locks
returns-clause-locks g c =
    let same = c.undo.ensures.table in
    record {
      holdings = ap (λ (t : LockTableView). t.holdings) same ∙ ap (λ (s : SliceView). s.holdings) c.self.view_is;
      waiters = ap (λ (t : LockTableView). t.waiters) same ∙ ap (λ (s : SliceView). s.waiters) c.self.view_is;
    }
