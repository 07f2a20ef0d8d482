use Rattle.std.proofs.Common.{[], ◌∷◌, Result, Ok, Err, OnErr, set, refl, ap, subst, sym, ◌∙◌}
use Rattle.partitions.specs.Parts.{Part}
use Rattle.requests.specs.declared.group.Group.{Group}
use Rattle.groups.specs.Content.{content}
use Rattle.groups.specs.Groups.{warehouse_of}
use Rattle.tickets.specs.Claims.{leaving}
use Rattle.local_locks.specs.Asking.{leaving_in}
use Rattle.local_locks.specs.LockTableView.{LockTableView}
use Rattle.slices.specs.UndoLogs.{slice_view, IsSlice}
use Rattle.slices.specs.SliceView.{SliceView, SliceKeeps, part_in}
use Rattle.slices.specs.Undo.{IsStep}
use Rattle.slices.proofs.Keeps.{IsWritten, put_keeps, room_keeps}
use Rattle.slices.proofs.slice.Slice.put.Given as given
use Rattle.slices.proofs.slice.Slice.put.Goals as goal
use Rattle.slices.proofs.slice.Slice.put.Goals.{After-make_room}

always_err : {T E P : Type 0} (result : Result T E) → P → OnErr result P
always_err (Ok x) p = tt
always_err (Err e) p = p

-- only room was made
roomy : (g : given.Over) (c : After-make_room g) → IsSlice g.J.GroupNames.warehouses c.self.inside.rows c.self.inside.locks (set c.self.inside.undo_logs.items c.place_of_claim.result c.make_room.new.self)
roomy g c =
    room_keeps g.J.GroupNames.warehouses c.self.inside.rows c.self.inside.locks c.self.inside.undo_logs.items c.args.claim.now.group c.place_of_claim.result c.index_mut-undo_log.result.now c.make_room.new.self
    c.self.invariant c.place_of_claim.ensures.known c.place_of_claim.ensures.place c.index_mut-undo_log.ensures.value c.make_room.ensures.undo

pub leave-requires-clause-here : goal.leave-requires-clause-here
leave-requires-clause-here g c =
    let p : Part = c.self.inside.rows in
    let possible = subst (λ (s : SliceView). g.S.Step.is_possible c.args.step (part_in s)) (sym c.self.view_is) c.requires.possible in
    ap warehouse_of c.requires.group ∙ g.met.S.Step.at_home c.args.step p c.partition.ensures.part possible ∙ sym c.self.invariant.home

-- the step was done, and what takes it back is kept
written : (g : given.Over) (c : goal.After-self-2-1 g)
    → IsWritten g.J.GroupNames.warehouses c.self.inside.rows c.run.new.rows c.self.inside.locks c.leave.new.self (set c.self.inside.undo_logs.items c.place_of_claim.result c.keep.new.self) c.args.claim.now c.leave.new.claim (g.S.Step.changed c.args.step c.args.claim.now.left)
written g c =
    let p : Part = c.self.inside.rows in
    let possible = subst (λ (s : SliceView). g.S.Step.is_possible c.args.step (part_in s)) (sym c.self.view_is) c.requires.possible in
    let near = ap warehouse_of c.requires.group ∙ g.met.S.Step.at_home c.args.step p c.partition.ensures.part possible in
    let change = g.S.Step.changed c.args.step in
    let step = subst (λ (group : Group). IsStep group change c.in_ok-kept.kept p c.run.new.rows) (sym c.requires.group) c.in_ok-kept.ensures.step in
    let e = c.leave.ensures in
    let has = ap (λ (r : Part). content r.tables c.group.result) c.partition-2.ensures.rows in
    put_keeps g.J.GroupNames.warehouses p c.run.new.rows c.self.inside.locks c.leave.new.self c.self.inside.undo_logs.items c.place_of_claim.result c.index_mut-undo_log.result.now c.make_room.new.self c.keep.new.self
    c.args.claim.now c.leave.new.claim c.group.result c.in_ok-kept.kept change
    c.self.invariant c.agree.ensures.stands c.place_of_claim.ensures.known near c.place_of_claim.ensures.place c.index_mut-undo_log.ensures.value c.make_room.ensures.undo step c.group.ensures c.requires.exclusive
    e.left (e.claim ∙ ap (leaving c.args.claim.now) has) (e.table ∙ ap (leaving_in c.self.inside.locks c.args.claim.now.group) has) c.keep.ensures

pub invariant_of-self : goal.invariant_of-self
invariant_of-self g c = roomy g (goal.at.invariant_of-self g c).After-make_room

pub invariant_of-self-in_err-kept : goal.invariant_of-self-in_err-kept
invariant_of-self-in_err-kept g c =
    subst (λ (p : Part). IsSlice g.J.GroupNames.warehouses p c.self.inside.locks (set c.self.inside.undo_logs.items c.place_of_claim.result c.make_room.new.self)) (sym c.in_err-kept.ensures.err)
    (roomy g (goal.at.invariant_of-self-in_err-kept g c).After-make_room)

pub returns-in_err-kept-clause-err : goal.returns-in_err-kept-clause-err
returns-in_err-kept-clause-err g c =
    let same = ap (λ (p : Part). slice_view p c.self.inside.locks) c.in_err-kept.ensures.err in
    always_err c.from_residual-in_err-kept.result (same ∙ c.self.view_is, refl)

pub invariant_of-self-2 : goal.invariant_of-self-2
invariant_of-self-2 g c = (written g c).invariant

pub returns-clause-claim : goal.returns-clause-claim
returns-clause-claim g c = (written g c).claim

pub returns-clause-kept : goal.returns-clause-kept
returns-clause-kept g c =
    subst (λ (s : SliceView). SliceKeeps (c.args.claim.now ∷ []) s (c.leave.new.claim ∷ []) (slice_view c.run.new.rows c.leave.new.self)) c.self.view_is (written g c).keeps

-- the step was done to the tables, and nothing else changed
pub returns-clause-rows : goal.returns-clause-rows
returns-clause-rows g c =
    let w = written g c in
    let done = g.S.Step.done c.args.step in
    let same = c.leave.ensures.table in
    (λ i. record { home = w.keeps.home i; tables = c.in_ok-kept.ensures.tables i; holdings = (ap (λ (t : LockTableView). t.holdings) same) i; waiters = (ap (λ (t : LockTableView). t.waiters) same) i })
    ∙ ap (λ (s : SliceView). record s { tables = done s.tables }) c.self.view_is
