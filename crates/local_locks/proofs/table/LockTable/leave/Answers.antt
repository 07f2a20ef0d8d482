use Rattle.std.proofs.Common.{sym, ◌∙◌}
use Rattle.tickets.specs.Boxes.{with_left}
use Rattle.local_locks.specs.Locks.{lock_view}
use Rattle.local_locks.proofs.EntryReturns.{left_kept}
use Rattle.local_locks.proofs.Returns.{left_table}
use Rattle.local_locks.proofs.table.LockTable.leave.Goals as goal

pub returns-clause-table : goal.returns-clause-table
returns-clause-table g c =
    let value = c.index_mut.ensures.value in
    let left = sym c.leave.ensures.left in
    let made = c.leave.ensures.lock ∙ (λ i. lock_view (with_left (value i).ticket_box (g.C.Change.changed c.args.change.now (left i))) (value i).holders) in
    left_table g.J.GroupNames.warehouses c.self.inside.w_id c.args.self.now c.self.inside.locks.items c.self.inside.waiters.items c.self.inside.entries c.place_of_claim-place.result c.index_mut.result.now c.leave.new.self c.args.claim.now.group
    (g.C.Change.changed c.args.change.now c.args.claim.now.left) c.self.view_is c.self.invariant.0 c.place_of_claim-place.ensures.known c.requires.here c.place_of_claim-place.ensures.place made

pub invariant_of-self : goal.invariant_of-self
invariant_of-self g c =
    let value = c.index_mut.ensures.value in
    let left = sym c.leave.ensures.left in
    let made = c.leave.ensures.lock ∙ (λ i. lock_view (with_left (value i).ticket_box (g.C.Change.changed c.args.change.now (left i))) (value i).holders) in
    left_kept g.J.GroupNames.warehouses c.self.inside.w_id c.self.inside.locks.items c.self.inside.waiters.items c.self.inside.entries c.place_of_claim-place.result c.index_mut.result.now c.leave.new.self c.args.claim.now.group
    (g.C.Change.changed c.args.change.now c.args.claim.now.left) c.self.invariant.0 c.self.invariant.1 c.self.invariant.2 c.place_of_claim-place.ensures.known c.place_of_claim-place.ensures.place made c.leave.ensures.agree
