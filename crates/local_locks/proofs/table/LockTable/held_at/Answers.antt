use Rattle.std.proofs.Common.{◌≡◌, ◌∙◌, Some, slice_get, sym, ap}
use Rattle.local_locks.specs.LockTableView.{LockTableView}
use Rattle.local_locks.proofs.Entered.{entry_at}
use Rattle.local_locks.proofs.table.LockTable.held_at.Goals as goal

pub returns : goal.returns
returns g c =
    let entries = c.self.invariant.2 in
    let was : c.get.result ≡ Some c.in_ok-place.place = c.in_ok-place.was in
    entry_at c.self.inside.locks.items c.self.inside.entries c.args.n c.in_ok-place.place c.index.result.now c.group.result c.self.invariant.0.all_there entries.inside (sym c.get.ensures ∙ was) c.index.ensures c.group.ensures
    ∙ ap (λ (t : LockTableView). slice_get t.entries c.args.n) c.self.view_is
