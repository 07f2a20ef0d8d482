use Rattle.std.proofs.Common.{◌∙◌, List, ap, map, sym, subst}
use Rattle.std.specs.Prelude.{filter}
use Rattle.local_locks.specs.declared.entry.LockEntry.{LockEntry}
use Rattle.local_locks.specs.EntryPlaces.{waits_at}
use Rattle.local_locks.specs.LockEntries.{age_of_holder, age_of_waiter, IsEntryAt}
use Rattle.local_locks.specs.Locks.{WaiterView}
use Rattle.local_locks.specs.LockTableView.{LockTableView}
use Rattle.local_locks.proofs.Shown.{shown}
use Rattle.local_locks.proofs.table.LockTable.entry_at.Goals as goal

pub returns-clause-entry : goal.returns-clause-entry
returns-clause-entry g c =
    let entry : LockEntry = record { group = c.group.result; mode = c.mode.result; holders = c.in_ok-ages_of.field-0; waiters = c.in_ok-ages_waiting_at.field-0 } in
    subst (λ (t : LockTableView). IsEntryAt t c.args.n entry) c.self.view_is
    (shown g.J.GroupNames.warehouses c.self.inside.w_id c.self.inside.locks.items c.self.inside.waiters.items c.self.inside.entries c.args.n c.in-Some.place c.index-lock.result.now entry c.self.invariant.0 c.self.invariant.1 c.self.invariant.2.inside
    (sym c.get.ensures ∙ c.in-Some.is) c.index-lock.ensures c.group.ensures c.mode.ensures (c.in_ok-ages_of.ensures ∙ ap (map age_of_holder) c.holders.ensures) (c.in_ok-ages_waiting_at.ensures ∙ ap (λ (ws : List WaiterView). map age_of_waiter (filter (waits_at c.in-Some.place) ws)) c.deref.ensures.value))
