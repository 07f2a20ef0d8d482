use Rattle.std.proofs.Common.{subst}
use Rattle.std.specs.Prelude.{All}
use Rattle.local_locks.specs.Entries.{AreEntries}
use Rattle.local_locks.specs.Laws.{NoneConflict, AreUntouched, CouldAsk, IsClaimOf}
use Rattle.local_locks.specs.LockTableView.{AreStandsOf, LockTableView}
use Rattle.local_locks.proofs.EntryReturns.{none_twice}
use Rattle.local_locks.proofs.Opened.{claims_at_home, none_conflict, untouched, waiters_could_ask}
use Rattle.local_locks.proofs.Stands.{stands_of}
use Rattle.local_locks.proofs.table.LockTable.agree.Goals as goal

pub returns-clause-stands : goal.returns-clause-stands
returns-clause-stands g c =
    subst (λ (t : LockTableView). AreStandsOf g.J.GroupNames.warehouses t.w_id t.stands) c.self.view_is (stands_of g.J.GroupNames.warehouses c.self.inside.w_id c.self.inside.locks.items c.self.invariant.0)

pub returns-clause-claims : goal.returns-clause-claims
returns-clause-claims g c =
    subst (λ (t : LockTableView). All (IsClaimOf g.J.GroupNames.warehouses t.w_id) t.holdings) c.self.view_is (claims_at_home g.J.GroupNames.warehouses c.self.inside.w_id c.self.inside.locks.items c.self.invariant.0)

pub returns-clause-none_conflict : goal.returns-clause-none_conflict
returns-clause-none_conflict g c =
    subst (λ (t : LockTableView). NoneConflict t.holdings) c.self.view_is (none_conflict g.J.GroupNames.warehouses c.self.inside.w_id c.self.inside.locks.items c.self.invariant.0)

pub returns-clause-untouched : goal.returns-clause-untouched
returns-clause-untouched g c =
    subst (λ (t : LockTableView). AreUntouched t.holdings t.stands) c.self.view_is (untouched g.J.GroupNames.warehouses c.self.inside.w_id c.self.inside.locks.items c.self.invariant.0)

pub returns-clause-waiters : goal.returns-clause-waiters
returns-clause-waiters g c =
    subst (λ (t : LockTableView). All (CouldAsk g.J.GroupNames.warehouses t.w_id) t.waiters) c.self.view_is (waiters_could_ask g.J.GroupNames.warehouses c.self.inside.w_id c.self.inside.waiters.items c.self.invariant.1)

pub returns-clause-entries : goal.returns-clause-entries
returns-clause-entries g c =
    let entries = c.self.invariant.2 in
    subst AreEntries c.self.view_is (record { used = entries.used; once = none_twice g.J.GroupNames.warehouses c.self.inside.w_id c.self.inside.locks.items c.self.inside.entries c.self.invariant.0 entries.inside c.are_once.ensures })
