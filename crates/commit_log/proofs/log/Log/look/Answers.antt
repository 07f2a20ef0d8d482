use Rattle.std.proofs.Common.{List, subst}
use Rattle.groups.specs.Content.{content}
use Rattle.machine.specs.Machine.{tables_after}
use Rattle.tickets.specs.Claims.{all_claims}
use Rattle.tickets.specs.Committed.{Records}
use Rattle.tickets.proofs.Settling.{recorded_records}
use Rattle.commit_log.specs.declared.entry.Entry.{Entry}
use Rattle.commit_log.specs.Log.{requests_of}
use Rattle.commit_log.proofs.log.Log.look.Goals as goal

pub returns-clause-recorded : goal.returns-clause-recorded
returns-clause-recorded g c =
    let entries = c.self.inside.book.entries in
    let recorded = all_claims c.args.claims.now in
    subst (λ (l : List Entry). Records (content (tables_after g.J.LogNames.opening (requests_of l))) recorded) c.self.view_is
    (recorded_records (content (tables_after g.J.LogNames.opening (requests_of entries))) c.self.inside.seats recorded c.self.invariant.committed c.look_each.ensures.recorded)
