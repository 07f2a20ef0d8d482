use Rattle.std.proofs.Common.{sym, ap, ◌++◌}
use Rattle.std.proofs.lemmas.Option.{slice_get_read}
use Rattle.queues.proofs.KeptDesks.{audited}
use Rattle.queues.proofs.desk.Desk.audit_own.Goals as goal

pub returns-clause-beginning : goal.returns-clause-beginning
returns-clause-beginning g c =
    let mine = c.self.view_is in
    let desk = c.self.invariant in
    let at = slice_get_read c.self.inside.senders.items _ c.self.inside.number c.index_mut.result.now (sym desk.count) c.self.invariant.has_inbox c.index_mut.ensures.value in
    let beginning = c.audit.ensures.beginning in (
      beginning.0,
      audited _ _ _ _ _ c.self.inside.number _ c.self.inside.taker.got c.args.self.now c.args.self.now (λ l. l ++ beginning.0) desk at c.self.view_is (ap (λ d. d.number) mine) (ap (λ d. d.got) mine) beginning.1,
    )

pub returns-clause-whole : goal.returns-clause-whole
returns-clause-whole g c =
    let mine = c.self.view_is in
    let desk = c.self.invariant in
    let at = slice_get_read c.self.inside.senders.items _ c.self.inside.number c.index_mut.result.now (sym desk.count) c.self.invariant.has_inbox c.index_mut.ensures.value in
    λ empty. audited _ _ _ _ _ c.self.inside.number _ c.self.inside.taker.got c.args.self.now c.args.self.now (λ l. l) desk at c.self.view_is (ap (λ d. d.number) mine) (ap (λ d. d.got) mine) (c.audit.ensures.whole empty)
