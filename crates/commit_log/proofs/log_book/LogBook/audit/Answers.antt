use Rattle.std.proofs.Common.{sym, ap, ◌∙◌, arith}
use Rattle.commit_log.specs.Items.{items_of}
use Rattle.commit_log.proofs.Booking.{recorded}
use Rattle.commit_log.proofs.log_book.LogBook.audit.Goals as goal

pub look-requires-clause-beside : goal.look-requires-clause-beside
look-requires-clause-beside g c =
    let recorded = recorded _ _ _ _ _ c.self.invariant c.pass.inside.session c.index_mut.result.now c.pass.invariant.some_session c.index_mut.ensures.value in
    ap (λ t. t.agreement) c.pass.invariant.mine_of_session ∙ sym (ap (λ t. t.agreement) recorded)

pub look-requires-clause-some : goal.look-requires-clause-some
look-requires-clause-some g c =
    let recorded = recorded _ _ _ _ _ c.self.invariant c.pass.inside.session c.index_mut.result.now c.pass.invariant.some_session c.index_mut.ensures.value in
    let ours = ap (λ t. t.share) recorded in
    let theirs = ap (λ t. t.share) c.pass.invariant.mine_of_session in
    (omega arith, omega arith)

pub returns-clause-mine : goal.returns-clause-mine
returns-clause-mine g c =
    let recorded = recorded _ _ _ _ _ c.self.invariant c.pass.inside.session c.index_mut.result.now c.pass.invariant.some_session c.index_mut.ensures.value in
    sym (ap (λ p. p.mine) c.pass.view_is) ∙ ap (λ m. m.items) c.look.ensures.equal ∙ ap (λ t. t.value.items) recorded
    ∙ ap (λ s. items_of s c.self.inside.entries.items) (ap (λ p. p.session) c.pass.view_is) ∙ ap (λ b. items_of c.args.pass.now.session b.entries) c.self.view_is
