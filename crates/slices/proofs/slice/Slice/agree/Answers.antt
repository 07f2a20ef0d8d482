use Rattle.std.proofs.Common.{ℕ, subst}
use Rattle.std.specs.Prelude.{All}
use Rattle.local_locks.specs.Laws.{CouldAsk, IsClaimOf}
use Rattle.slices.specs.SliceView.{SliceView}
use Rattle.slices.proofs.slice.Slice.agree.Goals as goal

pub returns-clause-claims : goal.returns-clause-claims
returns-clause-claims g c =
    let locks = c.self.inside.locks in
    subst (λ (s : SliceView). All (IsClaimOf g.J.GroupNames.warehouses s.home) s.holdings) c.self.view_is
    (subst (λ (n : ℕ). All (IsClaimOf g.J.GroupNames.warehouses n) locks.holdings) c.self.invariant.home c.agree.ensures.claims)

pub returns-clause-waiters : goal.returns-clause-waiters
returns-clause-waiters g c =
    let locks = c.self.inside.locks in
    subst (λ (s : SliceView). All (CouldAsk g.J.GroupNames.warehouses s.home) s.waiters) c.self.view_is
    (subst (λ (n : ℕ). All (CouldAsk g.J.GroupNames.warehouses n) locks.waiters) c.self.invariant.home c.agree.ensures.waiters)
