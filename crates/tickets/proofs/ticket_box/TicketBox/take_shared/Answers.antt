use Rattle.std.proofs.Common.{◌≡◌, ◌+◌, ◌-◌, ◌≤◌, vec_len, sym, ap, ◌∙◌, subst, arith}
use Rattle.groups.specs.declared.group_wants.Mode.TheVariants.{Shared}
use Rattle.tickets.specs.Claims.{HoldsClaim}
use Rattle.tickets.specs.Boxes.{AreSpent}
use Rattle.tickets.proofs.Pairs.{spent_push}
use Rattle.tickets.proofs.Holding.{reshared, holds_sharing, mode_recorded, is_sharing}
use Rattle.tickets.proofs.ticket_box.TicketBox.take_shared.Goals as goal

pub invariant_of-self : goal.invariant_of-self
invariant_of-self g c =
    let committed = g.J.GroupNames.committed c.self.inside.group in
    let done = g.J.GroupNames.work c.self.inside.group in
    let group = sym (ap (λ b. b.group) c.self.view_is) in
    let holds = subst (λ group. HoldsClaim (g.J.GroupNames.committed group) (g.J.GroupNames.work group) Shared c.args.tickets c.args.work) group c.requires in
    let recorded = mode_recorded _ _ _ _ _ _ _ c.self.invariant.0 in
    let same = ap (λ w. w.mode) (sym c.gather.ensures.equal) in
    let shared : c.self.inside.mode ≡ Shared = sym recorded ∙ same ∙ ap (λ w. w.mode) holds.2 in
    let here = is_sharing _ _ _ _ _ _ _ c.self.invariant.0 shared in
    let some : 1 ≤ c.self.inside.shared =
    omega (arith, here.2, c.gather.ensures.at_most_all, ap (λ t. t.share) here.1, ap (λ t. t.agreement.count) here.1, ap (λ t. t.share) holds.1) in
    let tickets = c.gather-2.ensures.theirs in
    let work = c.gather.ensures.theirs in (
      holds_sharing committed done c.self.inside.tickets.value.content c.self.inside.mode (c.self.inside.shared - 1) c.gather-2.new.self c.gather.new.self (vec_len c.push_reserved.new.self) shared
          (reshared _ _ _ (c.self.inside.tickets.share + c.args.tickets.share) (9 - (c.self.inside.shared - 1)) _ c.gather-2.new.self here.0 c.gather-2.ensures.mine
          (omega (arith, here.2, some, ap (λ t. t.share) here.0, ap (λ t. t.share) holds.0)))
          (reshared _ _ _ (c.self.inside.work.share + c.args.work.share) (9 - (c.self.inside.shared - 1)) _ c.gather.new.self here.1 c.gather.ensures.mine
          (omega (arith, here.2, some, ap (λ t. t.share) here.1, ap (λ t. t.share) holds.1)))
          (omega (arith, here.2, some, c.push_reserved.ensures.len)),
      (
        omega (arith, c.self.invariant.1.0, c.push_reserved.ensures.capacity),
        subst (AreSpent committed done) (sym c.push_reserved.ensures.items)
            (spent_push committed done _ (c.gather-2.new.other, c.gather.new.other) c.self.invariant.1.1
            ((tickets.0 ∙ ap (λ t. t.agreement) here.0, tickets.1), (work.0 ∙ ap (λ t. t.agreement) here.1, work.1))),
      ),
      c.self.invariant.2,
    )
