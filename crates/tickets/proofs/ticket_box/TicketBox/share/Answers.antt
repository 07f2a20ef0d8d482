use Rattle.std.proofs.Common.{rules, ◌≡◌, ◌+◌, ◌-◌, vec_len, sym, ap, ◌∙◌, arith}
use Rattle.groups.specs.declared.group_wants.Mode.TheVariants.{Shared}
use Rattle.tickets.specs.Boxes.{ticket_box_view}
use Rattle.tickets.proofs.Boxes.{share_keeps}
use Rattle.tickets.proofs.Pairs.{spent_pop}
use Rattle.tickets.proofs.Holding.{given, reshared, holds_claim, holds_sharing, is_sharing}
use Rattle.tickets.proofs.ticket_box.TicketBox.share.Goals as goal

pub give-requires-clause-beside : goal.give-requires-clause-beside
give-requires-clause-beside g c =
    let shared : c.self.inside.mode ≡ Shared = search rules in
    let here = is_sharing _ _ _ _ _ _ _ c.self.invariant.0 shared in
    let spent = spent_pop (g.J.GroupNames.committed c.self.inside.group) (g.J.GroupNames.work c.self.inside.group) _ c.pop.new.self.items (c.in-Some.tickets, c.in-Some.work) c.self.invariant.1.1 c.in-Some.ensures.items in
    spent.1.0.0 ∙ sym (ap (λ t. t.agreement) here.0)

pub give-requires-2-clause-beside : goal.give-requires-2-clause-beside
give-requires-2-clause-beside g c =
    let shared : c.self.inside.mode ≡ Shared = search rules in
    let here = is_sharing _ _ _ _ _ _ _ c.self.invariant.0 shared in
    let spent = spent_pop (g.J.GroupNames.committed c.self.inside.group) (g.J.GroupNames.work c.self.inside.group) _ c.pop.new.self.items (c.in-Some.tickets, c.in-Some.work) c.self.invariant.1.1 c.in-Some.ensures.items in
    spent.1.1.0 ∙ sym (ap (λ t. t.agreement) here.1)

pub invariant_of-result : goal.invariant_of-result
invariant_of-result g c =
    let shared : c.self.inside.mode ≡ Shared = search rules in
    let here = is_sharing _ _ _ _ _ _ _ c.self.invariant.0 shared in
    let spent = spent_pop (g.J.GroupNames.committed c.self.inside.group) (g.J.GroupNames.work c.self.inside.group) _ c.pop.new.self.items (c.in-Some.tickets, c.in-Some.work) c.self.invariant.1.1 c.in-Some.ensures.items in (
      holds_claim _ _ c.self.inside.tickets.value.content Shared c.give.new.other c.give-2.new.other
          (given _ _ _ 1 _ c.in-Some.tickets c.give.new.other here.0 spent.1.0.1 c.give.ensures.theirs)
          (given _ _ _ 1 _ c.in-Some.work c.give-2.new.other here.1 spent.1.1.1 c.give-2.ensures.theirs),
      c.self.invariant.2,
    )

pub invariant_of-self : goal.invariant_of-self
invariant_of-self g c =
    let shared : c.self.inside.mode ≡ Shared = search rules in
    let here = is_sharing _ _ _ _ _ _ _ c.self.invariant.0 shared in
    let spent = spent_pop (g.J.GroupNames.committed c.self.inside.group) (g.J.GroupNames.work c.self.inside.group) _ c.pop.new.self.items (c.in-Some.tickets, c.in-Some.work) c.self.invariant.1.1 c.in-Some.ensures.items in
    let tickets = ap (λ t. t.share) here.0 in
    let work = ap (λ t. t.share) here.1 in (
      holds_sharing _ _ c.self.inside.tickets.value.content c.self.inside.mode (c.self.inside.shared + 1) c.give.new.self c.give-2.new.self (vec_len c.pop.new.self) shared
          (reshared _ _ _ (c.self.inside.tickets.share - 1) (9 - (c.self.inside.shared + 1)) _ c.give.new.self here.0 c.give.ensures.mine (omega (arith, tickets)))
          (reshared _ _ _ (c.self.inside.work.share - 1) (9 - (c.self.inside.shared + 1)) _ c.give-2.new.self here.1 c.give-2.ensures.mine (omega (arith, work)))
          (omega (arith, here.2, c.in-Some.ensures.len)),
      (omega (arith, c.self.invariant.1.0, c.in-Some.ensures.capacity), spent.0),
      c.self.invariant.2,
    )

pub returns-clause-kept : goal.returns-clause-kept
returns-clause-kept g c =
    let was = c.self.inside in
    share_keeps c.args.by c.args.self.now (ticket_box_view was.group was.mode (was.shared + 1) c.give-2.new.self.value) _ (search rules) (search rules) (search rules) (search rules)
