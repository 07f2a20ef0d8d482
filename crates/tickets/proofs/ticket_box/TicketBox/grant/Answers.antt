use Rattle.std.proofs.Common.{rules, ◌≡◌, ◌-◌, sym, ap, ◌∙◌, arith}
use Rattle.agreement.specs.SeatView.{with_value}
use Rattle.groups.specs.declared.group_wants.Mode.TheVariants.{Shared, Exclusive}
use Rattle.tickets.specs.Boxes.{ticket_box_view}
use Rattle.tickets.specs.Seats.{work_seat, untouched}
use Rattle.tickets.proofs.Boxes.{lend_keeps}
use Rattle.tickets.proofs.Pairs.{spent_pop}
use Rattle.tickets.proofs.Holding.{given, reshared, holds_claim, is_sharing}
use Rattle.tickets.proofs.ticket_box.TicketBox.grant.Goals as goal

pub give-requires-clause-beside : goal.give-requires-clause-beside
give-requires-clause-beside g c =
    let shared : c.self.inside.mode ≡ Shared = search rules in
    let here = is_sharing _ _ _ _ _ _ _ c.self.invariant.0 shared in
    let spent = spent_pop (g.J.GroupNames.committed c.self.inside.group) (g.J.GroupNames.work c.self.inside.group) _ c.pop.new.self.items (c.in-Some.tickets, c.in-Some.work) c.self.invariant.1.1 c.in-Some.ensures.items in
    spent.1.0.0 ∙ sym (ap (λ t. t.agreement) here.0)

pub give-requires-2-clause-beside : goal.give-requires-2-clause-beside
give-requires-2-clause-beside g c =
    let shared : c.self.inside.mode ≡ Shared = search rules in
    let here = is_sharing _ _ _ _ _ _ _ c.self.invariant.0 shared in
    let spent = spent_pop (g.J.GroupNames.committed c.self.inside.group) (g.J.GroupNames.work c.self.inside.group) _ c.pop.new.self.items (c.in-Some.tickets, c.in-Some.work) c.self.invariant.1.1 c.in-Some.ensures.items in
    let changed : c.change.new.self ≡ work_seat (g.J.GroupNames.work c.self.inside.group) (untouched Exclusive c.self.inside.tickets.value.content) (9 - c.self.inside.shared) =
    c.change.ensures ∙ ap (λ t. with_value t (untouched Exclusive t.value.left)) here.1 in
    spent.1.1.0 ∙ sym (ap (λ t. t.agreement) changed)

pub invariant_of-result : goal.invariant_of-result
invariant_of-result g c =
    let shared : c.self.inside.mode ≡ Shared = search rules in
    let here = is_sharing _ _ _ _ _ _ _ c.self.invariant.0 shared in
    let spent = spent_pop (g.J.GroupNames.committed c.self.inside.group) (g.J.GroupNames.work c.self.inside.group) _ c.pop.new.self.items (c.in-Some.tickets, c.in-Some.work) c.self.invariant.1.1 c.in-Some.ensures.items in
    let changed : c.change.new.self ≡ work_seat (g.J.GroupNames.work c.self.inside.group) (untouched Exclusive c.self.inside.tickets.value.content) (9 - c.self.inside.shared) =
    c.change.ensures ∙ ap (λ t. with_value t (untouched Exclusive t.value.left)) here.1 in (
      holds_claim _ _ c.self.inside.tickets.value.content Exclusive c.give.new.other c.give-2.new.other
          (given _ _ _ 9 _ c.in-Some.tickets c.give.new.other here.0 spent.1.0.1 c.give.ensures.theirs)
          (given _ _ _ 8 _ c.in-Some.work c.give-2.new.other changed spent.1.1.1 c.give-2.ensures.theirs),
      c.self.invariant.2,
    )

pub invariant_of-self : goal.invariant_of-self
invariant_of-self g c =
    let shared : c.self.inside.mode ≡ Shared = search rules in
    let here = is_sharing _ _ _ _ _ _ _ c.self.invariant.0 shared in
    let spent = spent_pop (g.J.GroupNames.committed c.self.inside.group) (g.J.GroupNames.work c.self.inside.group) _ c.pop.new.self.items (c.in-Some.tickets, c.in-Some.work) c.self.invariant.1.1 c.in-Some.ensures.items in
    let changed : c.change.new.self ≡ work_seat (g.J.GroupNames.work c.self.inside.group) (untouched Exclusive c.self.inside.tickets.value.content) (9 - c.self.inside.shared) =
    c.change.ensures ∙ ap (λ t. with_value t (untouched Exclusive t.value.left)) here.1 in
    let none : c.self.inside.shared ≡ 0 = search rules in
    let tickets = ap (λ t. t.share) here.0 in
    let work = ap (λ t. t.share) changed in
    let kept = reshared _ _ _ (c.change.new.self.share - 8) 1 _ c.give-2.new.self changed c.give-2.ensures.mine (omega (arith, work, none)) in (
      (
        (
          ap (λ t. t.agreement) c.give.ensures.mine ∙ ap (λ t. t.agreement) here.0,
          omega (arith, ap (λ t. t.share) c.give.ensures.mine, tickets),
        ),
        (
          kept ∙ ap (λ w. work_seat (g.J.GroupNames.work c.self.inside.group) w 1) (sym (ap (λ t. t.value) kept)),
          ap (λ t. t.value.mode) kept,
        ),
        (none, omega (arith, here.2, none, c.in-Some.ensures.len)),
      ),
      (omega (arith, c.self.invariant.1.0, c.in-Some.ensures.capacity), spent.0),
      c.self.invariant.2,
    )

pub returns-clause-kept : goal.returns-clause-kept
returns-clause-kept g c =
    let was = c.self.inside in
    lend_keeps c.args.by c.args.self.now (ticket_box_view was.group Exclusive was.shared c.give-2.new.self.value) _ (search rules) (search rules) (search rules) (search rules)
