use Rattle.std.proofs.Common.{◌≡◌, ◌+◌, ◌-◌, vec_len, refl, sym, ap, ◌∙◌, subst, arith}
use Rattle.groups.specs.declared.group_wants.Mode.TheVariants.{Shared, Exclusive}
use Rattle.agreement.specs.SeatView.{with_value}
use Rattle.tickets.specs.Seats.{committed_seat, work_seat, untouched}
use Rattle.tickets.specs.Claims.{HoldsClaim}
use Rattle.tickets.specs.Boxes.{AreSpent}
use Rattle.tickets.proofs.Pairs.{spent_push}
use Rattle.tickets.proofs.Holding.{given, reshared, holds_sharing, mode_recorded, is_lent}
use Rattle.tickets.proofs.ticket_box.TicketBox.take_exclusive.Goals as goal

pub invariant_of-self : goal.invariant_of-self
invariant_of-self g c =
    let committed = g.J.GroupNames.committed c.self.inside.group in
    let done = g.J.GroupNames.work c.self.inside.group in
    let group = sym (ap (λ b. b.group) c.self.view_is) in
    let holds = subst (λ group. HoldsClaim (g.J.GroupNames.committed group) (g.J.GroupNames.work group) Exclusive c.args.tickets c.args.work) group c.requires.holds in
    let recorded = mode_recorded _ _ _ _ _ _ _ c.self.invariant.0 in
    let same = ap (λ w. w.mode) (sym c.gather.ensures.equal) in
    let exclusive : c.self.inside.mode ≡ Exclusive = sym recorded ∙ same ∙ holds.2 in
    let here = is_lent _ _ _ _ _ _ _ c.self.invariant.0 exclusive in
    let all : 9 ≡ 9 - c.self.inside.shared = omega (arith, here.2.0) in
    let content = c.args.tickets.value.content in
    let left : c.self.inside.work.value.left ≡ content = ap (λ w. w.left) (sym c.gather.ensures.equal) ∙ sym c.requires.committed in
    let gathered = reshared _ _ _ (c.self.inside.work.share + c.args.work.share) 9 _ c.gather.new.self here.1.0 c.gather.ensures.mine
    (omega (arith, ap (λ t. t.share) here.1.0, ap (λ t. t.share) holds.1)) in
    let changed = c.change.ensures ∙ ap (λ t. with_value t (untouched Shared t.value.left)) gathered in
    let filled = given _ _ _ 9 _ c.self.inside.tickets c.give.new.other holds.0 here.0.1 c.give.ensures.theirs in
    let work = c.gather.ensures.theirs in (
      holds_sharing committed done content Shared c.self.inside.shared c.give.new.other c.change.new.self (vec_len c.push_reserved.new.self) refl
          (filled ∙ ap (committed_seat committed content) all)
          (changed ∙ ap (λ x. work_seat done (untouched Shared x) 9) left ∙ ap (work_seat done (untouched Shared content)) all)
          (omega (arith, here.2.0, here.2.1, c.push_reserved.ensures.len)),
      (
        omega (arith, c.self.invariant.1.0, c.push_reserved.ensures.capacity),
        subst (AreSpent committed done) (sym c.push_reserved.ensures.items)
            (spent_push committed done _ (c.give.new.self, c.gather.new.other) c.self.invariant.1.1 (
              (ap (λ t. t.agreement) c.give.ensures.mine ∙ ap (λ t. t.agreement) holds.0, omega (arith, ap (λ t. t.share) c.give.ensures.mine, ap (λ t. t.share) holds.0)),
              (work.0 ∙ ap (λ t. t.agreement) here.1.0, work.1),
            )),
      ),
      c.self.invariant.2,
    )
