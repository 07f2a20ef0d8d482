use Rattle.std.proofs.Common.{sym, ap, ◌∙◌, subst, arith, ℕ}
use Rattle.agreement.specs.SeatView.{Agreement}
use Rattle.tickets.specs.Boxes.{AreSpent}
use Rattle.tickets.proofs.Pairs.{spent_push}
use Rattle.tickets.proofs.opening.spent_pairs.Goals as goal

pub loop-preserved : goal.loop-preserved
loop-preserved c =
    let committed = c.args.tickets.now.agreement.table in
    let done = c.args.work.now.agreement.table in
    let tickets = c.in_ok-another.ensures.spent in
    let work = c.in_ok-another-2.ensures.spent in
    let of_committed : ℕ → Agreement = λ count. record { table = committed; count = count } in
    let of_work : ℕ → Agreement = λ count. record { table = done; count = count } in
    record {
      tickets = c.another.ensures.same ∙ c.loop.invariant.tickets;
      work = c.another-in-loop.ensures.same ∙ c.loop.invariant.work;
      count = omega (arith, c.push_reserved.ensures.len, c.loop.invariant.count);
      room = omega (arith, c.push_reserved.ensures.capacity, c.loop.invariant.room);
      spent = subst (AreSpent committed done) (sym c.push_reserved.ensures.items)
          (spent_push committed done _ (c.in_ok-another.field-0, c.in_ok-another-2.field-0) c.loop.invariant.spent (
            (tickets.0 ∙ ap (λ t. t.agreement) c.loop.invariant.tickets ∙ ap of_committed c.requires.tickets, tickets.1),
            (work.0 ∙ ap (λ t. t.agreement) c.loop.invariant.work ∙ ap of_work c.requires.work, work.1),
          ));
    }
