use Rattle.std.proofs.Common.{subst}
use Rattle.groups.specs.Footprint.{exclusively, shared}
use Rattle.requests.specs.declared.group.Group.TheVariants.{Warehouse, District}
use Rattle.transactions.specs.declared.new_order.work.Work.{Work}
use Rattle.transactions.specs.Granted.{AreGrantedFor}
use Rattle.transactions.specs.NewOrder.{group_wants_of}
use Rattle.transactions.proofs.Granted.{two_kept}
use Rattle.transactions.proofs.new_order.work.Work.run.Goals as goal

pub returns-in_ok-take_number-in-TakeNumber-clause-kept : goal.returns-in_ok-take_number-in-TakeNumber-clause-kept
returns-in_ok-take_number-in-TakeNumber-clause-kept g c =
    let n = c.in-TakeNumber.order in
    let granted = subst (λ (w : Work). AreGrantedFor (group_wants_of w) c.args.claims.now) c.in-TakeNumber.is c.requires.granted in
    two_kept (shared (Warehouse n.home.w_id)) (exclusively (District n.home.w_id n.home.d_id)) c.args.claims.now
    c.split_at_mut-first.result.0.now c.split_at_mut-first.result.1.now c.index-first-0.result c.index-rest-0.result
    c.take_number.new.warehouse c.take_number.new.district c.args.slice.now c.take_number.new.slice
    granted c.split_at_mut-first.ensures.front c.split_at_mut-first.ensures.back c.take_number.ensures.kept
