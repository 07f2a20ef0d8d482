use Rattle.std.proofs.Common.{subst}
use Rattle.groups.specs.Footprint.{exclusively}
use Rattle.requests.specs.declared.group.Group.TheVariants.{Warehouse, District, Customers}
use Rattle.transactions.specs.declared.payment.Work.{Work}
use Rattle.transactions.specs.Granted.{AreGrantedFor}
use Rattle.transactions.specs.Payment.{group_wants_of}
use Rattle.transactions.proofs.Granted.{one_kept, two_kept}
use Rattle.transactions.proofs.payment.Work.run.Goals as goal

pub returns-in_ok-pay_home-in-PayHome-clause-kept : goal.returns-in_ok-pay_home-in-PayHome-clause-kept
returns-in_ok-pay_home-in-PayHome-clause-kept g c =
    let p = c.in-PayHome.payment in
    let granted = subst (λ (w : Work). AreGrantedFor (group_wants_of w) c.args.claims.now) c.in-PayHome.is c.requires.granted in
    two_kept (exclusively (Warehouse p.home.w_id)) (exclusively (District p.home.w_id p.home.d_id)) c.args.claims.now
    c.split_at_mut-first.result.0.now c.split_at_mut-first.result.1.now c.index-first-0.result c.index-rest-0.result
    c.pay_home.new.warehouse c.pay_home.new.district c.args.slice.now c.pay_home.new.slice
    granted c.split_at_mut-first.ensures.front c.split_at_mut-first.ensures.back c.pay_home.ensures.kept

pub returns-in_ok-pay_customer-in-PayCustomer-clause-kept : goal.returns-in_ok-pay_customer-in-PayCustomer-clause-kept
returns-in_ok-pay_customer-in-PayCustomer-clause-kept g c =
    let p = c.in-PayCustomer.payment in
    let granted = subst (λ (w : Work). AreGrantedFor (group_wants_of w) c.args.claims.now) c.in-PayCustomer.is c.requires.granted in
    one_kept (exclusively (Customers p.customer_home.w_id p.customer_home.d_id)) c.args.claims.now c.index-claims-0.result
    c.pay_customer.new.customers c.args.slice.now c.pay_customer.new.slice granted c.pay_customer.ensures.kept
