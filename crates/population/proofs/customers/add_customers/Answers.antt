use Rattle.std.proofs.Common.{◌+◌, subst, sym}
use Rattle.population.specs.Rows.{AreOpeningPayments}
use Rattle.population.proofs.MoreCustomers.{no_customers, customers_more}
use Rattle.population.proofs.Payments.{no_payments, payments_more}
use Rattle.population.proofs.customers.add_customers.Goals as goal

pub loop-place-init : goal.loop-place-init
loop-place-init c = record {
  rows = no_customers c.args.now c.args.customers.now.items;
  payments = subst (AreOpeningPayments c.args.now c.args.home 0) (sym c.new-payments.ensures) (no_payments c.args.home);
}

pub loop-place-preserved : goal.loop-place-preserved
loop-place-preserved c =
    let home = c.args.home in
    let place = c.loop-place.place in
    record {
      rows = customers_more c.args.now place c.args.customers.now.items c.loop-place.customers.items _ c.customer.result c.in_ok-push.ensures.items c.customer.ensures c.loop-place.invariant.rows;
      payments = subst (AreOpeningPayments c.args.now home (place + 1)) (sym c.in_ok-push-2.ensures.ok)
          (payments_more home place c.loop-place.payments c.payment.result c.payment.ensures.customer c.payment.ensures.amount c.payment.ensures.date c.payment.ensures.text c.loop-place.invariant.payments);
    }
