use Rattle.std.proofs.Common.{◌+◌, ◌*◌, ◌^◌, refl, arith}
use Rattle.std.proofs.lemmas.Int.{ints}
use Rattle.std.specs.Prelude.{◌+ℤ◌}
use Rattle.consistency.proofs.BalancesTotals.{totals-same, within-more}
use Rattle.consistency.proofs.BalancesPayments.{paid_in, payment_more, payment_all}
use Rattle.consistency.proofs.balances.credit_payers.Goals as goal

pub loop-payment-init : goal.loop-payment-init
loop-payment-init c = record {
  length = refl;
  added = λ before h. totals-same c.args.scale before _ c.args.totals.now (λ key. omega (arith, ints)) h;
  within = λ limit h. within-more limit _ c.args.totals.now (omega arith) h;
}

pub credit-requires-clause-within : goal.credit-requires-clause-within
credit-requires-clause-within c =
    within-more (2 ^ 126 + 2 ^ 50 * c.loop-payment.payment-index) (3 * 2 ^ 125) c.loop-payment.totals (omega arith) (c.loop-payment.invariant.within (2 ^ 126) c.requires.within)

pub loop-payment-preserved : goal.loop-payment-preserved
loop-payment-preserved c =
    let payments = c.args.payments.now in
    let n = c.loop-payment.payment-index in
    record {
      length = omega (arith, c.credit.auto.totals);
      added = λ before h. totals-same c.args.scale _ _ c.credit.new.totals
          (λ key. payment_more key payments n c.payment-item.result _ (before key +ℤ paid_in key payments) (omega arith) c.payment-item.is (omega (arith, ints)))
          (c.credit.ensures.added _ (c.loop-payment.invariant.added before h));
      within = λ limit h. within-more _ _ c.credit.new.totals (omega arith) (c.credit.ensures.within _ (c.loop-payment.invariant.within limit h));
    }

pub returns-clause-added : goal.returns-clause-added
returns-clause-added c = λ before h.
    let payments = c.args.payments.now in
    totals-same c.args.scale _ _ c.loop-payment.totals
    (λ key. payment_all key payments c.loop-payment.payment-index (before key +ℤ paid_in key payments) (omega arith))
    (c.loop-payment.invariant.added before h)

pub returns-clause-within : goal.returns-clause-within
returns-clause-within c = λ limit h. within-more _ _ c.loop-payment.totals (omega arith) (c.loop-payment.invariant.within limit h)
