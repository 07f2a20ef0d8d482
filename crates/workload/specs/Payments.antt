-- How a payment is drawn (clause 2.5.1).
use Rattle.std.specs.Prelude.{ℕ}
use Rattle.rand_pcg.specs.Lcg.{Lcg}
use Rattle.rows.specs.declared.keys.DistrictKey.{DistrictKey}
use Rattle.requests.specs.declared.payment.Payment.{Payment}
use Rattle.number_draws.specs.Words.{beyond}
use Rattle.number_draws.specs.Draws.{random_of}
use Rattle.workload.specs.declared.terminal.Terminal.{Terminal}
use Rattle.workload.specs.Customers.{choice_of}
use Rattle.workload.specs.Warehouses.{customer_home_drawn}

-- the payment, and the generator after it: the district, the customer's district, the customer, and the amount, 1 to
-- 5,000 dollars, in cents
unfoldable pub payment_drawn : Terminal → ℕ → Lcg → Payment × Lcg
payment_drawn terminal moment generator =
    let home : DistrictKey = record { w_id = terminal.home.w_id; d_id = random_of 1 10 generator } in
    let customer_home = customer_home_drawn terminal home (beyond 1 generator) in (
      record {
        home = home;
        customer_home = customer_home.0;
        customer = choice_of terminal.scale customer_home.1;
        amount = random_of 100 500000 (beyond 3 customer_home.1);
        moment = moment;
      },
      beyond 4 customer_home.1,
    )
