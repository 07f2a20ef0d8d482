-- How a New-Order is drawn (clause 2.4.1). Each definition gives the drawn value and the generator after it.
use Rattle.std.specs.Prelude.{ℕ, zero, suc, ◌+◌, ◌==◌, Bool, ◌&&◌, List, [], ◌∷◌, if◌then◌else◌}
use Rattle.rand_pcg.specs.Lcg.{Lcg}
use Rattle.rows.specs.declared.limits.TheConstants.{FEWEST_LINES, MOST_DRAWN_LINES}
use Rattle.schema.specs.declared.scale.Scale.{Scale}
use Rattle.requests.specs.declared.new_order.NewOrder.{NewOrder}
use Rattle.requests.specs.declared.new_order.OrderedLine.{OrderedLine}
use Rattle.number_draws.specs.Words.{beyond}
use Rattle.number_draws.specs.Draws.{random_of, nu_rand_of}
use Rattle.workload.specs.declared.terminal.Terminal.{Terminal}
use Rattle.workload.specs.Customers.{customer_id}
use Rattle.workload.specs.Warehouses.{supplier_drawn}

-- OL_I_ID: NURand with A = 8,191 and C = 4,000 among the items; an unused item is the number after the last, and takes
-- no word (clause 2.4.1.5)
unfoldable pub item_drawn : Scale → Bool → Lcg → ℕ × Lcg
item_drawn scale unused generator =
    if unused then (scale.items + 1, generator) else (nu_rand_of 8191 4000 1 scale.items generator, beyond 2 generator)

-- a line: the item, the supply warehouse, and OL_QUANTITY, 1 to 10
unfoldable pub line_drawn : Terminal → Bool → Lcg → OrderedLine × Lcg
line_drawn terminal unused generator =
    let item = item_drawn terminal.scale unused generator in
    let supplier = supplier_drawn terminal item.1 in
    (record { i_id = item.0; supply_w_id = supplier.0; quantity = random_of 1 10 supplier.1 }, beyond 1 supplier.1)

-- the lines; if the order is to be rolled back, the last one has an unused item
unfoldable pub lines_drawn : Terminal → Bool → ℕ → Lcg → List OrderedLine × Lcg
lines_drawn terminal rolls_back zero generator = ([], generator)
lines_drawn terminal rolls_back (suc left) generator =
    let line = line_drawn terminal (rolls_back && left == 0) generator in
    let others = lines_drawn terminal rolls_back left line.1 in
    (line.0 ∷ others.0, others.1)

-- the order is to be rolled back if the fifth word gives 1 of 1 to 100 (clause 2.4.1.4)
abbrev pub rolls_back : Lcg → Bool
rolls_back generator = random_of 1 100 (beyond 4 generator) == 1

-- the order: the district, the customer, the number of lines, FEWEST_LINES to MOST_DRAWN_LINES, whether it is to be rolled back, and the lines
unfoldable pub new_order_drawn : Terminal → ℕ → Lcg → NewOrder × Lcg
new_order_drawn terminal moment generator =
    let lines = lines_drawn terminal (rolls_back generator) (random_of FEWEST_LINES MOST_DRAWN_LINES (beyond 3 generator)) (beyond 5 generator) in (
      record {
        home = record { w_id = terminal.home.w_id; d_id = random_of 1 10 generator };
        c_id = customer_id terminal.scale (beyond 1 generator);
        moment = moment;
        lines = lines.0;
      },
      lines.1,
    )
