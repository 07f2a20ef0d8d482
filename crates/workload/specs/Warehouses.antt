-- The warehouses that take part besides a terminal's own. Each definition that draws gives the drawn value and the
-- generator after it.
use Rattle.std.specs.Prelude.{ℕ, ◌+◌, ◌-◌, ◌==◌, nat_lt, if◌then◌else◌}
use Rattle.rand_pcg.specs.Lcg.{Lcg}
use Rattle.rows.specs.declared.keys.DistrictKey.{DistrictKey}
use Rattle.number_draws.specs.Words.{beyond}
use Rattle.number_draws.specs.Draws.{random_of}
use Rattle.workload.specs.declared.terminal.Terminal.{Terminal}

-- the warehouse at this place, from 1, among all but the home one
abbrev pub beside : ℕ → ℕ → ℕ
beside home place = if nat_lt place home then place else (place + 1)

-- one of the other warehouses, drawn uniformly; the home one, without a word, if there is no other
unfoldable pub other_drawn : Terminal → Lcg → ℕ × Lcg
other_drawn terminal generator =
    if terminal.scale.warehouses == 1 then (terminal.home.w_id, generator)
    else (beside terminal.home.w_id (random_of 1 (terminal.scale.warehouses - 1) generator), beyond 1 generator)

-- the supply warehouse of a line: another than the home one if a number from 1 to 100 is 1 (clause 2.4.1.5); the home
-- one, without a word, if no others take part
unfoldable pub supplier_drawn : Terminal → Lcg → ℕ × Lcg
supplier_drawn terminal generator =
    if terminal.remote then
    (if random_of 1 100 generator == 1 then other_drawn terminal (beyond 1 generator) else (terminal.home.w_id, beyond 1 generator))
    else (terminal.home.w_id, generator)

-- a district of another warehouse: first the district is drawn, then the warehouse
unfoldable pub other_district_drawn : Terminal → Lcg → DistrictKey × Lcg
other_district_drawn terminal generator =
    let other = other_drawn terminal (beyond 1 generator) in
    (record { w_id = other.0; d_id = random_of 1 10 generator }, other.1)

-- the district of the customer of a payment in a home district: one of another warehouse if a number from 1 to 100 is
-- greater than 85, else the same (clause 2.5.1.2); the same, without a word, if no others take part
unfoldable pub customer_home_drawn : Terminal → DistrictKey → Lcg → DistrictKey × Lcg
customer_home_drawn terminal home generator =
    if terminal.remote then
    (if nat_lt 85 (random_of 1 100 generator) then other_district_drawn terminal (beyond 1 generator) else (home, beyond 1 generator))
    else (home, generator)
