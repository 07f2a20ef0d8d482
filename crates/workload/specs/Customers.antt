-- The customers of requests.
use Rattle.std.specs.Prelude.{ℕ, ◌-◌, nat_lt, min, if◌then◌else◌}
use Rattle.rand_pcg.specs.Lcg.{Lcg}
use Rattle.rows.specs.LastName.{last_name_of}
use Rattle.schema.specs.declared.scale.Scale.{Scale}
use Rattle.requests.specs.declared.request.Choice.{Choice}
use Rattle.requests.specs.declared.request.Choice.TheVariants.{Number, LastName}
use Rattle.number_draws.specs.Words.{beyond}
use Rattle.number_draws.specs.Draws.{random_of, nu_rand_of}

-- C_ID: NURand with A = 1,023 and C = 500 among the customers of a district (clauses 2.4.1.4 and 2.5.1.2); two words
abbrev pub customer_id : Scale → Lcg → ℕ
customer_id scale generator = nu_rand_of 1023 500 1 scale.customers generator

-- the number of C_LAST: NURand with A = 255 and C = 100 among the names that customers have, which are 1,000, or as
-- many as customers if these are fewer (clause 2.1.6); two words
abbrev pub name_number : Scale → Lcg → ℕ
name_number scale generator = nu_rand_of 255 100 0 (min scale.customers 1000 - 1) generator

-- the customer: by C_LAST if a number from 1 to 100 is at most 60, else by C_ID (clauses 2.5.1.2 and 2.6.1.2); three
-- words
unfoldable pub choice_of : Scale → Lcg → Choice
choice_of scale generator =
    if nat_lt 60 (random_of 1 100 generator) then Number (customer_id scale (beyond 1 generator))
    else LastName (last_name_of (name_number scale (beyond 1 generator)))
