-- The districts in order, and the keys of a district's orders.
use Rattle.std.specs.Prelude.{ℕ, ◌+◌, ◌/◌, ◌%◌}
use Rattle.rows.specs.declared.keys.DistrictKey.{DistrictKey}
use Rattle.rows.specs.declared.keys.OrderKey.{OrderKey}

-- the district at a place, counted from 0, in the order of keys
abbrev pub district_at : ℕ → DistrictKey
district_at place = record { w_id = place / 10 + 1; d_id = place % 10 + 1 }

-- the key of an order of the district
abbrev pub order_key : DistrictKey → ℕ → OrderKey
order_key home order = record { w_id = home.w_id; d_id = home.d_id; o_id = order }
