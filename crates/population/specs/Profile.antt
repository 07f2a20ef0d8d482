-- The delivered orders of a district (clause 4.3.3.1: all but the last 3 in 10).
use Rattle.std.specs.Prelude.{ℕ, ◌-◌, ◌*◌, ◌/◌}
use Rattle.schema.specs.declared.scale.Scale.{Scale}

-- the number of delivered orders of each district: they have the lowest numbers
abbrev pub delivered_orders : Scale → ℕ
delivered_orders scale = scale.customers - scale.customers * 3 / 10
