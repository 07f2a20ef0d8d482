-- When the check refuses a Stock-Level.
use Rattle.std.specs.Prelude.{Bool, false, not}
use Rattle.rows.specs.Ranged.{is_between}
use Rattle.schema.specs.declared.scale.Scale.{Scale}
use Rattle.schema.specs.Scale.{has_warehouse}
use Rattle.requests.specs.declared.stock_level.StockLevel.{StockLevel}
use Rattle.requests.specs.declared.refusal.Refusal.{Refusal}
use Rattle.requests.specs.declared.refusal.Refusal.TheVariants.{BadWarehouse, BadDistrict, BadThreshold}

-- whether a refusal applies to the request
abbrev pub stock_level_applies : Scale → StockLevel → Refusal → Bool
-- the warehouse is not in the scale
stock_level_applies scale s BadWarehouse = not (has_warehouse scale s.home.w_id)
-- the district is not from 1 to 10 (clause 2.8.1.1)
stock_level_applies scale s BadDistrict = not (is_between 1 10 s.home.d_id)
-- the threshold is not from 10 to 20 (clause 2.8.1.2)
stock_level_applies scale s BadThreshold = not (is_between 10 20 s.threshold)
stock_level_applies scale s _ = false
