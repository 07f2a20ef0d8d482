-- When the check refuses a New-Order.
use Rattle.std.specs.Prelude.{Bool, false, not, length}
use Rattle.std.specs.List.{list_all}
use Rattle.rows.specs.Ranged.{is_between}
use Rattle.rows.specs.declared.limits.TheConstants.{FEWEST_LINES, MOST_LINES}
use Rattle.schema.specs.declared.scale.Scale.{Scale}
use Rattle.schema.specs.Scale.{has_warehouse}
use Rattle.requests.specs.declared.new_order.NewOrder.{NewOrder}
use Rattle.requests.specs.declared.refusal.Refusal.{Refusal}
use Rattle.requests.specs.declared.refusal.Refusal.TheVariants.{BadWarehouse, BadDistrict, BadLines, BadQuantity, BadSupply}

-- whether a refusal applies to the order
abbrev pub new_order_applies : Scale → NewOrder → Refusal → Bool
-- the home warehouse is not in the scale
new_order_applies scale n BadWarehouse = not (has_warehouse scale n.home.w_id)
-- the home district is not from 1 to 10 (clause 2.4.1.2)
new_order_applies scale n BadDistrict = not (is_between 1 10 n.home.d_id)
-- there are not FEWEST_LINES to MOST_LINES lines (clause 2.4.1.3)
new_order_applies scale n BadLines = not (is_between FEWEST_LINES MOST_LINES (length n.lines))
-- a line's quantity is not from 1 to 10 (clause 2.4.1.5)
new_order_applies scale n BadQuantity = not (list_all (λ line. is_between 1 10 line.quantity) n.lines)
-- a line's supply warehouse is not in the scale
new_order_applies scale n BadSupply = not (list_all (λ line. has_warehouse scale line.supply_w_id) n.lines)
new_order_applies scale n _ = false
