use Rattle.std.proofs.Common.{◌+◌, ◌-◌, ◌*◌}
use Rattle.amounts.proofs.Nearest.{nearest_cent}
use Rattle.amounts.proofs.totals.total_is_nearest_cent.Goals as goal

pub returns : goal.returns
returns c = λ sum discount warehouse_tax district_tax total. nearest_cent (sum * (10000 - discount) * (10000 + warehouse_tax + district_tax)) total
