use Rattle.std.proofs.Common.{◌+◌, ◌-◌, ◌*◌}
use Rattle.population.specs.Filled.{AreFilled}
use Rattle.population.proofs.districts.DistrictTables.add_warehouse.Given as goal

abbrev pub invariant-loop-place : goal.invariant-loop-place
invariant-loop-place l = AreFilled l.scale l.now ((l.w_id - 1) * 10 + l.place) l.self
