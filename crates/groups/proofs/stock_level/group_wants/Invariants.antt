use Rattle.std.proofs.Common.{◌≡◌, ◌∷◌}
use Rattle.requests.specs.declared.group.Group.TheVariants.{District, Orders}
use Rattle.groups.specs.Modes.{shared}
use Rattle.groups.proofs.StockGroups.{group_wants_from}
use Rattle.groups.proofs.stock_level.group_wants.Given as goal

abbrev pub invariant-loop-residue : goal.invariant-loop-residue
invariant-loop-residue l = l.group_wants.items ≡ shared (District l.w_id l.d_id) ∷ shared (Orders l.w_id l.d_id) ∷ group_wants_from l.w_id 0 l.residue
