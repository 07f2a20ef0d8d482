-- The groups that Stock-Level claims.
use Rattle.std.specs.Prelude.{List, ◌∷◌, map}
use Rattle.std.specs.List.{range_with_len}
use Rattle.rows.specs.declared.limits.TheConstants.{STOCK_GROUPS}
use Rattle.requests.specs.declared.group.Group.TheVariants.{District, Orders, Stock}
use Rattle.requests.specs.declared.stock_level.StockLevel.{StockLevel}
use Rattle.groups.specs.declared.group_wants.GroupWant.{GroupWant}
use Rattle.groups.specs.Modes.{shared}

-- Stock-Level reads the home district's row, its orders with their lines, and all stock of its warehouse (clause 2.8.2.2).
abbrev pub stock_level_footprint : StockLevel → List GroupWant
stock_level_footprint s =
    shared (District s.home.w_id s.home.d_id)
    ∷ shared (Orders s.home.w_id s.home.d_id)
    ∷ map (λ residue. shared (Stock s.home.w_id residue)) (range_with_len 0 STOCK_GROUPS)
