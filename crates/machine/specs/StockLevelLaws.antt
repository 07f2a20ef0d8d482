-- Laws that hold of every Stock-Level.
use Rattle.std.specs.Prelude.{◌≡◌}
use Rattle.schema.specs.Database.{Database}
use Rattle.requests.specs.declared.stock_level.StockLevel.{StockLevel}
use Rattle.groups.specs.Content.{AreAlikeIn}
use Rattle.groups.specs.StockLevel.{stock_level_footprint}
use Rattle.groups.specs.Footprint.{groups_of}
use Rattle.machine.specs.StockLevel.{level_shown}

-- The reply depends only on the district's row, its orders with their lines, and the stock of its warehouse: for two
-- databases that are alike in these groups, it is the same.
abbrev pub StockLevelReadsItsGroups : Type 0
StockLevelReadsItsGroups =
    (s t : Database) (asked : StockLevel) → AreAlikeIn (groups_of (stock_level_footprint asked)) s t
    → level_shown s asked ≡ level_shown t asked
