-- Defaults before anything is agreed.
use Rattle.std.specs.Prelude.{[], None}
use Rattle.atomic_table.specs.Seated.{TableId}
use Rattle.groups.specs.Content.{Content}
use Rattle.groups.specs.Content.Content.{OfWarehouse}

-- the content of a group without rows
abbrev pub nothing : Content
nothing = OfWarehouse None

-- a table identity that no table has
abbrev pub no_table : TableId
no_table = record { words = 0; slots = 0; views_name = 0; atom = 0; block = 0; offset = 0; slot_names = [] }
