-- The indexes of the rows of one warehouse.
use Rattle.std.specs.Prelude.{◌≡◌, ℕ, List, Option}
use Rattle.std.specs.Option.{option_map}
use Rattle.std.specs.FinMap as table
use Rattle.rows.specs.declared.keys.OrderKey.{OrderKey}
use Rattle.rows.specs.declared.records.Order.{Order}
use Rattle.schema.specs.MapRows.{put_row}
use Rattle.schema.specs.Database.{Database}
use Rattle.partitions.specs.Parts.{Part}
use Rattle.partitions.specs.Slots.{home_slot}
use Rattle.indexes.specs.LatestIndex.{FitsLatestBy}
use Rattle.indexes.specs.NameOrder.{FitsNamesBy}

-- the index by last name and the index of latest orders fit the rows
abbrev pub FitRows : List (List ℕ) → List ℕ → Part → Type 0
FitRows names latest rows = FitsNamesBy (home_slot rows.home) names rows.tables × FitsLatestBy (home_slot rows.home) latest rows.tables

-- the orders are those before, with this row at the key, or with no row there; `was` and `now` are the C_IDs of the old
-- and of the new order at the key
pub record IsOrderChanged (before after : Database) (key : OrderKey) (row : Option Order) (was now : Option ℕ) : Type 0 where
  pub scale : after.scale ≡ before.scale
  pub orders : after.orders ≡ put_row before.orders key row
  pub stood : was ≡ option_map (λ (order : Order). order.c_id) (table.get before.orders key)
  pub stands : now ≡ option_map (λ (order : Order). order.c_id) row
