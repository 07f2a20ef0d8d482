-- The change of the orders that an index of latest orders has to follow.
use Rattle.std.specs.Prelude.{◌≡◌, Option}
use Rattle.std.specs.FinMap as table
use Rattle.rows.specs.declared.keys.OrderKey.{OrderKey}
use Rattle.rows.specs.declared.records.Order.{Order}
use Rattle.schema.specs.Database.{Database}

-- the orders are those before, with this one put at its key; `replaced` is the order that was stored there
pub record IsOrderPut (before after : Database) (key : OrderKey) (row : Order) (replaced : Option Order) : Type 0 where
  pub scale : after.scale ≡ before.scale
  pub orders : after.orders ≡ table.insert before.orders key row
  pub stood : replaced ≡ table.get before.orders key
