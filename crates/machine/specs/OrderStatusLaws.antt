-- Laws that hold of every Order-Status.
use Rattle.std.specs.Prelude.{◌≡◌}
use Rattle.schema.specs.Database.{Database}
use Rattle.requests.specs.declared.order_status.OrderStatus.{OrderStatus}
use Rattle.groups.specs.Content.{AreAlikeIn}
use Rattle.groups.specs.OrderStatus.{order_status_footprint}
use Rattle.groups.specs.Footprint.{groups_of}
use Rattle.machine.specs.OrderStatus.{order_status}

-- no table changes
abbrev pub StatusKeepsTables : Type 0
StatusKeepsTables = (t : Database) (o : OrderStatus) → (order_status t o).tables ≡ t

-- The reply depends only on the customers and the orders of the district: for two databases that are alike in these
-- groups, it is the same.
abbrev pub StatusReadsItsGroups : Type 0
StatusReadsItsGroups =
    (s t : Database) (o : OrderStatus) → AreAlikeIn (groups_of (order_status_footprint o)) s t
    → (order_status s o).reply ≡ (order_status t o).reply
