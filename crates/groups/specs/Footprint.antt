-- The groups that a request claims.
use Rattle.std.specs.Prelude.{List, map}
use Rattle.requests.specs.declared.group.Group.{Group}
use Rattle.requests.specs.declared.request.Request.{Request}
use Rattle.requests.specs.declared.request.Request.TheVariants.{NewOrder, Payment, OrderStatus, Delivery, StockLevel}
use Rattle.groups.specs.declared.group_wants.GroupWant.{GroupWant}
pub use Rattle.groups.specs.Modes.{exclusively, shared}
pub use Rattle.groups.specs.NewOrder.{new_order_footprint}
pub use Rattle.groups.specs.Payment.{payment_footprint}
pub use Rattle.groups.specs.OrderStatus.{order_status_footprint}
pub use Rattle.groups.specs.Delivery.{delivery_footprint}
pub use Rattle.groups.specs.StockLevel.{stock_level_footprint}

-- the groups that a request claims
abbrev pub footprint : Request → List GroupWant
footprint (NewOrder n) = new_order_footprint n
footprint (Payment p) = payment_footprint p
footprint (OrderStatus o) = order_status_footprint o
footprint (Delivery d) = delivery_footprint d
footprint (StockLevel s) = stock_level_footprint s

-- the groups of wants
abbrev pub groups_of : List GroupWant → List Group
groups_of group_wants = map (λ group_want. group_want.group) group_wants
