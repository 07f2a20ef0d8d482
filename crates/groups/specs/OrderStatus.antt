-- The groups that Order-Status claims.
use Rattle.std.specs.Prelude.{List, [], ◌∷◌}
use Rattle.requests.specs.declared.group.Group.TheVariants.{Customers, Orders}
use Rattle.requests.specs.declared.order_status.OrderStatus.{OrderStatus}
use Rattle.groups.specs.declared.group_wants.GroupWant.{GroupWant}
use Rattle.groups.specs.Modes.{shared}

-- Order-Status reads the customers of a district, and its orders with their lines (clause 2.6.2.2).
abbrev pub order_status_footprint : OrderStatus → List GroupWant
order_status_footprint o = shared (Customers o.home.w_id o.home.d_id) ∷ shared (Orders o.home.w_id o.home.d_id) ∷ []
