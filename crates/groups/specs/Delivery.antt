-- The groups that Delivery claims.
use Rattle.std.specs.Prelude.{List, [], ◌∷◌}
use Rattle.requests.specs.declared.group.Group.TheVariants.{Customers, Orders}
use Rattle.requests.specs.declared.delivery.Delivery.{Delivery}
use Rattle.groups.specs.declared.group_wants.GroupWant.{GroupWant}
use Rattle.groups.specs.Modes.{exclusively}

-- Delivery changes the orders of a district, with their lines, and its customers (clause 2.7.4.2).
abbrev pub delivery_footprint : Delivery → List GroupWant
delivery_footprint d = exclusively (Orders d.home.w_id d.home.d_id) ∷ exclusively (Customers d.home.w_id d.home.d_id) ∷ []
