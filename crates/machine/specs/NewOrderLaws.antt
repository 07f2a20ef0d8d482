-- Laws that hold of every New-Order.
use Rattle.std.specs.Prelude.{◌≡◌}
use Rattle.schema.specs.Database.{Database}
use Rattle.schema.specs.Consistency.{Consistent}
use Rattle.requests.specs.declared.new_order.NewOrder.{NewOrder}
use Rattle.requests.specs.declared.group.Group.{Group}
use Rattle.groups.specs.Content.{content, AreAlikeIn, IsNoneOf}
use Rattle.groups.specs.Footprint.{groups_of, new_order_footprint}
use Rattle.machine.specs.NewOrder.{new_order}

-- the tables stay consistent (clause 3.3)
abbrev pub NewOrderKeepsConsistency : Type 0
NewOrderKeepsConsistency = (t : Database) (n : NewOrder) → Consistent t → Consistent (new_order t n).tables

-- The reply, and the contents of the order's groups after it, depend only on the items and on the contents of these
-- groups before it: for two databases that are alike in the items and in these groups, both are the same.
abbrev pub NewOrderReadsItsGroups : Type 0
NewOrderReadsItsGroups =
    (s t : Database) (n : NewOrder) → s.items ≡ t.items → AreAlikeIn (groups_of (new_order_footprint n)) s t
    → ((new_order s n).reply ≡ (new_order t n).reply)
    × AreAlikeIn (groups_of (new_order_footprint n)) (new_order s n).tables (new_order t n).tables

-- the contents of every other group are unchanged
abbrev pub NewOrderKeepsOtherGroups : Type 0
NewOrderKeepsOtherGroups =
    (t : Database) (n : NewOrder) (group : Group) → IsNoneOf (groups_of (new_order_footprint n)) group
    → content (new_order t n).tables group ≡ content t group
