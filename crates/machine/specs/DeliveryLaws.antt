-- Laws that hold of every Delivery.
use Rattle.std.specs.Prelude.{◌≡◌}
use Rattle.schema.specs.Database.{Database}
use Rattle.schema.specs.Consistency.{Consistent}
use Rattle.requests.specs.declared.delivery.Delivery.{Delivery}
use Rattle.requests.specs.declared.group.Group.{Group}
use Rattle.groups.specs.Content.{content, AreAlikeIn, IsNoneOf}
use Rattle.groups.specs.Footprint.{groups_of, delivery_footprint}
use Rattle.machine.specs.Delivery.{delivery}

-- the tables stay consistent (clause 3.3)
abbrev pub DeliveryKeepsConsistency : Type 0
DeliveryKeepsConsistency = (t : Database) (d : Delivery) → Consistent t → Consistent (delivery t d).tables

-- The reply, and the contents of the Delivery's groups after it, depend only on the contents of these groups before it:
-- for two databases that are alike in these groups, both are the same.
abbrev pub DeliveryReadsItsGroups : Type 0
DeliveryReadsItsGroups =
    (s t : Database) (d : Delivery) → AreAlikeIn (groups_of (delivery_footprint d)) s t
    → ((delivery s d).reply ≡ (delivery t d).reply) × AreAlikeIn (groups_of (delivery_footprint d)) (delivery s d).tables (delivery t d).tables

-- the contents of every other group are unchanged
abbrev pub DeliveryKeepsOtherGroups : Type 0
DeliveryKeepsOtherGroups =
    (t : Database) (d : Delivery) (group : Group) → IsNoneOf (groups_of (delivery_footprint d)) group
    → content (delivery t d).tables group ≡ content t group
