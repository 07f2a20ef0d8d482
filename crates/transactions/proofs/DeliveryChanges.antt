-- An order that is delivered changes the orders of its district alone.
use Rattle.std.proofs.Common.{ℕ, refl}
use Rattle.rows.specs.declared.keys.OrderKey.{OrderKey}
use Rattle.partitions.specs.Parts.{Part}
use Rattle.schema.specs.Database.{Database}
use Rattle.schema.specs.OrderRows.{with_delivery}
use Rattle.groups.specs.Groups.{group_of_order}
use Rattle.groups.specs.Laws.{ChangesOneGroup}
use Rattle.slices.specs.Undo.{with_order_delivered}
use Rattle.slices.proofs.Delivered.{delivery_changes}

pub order_changes : (key : OrderKey) (carrier moment : ℕ) (t : Database) → ChangesOneGroup (group_of_order key) (with_order_delivered key carrier moment) t (with_delivery t key carrier moment)
order_changes key carrier moment t =
    let old : Part = record { home = 0; tables = t } in
    let new : Part = record { home = 0; tables = with_delivery t key carrier moment } in
    (delivery_changes old new key carrier moment refl).contents
