-- Laws of the look-up of latest orders, for any places of the districts.
use Rattle.std.specs.Prelude.{◌≡◌, ℕ, List, Some, IfSome}
use Rattle.std.specs.FinMap as map
use Rattle.rows.specs.declared.keys.OrderKey.{OrderKey}
use Rattle.rows.specs.declared.records.Order.{Order}
use Rattle.schema.specs.Database.{Database, customer_of_order}
use Rattle.schema.specs.Consistency.{greatest}
use Rattle.partitions.specs.Slots.{Slots, AreApart}
use Rattle.indexes.specs.LatestOrder.{order_numbers}
use Rattle.indexes.specs.LatestIndex.{FitsLatestBy, with_latest, raised}

-- an order is inserted at a free key, or replaces one of the same customer, and the customer's number is raised: the
-- index fits
abbrev pub RaisedOrderFits : Type 0
RaisedOrderFits = (slot : Slots) (index : List ℕ) (t : Database) (key : OrderKey) (row : Order) → AreApart slot → FitsLatestBy slot index t
    → IfSome (map.get t.orders key) (λ old. old.c_id ≡ row.c_id)
    → FitsLatestBy slot (raised slot t.scale.customers index (customer_of_order key row) key.o_id) (record t { orders = map.insert t.orders key row })

-- an order replaces another customer's, the number is raised, and the other customer's orders are searched: the index
-- fits
abbrev pub ReplacedOrderFits : Type 0
ReplacedOrderFits = (slot : Slots) (index : List ℕ) (t : Database) (key : OrderKey) (old row : Order) → AreApart slot → FitsLatestBy slot index t
    → map.get t.orders key ≡ Some old
    → FitsLatestBy slot
    (with_latest slot t.scale.customers (raised slot t.scale.customers index (customer_of_order key row) key.o_id)
    (customer_of_order key old) (greatest (order_numbers (map.insert t.orders key row) (customer_of_order key old))))
    (record t { orders = map.insert t.orders key row })

-- an order is deleted, and its customer's orders are searched: the index fits
abbrev pub RemovedOrderFits : Type 0
RemovedOrderFits = (slot : Slots) (index : List ℕ) (t : Database) (key : OrderKey) (old : Order) → AreApart slot → FitsLatestBy slot index t
    → map.get t.orders key ≡ Some old
    → FitsLatestBy slot
    (with_latest slot t.scale.customers index (customer_of_order key old) (greatest (order_numbers (map.remove t.orders key) (customer_of_order key old))))
    (record t { orders = map.remove t.orders key })

-- an order's row is replaced by one with the same customer, as by a delivery: the index still fits
abbrev pub PutOrderFits : Type 0
PutOrderFits = (slot : Slots) (index : List ℕ) (t : Database) (key : OrderKey) (old new : Order) → map.get t.orders key ≡ Some old → new.c_id ≡ old.c_id → FitsLatestBy slot index t
    → FitsLatestBy slot index (record t { orders = map.insert t.orders key new })
