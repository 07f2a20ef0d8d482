-- An index of latest orders that fits tables fits them with an order more, once that is noted.
use Rattle.std.proofs.Common.{◌≡◌, ℕ, List, Option, Some, IfSome, refl, sym, ap, subst, ◌∙◌}
use Rattle.std.specs.FinMap as table
use Rattle.rows.specs.declared.keys.OrderKey.{OrderKey}
use Rattle.rows.specs.declared.records.Order.{Order}
use Rattle.schema.specs.declared.scale.Scale.{Scale}
use Rattle.schema.specs.Scale.{district_slot}
use Rattle.schema.specs.Database.{Database, customer_of_order}
use Rattle.schema.specs.Consistency.{greatest}
use Rattle.partitions.specs.Slots.{AreApart}
use Rattle.indexes.specs.LatestOrder.{Orders, order_numbers}
use Rattle.indexes.specs.LatestIndex.{FitsLatest, with_latest, raised}
use Rattle.indexes.proofs.Raised.{raised_fits, replaced_fits}
use Rattle.machine.specs.LatestNoted.{IsOrderPut}

-- it fits by the orders and the scale alone
pub same_orders_fit : (index : List ℕ) (s t : Database) → t.scale ≡ s.scale → t.orders ≡ s.orders → FitsLatest index s → FitsLatest index t
same_orders_fit index s t scale orders fits =
    subst (λ (p : Scale × Orders). FitsLatest index (record t { scale = p.0; orders = p.1 })) (λ i. (sym scale i, sym orders i)) fits

module _ (before after : Database) (key : OrderKey) (row : Order) (replaced : Option Order) (put : IsOrderPut before after key row replaced)
    (apart : AreApart (district_slot after.scale)) (index : List ℕ) (fits : FitsLatest index before) where
  -- the tables with the orders as they were
  abbrev was : Database
  was = record after { orders = before.orders }

  abbrev raised_index : List ℕ
  raised_index = raised (district_slot after.scale) after.scale.customers index (customer_of_order key row) key.o_id

  pub raised_noted : IfSome replaced (λ old. old.c_id ≡ row.c_id) → FitsLatest raised_index after
  raised_noted alike =
      same_orders_fit raised_index (record was { orders = table.insert before.orders key row }) after refl put.orders
      (raised_fits (district_slot after.scale) index was key row apart (same_orders_fit index before was put.scale refl fits)
      (subst (λ o. IfSome o (λ (old : Order). old.c_id ≡ row.c_id)) put.stood alike))

  pub replaced_noted : (old : Order) → replaced ≡ Some old
      → FitsLatest
      (with_latest (district_slot after.scale) after.scale.customers raised_index (customer_of_order key old) (greatest (order_numbers after.orders (customer_of_order key old))))
      after
  replaced_noted old found =
      let slot = district_slot after.scale in
      let index_of = λ (orders : Orders). with_latest slot after.scale.customers raised_index (customer_of_order key old) (greatest (order_numbers orders (customer_of_order key old))) in
      subst (λ (i : List ℕ). FitsLatest i after) (ap index_of (sym put.orders))
      (same_orders_fit (index_of (table.insert before.orders key row)) (record was { orders = table.insert before.orders key row }) after refl put.orders
      (replaced_fits slot index was key old row apart (same_orders_fit index before was put.scale refl fits) (sym put.stood ∙ found)))
