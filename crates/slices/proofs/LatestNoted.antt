-- An index of latest orders that fits rows fits them once the order at a key is another, and that is noted.
use Rattle.std.proofs.Common.{◌≡◌, ℕ, List, Option, Some, None, IfSome, refl, sym, subst}
use Rattle.std.specs.Option.{option_map}
use Rattle.std.specs.FinMap as table
use Rattle.rows.specs.declared.keys.OrderKey.{OrderKey}
use Rattle.rows.specs.declared.keys.CustomerKey.{CustomerKey}
use Rattle.rows.specs.declared.records.Order.{Order}
use Rattle.schema.specs.declared.scale.Scale.{Scale}
use Rattle.schema.specs.MapRows.{put_row}
use Rattle.schema.specs.Database.{Database}
use Rattle.schema.specs.Consistency.{greatest}
use Rattle.schema.proofs.KeyOrders.{orders_total, orders_exact}
use Rattle.schema.proofs.TableWrites.{put_row_same}
use Rattle.partitions.specs.Slots.{Slots, AreApart}
use Rattle.indexes.specs.LatestOrder.{Orders, order_numbers}
use Rattle.indexes.specs.LatestIndex.{FitsLatestBy, with_latest, raised}
use Rattle.indexes.proofs.Raised.{raised_fits, replaced_fits, removed_fits}
use Rattle.slices.specs.Fitting.{IsOrderChanged}

abbrev pub customer_at : OrderKey → ℕ → CustomerKey
customer_at key c_id = record { w_id = key.w_id; d_id = key.d_id; c_id = c_id }

-- raised to the order, if there is one now
abbrev pub raised_for : Slots → ℕ → OrderKey → Option ℕ → List ℕ → List ℕ
raised_for slot customers key None index = index
raised_for slot customers key (Some c_id) index = raised slot customers index (customer_at key c_id) key.o_id

-- the customer looked through whose order it was, if there was one
abbrev pub looked_through_for : Slots → ℕ → Orders → OrderKey → Option ℕ → List ℕ → List ℕ
looked_through_for slot customers orders key None index = index
looked_through_for slot customers orders key (Some c_id) index =
    with_latest slot customers index (customer_at key c_id) (greatest (order_numbers orders (customer_at key c_id)))

module _ (slot : Slots) (apart : AreApart slot) (t : Database) (key : OrderKey) (index : List ℕ) (fits : FitsLatestBy slot index t) where
  fits_at_key : (old row : Option Order) → table.get t.orders key ≡ old
      → FitsLatestBy slot
      (looked_through_for slot t.scale.customers (put_row t.orders key row) key (option_map (λ (order : Order). order.c_id) old)
      (raised_for slot t.scale.customers key (option_map (λ (order : Order). order.c_id) row) index))
      (record t { orders = put_row t.orders key row })
  fits_at_key None None stood = subst (λ (orders : Orders). FitsLatestBy slot index (record t { orders = orders })) (sym (put_row_same orders_total orders_exact t.orders key None stood)) fits
  fits_at_key None (Some row) stood = raised_fits slot index t key row apart fits (subst (λ o. IfSome o (λ (old : Order). old.c_id ≡ row.c_id)) (sym stood) tt)
  fits_at_key (Some old) (Some row) stood = replaced_fits slot index t key old row apart fits stood
  fits_at_key (Some old) None stood = removed_fits slot index t key old apart fits stood

pub noted_fits : (slot : Slots) (before after : Database) (key : OrderKey) (row : Option Order) (was now : Option ℕ) → IsOrderChanged before after key row was now → AreApart slot → (index : List ℕ) → FitsLatestBy slot index before
    → FitsLatestBy slot (looked_through_for slot after.scale.customers after.orders key was (raised_for slot after.scale.customers key now index)) after
noted_fits slot before after key row was now changed apart index fits =
    let t : Database = record after { orders = before.orders } in
    let fits_here = subst (λ (s : Scale). FitsLatestBy slot index (record t { scale = s })) (sym changed.scale) fits in
    subst (λ (x : Orders × Option ℕ × Option ℕ). FitsLatestBy slot
    (looked_through_for slot after.scale.customers x.0 key x.1 (raised_for slot after.scale.customers key x.2 index)) (record after { orders = x.0 }))
    (λ i. (sym changed.orders i, sym changed.stood i, sym changed.stands i))
    (fits_at_key slot apart t key index fits_here (table.get before.orders key) row refl)
