-- The indexes that fit tables fit them after a Delivery too.
use Rattle.std.proofs.Common.{◌≡◌, ℕ, true, false, cond, ◌&&◌, ◌==◌, List, [], ◌∷◌, Some, refl, sym, ap, ◌∙◌}
use Rattle.std.specs.List.{filter}
use Rattle.std.specs.FinMap as table
use Rattle.rows.specs.declared.keys.DistrictKey.{DistrictKey}
use Rattle.rows.specs.declared.keys.CustomerKey.{CustomerKey}
use Rattle.rows.specs.declared.keys.OrderKey.{OrderKey}
use Rattle.rows.specs.declared.records.Order.{Order}
use Rattle.schema.specs.MapRows.{mapped, map_rows}
use Rattle.schema.specs.Database.{Database, customer_of_order}
use Rattle.schema.specs.Consistency.{greatest, numbers}
use Rattle.schema.specs.OrderRows.{is_order, with_carrier}
use Rattle.requests.specs.declared.delivery.Delivery.{Delivery}
use Rattle.indexes.specs.LatestOrder.{Orders, is_order_by, order_numbers}
use Rattle.indexes.specs.LatestIndex.{FitsLatest}
use Rattle.indexes.specs.NameOrder.{FitsNames}
use Rattle.indexes.proofs.Names.{same_names_fit, put_keeps_names}
use Rattle.machine.specs.NewOrder.{order_key}
use Rattle.machine.specs.Delivery.{delivery, handed_over}
use Rattle.machine.proofs.DeliveryCases.{TurnKeeps, delivery-kept}
use Rattle.machine.proofs.OrderDelivered.{same_buyer}
use Rattle.machine.proofs.RowsChanged.{entries-map_rows}

-- an order that gets its carrier is the same customer's
module _ (order : OrderKey) (carrier : ℕ) (c : CustomerKey) where
  numbers-carried : (es : List (OrderKey × Order)) → numbers (filter (is_order_by c) (mapped (with_carrier order carrier) es)) ≡ numbers (filter (is_order_by c) es)
  numbers-carried [] = refl
  numbers-carried (e ∷ es) =
      let changed = mapped (with_carrier order carrier) es in
      let there : OrderKey × Order = (e.0, with_carrier order carrier e.0 e.1) in
      let own : is_order_by c there ≡ is_order_by c e = ap (λ n. (e.0.w_id == c.w_id) && ((e.0.d_id == c.d_id) && (n == c.c_id))) (same_buyer (is_order order e.0) carrier e.1) in
      ap (λ b. numbers (cond b (there ∷ filter (is_order_by c) changed) (filter (is_order_by c) changed))) own
      ∙ elim (is_order_by c e) as (λ b. numbers (cond b (there ∷ filter (is_order_by c) changed) (filter (is_order_by c) changed)) ≡ numbers (cond b (e ∷ filter (is_order_by c) es) (filter (is_order_by c) es))) [
        | true ↦ ap (λ ns. e.0.o_id ∷ ns) (numbers-carried es)
        | false ↦ numbers-carried es
      ]

  order_numbers-carried : (orders : Orders) → order_numbers (map_rows (with_carrier order carrier) orders) c ≡ order_numbers orders c
  order_numbers-carried orders =
      ap (λ es. numbers (filter (is_order_by c) es)) (entries-map_rows (with_carrier order carrier) orders) ∙ numbers-carried (table.entries orders)

turn_keeps_names : (names : List (List ℕ)) (carrier moment : ℕ) (home : DistrictKey) → TurnKeeps (FitsNames names) carrier moment home
turn_keeps_names names carrier moment home t o_id row c new oldest row_is c_is receives fits =
    let key = order_key home o_id in
    let same = put_keeps_names t (customer_of_order key row) c new c_is receives.last receives.first in
    same_names_fit names t (handed_over t key row carrier moment new) (record { scale = refl; last = same.last; first = same.first }) fits

turn_keeps_latest : (latest : List ℕ) (carrier moment : ℕ) (home : DistrictKey) → TurnKeeps (FitsLatest latest) carrier moment home
turn_keeps_latest latest carrier moment home t o_id row c new oldest row_is c_is receives fits customer place at =
    fits customer place at ∙ ap (λ ns. Some (greatest ns)) (sym (order_numbers-carried (order_key home o_id) carrier customer t.orders))

pub delivery_keeps_indexes : (names : List (List ℕ)) (latest : List ℕ) (t : Database) (d : Delivery) → FitsNames names t → FitsLatest latest t
    → FitsNames names (delivery t d).tables × FitsLatest latest (delivery t d).tables
delivery_keeps_indexes names latest t d fits_names fits_latest = (
  delivery-kept (FitsNames names) t d (turn_keeps_names names d.carrier_id d.moment d.home) fits_names,
  delivery-kept (FitsLatest latest) t d (turn_keeps_latest latest d.carrier_id d.moment d.home) fits_latest,
)
