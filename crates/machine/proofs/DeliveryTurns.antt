-- The turn of a district by what its order is handed over to, which follows from the district's own rows.
use Rattle.std.proofs.Common.{◌≡◌, ℕ, List, Option, Some, None, refl, ap, ◌∙◌}
use Rattle.std.specs.List.{sum_by}
use Rattle.std.specs.Option.{option_map, option_and_then}
use Rattle.std.specs.FinMap as table
use Rattle.rows.specs.declared.keys.DistrictKey.{DistrictKey}
use Rattle.rows.specs.declared.keys.OrderKey.{OrderKey}
use Rattle.rows.specs.declared.keys.OrderLineKey.{OrderLineKey}
use Rattle.rows.specs.declared.records.Customer.{Customer}
use Rattle.rows.specs.declared.records.Order.{Order}
use Rattle.rows.specs.declared.records.OrderLine.{OrderLine}
use Rattle.schema.specs.Scale.{customer_key}
use Rattle.schema.specs.Database.{Database, customer_of_order}
use Rattle.schema.specs.Consistency.{lines_of}
use Rattle.schema.specs.OrderRows.{oldest_new_order, with_delivery}
use Rattle.machine.specs.declared.delivery.Handover.{Handover}
use Rattle.machine.specs.NewOrder.{order_key}
use Rattle.machine.specs.Delivery.{customer_delivered, amount_of, receiver, handed_over, Turn, turn_of}
use Rattle.machine.specs.DeliverySteps.{handover_of}

-- ---- a turn by its handover

-- the turn in which the order of this number is handed over
abbrev pub turn_with : Database → OrderKey → ℕ → ℕ → Handover → Turn
turn_with t order carrier moment handover = record {
  tables = record (with_delivery t order carrier moment) {
    customers = table.insert t.customers handover.customer handover.row;
  };
  o_id = Some order.o_id;
}

pub turn_by_handover : (t : Database) (home : DistrictKey) (carrier moment o_id : ℕ)
    → turn_of t home carrier moment (Some o_id) ≡ option_map (turn_with t (order_key home o_id) carrier moment) (handover_of t (order_key home o_id))
turn_by_handover t home carrier moment o_id =
    let key = order_key home o_id in
    let make = λ (row : Order) (c : Customer). let h : Handover = record { customer = customer_of_order key row; row = c } in h in
    let turn = λ (left : Database). let x : Turn = record { tables = left; o_id = Some o_id } in x in
    elim (table.get t.orders key) as (λ r. option_map turn (option_and_then (λ row. option_map (handed_over t key row carrier moment) (receiver t key row)) r)
    ≡ option_map (turn_with t key carrier moment) (option_and_then (λ row. option_map (make row) (receiver t key row)) r)) [
      | None ↦ refl
      | Some row ↦ elim (receiver t key row) as (λ r. option_map turn (option_map (handed_over t key row carrier moment) r) ≡ option_map (turn_with t key carrier moment) (option_map (make row) r)) [
        | None ↦ refl
        | Some c ↦ refl
      ]
    ]

-- ---- the rows of a district

-- these tables have for the district what the others have for it
pub record IsSameFor (home : DistrictKey) (s t : Database) : Type 0 where
  pub oldest : oldest_new_order s home ≡ oldest_new_order t home
  pub orders : (o_id : ℕ) → table.get s.orders (order_key home o_id) ≡ table.get t.orders (order_key home o_id)
  pub lines : (o_id : ℕ) → lines_of s (order_key home o_id) ≡ lines_of t (order_key home o_id)
  pub customers : (c_id : ℕ) → table.get s.customers (customer_key home c_id) ≡ table.get t.customers (customer_key home c_id)

pub same_handover : (s t : Database) (home : DistrictKey) (o_id : ℕ) → IsSameFor home s t → handover_of s (order_key home o_id) ≡ handover_of t (order_key home o_id)
same_handover s t home o_id same =
    let key = order_key home o_id in
    let make = λ (row : Order) (c : Customer). let h : Handover = record { customer = customer_of_order key row; row = c } in h in
    ap (option_and_then (λ row. option_map (make row) (receiver s key row))) (same.orders o_id)
    ∙ elim (table.get t.orders key) as (λ r. option_and_then (λ row. option_map (make row) (receiver s key row)) r ≡ option_and_then (λ row. option_map (make row) (receiver t key row)) r) [
      | None ↦ refl
      | Some row ↦ ap (option_map (make row))
          (ap (λ (l : List (OrderLineKey × OrderLine)). option_and_then (λ c. customer_delivered c (sum_by (λ line. line.1.amount) l)) (table.get s.customers (customer_of_order key row))) (same.lines o_id)
          ∙ ap (option_and_then (λ c. customer_delivered c (amount_of t key))) (same.customers row.c_id))
    ]
