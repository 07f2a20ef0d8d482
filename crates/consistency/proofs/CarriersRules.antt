-- Tests of orders and of lines, against the conditions on carriers.
use Rattle.std.proofs.Common.{◌≡◌, ◌↔◌, Bool, true, false, ◌&&◌, List, ◌∷◌, Option, Some, None, IsTrue, is_none, refl, sym, subst}
use Rattle.std.specs.Bool.{beq}
use Rattle.std.specs.List.{list_all}
use Rattle.std.specs.FinMap as map
use Rattle.rows.specs.Keys.{order_of_line}
use Rattle.schema.specs.Database.{Database}
use Rattle.rows.specs.declared.keys.OrderKey.{OrderKey}
use Rattle.rows.specs.declared.keys.OrderLineKey.{OrderLineKey}
use Rattle.rows.specs.declared.records.Order.{Order}
use Rattle.rows.specs.declared.records.OrderLine.{OrderLine}
use Rattle.schema.specs.Consistency.{NewOrdersHaveNoCarrier, LinesComeWithOrders}
use Rattle.schema.proofs.KeyOrders.{orders_total, orders_exact, lines_total, lines_exact}
use Rattle.schema.proofs.EachRows.{EachRow-table}
use Rattle.consistency.specs.Carriers.{comes_with}

-- whether the order has no carrier just where it is a new order
abbrev pub has_no_carrier : Database → OrderKey × Order → Bool
has_no_carrier t e = beq (is_none e.1.carrier_id) (map.contains_key t.new_orders e.0)

-- whether the line's delivery date agrees with the carrier of its order
abbrev pub comes : Database → OrderLineKey × OrderLine → Bool
comes t e = comes_with e.1 (map.get t.orders (order_of_line e.0))

-- a line that was looked at is no longer left
pub comes_more : (t : Database) (k : OrderLineKey) (line : OrderLine) (rest : List (OrderLineKey × OrderLine)) (before here : Bool) → here ≡ comes t (k, line)
    → (before && list_all (comes t) ((k, line) ∷ rest)) ≡ ((before && here) && list_all (comes t) rest)
comes_more t k line rest before here is =
    rw is (elim before as (λ b. (b && (comes t (k, line) && list_all (comes t) rest)) ≡ ((b && comes t (k, line)) && list_all (comes t) rest)) [ true ↦ refl | false ↦ refl ])

-- a null column beside a test
null_beside : {X : Type 0} (o : Option X) (b : Bool) → IsTrue (beq (is_none o) b) ↔ ((o ≡ None) ↔ IsTrue b)
null_beside None true = (λ _. (λ _. refl, λ _. refl), λ _. refl)
null_beside None false = (λ h. absurd cc, λ h. absurd (let clash : IsTrue false = h.0 refl in cc))
null_beside (Some x) true = (λ h. absurd cc, λ h. absurd (let clash : Some x ≡ None = h.1 refl in cc))
null_beside (Some x) false = (λ _. (λ e. absurd cc, λ e. absurd cc), λ _. refl)

-- and beside another null column
null_both : {X Y : Type 0} (o : Option X) (p : Option Y) → IsTrue (beq (is_none o) (is_none p)) ↔ ((o ≡ None) ↔ (p ≡ None))
null_both o None =
    let both = null_beside o true in
    (λ h. (λ e. refl, λ _. (both.0 h).1 refl), λ h. both.1 (λ _. refl, λ _. h.1 refl))
null_both o (Some y) =
    let both = null_beside o false in
    (λ h. (λ e. absurd (let clash : IsTrue false = (both.0 h).0 e in cc), λ e. absurd cc), λ h. both.1 (λ e. absurd (let clash : Some y ≡ None = h.0 e in cc), λ e. absurd cc))

module _ (t : Database) (r : Bool) where
  pub carriers_rule : r ≡ list_all (has_no_carrier t) (map.entries t.orders)
      → IsTrue r ↔ NewOrdersHaveNoCarrier t
  carriers_rule is =
      let each = EachRow-table orders_total orders_exact (λ key row. beq (is_none row.carrier_id) (map.contains_key t.new_orders key)) t.orders in (
        λ h key row found. (null_beside row.carrier_id (map.contains_key t.new_orders key)).0 (each.0 (subst IsTrue is h) key row found),
        λ h. subst IsTrue (sym is) (each.1 (λ key row found. (null_beside row.carrier_id (map.contains_key t.new_orders key)).1 (h key row found))),
      )

  pub deliveries_rule : r ≡ list_all (comes t) (map.entries t.lines)
      → IsTrue r ↔ LinesComeWithOrders t
  deliveries_rule is =
      let each = EachRow-table lines_total lines_exact (λ key line. comes_with line (map.get t.orders (order_of_line key))) t.lines in (
        λ h key line order found there. (null_both line.delivery_d order.carrier_id).0 (subst (λ o. IsTrue (comes_with line o)) there (each.0 (subst IsTrue is h) key line found)),
        λ h. subst IsTrue (sym is) (each.1 (λ key line found.
            elim (map.get t.orders (order_of_line key)) as (λ o. map.get t.orders (order_of_line key) ≡ o → IsTrue (comes_with line o)) [
              | None ↦ λ there. refl
              | Some order ↦ λ there. (null_both line.delivery_d order.carrier_id).1 (h key line order found there)
            ] refl)),
      )
