-- An order that is delivered: its row, and the test of its key.
use Rattle.std.proofs.Common.{◌≡◌, ℕ, true, false, cond, ◌&&◌, ◌==◌, refl, sym, ap, ◌∙◌, arith}
use Rattle.std.specs.declared.cmp.Ordering.{Ordering}
use Rattle.std.specs.declared.cmp.Ordering.TheVariants.{Less, Equal, Greater}
use Rattle.std.specs.Ordering.{nat_cmp, ordering_then, eq_by_cmp, is_eq}
use Rattle.std.specs.Option.{option_map}
use Rattle.std.specs.FinMap as table
use Rattle.std.specs.FinMap.{get, same_map}
use Rattle.std.proofs.lemmas.Bool.Decides.{nat_tests}
use Rattle.rows.specs.declared.keys.OrderKey.{OrderKey}
use Rattle.rows.specs.declared.records.Order.{Order}
use Rattle.rows.specs.Keys.{order_cmp}
use Rattle.schema.specs.MapRows.{map_rows}
use Rattle.schema.specs.OrderRows.{is_order, carried_by, with_carrier}
use Rattle.schema.proofs.KeyOrders.{orders_total, orders_exact}
use Rattle.schema.proofs.TableWrites.{get-map_rows}

-- one number of the key after another
level_eq : (x a : ℕ) (r : Ordering) → is_eq (ordering_then (nat_cmp x a) r) ≡ ((x == a) && is_eq r)
level_eq x a r =
    elim (nat_cmp x a) as (λ c. nat_cmp x a ≡ c → is_eq (ordering_then c r) ≡ ((x == a) && is_eq r)) [
      | Less ↦ λ e. let other : (x == a) ≡ false = grind (arith, nat_tests) in rw other refl
      | Equal ↦ λ e. let same : (x == a) ≡ true = grind (arith, nat_tests) in rw same refl
      | Greater ↦ λ e. let other : (x == a) ≡ false = grind (arith, nat_tests) in rw other refl
    ] refl

last_eq : (x a : ℕ) → is_eq (nat_cmp x a) ≡ (x == a)
last_eq x a = grind (arith, nat_tests)

-- keys that compare alike have the same numbers
pub order_test : (order key : OrderKey) → eq_by_cmp order_cmp key order ≡ is_order order key
order_test order key =
    level_eq key.w_id order.w_id (ordering_then (nat_cmp key.d_id order.d_id) (nat_cmp key.o_id order.o_id))
    ∙ ap (λ b. (key.w_id == order.w_id) && b)
    (level_eq key.d_id order.d_id (nat_cmp key.o_id order.o_id) ∙ ap (λ b. (key.d_id == order.d_id) && b) (last_eq key.o_id order.o_id))

-- the order's row
pub carried : (order : OrderKey) (carrier : ℕ) (old new : table.FinMap order_cmp Order)
    → ((q : OrderKey) → get new q ≡ option_map (λ (row : Order). cond (eq_by_cmp order_cmp q order) (carried_by carrier row) row) (get old q))
    → new ≡ map_rows (with_carrier order carrier) old
carried order carrier old new h = same_map orders_total orders_exact new (map_rows (with_carrier order carrier) old) (λ q.
    h q ∙ ap (λ b. option_map (λ (row : Order). cond b (carried_by carrier row) row) (get old q)) (order_test order q)
    ∙ sym (get-map_rows order_cmp (with_carrier order carrier) orders_exact old q))
