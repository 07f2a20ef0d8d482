-- A Delivery reads and changes what its own two groups have, and nothing else.
use Rattle.std.proofs.Common.{◌≡◌, ◌≢◌, ℕ, true, false, cond, ◌&&◌, ◌==◌, List, [], Option, Some, None, refl, sym, ap, subst, ◌∙◌, arith}
use Rattle.std.specs.Option.{option_map}
use Rattle.std.proofs.lemmas.Bool.Decides.{nat_tests}
use Rattle.std.proofs.lemmas.List.Elements.{All-from_recursion, recursion_from_All}
use Rattle.std.specs.FinMap as table
use Rattle.rows.specs.Keys.{order_of_line}
use Rattle.rows.specs.declared.keys.DistrictKey.{DistrictKey}
use Rattle.rows.specs.declared.keys.OrderKey.{OrderKey}
use Rattle.rows.specs.declared.keys.OrderLineKey.{OrderLineKey}
use Rattle.rows.specs.declared.records.OrderLine.{OrderLine}
use Rattle.schema.specs.MapRows.{map_rows}
use Rattle.schema.specs.Scale.{customer_key}
use Rattle.schema.specs.Database.{Database, customer_of_order, rows_where, is_of_district, is_of_order}
use Rattle.schema.specs.Consistency.{lines_of, numbers}
use Rattle.schema.specs.OrderRows.{smallest, oldest_new_order, is_order, carried_by, delivered_at, with_carrier, with_moment, with_delivery}
use Rattle.schema.proofs.KeyOrders.{orders_total, orders_exact, lines_total, lines_exact}
use Rattle.requests.specs.declared.group.Group.{Group}
use Rattle.requests.specs.declared.group.Group.TheVariants as g
use Rattle.requests.specs.declared.delivery.Delivery.{Delivery}
use Rattle.groups.specs.Groups.{group_of_customer, group_of_order, group_of_line, is_same}
use Rattle.groups.specs.Content.{Content, content}
use Rattle.groups.specs.Content.Content.{OfOrders}
use Rattle.groups.specs.Footprint.{groups_of, delivery_footprint}
use Rattle.groups.specs.Laws.{ChangesOneGroup, with_customer, customer_in, order_in}
use Rattle.groups.proofs.Parts.{rows_of-remove_own, rows_of-remove_other}
use Rattle.groups.proofs.RowsInGroups.{each_row_stands_in_one_group, same_row}
use Rattle.groups.proofs.RowsPut.{each_put_changes_one_group}
use Rattle.machine.specs.declared.delivery.Handover.{Handover}
use Rattle.machine.specs.Outcome.{Outcome}
use Rattle.machine.specs.NewOrder.{order_key}
use Rattle.machine.specs.Delivery.{turn_of, recorded, delivery}
use Rattle.machine.specs.DeliverySteps.{handover_of}
use Rattle.machine.specs.DeliveryLaws.{DeliveryReadsItsGroups, DeliveryKeepsOtherGroups}
use Rattle.machine.proofs.GroupChanges.{changed_alike}
use Rattle.machine.proofs.RowsOfGroups.{rows_where-rows_of, rows_of-map_rows, rows_of-map_rows_other}
use Rattle.machine.proofs.DeliveryCases.{TurnKeeps, delivery-kept}
use Rattle.machine.proofs.DeliveryTurns.{turn_with, turn_by_handover, IsSameFor, same_handover}

-- ---- an order that is delivered changes the orders of its district alone

module _ (key : OrderKey) (carrier moment : ℕ) where
  -- what a group has once the order is delivered
  abbrev delivered_content : Content → Content
  delivered_content (OfOrders orders new_orders lines) =
      OfOrders (map_rows (with_carrier key carrier) orders) (table.remove new_orders key) (map_rows (with_moment key moment) lines)
  delivered_content other = other

  other_order : (w_id d_id : ℕ) → g.Orders w_id d_id ≢ group_of_order key → (q : OrderKey) → is_same (group_of_order q) (g.Orders w_id d_id) ≡ true → is_order key q ≡ false
  other_order w_id d_id apart q inside =
      elim (is_order key q) as (λ b. is_order key q ≡ b → b ≡ false) [
        | true ↦ λ e.
            let there : ((q.w_id == w_id) && (q.d_id == d_id)) ≡ true = inside in
            let it : ((q.w_id == key.w_id) && ((q.d_id == key.d_id) && (q.o_id == key.o_id))) ≡ true = e in
            let warehouse : w_id ≡ key.w_id = grind (arith, nat_tests) in
            let district : d_id ≡ key.d_id = grind (arith, nat_tests) in
            absurd (apart (λ i. g.Orders (warehouse i) (district i)))
        | false ↦ λ e. refl
      ] refl

  order_changes : (t : Database) → ChangesOneGroup (group_of_order key) delivered_content t (with_delivery t key carrier moment)
  order_changes t = record { here = here; elsewhere = elsewhere }
    where
      here : content (with_delivery t key carrier moment) (group_of_order key) ≡ delivered_content (content t (group_of_order key))
      here =
          let orders = rows_of-map_rows group_of_order (group_of_order key) orders_total orders_exact (with_carrier key carrier) t.orders in
          let new_orders = rows_of-remove_own orders_total orders_exact group_of_order t.new_orders key in
          let lines = rows_of-map_rows group_of_line (group_of_order key) lines_total lines_exact (with_moment key moment) t.lines in
          λ i. OfOrders (orders i) (new_orders i) (lines i)

      elsewhere : (group : Group) → group ≢ group_of_order key → content (with_delivery t key carrier moment) group ≡ content t group
      elsewhere (g.Orders w_id d_id) apart =
          let other = g.Orders w_id d_id in
          let orders = rows_of-map_rows_other group_of_order other orders_total orders_exact (with_carrier key carrier) t.orders
          (λ q row inside. ap (λ b. cond b (carried_by carrier row) row) (other_order w_id d_id apart q inside)) in
          let new_orders = rows_of-remove_other orders_total orders_exact group_of_order other t.new_orders key apart in
          let lines = rows_of-map_rows_other group_of_line other lines_total lines_exact (with_moment key moment) t.lines
          (λ q line inside. ap (λ b. cond b (delivered_at moment line) line) (other_order w_id d_id apart (order_of_line q) inside)) in
          λ i. OfOrders (orders i) (new_orders i) (lines i)
      elsewhere _ apart = refl

-- ---- a Delivery changes its own groups alone

-- a turn changes the orders and the customers of its district
turn_keeps_group : (t : Database) (group : Group) (carrier moment : ℕ) (home : DistrictKey) → group ≢ g.Orders home.w_id home.d_id → group ≢ g.Customers home.w_id home.d_id
    → TurnKeeps (λ s. content s group ≡ content t group) carrier moment home
turn_keeps_group t group carrier moment home no_order no_customer s o_id row c new oldest row_is c_is receives same =
    let key = order_key home o_id in
    let customer_put = (each_put_changes_one_group (with_delivery s key carrier moment)).customers (customer_of_order key row) new in
    customer_put.elsewhere group no_customer ∙ (order_changes key carrier moment s).elsewhere group no_order ∙ same

pub delivery_keeps_other_groups : DeliveryKeepsOtherGroups
delivery_keeps_other_groups t d group none =
    let each = recursion_from_All (λ own. group ≢ own) (groups_of (delivery_footprint d)) none in
    delivery-kept (λ s. content s group ≡ content t group) t d (turn_keeps_group t group d.carrier_id d.moment d.home each.0 each.1.0) refl

-- ---- the rows of a district follow from its two groups

-- the number of the oldest new order, and the lines of an order, that a group has
abbrev oldest_in : DistrictKey → Content → Option ℕ
oldest_in home (OfOrders orders new_orders lines) = smallest (numbers (rows_where (is_of_district home) new_orders))
oldest_in home _ = None

abbrev lines_in : OrderKey → Content → List (OrderLineKey × OrderLine)
lines_in order (OfOrders orders new_orders lines) = rows_where (is_of_order order) lines
lines_in order _ = []

module _ (home : DistrictKey) where
  abbrev own_orders : Group
  own_orders = g.Orders home.w_id home.d_id

  abbrev own_customers : Group
  own_customers = g.Customers home.w_id home.d_id

  oldest_of_group : (t : Database) → oldest_in home (content t own_orders) ≡ smallest (numbers (rows_where (is_of_district home) t.new_orders))
  oldest_of_group t = ap (λ rows. smallest (numbers rows)) (rows_where-rows_of group_of_order own_orders orders_total orders_exact (is_of_district home) (λ k inside. inside) t.new_orders)

  lines_of_group : (t : Database) (o_id : ℕ) → lines_in (order_key home o_id) (content t own_orders) ≡ lines_of t (order_key home o_id)
  lines_of_group t o_id = rows_where-rows_of group_of_line own_orders lines_total lines_exact (is_of_order (order_key home o_id)) of_district t.lines
    where
      of_district : (k : OrderLineKey) → is_of_order (order_key home o_id) k ≡ true → is_same (group_of_line k) own_orders ≡ true
      of_district k inside =
          let it : ((k.w_id == home.w_id) && ((k.d_id == home.d_id) && (k.o_id == o_id))) ≡ true = inside in
          let there : ((k.w_id == home.w_id) && (k.d_id == home.d_id)) ≡ true = grind (arith, nat_tests) in
          there

  same_for : (s t : Database) → content s own_orders ≡ content t own_orders → content s own_customers ≡ content t own_customers → IsSameFor home s t
  same_for s t orders customers =
      let s_stand = each_row_stands_in_one_group s in
      let t_stand = each_row_stands_in_one_group t in
      record {
        oldest = sym (oldest_of_group s) ∙ ap (oldest_in home) orders ∙ oldest_of_group t;
        orders = λ o_id. same_row s t s.orders t.orders group_of_order order_in s_stand.orders t_stand.orders (order_key home o_id) orders;
        lines = λ o_id. sym (lines_of_group s o_id) ∙ ap (lines_in (order_key home o_id)) orders ∙ lines_of_group t o_id;
        customers = λ c_id. same_row s t s.customers t.customers group_of_customer customer_in s_stand.customers t_stand.customers (customer_key home c_id) customers;
      }

-- ---- where two tables have the same in a group, they have the same after the same delivery

handed_alike : (s t : Database) (order : OrderKey) (carrier moment : ℕ) (handover : Handover) (group : Group) → content s group ≡ content t group
    → content (turn_with s order carrier moment handover).tables group ≡ content (turn_with t order carrier moment handover).tables group
handed_alike s t order carrier moment handover group alike =
    let new_s = with_delivery s order carrier moment in
    let new_t = with_delivery t order carrier moment in
    changed_alike (group_of_customer handover.customer) (with_customer handover.customer handover.row) new_s new_t
    (turn_with s order carrier moment handover).tables (turn_with t order carrier moment handover).tables
    ((each_put_changes_one_group new_s).customers handover.customer handover.row) ((each_put_changes_one_group new_t).customers handover.customer handover.row) group
    (changed_alike (group_of_order order) (delivered_content order carrier moment) s t new_s new_t
    (order_changes order carrier moment s) (order_changes order carrier moment t) group alike)

-- ---- a Delivery in two tables that have the same in its groups

module _ (d : Delivery) where
  Alike : Database → Database → Type 0
  Alike s t = (content s (own_orders d.home) ≡ content t (own_orders d.home)) × (content s (own_customers d.home) ≡ content t (own_customers d.home))

  EndAlike : Outcome → Outcome → Type 0
  EndAlike a b = (a.reply ≡ b.reply) × Alike a.tables b.tables

  module _ (s t : Database) (alike : Alike s t) where
    alike_handed : (order : OrderKey) (r : Option Handover)
        → EndAlike (recorded s d (option_map (turn_with s order d.carrier_id d.moment) r)) (recorded t d (option_map (turn_with t order d.carrier_id d.moment) r))
    unfolding Alike EndAlike
    alike_handed order None = (refl, alike)
    alike_handed order (Some handover) = (
      refl,
      (
        handed_alike s t order d.carrier_id d.moment handover (own_orders d.home) alike.0,
        handed_alike s t order d.carrier_id d.moment handover (own_customers d.home) alike.1,
      ),
    )

    alike_turns : (r : Option ℕ) → IsSameFor d.home s t → EndAlike (recorded s d (turn_of s d.home d.carrier_id d.moment r)) (recorded t d (turn_of t d.home d.carrier_id d.moment r))
    unfolding Alike EndAlike
    alike_turns None same = (refl, alike)
    alike_turns (Some o_id) same =
        let order = order_key d.home o_id in
        let s_turn = turn_by_handover s d.home d.carrier_id d.moment o_id in
        let t_turn = turn_by_handover t d.home d.carrier_id d.moment o_id in
        let s_same = s_turn ∙ ap (option_map (turn_with s order d.carrier_id d.moment)) (same_handover s t d.home o_id same) in
        subst (λ x. EndAlike (recorded s d x) (recorded t d (turn_of t d.home d.carrier_id d.moment (Some o_id)))) (sym s_same)
        (subst (λ x. EndAlike (recorded s d (option_map (turn_with s order d.carrier_id d.moment) (handover_of t order))) (recorded t d x)) (sym t_turn)
        (alike_handed order (handover_of t order)))

    alike_deliveries : EndAlike (delivery s d) (delivery t d)
    unfolding Alike EndAlike
    alike_deliveries =
        let same = same_for d.home s t alike.0 alike.1 in
        subst (λ r. EndAlike (recorded s d (turn_of s d.home d.carrier_id d.moment r)) (delivery t d)) (sym same.oldest) (alike_turns (oldest_new_order t d.home) same)

pub delivery_reads_its_groups : DeliveryReadsItsGroups
unfolding Alike EndAlike
delivery_reads_its_groups s t d alike =
    let groups = groups_of (delivery_footprint d) in
    let each = recursion_from_All (λ group. content s group ≡ content t group) groups alike in
    let ends = alike_deliveries d s t (each.0, each.1.0) in (
      ends.0,
      All-from_recursion (λ group. content (delivery s d).tables group ≡ content (delivery t d).tables group) groups (ends.1.0, (ends.1.1, tt)),
    )
