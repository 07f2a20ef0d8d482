-- An order that is delivered, and whose delivery is taken back: what its group has.
use Rattle.std.proofs.Common.{◌≡◌, ◌≢◌, ℕ, ◌+◌, ◌-◌, ◌<◌, ◌&&◌, ◌==◌, inl, inr, Bool, true, false, cond, List, [], ◌∷◌, slice_index_or, Option, Some, None, IsTrue, is_some, refl, sym, ap, subst, ◌∙◌, T, arith}
use Rattle.std.specs.List.{filter}
use Rattle.std.specs.Option.{option_map, option_and_then}
use Rattle.std.specs.declared.cmp.Ordering.{Ordering}
use Rattle.std.specs.Cmp.{IsTotalOrder}
use Rattle.std.specs.Ordering.{is_lt}
use Rattle.std.specs.FinMap as table
use Rattle.std.specs.FinMap.{FinMap, get, get-retain_keys, same_map, IsAntisymmetric, entries, entries_sorted, entries-from_sorted}
use Rattle.std.specs.FinMap.Entries.{is_sorted, below_all}
use Rattle.std.proofs.lemmas.Bool.Decides.{nat_tests}
use Rattle.rows.specs.Keys.{order_cmp, line_cmp}
use Rattle.rows.specs.declared.keys.CustomerKey.{CustomerKey}
use Rattle.rows.specs.declared.keys.OrderKey.{OrderKey}
use Rattle.rows.specs.declared.keys.OrderLineKey.{OrderLineKey}
use Rattle.rows.specs.declared.records.Order as order
use Rattle.rows.specs.declared.records.NewOrder.{NewOrder}
use Rattle.rows.specs.declared.records.OrderLine.{OrderLine}
use Rattle.rows.specs.declared.limits.TheConstants.{MOST_LINES}
use Rattle.schema.specs.EachRow.{EachRow}
use Rattle.schema.specs.MapRows.{mapped, map_rows, put_row}
use Rattle.schema.specs.Database.{Database, is_of_order, is_line_number}
use Rattle.schema.specs.declared.scale.Scale.{Scale}
use Rattle.schema.specs.Consistency.{greatest, numbers}
use Rattle.schema.specs.OrderRows.{LineTable, line_key, is_order, carried_by, delivered_at, with_carrier, with_moment, with_delivery}
use Rattle.schema.proofs.KeyOrders.{orders_total, orders_exact, lines_total, lines_exact}
use Rattle.schema.proofs.OrdersKept.{contains-map_rows}
use Rattle.schema.proofs.TableWrites.{get-map_rows, put_row_same, put_row_twice}
use Rattle.partitions.specs.declared.delivery_rows.BeforeDelivery.{BeforeDelivery}
use Rattle.partitions.specs.Deliveries.{StoodBefore, carrier_at, moment_at, with_carrier_back, with_moments_back, without_delivery}
use Rattle.partitions.specs.Parts.{Part, IsPart}
use Rattle.partitions.specs.RowChanges.{DeliversOrder, TakesBackDelivery}
use Rattle.partitions.specs.Slots.{Slots, customer_slot_by}
use Rattle.requests.specs.declared.group.Group.{Group}
use Rattle.requests.specs.declared.group.Group.TheVariants.{Orders}
use Rattle.groups.specs.Groups.{group_of_order, group_of_line, is_same}
use Rattle.groups.specs.Content.{content, rows_of}
use Rattle.groups.specs.Content.Content.{OfOrders}
use Rattle.groups.proofs.Parts.{get-rows_of-own}
use Rattle.groups.proofs.RowsInGroups.{each_row_stands_in_one_group}
use Rattle.tickets.proofs.Apart.{apart}
use Rattle.indexes.specs.LatestOrder.{is_order_by, order_numbers}
use Rattle.indexes.specs.LatestOrder as latest
use Rattle.indexes.specs.LatestIndex.{FitsLatestBy}
use Rattle.slices.specs.declared.undo_record.UndoRecord.TheVariants as k
use Rattle.slices.specs.Undo.{CanTakeBackDelivery, ChangesGroup, IsStep, with_order_delivered, with_order_undelivered}
use Rattle.slices.proofs.Orders.{row_here, row_elsewhere}
use Rattle.slices.proofs.Steps.{changes_to}

-- ---- rows that are changed in their places

module _ {K X : Type 0} {R : K → K → Ordering} (o : IsTotalOrder R) (a : IsAntisymmetric R) (own : K → Group) (f : K → X → X) (m : FinMap R X) where
  get-rows_of : (group : Group) (n : FinMap R X) (q : K) → get (rows_of own group n) q ≡ cond (is_same (own q) group) (get n q) None
  get-rows_of group n q = get-retain_keys n _ q (λ x e. ap (λ y. is_same (own y) group) (sym (a q x e)))

  changed_here : (group : Group) → rows_of own group (map_rows f m) ≡ map_rows f (rows_of own group m)
  changed_here group = same_map o a _ _ (λ q.
      get-rows_of group (map_rows f m) q ∙ ap (λ r. cond (is_same (own q) group) r None) (get-map_rows R f a m q)
      ∙ elim (is_same (own q) group) as (λ b. cond b (option_map (f q) (get m q)) None ≡ option_map (f q) (cond b (get m q) None)) [ true ↦ refl | false ↦ refl ]
      ∙ sym (get-map_rows R f a (rows_of own group m) q ∙ ap (option_map (f q)) (get-rows_of group m q)))

  changed_elsewhere : (group : Group) → ((q : K) (row : X) → own q ≡ group → f q row ≡ row) → rows_of own group (map_rows f m) ≡ rows_of own group m
  changed_elsewhere group same = same_map o a _ _ (λ q.
      get-rows_of group (map_rows f m) q ∙ ap (λ r. cond (is_same (own q) group) r None) (get-map_rows R f a m q)
      ∙ elim (apart (own q) group) [
        | inl is ↦ ap (λ r. cond (is_same (own q) group) r None) (elim (get m q) as (λ r. option_map (f q) r ≡ r) [ None ↦ refl | Some row ↦ ap Some (same q row is.1) ])
        | inr is ↦ ap (λ b. cond b (option_map (f q) (get m q)) None) is.0 ∙ sym (ap (λ b. cond b (get m q) None) is.0)
      ]
      ∙ sym (get-rows_of group m q))

of_order : (key q : OrderKey) → is_order key q ≡ true → q ≡ key
of_order key q e =
    let w : q.w_id ≡ key.w_id = grind (arith, nat_tests) in
    let d : q.d_id ≡ key.d_id = grind (arith, nat_tests) in
    let n : q.o_id ≡ key.o_id = grind (arith, nat_tests) in
    λ i. record { w_id = w i; d_id = d i; o_id = n i }

of_line : (key : OrderKey) (q : OrderLineKey) → is_of_order key q ≡ true → q ≡ line_key key q.number
of_line key q e =
    let w : q.w_id ≡ key.w_id = grind (arith, nat_tests) in
    let d : q.d_id ≡ key.d_id = grind (arith, nat_tests) in
    let n : q.o_id ≡ key.o_id = grind (arith, nat_tests) in
    λ i. record { w_id = w i; d_id = d i; o_id = n i; number = q.number }

-- changes of the rows of one order leave those of other groups
others_stay : (key : OrderKey) (group : Group) → group ≢ group_of_order key → (f : order.Order → order.Order) (q : OrderKey) (row : order.Order) → group_of_order q ≡ group → cond (is_order key q) (f row) row ≡ row
others_stay key group other f q row own =
    elim (is_order key q) as (λ b. is_order key q ≡ b → cond b (f row) row ≡ row) [
      | true ↦ λ e. absurd (other (sym own ∙ ap group_of_order (of_order key q e)))
      | false ↦ λ e. refl
    ] refl

other_lines_stay : (key : OrderKey) (group : Group) → group ≢ group_of_order key → (f : OrderLine → OrderLine) (q : OrderLineKey) (row : OrderLine) → group_of_line q ≡ group → cond (is_of_order key q) (f row) row ≡ row
other_lines_stay key group other f q row own =
    elim (is_of_order key q) as (λ b. is_of_order key q ≡ b → cond b (f row) row ≡ row) [
      | true ↦ λ e. absurd (other (sym own ∙ ap group_of_line (of_line key q e)))
      | false ↦ λ e. refl
    ] refl

-- ---- the group of the order, and the others

module _ (t : Database) (key : OrderKey) (f : order.Order → order.Order) (g : OrderLineKey → OrderLine → OrderLine) (new_order : Option NewOrder) where
  abbrev with_rows : Database
  with_rows = record t {
    orders = map_rows (λ q row. cond (is_order key q) (f row) row) t.orders;
    new_orders = put_row t.new_orders key new_order;
    lines = map_rows (λ q row. cond (is_of_order key q) (g q row) row) t.lines;
  }

  rows_here : content with_rows (group_of_order key)
      ≡ OfOrders (map_rows (λ q row. cond (is_order key q) (f row) row) (rows_of group_of_order (group_of_order key) t.orders)) (put_row (rows_of group_of_order (group_of_order key) t.new_orders) key new_order)
      (map_rows (λ q row. cond (is_of_order key q) (g q row) row) (rows_of group_of_line (group_of_order key) t.lines))
  rows_here =
      let orders = changed_here orders_total orders_exact group_of_order (λ q row. cond (is_order key q) (f row) row) t.orders (group_of_order key) in
      let new_orders = row_here orders_total orders_exact group_of_order t.new_orders key new_order in
      let lines = changed_here lines_total lines_exact group_of_line (λ q row. cond (is_of_order key q) (g q row) row) t.lines (group_of_order key) in
      λ i. OfOrders (orders i) (new_orders i) (lines i)

  rows_elsewhere : (group : Group) → group ≢ group_of_order key → content with_rows group ≡ content t group
  rows_elsewhere (Orders w_id d_id) other =
      let orders = changed_elsewhere orders_total orders_exact group_of_order (λ q row. cond (is_order key q) (f row) row) t.orders (Orders w_id d_id) (others_stay key (Orders w_id d_id) other f) in
      let new_orders = row_elsewhere orders_total orders_exact group_of_order (Orders w_id d_id) t.new_orders key new_order other in
      let lines = changed_elsewhere lines_total lines_exact group_of_line (λ q row. cond (is_of_order key q) (g q row) row) t.lines (Orders w_id d_id) (λ q row own. other_lines_stay key (Orders w_id d_id) other (g q) q row own) in
      λ i. OfOrders (orders i) (new_orders i) (lines i)
  rows_elsewhere _ other = refl

pub delivery_changes : (p q : Part) (key : OrderKey) (carrier moment : ℕ) → DeliversOrder key carrier moment p q
    → ChangesGroup (group_of_order key) (with_order_delivered key carrier moment) p q
delivery_changes p q key carrier moment is =
    changes_to (group_of_order key) (with_order_delivered key carrier moment) p q (with_delivery p.tables key carrier moment) is
    (record {
      here = rows_here p.tables key (carried_by carrier) (λ _ row. delivered_at moment row) None;
      elsewhere = rows_elsewhere p.tables key (carried_by carrier) (λ _ row. delivered_at moment row) None;
    })
    refl refl

pub delivery_back_changes : (p q : Part) (key : OrderKey) (before : BeforeDelivery) → TakesBackDelivery key before p q
    → ChangesGroup (group_of_order key) (with_order_undelivered key before) p q
delivery_back_changes p q key before is =
    let f = λ (row : order.Order). record row { carrier_id = before.carrier_id } in
    let g = λ (q : OrderLineKey) (row : OrderLine). record row { delivery_d = slice_index_or before.moments (q.number - 1) None } in
    changes_to (group_of_order key) (with_order_undelivered key before) p q (without_delivery p.tables key before) is
    (record { here = rows_here p.tables key f g before.new_order; elsewhere = rows_elsewhere p.tables key f g before.new_order }) refl refl

-- ---- the replaced rows are restored

carrier_again : (orders : FinMap order_cmp order.Order) (key : OrderKey) (carrier : ℕ) (was : Option ℕ) → was ≡ carrier_at orders key → map_rows (with_carrier_back key was) (map_rows (with_carrier key carrier) orders) ≡ orders
carrier_again orders key carrier was stood = same_map orders_total orders_exact _ _ (λ q.
    get-map_rows order_cmp (with_carrier_back key was) orders_exact (map_rows (with_carrier key carrier) orders) q
    ∙ ap (option_map (with_carrier_back key was q)) (get-map_rows order_cmp (with_carrier key carrier) orders_exact orders q)
    ∙ elim (get orders q) as (λ r. get orders q ≡ r → option_map (with_carrier_back key was q) (option_map (with_carrier key carrier q) r) ≡ r) [
      | None ↦ λ e. refl
      | Some row ↦ λ e. elim (is_order key q) as (λ (b : Bool). is_order key q ≡ b → Some (cond b (record (cond b (carried_by carrier row) row) { carrier_id = was }) (cond b (carried_by carrier row) row)) ≡ Some row) [
        | true ↦ λ own.
            let found : get orders key ≡ Some row = ap (get orders) (sym (of_order key q own)) ∙ e in
            let had : was ≡ row.carrier_id = stood ∙ ap (option_and_then (λ (r : order.Order). r.carrier_id)) found in
            ap (λ c. Some (record row { carrier_id = c })) had
        | false ↦ λ other. refl
      ] refl
    ] refl)

moments_again : (lines : LineTable) (key : OrderKey) (moment : ℕ) (moments : List (Option ℕ)) → EachRow (λ q _. is_line_number q.number) lines
    → ((n : ℕ) → n < MOST_LINES → slice_index_or moments n None ≡ moment_at lines (line_key key (n + 1)))
    → map_rows (with_moments_back key moments) (map_rows (with_moment key moment) lines) ≡ lines
moments_again lines key moment moments numbered stood = same_map lines_total lines_exact _ _ (λ q.
    get-map_rows line_cmp (with_moments_back key moments) lines_exact (map_rows (with_moment key moment) lines) q
    ∙ ap (option_map (with_moments_back key moments q)) (get-map_rows line_cmp (with_moment key moment) lines_exact lines q)
    ∙ elim (get lines q) as (λ r. get lines q ≡ r → option_map (with_moments_back key moments q) (option_map (with_moment key moment q) r) ≡ r) [
      | None ↦ λ e. refl
      | Some row ↦ λ e. elim (is_of_order key q) as (λ (b : Bool). is_of_order key q ≡ b
          → Some (cond b (record (cond b (delivered_at moment row) row) { delivery_d = slice_index_or moments (q.number - 1) None }) (cond b (delivered_at moment row) row)) ≡ Some row) [
            | true ↦ λ own.
                let range : is_line_number q.number ≡ true = numbered q row e in
                let low : q.number - 1 < MOST_LINES = grind (arith, nat_tests) in
                let number : q.number - 1 + 1 ≡ q.number = grind (arith, nat_tests) in
                let found : get lines (line_key key (q.number - 1 + 1)) ≡ Some row = ap (λ n. get lines (line_key key n)) number ∙ ap (get lines) (sym (of_line key q own)) ∙ e in
                let had : slice_index_or moments (q.number - 1) None ≡ row.delivery_d = stood (q.number - 1) low ∙ ap (option_and_then (λ (r : OrderLine). r.delivery_d)) found in
                ap (λ m. Some (record row { delivery_d = m })) had
            | false ↦ λ other. refl
          ] refl
    ] refl)

each_of_group : {K X : Type 0} {R : K → K → Ordering} (a : IsAntisymmetric R) (own : K → Group) (group : Group) (test : K → X → Bool) (m : FinMap R X) → EachRow test m → EachRow test (rows_of own group m)
each_of_group a own group test m each key row found =
    elim (is_same (own key) group) as (λ b. cond b (get m key) None ≡ Some row → IsTrue (test key row)) [
      | true ↦ λ e. each key row e
      | false ↦ λ e. absurd cc
    ] (sym (get-retain_keys m _ key (λ x e. ap (λ y. is_same (own y) group) (sym (a key x e)))) ∙ found)

pub delivery_step : (p q : Part) (key : OrderKey) (carrier moment : ℕ) (before : BeforeDelivery) → IsPart p → IsTrue (table.contains_key p.tables.orders key) → StoodBefore p.tables key before
    → DeliversOrder key carrier moment p q → IsStep (group_of_order key) (with_order_delivered key carrier moment) (k.Delivery key before) p q
delivery_step p q key carrier moment before is_part there stood is =
    let t = p.tables in
    let u = with_delivery t key carrier moment in
    let group = group_of_order key in
    let orders_own : FinMap order_cmp order.Order = rows_of group_of_order group t.orders in
    let new_own : FinMap order_cmp NewOrder = rows_of group_of_order group t.new_orders in
    let lines_own : LineTable = rows_of group_of_line group t.lines in
    let here : content u group ≡ with_order_delivered key carrier moment (content t group) = rows_here t key (carried_by carrier) (λ _ row. delivered_at moment row) None in
    let orders = carrier_again orders_own key carrier before.carrier_id (stood.carrier ∙ ap (option_and_then (λ (r : order.Order). r.carrier_id)) (sym (get-rows_of-own orders_total orders_exact group_of_order t.orders key))) in
    let new_was = stood.new_order ∙ sym (get-rows_of-own orders_total orders_exact group_of_order t.new_orders key) in
    let new_orders : put_row (table.remove new_own key) key before.new_order ≡ new_own =
    put_row_twice orders_total orders_exact new_own key None before.new_order ∙ put_row_same orders_total orders_exact new_own key before.new_order (sym new_was) in
    let lines = moments_again lines_own key moment before.moments (each_of_group lines_exact group_of_line group (λ q _. is_line_number q.number) t.lines is_part.lines_numbered)
    (λ n low. stood.moments n low ∙ ap (option_and_then (λ (r : OrderLine). r.delivery_d)) (sym (get-rows_of-own lines_total lines_exact group_of_line t.lines (line_key key (n + 1))))) in
    let again : with_order_undelivered key before (with_order_delivered key carrier moment (content t group)) ≡ content t group = λ i. OfOrders (orders i) (new_orders i) (lines i) in
    let can : CanTakeBackDelivery key before (content u group) = record {
      order = ap is_some ((each_row_stands_in_one_group u).orders key).0 ∙ contains-map_rows orders_exact (with_carrier key carrier) t.orders key ∙ there;
      most_lines = stood.most_lines;
    } in
    record {
      changes = delivery_changes p q key carrier moment is;
      own = refl;
      can = subst (λ (r : Part). CanTakeBackDelivery key before (content r.tables group)) (sym is) can;
      back = ap (λ (r : Part). with_order_undelivered key before (content r.tables group)) is ∙ ap (with_order_undelivered key before) here ∙ again;
    }

-- ---- the index of latest orders

module _ {K X Y : Type 0} (R : K → K → Ordering) (f : K → X → Y) where
  below-mapped : (x : K) (es : List (K × X)) → below_all R x (mapped f es) ≡ below_all R x es
  below-mapped x [] = refl
  below-mapped x (e ∷ es) = ap (λ b. is_lt (R x e.0) && b) (below-mapped x es)

  sorted-mapped : (es : List (K × X)) → is_sorted R (mapped f es) ≡ is_sorted R es
  sorted-mapped [] = refl
  sorted-mapped (e ∷ es) = ap (λ b. b && is_sorted R (mapped f es)) (below-mapped e.0 es) ∙ ap (λ b. below_all R e.0 es && b) (sorted-mapped es)

  entries-changed : (m : FinMap R X) → entries (map_rows f m) ≡ mapped f (entries m)
  unfolding map_rows
  entries-changed m = entries-from_sorted R (mapped f (entries m)) (subst T (sym (sorted-mapped (entries m))) (entries_sorted m))

-- orders that stay their customers' are as many of each
module _ (f : OrderKey → order.Order → order.Order) (same : (q : OrderKey) (row : order.Order) → (f q row).c_id ≡ row.c_id) (c : CustomerKey) where
  numbers_stay : (es : List (OrderKey × order.Order)) → numbers (filter (is_order_by c) (mapped f es)) ≡ numbers (filter (is_order_by c) es)
  numbers_stay [] = refl
  numbers_stay (e ∷ es) =
      let there : OrderKey × order.Order = (e.0, f e.0 e.1) in
      let own : is_order_by c there ≡ is_order_by c e = ap (λ n. (e.0.w_id == c.w_id) && ((e.0.d_id == c.d_id) && (n == c.c_id))) (same e.0 e.1) in
      ap (λ b. numbers (cond b (there ∷ filter (is_order_by c) (mapped f es)) (filter (is_order_by c) (mapped f es)))) own
      ∙ elim (is_order_by c e) as (λ b. numbers (cond b (there ∷ filter (is_order_by c) (mapped f es)) (filter (is_order_by c) (mapped f es))) ≡ numbers (cond b (e ∷ filter (is_order_by c) es) (filter (is_order_by c) es))) [
        | true ↦ ap (λ ns. e.0.o_id ∷ ns) (numbers_stay es)
        | false ↦ numbers_stay es
      ]

  order_numbers_stay : (orders : latest.Orders) → order_numbers (map_rows f orders) c ≡ order_numbers orders c
  order_numbers_stay orders = ap (λ es. numbers (filter (is_order_by c) es)) (entries-changed order_cmp f orders) ∙ numbers_stay (entries orders)

pub fits_delivered : (slot : Slots) (index : List ℕ) (t u : Database) (f : OrderKey → order.Order → order.Order) → ((q : OrderKey) (row : order.Order) → (f q row).c_id ≡ row.c_id)
    → u.scale ≡ t.scale → u.orders ≡ map_rows f t.orders → FitsLatestBy slot index t → FitsLatestBy slot index u
fits_delivered slot index t u f same scale orders fits customer place at =
    fits customer place (ap (λ (s : Scale). customer_slot_by slot s.customers customer) (sym scale) ∙ at)
    ∙ ap (λ ns. Some (greatest ns)) (sym (ap (λ m. order_numbers m customer) orders ∙ order_numbers_stay f same customer t.orders))

pub carrier_stays : (key : OrderKey) (carrier : ℕ) (q : OrderKey) (row : order.Order) → (with_carrier key carrier q row).c_id ≡ row.c_id
carrier_stays key carrier q row = elim (is_order key q) as (λ (b : Bool). (cond b (carried_by carrier row) row).c_id ≡ row.c_id) [ true ↦ refl | false ↦ refl ]

pub carrier_back_stays : (key : OrderKey) (carrier : Option ℕ) (q : OrderKey) (row : order.Order) → (with_carrier_back key carrier q row).c_id ≡ row.c_id
carrier_back_stays key carrier q row = elim (is_order key q) as (λ (b : Bool). (cond b (record row { carrier_id = carrier }) row).c_id ≡ row.c_id) [ true ↦ refl | false ↦ refl ]
