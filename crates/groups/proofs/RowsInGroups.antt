-- Each row stands in one group, and so the contents of all groups make the tables.
use Rattle.std.proofs.Common.{◌≡◌, ◌≢◌, Option, None, refl, sym, ap, ◌∙◌, cond}
use Rattle.std.specs.declared.cmp.Ordering.{Ordering}
use Rattle.std.specs.Cmp.{IsTotalOrder, nat_cmp_total}
use Rattle.std.specs.FinMap.{FinMap, get, same_map, IsAntisymmetric, nat_cmp-IsAntisymmetric}
use Rattle.schema.specs.Database.{Database}
use Rattle.schema.proofs.KeyOrders.{districts_total, districts_exact, stocks_total, stocks_exact, customers_total, customers_exact, orders_total, orders_exact, lines_total, lines_exact}
use Rattle.requests.specs.declared.group.Group.{Group}
use Rattle.requests.specs.declared.group.Group.TheVariants.{Warehouse, District, Customers, Orders, History, Stock}
use Rattle.groups.specs.Groups.{group_of_warehouse, group_of_district, group_of_customer, group_of_order, group_of_line, group_of_history, group_of_stock, is_same}
use Rattle.groups.specs.Content.{Content, content}
use Rattle.groups.specs.Laws.{StandInOne, EachRowStandsInOneGroup, ContentsMakeTables, warehouse_in, district_in, customer_in, order_in, new_order_in, line_in, history_in, stock_in}
use Rattle.groups.proofs.SameGroups.{is_same-itself, is_same-other}
use Rattle.groups.proofs.Parts.{get-rows_of-own, get-rows_of-other}

-- ---- a group of one row has it at its own key alone

own_row : {X : Type 0} (group : Group) (row : Option X) → cond (is_same group group) row None ≡ row
own_row group row = ap (λ b. cond b row None) (is_same-itself group)

no_row : {X : Type 0} (own group : Group) (row : Option X) → group ≢ own → cond (is_same own group) row None ≡ None
no_row own group row apart = ap (λ b. cond b row None) (is_same-other own group apart)

module _ (t : Database) where
  warehouses_stand : StandInOne t t.warehouses group_of_warehouse warehouse_in
  warehouses_stand key = (own_row (group_of_warehouse key) (get t.warehouses key), elsewhere)
    where
      elsewhere : (group : Group) → group ≢ group_of_warehouse key → warehouse_in group (content t group) key ≡ None
      elsewhere (Warehouse w_id) apart = no_row (group_of_warehouse key) (Warehouse w_id) _ apart
      elsewhere _ apart = refl

  districts_stand : StandInOne t t.districts group_of_district district_in
  districts_stand key = (own_row (group_of_district key) (get t.districts key), elsewhere)
    where
      elsewhere : (group : Group) → group ≢ group_of_district key → district_in group (content t group) key ≡ None
      elsewhere (District w_id d_id) apart = no_row (group_of_district key) (District w_id d_id) _ apart
      elsewhere _ apart = refl

  histories_stand : StandInOne t t.histories group_of_history history_in
  histories_stand key = (own_row (group_of_history key) (get t.histories key), elsewhere)
    where
      elsewhere : (group : Group) → group ≢ group_of_history key → history_in group (content t group) key ≡ None
      elsewhere (History w_id d_id) apart = no_row (group_of_history key) (History w_id d_id) _ apart
      elsewhere _ apart = refl

  -- ---- and a group of several has those that belong to it

  customers_stand : StandInOne t t.customers group_of_customer customer_in
  customers_stand key = (get-rows_of-own customers_total customers_exact group_of_customer t.customers key, elsewhere)
    where
      elsewhere : (group : Group) → group ≢ group_of_customer key → customer_in group (content t group) key ≡ None
      elsewhere (Customers w_id d_id) apart = get-rows_of-other customers_total customers_exact group_of_customer (Customers w_id d_id) t.customers key apart
      elsewhere _ apart = refl

  orders_stand : StandInOne t t.orders group_of_order order_in
  orders_stand key = (get-rows_of-own orders_total orders_exact group_of_order t.orders key, elsewhere)
    where
      elsewhere : (group : Group) → group ≢ group_of_order key → order_in group (content t group) key ≡ None
      elsewhere (Orders w_id d_id) apart = get-rows_of-other orders_total orders_exact group_of_order (Orders w_id d_id) t.orders key apart
      elsewhere _ apart = refl

  new_orders_stand : StandInOne t t.new_orders group_of_order new_order_in
  new_orders_stand key = (get-rows_of-own orders_total orders_exact group_of_order t.new_orders key, elsewhere)
    where
      elsewhere : (group : Group) → group ≢ group_of_order key → new_order_in group (content t group) key ≡ None
      elsewhere (Orders w_id d_id) apart = get-rows_of-other orders_total orders_exact group_of_order (Orders w_id d_id) t.new_orders key apart
      elsewhere _ apart = refl

  lines_stand : StandInOne t t.lines group_of_line line_in
  lines_stand key = (get-rows_of-own lines_total lines_exact group_of_line t.lines key, elsewhere)
    where
      elsewhere : (group : Group) → group ≢ group_of_line key → line_in group (content t group) key ≡ None
      elsewhere (Orders w_id d_id) apart = get-rows_of-other lines_total lines_exact group_of_line (Orders w_id d_id) t.lines key apart
      elsewhere _ apart = refl

  stocks_stand : StandInOne t t.stocks group_of_stock stock_in
  stocks_stand key = (get-rows_of-own stocks_total stocks_exact group_of_stock t.stocks key, elsewhere)
    where
      elsewhere : (group : Group) → group ≢ group_of_stock key → stock_in group (content t group) key ≡ None
      elsewhere (Stock w_id residue) apart = get-rows_of-other stocks_total stocks_exact group_of_stock (Stock w_id residue) t.stocks key apart
      elsewhere _ apart = refl

pub each_row_stands_in_one_group : EachRowStandsInOneGroup
each_row_stands_in_one_group t = record {
  warehouses = warehouses_stand t;
  districts = districts_stand t;
  customers = customers_stand t;
  orders = orders_stand t;
  new_orders = new_orders_stand t;
  lines = lines_stand t;
  histories = histories_stand t;
  stocks = stocks_stand t;
}

-- ---- the contents make the tables

-- where a group has the same in both tables, so has each of its rows
pub same_row : {K X : Type 0} {R : K → K → Ordering} (s t : Database) (m n : FinMap R X) (own : K → Group) (found : Group → Content → K → Option X)
    → StandInOne s m own found → StandInOne t n own found → (key : K) → content s (own key) ≡ content t (own key) → get m key ≡ get n key
same_row s t m n own found m_stand n_stand key alike = sym (m_stand key).0 ∙ ap (λ has. found (own key) has key) alike ∙ (n_stand key).0

module _ (s t : Database) (alike : (group : Group) → content s group ≡ content t group) where
  same_table : {K X : Type 0} {R : K → K → Ordering} → IsTotalOrder R → IsAntisymmetric R → (m n : FinMap R X) (own : K → Group) (found : Group → Content → K → Option X)
      → StandInOne s m own found → StandInOne t n own found → m ≡ n
  same_table o a m n own found m_stand n_stand = same_map o a m n (λ key. same_row s t m n own found m_stand n_stand key (alike (own key)))

  same_tables : s.scale ≡ t.scale → s.items ≡ t.items → s ≡ t
  same_tables scale items =
      let warehouses = same_table nat_cmp_total nat_cmp-IsAntisymmetric s.warehouses t.warehouses group_of_warehouse warehouse_in (warehouses_stand s) (warehouses_stand t) in
      let districts = same_table districts_total districts_exact s.districts t.districts group_of_district district_in (districts_stand s) (districts_stand t) in
      let customers = same_table customers_total customers_exact s.customers t.customers group_of_customer customer_in (customers_stand s) (customers_stand t) in
      let orders = same_table orders_total orders_exact s.orders t.orders group_of_order order_in (orders_stand s) (orders_stand t) in
      let new_orders = same_table orders_total orders_exact s.new_orders t.new_orders group_of_order new_order_in (new_orders_stand s) (new_orders_stand t) in
      let lines = same_table lines_total lines_exact s.lines t.lines group_of_line line_in (lines_stand s) (lines_stand t) in
      let histories = same_table districts_total districts_exact s.histories t.histories group_of_history history_in (histories_stand s) (histories_stand t) in
      let stocks = same_table stocks_total stocks_exact s.stocks t.stocks group_of_stock stock_in (stocks_stand s) (stocks_stand t) in
      λ i. record {
        scale = scale i;
        items = items i;
        warehouses = warehouses i;
        districts = districts i;
        stocks = stocks i;
        customers = customers i;
        histories = histories i;
        orders = orders i;
        new_orders = new_orders i;
        lines = lines i;
      }

pub contents_make_tables : ContentsMakeTables
contents_make_tables s t scale items alike = same_tables s t alike scale items
