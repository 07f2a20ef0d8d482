-- An order that is added and taken back: what its group has, and why the rows stay those of a warehouse.
use Rattle.std.proofs.Common.{◌≡◌, ◌≢◌, ℕ, ◌+◌, ◌<◌, ◌≤◌, inl, inr, Bool, List, [], ◌∷◌, length, map, Option, Some, None, IsTrue, is_some, refl, sym, ap, subst, ◌∙◌, arith}
use Rattle.std.specs.declared.cmp.Ordering.{Ordering}
use Rattle.std.specs.Cmp.{IsTotalOrder}
use Rattle.std.specs.FinMap as table
use Rattle.std.specs.FinMap.{FinMap, IsAntisymmetric}
use Rattle.std.proofs.lemmas.Bool.{cases_lt}
use Rattle.std.proofs.lemmas.Bool.Decides.{nat_tests}
use Rattle.rows.specs.Keys.{order_cmp, order_of_line}
use Rattle.rows.specs.declared.keys.OrderKey.{OrderKey}
use Rattle.rows.specs.declared.records.Order as order
use Rattle.rows.specs.declared.records.NewOrder.{NewOrder}
use Rattle.rows.specs.declared.records.OrderLine.{OrderLine}
use Rattle.rows.specs.declared.limits.TheConstants.{MOST_LINES}
use Rattle.schema.specs.declared.order_rows.Replaced.{Replaced}
use Rattle.schema.specs.EachRow.{EachRow}
use Rattle.schema.specs.MapRows.{put_row}
use Rattle.schema.specs.Scale.{has_item, has_warehouse, has_customer}
use Rattle.schema.specs.Database.{Database, customer_of_order, is_order_id, is_line_number}
use Rattle.schema.specs.OrderRows.{LineTable, StoodThere, line_key, put_lines, with_order_rows, with_order, without_order}
use Rattle.schema.proofs.KeyOrders.{orders_total, orders_exact, lines_total, lines_exact}
use Rattle.schema.proofs.LinesPut.{length-lines_at, taken_back}
use Rattle.schema.proofs.TableWrites.{now_there, still_there}
use Rattle.partitions.specs.Parts.{Part, IsPart, is_of}
use Rattle.partitions.specs.RowChanges.{AddsOrder, part_without_order}
use Rattle.requests.specs.declared.group.Group.{Group}
use Rattle.requests.specs.declared.group.Group.TheVariants.{Orders}
use Rattle.groups.specs.Groups.{group_of_order, group_of_line, warehouse_of}
use Rattle.groups.specs.Content.{Content, content, rows_of}
use Rattle.groups.specs.Content.Content.{OfOrders}
use Rattle.groups.specs.Laws.{StandInOne, order_in, new_order_in, line_in}
use Rattle.groups.proofs.Parts.{rows_of-insert_own, rows_of-insert_other, rows_of-remove_own, rows_of-remove_other}
use Rattle.groups.proofs.RowsInGroups.{each_row_stands_in_one_group, same_row}
use Rattle.tickets.proofs.Apart.{apart}
use Rattle.slices.specs.declared.undo_record.UndoRecord.TheVariants as k
use Rattle.slices.specs.Undo.{AreOrdersWithin, CanTakeBackOrder, ChangesGroup, IsStep, with_order_more, with_order_back}
use Rattle.slices.proofs.Steps.{changes_to}

-- ---- rows of an order that are put, or taken away, change the group of its district alone

module _ {K X : Type 0} {R : K → K → Ordering} (o : IsTotalOrder R) (a : IsAntisymmetric R) (own : K → Group) where
  pub row_here : (m : FinMap R X) (key : K) (row : Option X) → rows_of own (own key) (put_row m key row) ≡ put_row (rows_of own (own key) m) key row
  row_here m key (Some row) = rows_of-insert_own o a own m key row
  row_here m key None = rows_of-remove_own o a own m key

  pub row_elsewhere : (group : Group) (m : FinMap R X) (key : K) (row : Option X) → group ≢ own key → rows_of own group (put_row m key row) ≡ rows_of own group m
  row_elsewhere group m key (Some row) apart = rows_of-insert_other o a own group m key row apart
  row_elsewhere group m key None apart = rows_of-remove_other o a own group m key apart

lines_here : (key : OrderKey) (number : ℕ) (rows : List (Option OrderLine)) (lines : LineTable)
    → rows_of group_of_line (group_of_order key) (put_lines key number rows lines) ≡ put_lines key number rows (rows_of group_of_line (group_of_order key) lines)
lines_here key number [] lines = refl
lines_here key number (row ∷ rows) lines =
    row_here lines_total lines_exact group_of_line (put_lines key (number + 1) rows lines) (line_key key number) row
    ∙ ap (λ l. put_row l (line_key key number) row) (lines_here key (number + 1) rows lines)

lines_elsewhere : (group : Group) (key : OrderKey) (number : ℕ) (rows : List (Option OrderLine)) (lines : LineTable) → group ≢ group_of_order key
    → rows_of group_of_line group (put_lines key number rows lines) ≡ rows_of group_of_line group lines
lines_elsewhere group key number [] lines apart = refl
lines_elsewhere group key number (row ∷ rows) lines apart =
    row_elsewhere lines_total lines_exact group_of_line group (put_lines key (number + 1) rows lines) (line_key key number) row apart
    ∙ lines_elsewhere group key (number + 1) rows lines apart

module _ (t : Database) (key : OrderKey) (row : Option order.Order) (new_order : Option NewOrder) (rows : List (Option OrderLine)) where
  order_rows_here : content (with_order_rows t key row new_order rows) (group_of_order key)
      ≡ OfOrders (put_row (rows_of group_of_order (group_of_order key) t.orders) key row) (put_row (rows_of group_of_order (group_of_order key) t.new_orders) key new_order) (put_lines key 1 rows (rows_of group_of_line (group_of_order key) t.lines))
  order_rows_here =
      let orders = row_here orders_total orders_exact group_of_order t.orders key row in
      let new_orders = row_here orders_total orders_exact group_of_order t.new_orders key new_order in
      let lines = lines_here key 1 rows t.lines in
      λ i. OfOrders (orders i) (new_orders i) (lines i)

  order_rows_elsewhere : (group : Group) → group ≢ group_of_order key → content (with_order_rows t key row new_order rows) group ≡ content t group
  order_rows_elsewhere (Orders w_id d_id) apart =
      let orders = row_elsewhere orders_total orders_exact group_of_order (Orders w_id d_id) t.orders key row apart in
      let new_orders = row_elsewhere orders_total orders_exact group_of_order (Orders w_id d_id) t.new_orders key new_order apart in
      let lines = lines_elsewhere (Orders w_id d_id) key 1 rows t.lines apart in
      λ i. OfOrders (orders i) (new_orders i) (lines i)
  order_rows_elsewhere _ apart = refl

order_changes : (p q : Part) (key : OrderKey) (row : order.Order) (rows : List OrderLine) → AddsOrder key row rows p q
    → ChangesGroup (group_of_order key) (with_order_more key row rows) p q
order_changes p q key row rows is =
    let lines = map (λ line. Some line) rows in
    changes_to (group_of_order key) (with_order_more key row rows) p q (with_order p.tables key row rows) is
    (record { here = order_rows_here p.tables key (Some row) (Some (record {})) lines; elsewhere = order_rows_elsewhere p.tables key (Some row) (Some (record {})) lines })
    refl refl

pub order_back_changes : (p q : Part) (key : OrderKey) (replaced : Replaced) → q ≡ part_without_order p key replaced
    → ChangesGroup (group_of_order key) (with_order_back key replaced) p q
order_back_changes p q key replaced is =
    changes_to (group_of_order key) (with_order_back key replaced) p q (without_order p.tables key replaced) is
    (record {
      here = order_rows_here p.tables key replaced.order replaced.new_order replaced.lines.items;
      elsewhere = order_rows_elsewhere p.tables key replaced.order replaced.new_order replaced.lines.items;
    })
    refl refl

-- ---- the rules of the scale, of one group's orders and of all

-- a row of a table, as its own group has it
recorded : {K X : Type 0} {R : K → K → Ordering} (t : Database) (m : FinMap R X) (own : K → Group) (found : Group → Content → K → Option X) → StandInOne t m own found
    → (group : Group) (key : K) → own key ≡ group → found group (content t group) key ≡ table.get m key
recorded t m own found stands group key same = sym (ap (λ (g : Group). found g (content t g) key) same) ∙ (stands key).0

-- a row that a group has is of that group, and the table has it
read : {K X : Type 0} {R : K → K → Ordering} (t : Database) (m : FinMap R X) (own : K → Group) (found : Group → Content → K → Option X) → StandInOne t m own found
    → (group : Group) (key : K) (row : X) → found group (content t group) key ≡ Some row → (own key ≡ group) × (table.get m key ≡ Some row)
read t m own found stands group key row has =
    elim (apart (own key) group) [
      | inl is ↦ (is.1, sym (recorded t m own found stands group key is.1) ∙ has)
      | inr is ↦ absurd (let none : None ≡ Some row = sym ((stands key).1 group (λ e. is.1 (sym e))) ∙ has in cc)
    ]

pub within_here : (p : Part) → IsPart p → (group : Group) → AreOrdersWithin p.tables.scale group (content p.tables group)
within_here p is group =
    let t = p.tables in
    let stand = each_row_stands_in_one_group t in
    let of_order = read t t.orders group_of_order order_in stand.orders group in
    let of_new = read t t.new_orders group_of_order new_order_in stand.new_orders group in
    let of_line = read t t.lines group_of_line line_in stand.lines group in
    let has = recorded t t.orders group_of_order order_in stand.orders group in
    record {
      orders_numbered = λ key row found. is.orders_numbered key row (of_order key row found).1;
      orders_have_customers = λ key row found. is.orders_have_customers key row (of_order key row found).1;
      new_orders_have_orders = λ key row found. let r = of_new key row found in ap is_some (has key r.0) ∙ is.new_orders_have_orders key row r.1;
      lines_have_orders = λ key row found. let r = of_line key row found in ap is_some (has (order_of_line key) r.0) ∙ is.lines_have_orders key row r.1;
      lines_numbered = λ key row found. is.lines_numbered key row (of_line key row found).1;
      lines_have_items = λ key row found. is.lines_have_items key row (of_line key row found).1;
      lines_have_suppliers = λ key row found. is.lines_have_suppliers key row (of_line key row found).1;
    }

-- a test that the rows of one group pass, and that those of the others pass as they did
each_again : {K X : Type 0} {R : K → K → Ordering} (s t : Database) (m n : FinMap R X) (own : K → Group) (found : Group → Content → K → Option X) → StandInOne s m own found → StandInOne t n own found
    → (group : Group) → ((other : Group) → other ≢ group → content t other ≡ content s other) → (before after : K → X → Bool) → EachRow before m
    → ((key : K) (row : X) → own key ≢ group → IsTrue (before key row) → IsTrue (after key row))
    → ((key : K) (row : X) → own key ≡ group → found group (content t group) key ≡ Some row → IsTrue (after key row))
    → EachRow after n
each_again s t m n own found m_stand n_stand group elsewhere before after each others here key row has =
    elim (apart (own key) group) [
      | inl is ↦ here key row is.1 (recorded t n own found n_stand group key is.1 ∙ has)
      | inr is ↦ others key row is.1 (each key row (sym (same_row t s n m own found n_stand m_stand key (elsewhere (own key) is.1)) ∙ has))
    ]

is_here : (home w_id : ℕ) → w_id ≡ home → IsTrue (is_of home w_id)
is_here home w_id same = grind (arith, nat_tests)

-- other orders of one group leave the rows a part, where they keep the rules of the scale
part_again : (p : Part) (orders : FinMap order_cmp order.Order) (new_orders : FinMap order_cmp NewOrder) (lines : LineTable) (group : Group) → IsPart p → warehouse_of group ≡ p.home
    → ((other : Group) → other ≢ group → content (record p.tables { orders = orders; new_orders = new_orders; lines = lines }) other ≡ content p.tables other)
    → AreOrdersWithin p.tables.scale group (content (record p.tables { orders = orders; new_orders = new_orders; lines = lines }) group)
    → IsPart (record p { tables = record p.tables { orders = orders; new_orders = new_orders; lines = lines } })
part_again p orders new_orders lines group is home elsewhere within =
    let s = p.tables in
    let t : Database = record p.tables { orders = orders; new_orders = new_orders; lines = lines } in
    let was = each_row_stands_in_one_group s in
    let now = each_row_stands_in_one_group t in
    let each_order = each_again s t s.orders orders group_of_order order_in was.orders now.orders group elsewhere in
    let each_new = each_again s t s.new_orders new_orders group_of_order new_order_in was.new_orders now.new_orders group elsewhere in
    let each_line = each_again s t s.lines lines group_of_line line_in was.lines now.lines group elsewhere in
    let has = λ (key : OrderKey) (own : group_of_order key ≡ group). recorded t orders group_of_order order_in now.orders group key own in
    let same = λ (key : OrderKey) (other : group_of_order key ≢ group). same_row t s orders s.orders group_of_order order_in now.orders was.orders key (elsewhere (group_of_order key) other) in
    record {
      home = is.home;
      items = is.items;
      warehouses = is.warehouses;
      districts = is.districts;
      stocks = is.stocks;
      customers = is.customers;
      histories = is.histories;
      orders_here = each_order (λ key _. is_of p.home key.w_id) (λ key _. is_of p.home key.w_id) is.orders_here (λ key row other passed. passed) (λ key row own found. is_here p.home key.w_id (ap warehouse_of own ∙ home));
      new_orders_here = each_new (λ key _. is_of p.home key.w_id) (λ key _. is_of p.home key.w_id) is.new_orders_here (λ key row other passed. passed) (λ key row own found. is_here p.home key.w_id (ap warehouse_of own ∙ home));
      lines_here = each_line (λ key _. is_of p.home key.w_id) (λ key _. is_of p.home key.w_id) is.lines_here (λ key row other passed. passed) (λ key row own found. is_here p.home key.w_id (ap warehouse_of own ∙ home));
      payers_known = is.payers_known;
      orders_numbered = each_order (λ key _. is_order_id key.o_id) (λ key _. is_order_id key.o_id) is.orders_numbered (λ key row other passed. passed) (λ key row own found. within.orders_numbered key row found);
      orders_have_customers = each_order (λ key row. has_customer s.scale (customer_of_order key row)) (λ key row. has_customer s.scale (customer_of_order key row)) is.orders_have_customers
          (λ key row other passed. passed) (λ key row own found. within.orders_have_customers key row found);
      new_orders_have_orders = each_new (λ key _. table.contains_key s.orders key) (λ key _. table.contains_key orders key) is.new_orders_have_orders
          (λ key row other there. ap is_some (same key other) ∙ there) (λ key row own found. sym (ap is_some (has key own)) ∙ within.new_orders_have_orders key row found);
      lines_have_orders = each_line (λ key _. table.contains_key s.orders (order_of_line key)) (λ key _. table.contains_key orders (order_of_line key)) is.lines_have_orders
          (λ key row other there. ap is_some (same (order_of_line key) other) ∙ there) (λ key row own found. sym (ap is_some (has (order_of_line key) own)) ∙ within.lines_have_orders key row found);
      lines_numbered = each_line (λ key _. is_line_number key.number) (λ key _. is_line_number key.number) is.lines_numbered (λ key row other passed. passed) (λ key row own found. within.lines_numbered key row found);
      lines_have_items = each_line (λ _ row. has_item s.scale row.i_id) (λ _ row. has_item s.scale row.i_id) is.lines_have_items (λ key row other passed. passed) (λ key row own found. within.lines_have_items key row found);
      lines_have_suppliers = each_line (λ _ row. has_warehouse s.scale row.supply_w_id) (λ _ row. has_warehouse s.scale row.supply_w_id) is.lines_have_suppliers
          (λ key row other passed. passed) (λ key row own found. within.lines_have_suppliers key row found);
    }

-- ---- an order is one step

home_recorded : (home w_id : ℕ) → IsTrue (is_of home w_id) → w_id ≡ home
home_recorded home w_id is = grind (arith, nat_tests)

-- an order that is there is of the warehouse
order_home : (p : Part) (key : OrderKey) (found : Option order.Order) → IsPart p → table.get p.tables.orders key ≡ found → IsTrue (is_some found) → key.w_id ≡ p.home
order_home p key (Some row) is found there = home_recorded p.home key.w_id (is.orders_here key row found)
order_home p key None is found there = absurd cc

-- the rows without the order are a part again
pub is_part_without_order : (p : Part) (key : OrderKey) (replaced : Replaced) → IsPart p → CanTakeBackOrder p.tables.scale key replaced (content p.tables (group_of_order key))
    → IsPart (part_without_order p key replaced)
is_part_without_order p key replaced is can =
    let t = p.tables in
    let group = group_of_order key in
    let home = order_home p key (table.get t.orders key) is refl (sym (ap is_some ((each_row_stands_in_one_group t).orders key).0) ∙ can.order) in
    part_again p (put_row t.orders key replaced.order) (put_row t.new_orders key replaced.new_order) (put_lines key 1 replaced.lines.items t.lines) group is home
    (order_rows_elsewhere t key replaced.order replaced.new_order replaced.lines.items)
    (subst (AreOrdersWithin t.scale group) (sym (order_rows_here t key replaced.order replaced.new_order replaced.lines.items)) can.within)

-- each line that was put is there
line_there : (key : OrderKey) (number : ℕ) (rows : List OrderLine) (lines : LineTable) (n : ℕ) → number ≤ n → n < number + length rows
    → IsTrue (table.contains_key (put_lines key number (map (λ line. Some line) rows) lines) (line_key key n))
line_there key number [] lines n low high = absurd (omega arith)
line_there key number (row ∷ rows) lines n low high =
    let rest = put_lines key (number + 1) (map (λ line. Some line) rows) lines in
    elim (cases_lt number n) [
      | inl later ↦ still_there lines_total lines_exact rest (line_key key number) row (line_key key n) (line_there key (number + 1) rows lines n (omega arith) (omega arith))
      | inr first ↦
          let same : number ≡ n = omega arith in
          subst (λ (m : ℕ). IsTrue (table.contains_key (table.insert rest (line_key key number) row) (line_key key m))) same (now_there lines_total lines_exact rest (line_key key number) row)
    ]

pub order_step : (p q : Part) (key : OrderKey) (row : order.Order) (rows : List OrderLine) (replaced : Replaced) → IsPart p → length rows ≤ MOST_LINES → StoodThere p.tables key (length rows) replaced
    → AddsOrder key row rows p q → IsStep (group_of_order key) (with_order_more key row rows) (k.Order key replaced) p q
order_step p q key row rows replaced is_part few stood is =
    let u = with_order p.tables key row rows in
    let group = group_of_order key in
    let stand = each_row_stands_in_one_group u in
    let lines = map (λ line. Some line) rows in
    let many : length replaced.lines.items ≡ length rows = ap length stood.lines ∙ length-lines_at p.tables.lines key 1 (length rows) in
    let back : with_order_back key replaced (content u group) ≡ content p.tables group =
    sym (order_rows_here u key replaced.order replaced.new_order replaced.lines.items) ∙ ap (λ (t : Database). content t group) (taken_back p.tables key row rows replaced stood) in
    let can : CanTakeBackOrder u.scale key replaced (content u group) = record {
      few = omega (arith, many);
      order = ap is_some (stand.orders key).0 ∙ now_there orders_total orders_exact p.tables.orders key row;
      new_order = ap is_some (stand.new_orders key).0 ∙ now_there orders_total orders_exact p.tables.new_orders key (record {});
      lines = λ n below. ap is_some (stand.lines (line_key key (1 + n))).0 ∙ line_there key 1 rows p.tables.lines (1 + n) (omega arith) (omega (arith, many));
      within = subst (AreOrdersWithin p.tables.scale group) (sym back) (within_here p is_part group);
    } in
    record {
      changes = order_changes p q key row rows is;
      own = refl;
      can = subst (λ (r : Part). CanTakeBackOrder r.tables.scale key replaced (content r.tables group)) (sym is) can;
      back = ap (λ (r : Part). with_order_back key replaced (content r.tables group)) is ∙ back;
    }
