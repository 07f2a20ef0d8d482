-- An order that is added to a warehouse's rows, or taken back.
use Rattle.std.proofs.Common.{◌≡◌, ℕ, ◌+◌, ◌<◌, ◌≤◌, Bool, true, false, ◌&&◌, List, [], ◌∷◌, length, map, Some, IsTrue, refl, sym, subst, arith}
use Rattle.std.specs.List.{list_all}
use Rattle.std.specs.BTreeMap.{BTreeMap}
use Rattle.std.specs.FinMap as table
use Rattle.std.specs.FinMap.{FinMap}
use Rattle.std.proofs.lemmas.Bool.Decides.{nat_tests}
use Rattle.rows.specs.declared.keys.OrderKey.{OrderKey}
use Rattle.rows.specs.declared.keys.OrderLineKey.{OrderLineKey}
use Rattle.rows.specs.declared.records.Order.{Order}
use Rattle.rows.specs.declared.records.NewOrder.{NewOrder}
use Rattle.rows.specs.declared.records.OrderLine.{OrderLine}
use Rattle.rows.specs.Keys.{order_cmp, order_of_line}
use Rattle.rows.specs.declared.limits.TheConstants.{MOST_LINES}
use Rattle.schema.specs.declared.scale.Scale.{Scale}
use Rattle.schema.specs.EachRow.{EachRow}
use Rattle.schema.specs.MapRows.{table_of}
use Rattle.schema.specs.Scale.{has_item, has_warehouse, has_customer}
use Rattle.schema.specs.Database.{customer_of_order, is_order_id, is_line_number}
use Rattle.schema.specs.OrderRows.{LineTable, line_table, line_key, put_lines, with_order, is_line_within}
use Rattle.schema.proofs.KeyOrders.{orders_total, orders_exact, lines_total, lines_exact}
use Rattle.schema.proofs.ScaleKept.{EachRow-insert}
use Rattle.schema.proofs.TableWrites.{now_there, still_there}
use Rattle.partitions.specs.declared.home_rows.HomeRows.{HomeRows}
use Rattle.partitions.specs.Parts.{SharedTables, Part, IsPart, is_of}
use Rattle.partitions.specs.Partitions.{part, FitsPart}

-- ---- an order more

first : (b c : Bool) → IsTrue (b && c) → IsTrue b
first true c h = refl
first false c h = h

second : (b c : Bool) → IsTrue (b && c) → IsTrue c
second true c h = h
second false c h = absurd cc

-- each line passes a test that those before passed, and that each new one does by its number and its row
lines_pass : (test : OrderLineKey → OrderLine → Bool) (scale : Scale) (order : OrderKey) (number : ℕ) (rows : List OrderLine) (lines : LineTable)
    → EachRow test lines → IsTrue (list_all (is_line_within scale) rows)
    → ((n : ℕ) (row : OrderLine) → number ≤ n → n < number + length rows → IsTrue (is_line_within scale row) → IsTrue (test (line_key order n) row))
    → EachRow test (put_lines order number (map (λ r. Some r) rows) lines)
lines_pass test scale order number [] lines each known new = each
lines_pass test scale order number (row ∷ rows) lines each known new =
    EachRow-insert lines_total lines_exact test (put_lines order (number + 1) (map (λ r. Some r) rows) lines) (line_key order number) row
    (lines_pass test scale order (number + 1) rows lines each (second _ _ known) (λ n r low high. new n r (omega arith) (omega arith)))
    (new number row (omega arith) (omega arith) (first _ _ known))

is_here : (home w_id : ℕ) → w_id ≡ home → IsTrue (is_of home w_id)
is_here home w_id same = grind (arith, nat_tests)

numbered : (n count : ℕ) → count ≤ MOST_LINES → 1 ≤ n → n < 1 + count → IsTrue (is_line_number n)
numbered n count few low high = grind (arith, nat_tests)

pub part_with_order : (p : Part) (key : OrderKey) (order : Order) (lines : List OrderLine) → IsPart p → key.w_id ≡ p.home → IsTrue (is_order_id key.o_id)
    → IsTrue (has_customer p.tables.scale (customer_of_order key order)) → length lines ≤ MOST_LINES → IsTrue (list_all (is_line_within p.tables.scale) lines)
    → IsPart (record p { tables = with_order p.tables key order lines })
part_with_order p key order lines h home number customer few known =
    let t = p.tables in
    let here = is_here p.home key.w_id home in
    let orders = table.insert t.orders key order in
    let there = now_there orders_total orders_exact t.orders key order in
    let still = still_there orders_total orders_exact t.orders key order in
    record {
      home = h.home;
      items = h.items;
      warehouses = h.warehouses;
      districts = h.districts;
      stocks = h.stocks;
      customers = h.customers;
      histories = h.histories;
      orders_here = EachRow-insert orders_total orders_exact (λ k _. is_of p.home k.w_id) t.orders key order h.orders_here here;
      new_orders_here = EachRow-insert orders_total orders_exact (λ k _. is_of p.home k.w_id) t.new_orders key (record {}) h.new_orders_here here;
      lines_here = lines_pass (λ k _. is_of p.home k.w_id) t.scale key 1 lines t.lines h.lines_here known (λ n row low high within. here);
      payers_known = h.payers_known;
      orders_numbered = EachRow-insert orders_total orders_exact (λ k _. is_order_id k.o_id) t.orders key order h.orders_numbered number;
      orders_have_customers = EachRow-insert orders_total orders_exact (λ k row. has_customer t.scale (customer_of_order k row)) t.orders key order h.orders_have_customers customer;
      new_orders_have_orders = EachRow-insert orders_total orders_exact (λ k _. table.contains_key orders k) t.new_orders key (record {})
          (λ k row found. still k (h.new_orders_have_orders k row found)) there;
      lines_have_orders = lines_pass (λ k _. table.contains_key orders (order_of_line k)) t.scale key 1 lines t.lines
          (λ k row found. still (order_of_line k) (h.lines_have_orders k row found)) known (λ n row low high within. there);
      lines_numbered = lines_pass (λ k _. is_line_number k.number) t.scale key 1 lines t.lines h.lines_numbered known (λ n row low high within. numbered n (length lines) few low high);
      lines_have_items = lines_pass (λ _ row. has_item t.scale row.i_id) t.scale key 1 lines t.lines h.lines_have_items known (λ n row low high within. first _ _ within);
      lines_have_suppliers = lines_pass (λ _ row. has_warehouse t.scale row.supply_w_id) t.scale key 1 lines t.lines h.lines_have_suppliers known (λ n row low high within. second _ _ within);
    }

-- ---- other orders

module _ (shared : SharedTables) (home : ℕ) (rows : HomeRows) (orders : BTreeMap OrderKey Order) (new_orders : List (OrderKey × NewOrder)) (lines : List (OrderLineKey × OrderLine)) where
  -- the part of rows whose orders are others
  pub other_orders : (x : FinMap order_cmp Order) (y : FinMap order_cmp NewOrder) (z : LineTable) → table_of order_cmp orders ≡ x → table.from_entries new_orders ≡ y → line_table lines ≡ z
      → part shared home (record rows { orders = orders; new_orders = new_orders; lines = lines })
      ≡ record (part shared home rows) { tables = record (part shared home rows).tables { orders = x; new_orders = y; lines = z } }
  other_orders x y z a b d = λ i. record (part shared home rows) { tables = record (part shared home rows).tables { orders = a i; new_orders = b i; lines = d i } }

  -- fits, where it is a part
  pub orders_fit : FitsPart shared home rows → (p : Part) → part shared home (record rows { orders = orders; new_orders = new_orders; lines = lines }) ≡ p → IsPart p
      → FitsPart shared home (record rows { orders = orders; new_orders = new_orders; lines = lines })
  orders_fit h p is within = record {
    counts = record { districts = h.counts.districts; stocks = h.counts.stocks; customers = h.counts.customers; histories = h.counts.histories };
    is_part = subst IsPart (sym is) within;
  }
