-- What each group has once an order is placed.
use Rattle.std.proofs.Common.{◌≡◌, ◌≢◌, ℕ, ◌+◌, ◌%◌, ◌==◌, ◌&&◌, true, false, cond, List, [], ◌∷◌, map, unwrap_or, refl, sym, ap, ◌∙◌, arith}
use Rattle.std.specs.List.{AllByRecursion}
use Rattle.std.proofs.lemmas.Bool.Decides.{nat_tests}
use Rattle.std.specs.FinMap as table
use Rattle.rows.specs.declared.keys.StockKey.{StockKey}
use Rattle.rows.specs.declared.keys.OrderKey.{OrderKey}
use Rattle.rows.specs.declared.records.District.{District}
use Rattle.rows.specs.declared.records.NewOrder.{NewOrder as NewOrderRow}
use Rattle.rows.specs.declared.records.OrderLine.{OrderLine}
use Rattle.rows.specs.declared.limits.TheConstants.{STOCK_GROUPS}
use Rattle.schema.specs.Database.{Database}
use Rattle.schema.specs.OrderRows.{line_key}
use Rattle.schema.proofs.KeyOrders.{stocks_total, stocks_exact}
use Rattle.requests.specs.declared.group.Group.{Group}
use Rattle.requests.specs.declared.group.Group.TheVariants as g
use Rattle.requests.specs.declared.new_order.NewOrder.{NewOrder}
use Rattle.requests.specs.declared.new_order.OrderedLine.{OrderedLine}
use Rattle.groups.specs.Groups.{group_of_district, group_of_order, group_of_stock}
use Rattle.groups.specs.Content.{Content, content}
use Rattle.groups.specs.Content.Content.{OfStock}
use Rattle.groups.specs.Laws.{ChangesOneGroup, with_district, with_order, with_new_order, with_line}
use Rattle.groups.specs.NewOrder.{group_of_supply}
use Rattle.groups.proofs.RowsPut.{each_put_changes_one_group}
use Rattle.machine.specs.NewOrder.{placed, order_key, order_row, stock_taken, stocks_taken, taken_from}
use Rattle.machine.proofs.LinesPut.{with_lines}
use Rattle.machine.proofs.StocksInTurn.{nothing_taken}
use Rattle.machine.proofs.RowsOfGroups.{rows_of-map_rows, rows_of-map_rows_other}
use Rattle.machine.proofs.GroupChanges.{then_changed, changed_alike}

-- ---- the stock that the lines take

module _ (home : ℕ) (lines : List OrderedLine) where
  abbrev with_taken : Database → Database
  with_taken t = record t { stocks = stocks_taken home t.stocks lines }

  -- what a group has once the lines were taken from its stock
  abbrev content_taken : Content → Content
  content_taken (OfStock rows) = OfStock (stocks_taken home rows lines)
  content_taken other = other

  stock_taken_from : (t : Database) (group : Group) → content (with_taken t) group ≡ content_taken (content t group)
  stock_taken_from t (g.Stock w_id residue) =
      ap OfStock (rows_of-map_rows group_of_stock (g.Stock w_id residue) stocks_total stocks_exact (λ key row. unwrap_or (stock_taken home row (taken_from key lines)) row) t.stocks)
  stock_taken_from t _ = refl

  taken_alike : (s t : Database) (group : Group) → content s group ≡ content t group → content (with_taken s) group ≡ content (with_taken t) group
  taken_alike s t group alike = stock_taken_from s group ∙ ap content_taken alike ∙ sym (stock_taken_from t group)

-- no line names a row of a group that supplies none
no_line_names : (group : Group) (lines : List OrderedLine) → AllByRecursion (λ own. group ≢ own) (map group_of_supply lines) → (key : StockKey) → group ≡ group_of_stock key
    → taken_from key lines ≡ []
no_line_names group [] none key own = refl
no_line_names group (line ∷ lines) none key own =
    let named = (line.supply_w_id == key.w_id) && (line.i_id == key.i_id) in
    elim named as (λ b. named ≡ b → cond b (line ∷ taken_from key lines) (taken_from key lines) ≡ []) [
      | true ↦ λ e.
          let is : ((line.supply_w_id == key.w_id) && (line.i_id == key.i_id)) ≡ true = e in
          let warehouse : key.w_id ≡ line.supply_w_id = grind (arith, nat_tests) in
          let item : key.i_id ≡ line.i_id = grind (arith, nat_tests) in
          absurd (none.0 (own ∙ λ i. g.Stock (warehouse i) (item i % STOCK_GROUPS)))
      | false ↦ λ e. no_line_names group lines none.1 key own
    ] refl

-- and so it keeps its stock
nothing_taken_from : (home : ℕ) (lines : List OrderedLine) (t : Database) (group : Group) → AllByRecursion (λ own. group ≢ own) (map group_of_supply lines)
    → content (with_taken home lines t) group ≡ content t group
nothing_taken_from home lines t (g.Stock w_id residue) none =
    let group = g.Stock w_id residue in
    ap OfStock (rows_of-map_rows_other group_of_stock group stocks_total stocks_exact (λ key row. unwrap_or (stock_taken home row (taken_from key lines)) row) t.stocks
    (λ key row inside.
    let is : ((key.w_id == w_id) && ((key.i_id % STOCK_GROUPS) == residue)) ≡ true = inside in
    let warehouse : w_id ≡ key.w_id = grind (arith, nat_tests) in
    let rest : residue ≡ key.i_id % STOCK_GROUPS = grind (arith, nat_tests) in
    ap (λ taken. unwrap_or (stock_taken home row taken) row) (no_line_names group lines none key (λ i. g.Stock (warehouse i) (rest i)))
    ∙ nothing_taken home row))
nothing_taken_from home lines t _ none = refl

-- ---- the rows of the order

module _ (key : OrderKey) where
  -- what a group has once these are the order's lines from that number on
  abbrev content_lined : ℕ → List OrderLine → Content → Content
  content_lined number [] has = has
  content_lined number (row ∷ rows) has = with_line (line_key key number) row (content_lined (number + 1) rows has)

  lines_change : (t : Database) (number : ℕ) (rows : List OrderLine) → ChangesOneGroup (group_of_order key) (content_lined number rows) t (record t { lines = with_lines key number rows t.lines })
  lines_change t number [] = record { here = refl; elsewhere = λ group apart. refl }
  lines_change t number (row ∷ rows) =
      let rest = record t { lines = with_lines key (number + 1) rows t.lines } in
      then_changed (group_of_order key) (content_lined (number + 1) rows) (with_line (line_key key number) row) t rest (record t { lines = with_lines key number (row ∷ rows) t.lines })
      (lines_change t (number + 1) rows) ((each_put_changes_one_group rest).lines (line_key key number) row)

-- ---- the order

module _ (n : NewOrder) (o_id : ℕ) (district : District) (rows : List OrderLine) where
  abbrev key : OrderKey
  key = order_key n.home o_id

  abbrev mark : NewOrderRow
  mark = record {}

  abbrev left : Database → Database
  left t = placed t n o_id district rows

  abbrev with_d : Database → Database
  with_d t = record t { districts = table.insert t.districts n.home district }

  abbrev with_s : Database → Database
  with_s t = with_taken n.home.w_id n.lines (with_d t)

  -- what the district's orders are with the order
  abbrev content_ordered : Content → Content
  content_ordered has = content_lined key 1 rows (with_new_order key mark (with_order key (order_row n) has))

  district_changes : (t : Database) → ChangesOneGroup (group_of_district n.home) (with_district district) t (with_d t)
  district_changes t = (each_put_changes_one_group t).districts n.home district

  orders_change : (t : Database) → ChangesOneGroup (group_of_order key) content_ordered t (record t { orders = table.insert t.orders key (order_row n); new_orders = table.insert t.new_orders key mark; lines = with_lines key 1 rows t.lines })
  orders_change t =
      let own = group_of_order key in
      let with_o = record t { orders = table.insert t.orders key (order_row n) } in
      let with_n = record with_o { new_orders = table.insert t.new_orders key mark } in
      let with_l = record with_n { lines = with_lines key 1 rows t.lines } in
      then_changed own (with_order key (order_row n)) (λ has. content_lined key 1 rows (with_new_order key mark has)) t with_o with_l
      ((each_put_changes_one_group t).orders key (order_row n))
      (then_changed own (with_new_order key mark) (content_lined key 1 rows) with_o with_n with_l
      ((each_put_changes_one_group with_o).new_orders key mark) (lines_change key with_n 1 rows))

  -- where two tables have the same in a group, they have the same once the order is placed
  pub placed_alike : (s t : Database) (group : Group) → content s group ≡ content t group → content (left s) group ≡ content (left t) group
  placed_alike s t group alike =
      changed_alike (group_of_order key) content_ordered (with_s s) (with_s t) (left s) (left t) (orders_change (with_s s)) (orders_change (with_s t)) group
      (taken_alike n.home.w_id n.lines (with_d s) (with_d t) group
      (changed_alike (group_of_district n.home) (with_district district) s t (with_d s) (with_d t) (district_changes s) (district_changes t) group alike))

  -- a group keeps what it has, unless it is the district's, its orders', or supplies a line
  pub placed_keeps : (t : Database) (group : Group) → group ≢ group_of_district n.home → group ≢ g.Orders n.home.w_id n.home.d_id
      → AllByRecursion (λ own. group ≢ own) (map group_of_supply n.lines) → content (left t) group ≡ content t group
  placed_keeps t group no_district no_orders no_supply =
      (orders_change (with_s t)).elsewhere group no_orders
      ∙ nothing_taken_from n.home.w_id n.lines (with_d t) group no_supply
      ∙ (district_changes t).elsewhere group no_district
