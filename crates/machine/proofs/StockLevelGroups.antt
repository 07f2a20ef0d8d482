-- Where two tables have the same in the groups of a Stock-Level, it shows the same.
use Rattle.std.proofs.Common.{◌≡◌, ℕ, ◌-◌, ◌<◌, ◌%◌, Bool, true, false, cond, ◌&&◌, ◌==◌, nat_le, nat_lt, List, map, length, filter, count_by, None, refl, sym, ap, subst, ◌∙◌, arith}
use Rattle.std.proofs.lemmas.Bool.Decides.{nat_tests}
use Rattle.std.proofs.lemmas.List.Elements.{recursion_from_All}
use Rattle.std.proofs.lemmas.List.Sums.{length-filter}
use Rattle.std.specs.FinMap as table
use Rattle.std.specs.FinMap.{FinMap, get, retain_keys, get-retain_keys, same_map}
use Rattle.rows.specs.Keys.{stock_cmp, line_cmp, order_of_line}
use Rattle.rows.specs.declared.keys.DistrictKey.{DistrictKey}
use Rattle.rows.specs.declared.keys.StockKey.{StockKey}
use Rattle.rows.specs.declared.keys.OrderLineKey.{OrderLineKey}
use Rattle.rows.specs.declared.records.Stock.{Stock}
use Rattle.rows.specs.declared.records.OrderLine.{OrderLine}
use Rattle.rows.specs.declared.limits.TheConstants.{STOCK_GROUPS}
use Rattle.schema.specs.Database.{Database, is_of_district}
use Rattle.schema.specs.OrderRows.{is_in_span}
use Rattle.schema.proofs.KeyOrders.{stocks_total, stocks_exact, lines_total, lines_exact}
use Rattle.requests.specs.declared.group.Group.{Group}
use Rattle.requests.specs.declared.group.Group.TheVariants as g
use Rattle.groups.specs.Groups.{group_of_district, group_of_line, group_of_stock, is_same}
use Rattle.groups.specs.Content.{Content, content, rows_of}
use Rattle.groups.specs.Content.Content.{OfOrders}
use Rattle.groups.specs.Laws.{district_in, stock_in}
use Rattle.groups.specs.StockLevel.{stock_level_footprint}
use Rattle.groups.specs.Footprint.{groups_of}
use Rattle.groups.proofs.Parts.{entries-where}
use Rattle.groups.proofs.RowsInGroups.{each_row_stands_in_one_group, same_row}
use Rattle.groups.proofs.StockGroups.{at_residue}
use Rattle.indexes.proofs.Counts.{filter-part}
use Rattle.machine.specs.StockLevel.{is_low, is_one_of, low_stock, next_order, recent_items}
use Rattle.machine.specs.StockLevelLaws.{StockLevelReadsItsGroups}

-- ---- the lines of a district

abbrev Lines : Type 0
Lines = FinMap line_cmp OrderLine

abbrev lines_of_content : Content → Lines → Lines
lines_of_content (OfOrders orders new_orders lines) other = lines
lines_of_content _ other = other

module _ (home : DistrictKey) (next : ℕ) where
  abbrev own : Group
  own = g.Orders home.w_id home.d_id

  abbrev items_in : Lines → List ℕ
  items_in lines = map (λ (line : OrderLineKey × OrderLine). line.1.i_id) (filter (λ line. is_in_span home (next - 20) next line.0) (table.entries lines))

  items_of_group : (lines : Lines) → items_in (rows_of group_of_line own lines) ≡ items_in lines
  items_of_group lines =
      ap (λ rows. map (λ (line : OrderLineKey × OrderLine). line.1.i_id) (filter (λ line. is_in_span home (next - 20) next line.0) rows))
      (entries-where lines_total lines_exact lines (λ key. is_same (group_of_line key) own))
      ∙ ap (map (λ (line : OrderLineKey × OrderLine). line.1.i_id))
      (filter-part (λ (line : OrderLineKey × OrderLine). is_of_district home (order_of_line line.0)) (λ line. nat_le (next - 20) line.0.o_id && nat_lt line.0.o_id next) (table.entries lines))

  pub same_items : (s t : Database) → content s own ≡ content t own → recent_items s home next ≡ recent_items t home next
  same_items s t alike = sym (items_of_group s.lines) ∙ ap (λ rows. items_in (lines_of_content rows s.lines)) alike ∙ items_of_group t.lines

-- ---- the stock of a warehouse

abbrev Stocks : Type 0
Stocks = FinMap stock_cmp Stock

module _ (w_id : ℕ) where
  abbrev of_warehouse : StockKey → Bool
  of_warehouse key = key.w_id == w_id

  get-of_warehouse : (stocks : Stocks) (q : StockKey) → get (retain_keys stocks of_warehouse) q ≡ cond (of_warehouse q) (get stocks q) None
  get-of_warehouse stocks q = get-retain_keys stocks of_warehouse q (λ x tied. ap of_warehouse (sym (stocks_exact q x tied)))

  module _ (s t : Database) (alike : (residue : ℕ) → residue < STOCK_GROUPS → content s (g.Stock w_id residue) ≡ content t (g.Stock w_id residue)) where
    same_stock : (q : StockKey) → of_warehouse q ≡ true → get s.stocks q ≡ get t.stocks q
    same_stock q there =
        let same : w_id ≡ q.w_id = grind (arith, nat_tests) in
        let small : q.i_id % STOCK_GROUPS < STOCK_GROUPS = omega arith in
        same_row s t s.stocks t.stocks group_of_stock stock_in (each_row_stands_in_one_group s).stocks (each_row_stands_in_one_group t).stocks q
        (subst (λ w. content s (g.Stock w (q.i_id % STOCK_GROUPS)) ≡ content t (g.Stock w (q.i_id % STOCK_GROUPS))) same (alike (q.i_id % STOCK_GROUPS) small))

    same_stocks : retain_keys s.stocks of_warehouse ≡ retain_keys t.stocks of_warehouse
    same_stocks =
        same_map stocks_total stocks_exact (retain_keys s.stocks of_warehouse) (retain_keys t.stocks of_warehouse)
        (λ q. get-of_warehouse s.stocks q
        ∙ elim (of_warehouse q) as (λ b. of_warehouse q ≡ b → cond b (get s.stocks q) None ≡ cond b (get t.stocks q) None) [
          | true ↦ λ there. same_stock q there
          | false ↦ λ there. refl
        ] refl
        ∙ sym (get-of_warehouse t.stocks q))

    module _ (threshold : ℕ) (items : List ℕ) where
      abbrev low : StockKey × Stock → Bool
      low = is_low w_id threshold items

      low_of_warehouse : (stocks : Stocks) → count_by low (table.entries stocks) ≡ length (filter low (table.entries (retain_keys stocks of_warehouse)))
      low_of_warehouse stocks =
          sym (length-filter low (table.entries stocks))
          ∙ ap length (sym (ap (filter low) (entries-where stocks_total stocks_exact stocks of_warehouse)
          ∙ filter-part (λ (row : StockKey × Stock). of_warehouse row.0) (λ row. nat_lt row.1.quantity threshold && is_one_of items row.0.i_id) (table.entries stocks)))

      pub same_low : low_stock s w_id threshold items ≡ low_stock t w_id threshold items
      same_low =
          low_of_warehouse s.stocks ∙ ap (λ stocks. length (filter low (table.entries stocks))) same_stocks ∙ sym (low_of_warehouse t.stocks)

pub stock_level_reads_its_groups : StockLevelReadsItsGroups
stock_level_reads_its_groups s t asked alike =
    let home = asked.home in
    let each = recursion_from_All (λ group. content s group ≡ content t group) (groups_of (stock_level_footprint asked)) alike in
    let district : get s.districts home ≡ get t.districts home =
    same_row s t s.districts t.districts group_of_district district_in (each_row_stands_in_one_group s).districts (each_row_stands_in_one_group t).districts home each.0 in
    let items : recent_items s home (next_order (get s.districts home)) ≡ recent_items t home (next_order (get t.districts home)) =
    same_items home (next_order (get s.districts home)) s t each.1.0 ∙ ap (λ row. recent_items t home (next_order row)) district in
    let stock : (residue : ℕ) → residue < STOCK_GROUPS → content s (g.Stock home.w_id residue) ≡ content t (g.Stock home.w_id residue) =
    λ residue below. at_residue home.w_id (λ group. content s group ≡ content t group) 0 STOCK_GROUPS each.1.1 residue (omega arith) (omega arith) in
    let low : low_stock s home.w_id asked.threshold (recent_items s home (next_order (get s.districts home)))
    ≡ low_stock t home.w_id asked.threshold (recent_items t home (next_order (get t.districts home))) =
    ap (low_stock s home.w_id asked.threshold) items ∙ same_low home.w_id s t stock asked.threshold (recent_items t home (next_order (get t.districts home))) in
    λ i. record { count = low i }
