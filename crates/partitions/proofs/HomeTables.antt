-- The rows of one warehouse, split off those of all, make its part of the tables.
use Rattle.std.proofs.Common.{◌≡◌, ℕ, zero, suc, ◌+◌, ◌*◌, ◌<◌, ◌≤◌, true, false, cond, List, [], ◌∷◌, length, take, drop, slice_index_or, Some, IsTrue, refl, sym, ap, subst, ◌∙◌, arith, length-take-le, length-drop, drop-cons}
use Rattle.std.specs.List.{zip}
use Rattle.std.specs.declared.cmp.Ordering.{Ordering}
use Rattle.std.specs.Ordering.{eq_by_cmp}
use Rattle.std.specs.Cmp.{IsTotalOrder, nat_cmp_total, eq_by_cmp_equiv}
use Rattle.std.specs.FinMap.{get, from_entries, get-from_entries, nat_cmp-IsAntisymmetric}
use Rattle.std.specs.FinMap.Entries.{find}
use Rattle.std.proofs.lemmas.Bool.Decides.{nat_tests}
use Rattle.std.proofs.Math.Nat.{mul-le-mul_right}
use Rattle.rows.specs.Keys.{order_of_line}
use Rattle.schema.specs.declared.scale.Scale.{Scale}
use Rattle.schema.specs.declared.table_rows.TableRows.{TableRows}
use Rattle.schema.specs.Scale.{has_warehouse, warehouse_ids, district_keys, stock_keys, customer_keys}
use Rattle.schema.specs.Rows.{database, FitsScale}
use Rattle.schema.proofs.KeyOrders.{districts_total, districts_exact, stocks_total, stocks_exact, customers_total, customers_exact, orders_total, orders_exact, lines_total, lines_exact}
use Rattle.partitions.specs.declared.home_rows.HomeRows.{HomeRows}
use Rattle.partitions.specs.declared.homes.Homes.{Homes}
use Rattle.partitions.specs.Parts.{SharedTables, shared_of, IsPart, part_of}
use Rattle.partitions.specs.Partitions.{district_keys_of, stock_keys_of, customer_keys_of, part, HasCountsOf, FitsPart}
use Rattle.partitions.specs.Splits.{chunk, AreOfWarehouses, AreRowsOfWarehouses, AreHomesFrom, IsHomeAt, HasHome}
use Rattle.partitions.proofs.LastFirst.{some_left}
use Rattle.partitions.proofs.KeyBlocks.{chunk_part, entries_part}
use Rattle.partitions.proofs.HomeKeys.{warehouse_id_of, warehouse_ids_in_turn, warehouse_ids_owned, district_keys_in_turn, length-district_keys_of, district_keys_owned, stock_keys_in_turn, length-stock_keys_of, stock_keys_owned, customer_keys_in_turn, length-customer_keys_of, customer_keys_owned}
use Rattle.partitions.proofs.PartLaws.{first, part_is_part, order_home}

-- ---- the keys of all rows are of warehouses of the scale

module _ {K X : Type 0} {R : K → K → Ordering} (o : IsTotalOrder R) (own : K → ℕ) (scale : Scale) where
  found_some : (es : List (K × X)) (k : ℕ) (d : K × X) → k < length es → (row : X) × (find R (slice_index_or es k d).0 es ≡ Some row)
  found_some [] k d l = absurd (omega arith)
  found_some (e ∷ es) zero d l = (e.1, let itself : eq_by_cmp R e.0 e.0 ≡ true = (eq_by_cmp_equiv o).refl e.0 in rw itself refl)
  found_some (e ∷ es) (suc k) d l =
      let q = (slice_index_or es k d).0 in
      let rest = found_some es k d (omega arith) in
      elim (eq_by_cmp R q e.0) as (λ b. (row : X) × (cond b (Some e.1) (find R q es) ≡ Some row)) [
        | true ↦ (e.1, refl)
        | false ↦ rest
      ]

  are_of_scale : (es : List (K × X)) → ((key : K) (row : X) → get (from_entries {R = R} es) key ≡ Some row → IsTrue (has_warehouse scale (own key))) → AreOfWarehouses own scale.warehouses es
  are_of_scale es h k d l =
      let e = slice_index_or es k d in
      let there = found_some es k d l in
      let has : has_warehouse scale (own e.0) ≡ true = h e.0 there.0 (get-from_entries o es e.0 ∙ there.1) in
      (grind (arith, nat_tests), grind (arith, nat_tests))

module _ (scale : Scale) (rows : TableRows) (fits : FitsScale scale rows) where
  pub rows_of_warehouses : AreRowsOfWarehouses scale rows
  rows_of_warehouses =
      let t = database scale rows in
      let within = fits.within in
      record {
        orders = are_of_scale orders_total (λ key. key.w_id) scale rows.orders.entries (λ key row e. first _ _ (first _ _ (within.orders_have_customers key row e)));
        new_orders = are_of_scale orders_total (λ key. key.w_id) scale rows.new_orders.entries (λ key row e. order_home t within key (within.new_orders_have_orders key row e));
        lines = are_of_scale lines_total (λ key. key.w_id) scale rows.lines (λ key row e. order_home t within (order_of_line key) (within.lines_have_orders key row e));
      }

-- ---- a warehouse's rows

pub some_home : (scale : Scale) (rows : TableRows) (place : ℕ) (homes : Homes) → AreHomesFrom scale rows place homes → place < scale.warehouses → HasHome homes
some_home scale rows place homes h l = record {
  warehouses = some_left place scale.warehouses homes.warehouses.items h.warehouses l;
  districts = some_left place scale.warehouses homes.districts.items h.districts l;
  stocks = some_left place scale.warehouses homes.stocks.items h.stocks l;
  customers = some_left place scale.warehouses homes.customers.items h.customers l;
  histories = some_left place scale.warehouses homes.histories.items h.histories l;
  orders = some_left place scale.warehouses homes.orders.items h.orders l;
  new_orders = some_left place scale.warehouses homes.new_orders.items h.new_orders l;
  lines = some_left place scale.warehouses homes.lines.items h.lines l;
}

length-chunk : {X : Type 0} (each many place : ℕ) (rows : List X) → length rows ≡ many * each → place < many → length (chunk each place rows) ≡ each
length-chunk each many place rows long below =
    let scaled : (place + 1) * each ≤ many * each = mul-le-mul_right each (let l : place + 1 ≤ many = omega arith in l) in
    let split : (place + 1) * each ≡ place * each + each = grind arith in
    length-take-le each (drop (place * each) rows) (omega (arith, length-drop (place * each) rows))

single : {X : Type 0} (place : ℕ) (rows : List X) (d : X) → place < length rows → chunk 1 place rows ≡ slice_index_or rows place d ∷ []
single place rows d below =
    let e : place * 1 ≡ place = omega arith in
    ap (λ n. take 1 (drop n rows)) e ∙ ap (take 1) (drop-cons rows place d below)

module _ (scale : Scale) (rows : TableRows) (fits : FitsScale scale rows) (place : ℕ) (below : place < scale.warehouses) (home : HomeRows) (at : IsHomeAt scale rows place home) where
  pub home_part : (shared : SharedTables) → shared ≡ shared_of (database scale rows) → part shared (place + 1) home ≡ part_of (database scale rows) (place + 1)
  home_part shared same =
      let one : chunk 1 place rows.warehouses.items ≡ home.warehouse ∷ [] =
      single place rows.warehouses.items home.warehouse (omega (arith, fits.counts.warehouses)) ∙ ap (λ x. x ∷ []) (at.warehouse home.warehouse) in
      let warehouses = ap (λ xs. from_entries (zip (warehouse_id_of (place + 1)) xs)) (sym one)
      ∙ chunk_part nat_cmp_total nat_cmp-IsAntisymmetric (λ key. key) warehouse_id_of 1 (λ w. refl) warehouse_ids_owned (warehouse_ids scale) scale.warehouses (warehouse_ids_in_turn scale) rows.warehouses.items place below in
      let districts = ap (λ xs. from_entries (zip (district_keys_of (place + 1)) xs)) at.districts
      ∙ chunk_part districts_total districts_exact (λ key. key.w_id) district_keys_of 10 length-district_keys_of district_keys_owned (district_keys scale) scale.warehouses (district_keys_in_turn scale) rows.districts.items place below in
      let stocks = ap (λ (s : SharedTables). from_entries (zip (stock_keys_of s.scale (place + 1)) home.stocks.items)) same ∙ ap (λ xs. from_entries (zip (stock_keys_of scale (place + 1)) xs)) at.stocks
      ∙ chunk_part stocks_total stocks_exact (λ key. key.w_id) (stock_keys_of scale) scale.items (length-stock_keys_of scale) (stock_keys_owned scale) (stock_keys scale) scale.warehouses (stock_keys_in_turn scale) rows.stocks.items place below in
      let customers = ap (λ (s : SharedTables). from_entries (zip (customer_keys_of s.scale (place + 1)) home.customers.items)) same ∙ ap (λ xs. from_entries (zip (customer_keys_of scale (place + 1)) xs)) at.customers
      ∙ chunk_part customers_total customers_exact (λ key. key.w_id) (customer_keys_of scale) (10 * scale.customers) (length-customer_keys_of scale) (customer_keys_owned scale) (customer_keys scale) scale.warehouses (customer_keys_in_turn scale) rows.customers.items place below in
      let histories = ap (λ xs. from_entries (zip (district_keys_of (place + 1)) xs)) at.histories
      ∙ chunk_part districts_total districts_exact (λ key. key.w_id) district_keys_of 10 length-district_keys_of district_keys_owned (district_keys scale) scale.warehouses (district_keys_in_turn scale) rows.histories.items place below in
      let orders = ap (λ es. from_entries es) at.orders ∙ entries_part orders_total orders_exact (λ key. key.w_id) place rows.orders.entries in
      let new_orders = ap (λ es. from_entries es) at.new_orders ∙ entries_part orders_total orders_exact (λ key. key.w_id) place rows.new_orders.entries in
      let lines = ap (λ es. from_entries es) at.lines ∙ entries_part lines_total lines_exact (λ key. key.w_id) place rows.lines in
      λ i. record {
        home = place + 1;
        tables = record {
          scale = (same i).scale;
          items = (same i).items;
          warehouses = warehouses i;
          districts = districts i;
          stocks = stocks i;
          customers = customers i;
          histories = histories i;
          orders = orders i;
          new_orders = new_orders i;
          lines = lines i;
        };
      }

  pub home_fits : (shared : SharedTables) → shared ≡ shared_of (database scale rows) → FitsPart shared (place + 1) home
  home_fits shared same =
      let has : IsTrue (has_warehouse scale (place + 1)) = grind (arith, nat_tests) in
      let scale_is : shared.scale ≡ scale = ap (λ s. s.scale) same in
      let customers_long : scale.warehouses * 10 * scale.customers ≡ scale.warehouses * (10 * scale.customers) = grind arith in
      record {
        counts = subst (λ s. HasCountsOf s home) (sym scale_is) record {
          districts = ap length at.districts ∙ length-chunk 10 scale.warehouses place rows.districts.items fits.counts.districts below;
          stocks = ap length at.stocks ∙ length-chunk scale.items scale.warehouses place rows.stocks.items fits.counts.stocks below;
          customers = ap length at.customers ∙ length-chunk (10 * scale.customers) scale.warehouses place rows.customers.items (fits.counts.customers ∙ customers_long) below;
          histories = ap length at.histories ∙ length-chunk 10 scale.warehouses place rows.histories.items fits.counts.histories below;
        };
        is_part = subst IsPart (sym (home_part shared same)) (part_is_part (database scale rows) fits.within (place + 1) has);
      }
