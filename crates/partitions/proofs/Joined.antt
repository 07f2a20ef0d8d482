-- The tables of the first parts, as their rows are moved together.
use Rattle.std.proofs.Common.{◌≡◌, ℕ, ◌+◌, ◌*◌, ◌<◌, true, false, cond, List, [], ◌∷◌, ◌++◌, length, slice_index_or, nat_lt, Some, None, refl, sym, ap, subst, ◌∙◌, arith, length-append}
use Rattle.std.specs.List.{All, zip}
use Rattle.std.specs.Option.{option_or}
use Rattle.std.specs.Global.{Vec}
use Rattle.std.specs.declared.cmp.Ordering.{Ordering}
use Rattle.std.specs.Cmp.{IsTotalOrder, nat_cmp_total}
use Rattle.std.specs.FinMap.{FinMap, get, from_entries, same_map, IsAntisymmetric, nat_cmp-IsAntisymmetric}
use Rattle.std.proofs.lemmas.Bool.Decides.{nat_tests}
use Rattle.std.proofs.lemmas.List.{get_or_append_left}
use Rattle.std.proofs.Math.Seq.{get_or-append_seam}
use Rattle.rows.specs.declared.records.Item.{Item}
use Rattle.schema.specs.declared.scale.Scale.{Scale}
use Rattle.schema.specs.declared.table_rows.TableRows.{TableRows}
use Rattle.schema.specs.EachRow.{EachRow}
use Rattle.schema.specs.Scale.{item_ids, warehouse_ids, district_keys, stock_keys, customer_keys}
use Rattle.schema.specs.Database.{Database, IsWithinScale}
use Rattle.schema.specs.Rows.{database, AreNoRows, FitsScale}
use Rattle.schema.proofs.KeyOrders.{districts_total, districts_exact, stocks_total, stocks_exact, customers_total, customers_exact, orders_total, orders_exact, lines_total, lines_exact}
use Rattle.partitions.specs.declared.home_rows.HomeRows.{HomeRows}
use Rattle.partitions.specs.Parts.{SharedTables, Part, IsPart, is_of, rows_of_all, whole_of, ArePartsOf}
use Rattle.partitions.specs.Partitions.{district_keys_of, stock_keys_of, customer_keys_of, part, HasCountsOf, FitsPart}
use Rattle.partitions.specs.Appends.{AddsRows, AppendsHome}
use Rattle.partitions.proofs.Wholes.{nothing_last, get-whole_more, get-whole_nowhere}
use Rattle.partitions.proofs.WholeLaws.{whole_is_within_scale}
use Rattle.partitions.proofs.KeyBlocks.{AreOf, keys_from, one_part_more}
use Rattle.partitions.proofs.HomeKeys.{warehouse_id_of, warehouse_ids_in_turn, warehouse_ids_owned, district_keys_in_turn, length-district_keys_of, district_keys_owned, stock_keys_in_turn, length-stock_keys_of, stock_keys_owned, customer_keys_in_turn, length-customer_keys_of, customer_keys_owned}

-- rows in the order of their keys are those of the first parts, so many of each
pub record IsTableTo {K X : Type 0} {R : K → K → Ordering} (own : K → ℕ) (keys_of : ℕ → List K) (each : ℕ) (table : Database → FinMap R X) (before : List Part) (rows : List X) : Type 0 where
  pub count : length rows ≡ length before * each
  pub made : from_entries {R = R} (zip (keys_from keys_of 1 (length before)) rows) ≡ rows_of_all own table before

-- the rows are those of the first parts
pub record IsWholeTo (scale : Scale) (before : List Part) (rows : TableRows) : Type 0 where
  pub homes : (place : ℕ) (d : Part) → place < length before → (slice_index_or before place d).home ≡ place + 1
  pub parts : All IsPart before
  pub warehouses : IsTableTo (λ key. key) warehouse_id_of 1 (λ t. t.warehouses) before rows.warehouses.items
  pub districts : IsTableTo (λ key. key.w_id) district_keys_of 10 (λ t. t.districts) before rows.districts.items
  pub stocks : IsTableTo (λ key. key.w_id) (stock_keys_of scale) scale.items (λ t. t.stocks) before rows.stocks.items
  pub customers : IsTableTo (λ key. key.w_id) (customer_keys_of scale) (10 * scale.customers) (λ t. t.customers) before rows.customers.items
  pub histories : IsTableTo (λ key. key.w_id) district_keys_of 10 (λ t. t.histories) before rows.histories.items
  pub orders : from_entries rows.orders.entries ≡ rows_of_all (λ key. key.w_id) (λ t. t.orders) before
  pub new_orders : from_entries rows.new_orders.entries ≡ rows_of_all (λ key. key.w_id) (λ t. t.new_orders) before
  pub lines : from_entries rows.lines ≡ rows_of_all (λ key. key.w_id) (λ t. t.lines) before

-- ---- no part yet

no_rows : {K X : Type 0} {R : K → K → Ordering} (own : K → ℕ) (keys_of : ℕ → List K) (each : ℕ) (table : Database → FinMap R X) (rows : List X) → rows ≡ [] → IsTableTo own keys_of each table [] rows
no_rows own keys_of each table rows none =
    let z : 0 ≡ 0 * each = grind arith in
    subst (IsTableTo own keys_of each table []) (sym none) (record { count = z; made = refl })

pub whole_of_none : (scale : Scale) (rows : TableRows) → AreNoRows rows → IsWholeTo scale [] rows
whole_of_none scale rows none = record {
  homes = λ place d l. absurd (omega arith);
  parts = λ place d l. absurd (omega arith);
  warehouses = no_rows (λ key. key) warehouse_id_of 1 (λ t. t.warehouses) rows.warehouses.items none.warehouses;
  districts = no_rows (λ key. key.w_id) district_keys_of 10 (λ t. t.districts) rows.districts.items none.districts;
  stocks = no_rows (λ key. key.w_id) (stock_keys_of scale) scale.items (λ t. t.stocks) rows.stocks.items none.stocks;
  customers = no_rows (λ key. key.w_id) (customer_keys_of scale) (10 * scale.customers) (λ t. t.customers) rows.customers.items none.customers;
  histories = no_rows (λ key. key.w_id) district_keys_of 10 (λ t. t.histories) rows.histories.items none.histories;
  orders = ap (λ es. from_entries es) none.orders;
  new_orders = ap (λ es. from_entries es) none.new_orders;
  lines = ap (λ es. from_entries es) none.lines;
}

-- ---- one part more

length_more : (before : List Part) (p : Part) → length (before ++ p ∷ []) ≡ length before + 1
length_more before p = length-append before (p ∷ [])

each_more : (Q : ℕ → Part → Type 0) (before : List Part) (p : Part) → ((place : ℕ) (d : Part) → place < length before → Q place (slice_index_or before place d)) → Q (length before) p
    → (place : ℕ) (d : Part) → place < length (before ++ p ∷ []) → Q place (slice_index_or (before ++ p ∷ []) place d)
each_more Q before p h at place d l =
    elim (nat_lt place (length before)) as (λ b. nat_lt place (length before) ≡ b → Q place (slice_index_or (before ++ p ∷ []) place d)) [
      | true ↦ λ e.
          let inside : place < length before = grind (arith, nat_tests) in
          subst (Q place) (sym (get_or_append_left before (p ∷ []) d place inside)) (h place d inside)
      | false ↦ λ e.
          let end : length before ≡ place = let m = length_more before p in grind (arith, nat_tests) in
          subst (λ n. Q n (slice_index_or (before ++ p ∷ []) n d)) end (subst (Q (length before)) (sym (get_or-append_seam before p [] d)) at)
    ] refl

module _ {K X : Type 0} {R : K → K → Ordering} (o : IsTotalOrder R) (a : IsAntisymmetric R) (own : K → ℕ) (table : Database → FinMap R X) (before : List Part) (p : Part) (home : p.home ≡ length before + 1) where
  rows_more : (keys_of : ℕ → List K) (each : ℕ) → ((w : ℕ) → length (keys_of w) ≡ each) → ((w : ℕ) → AreOf own w (keys_of w))
      → (rows more new : List X) → IsTableTo own keys_of each table before rows → length more ≡ each
      → table p.tables ≡ from_entries (zip (keys_of (length before + 1)) more) → new ≡ rows ++ more
      → IsTableTo own keys_of each table (before ++ p ∷ []) new
  rows_more keys_of each long owned rows more new h count is made =
      let many = length_more before p in
      let next : length before * each + each ≡ (length before + 1) * each = grind arith in
      subst (IsTableTo own keys_of each table (before ++ p ∷ [])) (sym made) (record {
        count = length-append rows more ∙ ap (λ n. n + length more) h.count ∙ ap (λ n. length before * each + n) count ∙ next ∙ ap (λ n. n * each) (sym many);
        made = ap (λ n. from_entries (zip (keys_from keys_of 1 n) (rows ++ more))) many
            ∙ one_part_more o a own keys_of each long owned table before p (length before) rows more h.count home is h.made;
      })

  entries_more : ((place : ℕ) (d : Part) → place < length before → (slice_index_or before place d).home ≡ place + 1)
      → (old more new : List (K × X)) → from_entries {R = R} old ≡ rows_of_all own table before → table p.tables ≡ from_entries more
      → EachRow (λ key _. is_of p.home (own key)) (table p.tables) → AddsRows R old more new
      → from_entries {R = R} new ≡ rows_of_all own table (before ++ p ∷ [])
  entries_more homes old more new so_far is here adds = same_map o a _ _ (λ q.
      let all = rows_of_all own table before in
      adds q
      ∙ ap (λ r. option_or r (get (from_entries {R = R} old) q)) (ap (λ m. get {R = R} m q) (sym is))
      ∙ ap (option_or (get (table p.tables) q)) (ap (λ m. get {R = R} m q) so_far)
      ∙ elim (is_of p.home (own q)) as (λ b. is_of p.home (own q) ≡ b → option_or (get (table p.tables) q) (get all q) ≡ option_or (get all q) (cond b (get (table p.tables) q) None)) [
        | true ↦ λ e.
            let none : get all q ≡ None = get-whole_nowhere o a own table before q p (λ place l same.
            let at : (slice_index_or before place p).home ≡ place + 1 = homes place p l in
            let mine : own q ≡ p.home = grind (arith, nat_tests) in
            omega arith) in
            rw none (nothing_last (get (table p.tables) q))
        | false ↦ λ e.
            let none : get (table p.tables) q ≡ None = elim (get (table p.tables) q) as (λ r. get (table p.tables) q ≡ r → r ≡ None) [
              | None ↦ λ f. refl
              | Some row ↦ λ f. let in_it : is_of p.home (own q) ≡ true = here q row f in absurd cc
            ] refl in
            rw none (sym (nothing_last (get all q)))
      ] refl
      ∙ sym (get-whole_more o a own table before p q))

pub whole_more : (scale : Scale) (before : List Part) (rows new : TableRows) (s : SharedTables) (home : ℕ) (hr : HomeRows) → s.scale ≡ scale → home ≡ length before + 1 → FitsPart s home hr
    → IsWholeTo scale before rows → AppendsHome rows hr new → IsWholeTo scale (before ++ part s home hr ∷ []) new
whole_more scale before rows new s home hr same next fits h adds =
    let p = part s home hr in
    let counts : HasCountsOf scale hr = subst (λ x. HasCountsOf x hr) same fits.counts in
    let it = fits.is_part in
    record {
      homes = each_more (λ place x. x.home ≡ place + 1) before p h.homes next;
      parts = each_more (λ _ x. IsPart x) before p h.parts it;
      warehouses = rows_more nat_cmp_total nat_cmp-IsAntisymmetric (λ key. key) (λ t. t.warehouses) before p next warehouse_id_of 1 (λ w. refl) warehouse_ids_owned
          rows.warehouses.items (hr.warehouse ∷ []) new.warehouses.items h.warehouses refl (ap (λ n. from_entries ((n, hr.warehouse) ∷ [])) next) adds.warehouses;
      districts = rows_more districts_total districts_exact (λ key. key.w_id) (λ t. t.districts) before p next district_keys_of 10 length-district_keys_of district_keys_owned
          rows.districts.items hr.districts.items new.districts.items h.districts counts.districts (ap (λ n. from_entries (zip (district_keys_of n) hr.districts.items)) next) adds.districts;
      stocks = rows_more stocks_total stocks_exact (λ key. key.w_id) (λ t. t.stocks) before p next (stock_keys_of scale) scale.items (length-stock_keys_of scale) (stock_keys_owned scale)
          rows.stocks.items hr.stocks.items new.stocks.items h.stocks counts.stocks
          (ap (λ x. from_entries (zip (stock_keys_of x home) hr.stocks.items)) same ∙ ap (λ n. from_entries (zip (stock_keys_of scale n) hr.stocks.items)) next) adds.stocks;
      customers = rows_more customers_total customers_exact (λ key. key.w_id) (λ t. t.customers) before p next (customer_keys_of scale) (10 * scale.customers) (length-customer_keys_of scale) (customer_keys_owned scale)
          rows.customers.items hr.customers.items new.customers.items h.customers counts.customers
          (ap (λ x. from_entries (zip (customer_keys_of x home) hr.customers.items)) same ∙ ap (λ n. from_entries (zip (customer_keys_of scale n) hr.customers.items)) next) adds.customers;
      histories = rows_more districts_total districts_exact (λ key. key.w_id) (λ t. t.histories) before p next district_keys_of 10 length-district_keys_of district_keys_owned
          rows.histories.items hr.histories.items new.histories.items h.histories counts.histories (ap (λ n. from_entries (zip (district_keys_of n) hr.histories.items)) next) adds.histories;
      orders = entries_more orders_total orders_exact (λ key. key.w_id) (λ t. t.orders) before p next h.homes rows.orders.entries hr.orders.entries new.orders.entries h.orders refl it.orders_here adds.orders;
      new_orders = entries_more orders_total orders_exact (λ key. key.w_id) (λ t. t.new_orders) before p next h.homes rows.new_orders.entries hr.new_orders new.new_orders.entries h.new_orders refl it.new_orders_here adds.new_orders;
      lines = entries_more lines_total lines_exact (λ key. key.w_id) (λ t. t.lines) before p next h.homes rows.lines hr.lines new.lines h.lines refl it.lines_here adds.lines;
    }

-- ---- all parts

all_made : {K X : Type 0} {R : K → K → Ordering} (own : K → ℕ) (keys_of : ℕ → List K) (each : ℕ) (table : Database → FinMap R X) (parts : List Part) (rows : List X) (keys : List K) (many : ℕ)
    → length parts ≡ many → keys ≡ keys_from keys_of 1 many → IsTableTo own keys_of each table parts rows → from_entries {R = R} (zip keys rows) ≡ rows_of_all own table parts
all_made own keys_of each table parts rows keys many long same h =
    ap (λ ks. from_entries (zip ks rows)) (same ∙ ap (keys_from keys_of 1) (sym long)) ∙ h.made

module _ (shared : SharedTables) (parts : List Part) (rows : TableRows) (scale : Scale) (items : Vec Item) (are : ArePartsOf shared parts)
    (is : (record { scale = scale; items = from_entries (zip (item_ids scale) items.items) }) ≡ shared) (h : IsWholeTo scale parts rows) where
  pub whole_made : database scale (record rows { items = items }) ≡ whole_of shared parts
  whole_made =
      let many : length parts ≡ scale.warehouses = are.many ∙ ap (λ (s : SharedTables). s.scale.warehouses) (sym is) in
      let warehouses = all_made (λ key. key) warehouse_id_of 1 (λ t. t.warehouses) parts rows.warehouses.items (warehouse_ids scale) scale.warehouses many (warehouse_ids_in_turn scale) h.warehouses in
      let districts = all_made (λ key. key.w_id) district_keys_of 10 (λ t. t.districts) parts rows.districts.items (district_keys scale) scale.warehouses many (district_keys_in_turn scale) h.districts in
      let stocks = all_made (λ key. key.w_id) (stock_keys_of scale) scale.items (λ t. t.stocks) parts rows.stocks.items (stock_keys scale) scale.warehouses many (stock_keys_in_turn scale) h.stocks in
      let customers = all_made (λ key. key.w_id) (customer_keys_of scale) (10 * scale.customers) (λ t. t.customers) parts rows.customers.items (customer_keys scale) scale.warehouses many (customer_keys_in_turn scale) h.customers in
      let histories = all_made (λ key. key.w_id) district_keys_of 10 (λ t. t.histories) parts rows.histories.items (district_keys scale) scale.warehouses many (district_keys_in_turn scale) h.histories in
      λ i. record {
        scale = (is i).scale;
        items = (is i).items;
        warehouses = warehouses i;
        districts = districts i;
        stocks = stocks i;
        customers = customers i;
        histories = histories i;
        orders = h.orders i;
        new_orders = h.new_orders i;
        lines = h.lines i;
      }

  pub whole_fits : length items.items ≡ scale.items → FitsScale scale (record rows { items = items })
  whole_fits long =
      let many : length parts ≡ scale.warehouses = are.many ∙ ap (λ (s : SharedTables). s.scale.warehouses) (sym is) in
      let once : length parts * 1 ≡ scale.warehouses = omega (arith, many) in
      let customers : scale.warehouses * (10 * scale.customers) ≡ scale.warehouses * 10 * scale.customers = grind arith in
      record {
        counts = record {
          items = long;
          warehouses = h.warehouses.count ∙ once;
          districts = h.districts.count ∙ ap (λ n. n * 10) many;
          stocks = h.stocks.count ∙ ap (λ n. n * scale.items) many;
          customers = h.customers.count ∙ ap (λ n. n * (10 * scale.customers)) many ∙ customers;
          histories = h.histories.count ∙ ap (λ n. n * 10) many;
        };
        within = subst IsWithinScale (sym whole_made) (whole_is_within_scale shared parts (record { home = 0; tables = whole_of shared [] }) are h.parts);
      }
