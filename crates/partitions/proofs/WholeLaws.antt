-- What parts make whole is within the scale, and has these parts.
use Rattle.std.proofs.Common.{◌≡◌, ℕ, ◌+◌, ◌-◌, ◌<◌, ◌≤◌, Bool, true, false, cond, ◌&&◌, List, length, slice_index_or, Some, None, is_some, IsTrue, refl, sym, ap, subst, ◌∙◌, arith}
use Rattle.std.specs.List.{All}
use Rattle.std.specs.declared.cmp.Ordering.{Ordering}
use Rattle.std.specs.Cmp.{IsTotalOrder, nat_cmp_total}
use Rattle.std.specs.FinMap.{FinMap, get, contains_key, retain_keys, same_map, IsAntisymmetric, nat_cmp-IsAntisymmetric}
use Rattle.std.proofs.lemmas.Bool.Decides.{nat_tests}
use Rattle.rows.specs.declared.keys.OrderKey.{OrderKey}
use Rattle.rows.specs.Keys.{order_of_line}
use Rattle.rows.specs.Ranged.{is_between}
use Rattle.schema.specs.declared.scale.Scale.{Scale}
use Rattle.schema.specs.EachRow.{EachRow}
use Rattle.schema.specs.Scale.{has_item, has_warehouse, has_customer}
use Rattle.schema.specs.Database.{Database, IsWithinScale, are_payers_known, is_order_id, is_line_number, customer_of_order}
use Rattle.schema.proofs.KeyOrders.{districts_total, districts_exact, stocks_total, stocks_exact, customers_total, customers_exact, orders_total, orders_exact, lines_total, lines_exact}
use Rattle.partitions.specs.Parts.{SharedTables, Part, IsPart, is_of, part_of, rows_of_all, whole_of, ArePartsOf}
use Rattle.partitions.proofs.Wholes.{get-whole_of_parts}
use Rattle.partitions.proofs.PartLaws.{get-part, same_home, own_home, absent, and_assoc, and_true}

module _ (shared : SharedTables) (parts : List Part) (d : Part) (are : ArePartsOf shared parts) (each : All IsPart parts) where
  -- the part of a warehouse of the scale
  abbrev of_warehouse : ℕ → Part
  of_warehouse w = slice_index_or parts (w - 1) d

  stands : (w : ℕ) → has_warehouse shared.scale w ≡ true → w - 1 < length parts
  stands w has =
      let low : 1 ≤ w = grind (arith, nat_tests) in
      let high : w ≤ shared.scale.warehouses = grind (arith, nat_tests) in
      omega (arith, are.many)

  is_part : (w : ℕ) → has_warehouse shared.scale w ≡ true → IsPart (of_warehouse w)
  is_part w has = each (w - 1) d (stands w has)

  same_scale : (w : ℕ) → has_warehouse shared.scale w ≡ true → (of_warehouse w).tables.scale ≡ shared.scale
  same_scale w has = (are.each (w - 1) d (stands w has)).scale

  home_is : (w : ℕ) → has_warehouse shared.scale w ≡ true → (of_warehouse w).home ≡ w
  home_is w has =
      let low : 1 ≤ w = grind (arith, nat_tests) in
      (are.each (w - 1) d (stands w has)).home ∙ omega arith

  module _ {K X : Type 0} {R : K → K → Ordering} (o : IsTotalOrder R) (a : IsAntisymmetric R) (own : K → ℕ) (rows : Database → FinMap R X) where
    -- a row of the whole is one of the part of its warehouse
    row_of_part : (key : K) (row : X) → get (rows_of_all own rows parts) key ≡ Some row
        → (has_warehouse shared.scale (own key) ≡ true) × (get (rows (of_warehouse (own key)).tables) key ≡ Some row)
    row_of_part key row found =
        elim (has_warehouse shared.scale (own key)) as (λ b. cond b (get (rows (of_warehouse (own key)).tables) key) None ≡ Some row → (b ≡ true) × (get (rows (of_warehouse (own key)).tables) key ≡ Some row)) [
          | true ↦ λ e. (refl, e)
          | false ↦ λ e. absurd cc
        ] (sym (get-whole_of_parts o a own rows shared parts d are key) ∙ found)

    same_row : (key : K) → has_warehouse shared.scale (own key) ≡ true → get (rows_of_all own rows parts) key ≡ get (rows (of_warehouse (own key)).tables) key
    same_row key has = get-whole_of_parts o a own rows shared parts d are key ∙ ap (λ b. cond b (get (rows (of_warehouse (own key)).tables) key) None) has

    -- the keys of the whole are those of the parts
    keys_are : (test : K → Bool) → ((w : ℕ) → has_warehouse shared.scale w ≡ true → (key : K) → contains_key (rows (of_warehouse w).tables) key ≡ (is_of (of_warehouse w).home (own key) && test key))
        → (key : K) → contains_key (rows_of_all own rows parts) key ≡ (has_warehouse shared.scale (own key) && test key)
    keys_are test keys key =
        ap is_some (get-whole_of_parts o a own rows shared parts d are key)
        ∙ elim (has_warehouse shared.scale (own key)) as (λ b. has_warehouse shared.scale (own key) ≡ b → is_some (cond b (get (rows (of_warehouse (own key)).tables) key) None) ≡ (b && test key)) [
          | true ↦ λ e. keys (own key) e key ∙ ap (λ w. is_of w (own key) && test key) (home_is (own key) e) ∙ ap (λ b. b && test key) (own_home (own key))
          | false ↦ λ e. refl
        ] refl

    -- and so is what holds of each row
    rows_pass : (test : Scale → K → X → Bool) → ((p : Part) → IsPart p → EachRow (test p.tables.scale) (rows p.tables)) → EachRow (test shared.scale) (rows_of_all own rows parts)
    rows_pass test h key row found =
        let there = row_of_part key row found in
        subst (λ s. IsTrue (test s key row)) (same_scale (own key) there.0) (h (of_warehouse (own key)) (is_part (own key) there.0) key row there.1)

    -- the part of the whole is the part that it was made of
    part_again : (w : ℕ) → has_warehouse shared.scale w ≡ true
        → ((key : K) → is_of (of_warehouse w).home (own key) ≡ false → get (rows (of_warehouse w).tables) key ≡ None)
        → retain_keys (rows_of_all own rows parts) (λ key. is_of w (own key)) ≡ rows (of_warehouse w).tables
    part_again w has none = same_map o a _ _ (λ q.
        get-part o a (rows_of_all own rows parts) (λ key. is_of w (own key)) q
        ∙ elim (is_of w (own q)) as (λ b. is_of w (own q) ≡ b → cond b (get (rows_of_all own rows parts) q) None ≡ get (rows (of_warehouse w).tables) q) [
          | true ↦ λ e.
              let same : w ≡ own q = same_home w (own q) e in
              same_row q (subst (λ n. has_warehouse shared.scale n ≡ true) same has) ∙ ap (λ n. get (rows (of_warehouse n).tables) q) (sym same)
          | false ↦ λ e. sym (none q (ap (λ n. is_of n (own q)) (home_is w has) ∙ e))
        ] refl)

    none_by_keys : (p : Part) (test : K → Bool) → ((key : K) → contains_key (rows p.tables) key ≡ (is_of p.home (own key) && test key))
        → (key : K) → is_of p.home (own key) ≡ false → get (rows p.tables) key ≡ None
    none_by_keys p test keys key out = absent (get (rows p.tables) key) (keys key ∙ ap (λ b. b && test key) out)

    none_by_rows : (p : Part) → EachRow (λ key _. is_of p.home (own key)) (rows p.tables)
        → (key : K) → is_of p.home (own key) ≡ false → get (rows p.tables) key ≡ None
    none_by_rows p here key out =
        elim (get (rows p.tables) key) as (λ r. get (rows p.tables) key ≡ r → r ≡ None) [
          | None ↦ λ e. refl
          | Some row ↦ λ e. let in_it : is_of p.home (own key) ≡ true = here key row e in absurd cc
        ] refl

  order_there : (key : OrderKey) → has_warehouse shared.scale key.w_id ≡ true → IsTrue (contains_key (of_warehouse key.w_id).tables.orders key)
      → IsTrue (contains_key (whole_of shared parts).orders key)
  order_there key has there = ap is_some (same_row orders_total orders_exact (λ k. k.w_id) (λ t. t.orders) key has) ∙ there

  pub whole_is_within_scale : IsWithinScale (whole_of shared parts)
  whole_is_within_scale = record {
    items =
        let one : has_warehouse shared.scale 1 ≡ true = let some : 1 ≤ shared.scale.warehouses = shared.scale.limits.some_warehouse in grind (arith, nat_tests) in
        let at = are.each (1 - 1) d (stands 1 one) in
        λ key. ap (λ m. contains_key m key) (sym at.items) ∙ (is_part 1 one).items key ∙ ap (λ s. has_item s key) at.scale;
    warehouses = λ key.
        keys_are nat_cmp_total nat_cmp-IsAntisymmetric (λ k. k) (λ t. t.warehouses) (λ _. true) (λ w has k. (is_part w has).warehouses k ∙ sym (and_true _)) key ∙ and_true _;
    districts = keys_are districts_total districts_exact (λ k. k.w_id) (λ t. t.districts) (λ k. is_between 1 10 k.d_id) (λ w has. (is_part w has).districts);
    stocks = keys_are stocks_total stocks_exact (λ k. k.w_id) (λ t. t.stocks) (λ k. has_item shared.scale k.i_id)
        (λ w has k. (is_part w has).stocks k ∙ ap (λ s. is_of (of_warehouse w).home k.w_id && has_item s k.i_id) (same_scale w has));
    customers = λ key.
        keys_are customers_total customers_exact (λ k. k.w_id) (λ t. t.customers) (λ k. is_between 1 10 k.d_id && is_between 1 shared.scale.customers k.c_id)
        (λ w has k.
        (is_part w has).customers k ∙ ap (λ s. (is_of (of_warehouse w).home k.w_id && is_between 1 10 k.d_id) && is_between 1 s.customers k.c_id) (same_scale w has)
        ∙ and_assoc (is_of (of_warehouse w).home k.w_id) (is_between 1 10 k.d_id) (is_between 1 shared.scale.customers k.c_id)) key
        ∙ sym (and_assoc (has_warehouse shared.scale key.w_id) (is_between 1 10 key.d_id) (is_between 1 shared.scale.customers key.c_id));
    histories = keys_are districts_total districts_exact (λ k. k.w_id) (λ t. t.histories) (λ k. is_between 1 10 k.d_id) (λ w has. (is_part w has).histories);
    payers_known = rows_pass districts_total districts_exact (λ k. k.w_id) (λ t. t.histories) (λ s _ rows. are_payers_known s rows) (λ p h. h.payers_known);
    orders_numbered = rows_pass orders_total orders_exact (λ k. k.w_id) (λ t. t.orders) (λ _ key _. is_order_id key.o_id) (λ p h. h.orders_numbered);
    orders_have_customers = rows_pass orders_total orders_exact (λ k. k.w_id) (λ t. t.orders) (λ s key row. has_customer s (customer_of_order key row)) (λ p h. h.orders_have_customers);
    new_orders_have_orders = λ key row found.
        let there = row_of_part orders_total orders_exact (λ k. k.w_id) (λ t. t.new_orders) key row found in
        order_there key there.0 ((is_part key.w_id there.0).new_orders_have_orders key row there.1);
    lines_have_orders = λ key row found.
        let there = row_of_part lines_total lines_exact (λ k. k.w_id) (λ t. t.lines) key row found in
        order_there (order_of_line key) there.0 ((is_part key.w_id there.0).lines_have_orders key row there.1);
    lines_numbered = rows_pass lines_total lines_exact (λ k. k.w_id) (λ t. t.lines) (λ _ key _. is_line_number key.number) (λ p h. h.lines_numbered);
    lines_have_items = rows_pass lines_total lines_exact (λ k. k.w_id) (λ t. t.lines) (λ s _ row. has_item s row.i_id) (λ p h. h.lines_have_items);
    lines_have_suppliers = rows_pass lines_total lines_exact (λ k. k.w_id) (λ t. t.lines) (λ s _ row. has_warehouse s row.supply_w_id) (λ p h. h.lines_have_suppliers);
  }

  part_of_warehouse : (w : ℕ) → has_warehouse shared.scale w ≡ true → part_of (whole_of shared parts) w ≡ of_warehouse w
  part_of_warehouse w has =
      let p = of_warehouse w in
      let it = is_part w has in
      let warehouses = part_again nat_cmp_total nat_cmp-IsAntisymmetric (λ k. k) (λ t. t.warehouses) w has
      (none_by_keys nat_cmp_total nat_cmp-IsAntisymmetric (λ k. k) (λ t. t.warehouses) p (λ _. true) (λ k. it.warehouses k ∙ sym (and_true _))) in
      let districts = part_again districts_total districts_exact (λ k. k.w_id) (λ t. t.districts) w has
      (none_by_keys districts_total districts_exact (λ k. k.w_id) (λ t. t.districts) p _ it.districts) in
      let stocks = part_again stocks_total stocks_exact (λ k. k.w_id) (λ t. t.stocks) w has
      (none_by_keys stocks_total stocks_exact (λ k. k.w_id) (λ t. t.stocks) p _ it.stocks) in
      let customers = part_again customers_total customers_exact (λ k. k.w_id) (λ t. t.customers) w has
      (none_by_keys customers_total customers_exact (λ k. k.w_id) (λ t. t.customers) p (λ k. is_between 1 10 k.d_id && is_between 1 p.tables.scale.customers k.c_id)
      (λ k. it.customers k ∙ and_assoc (is_of p.home k.w_id) (is_between 1 10 k.d_id) (is_between 1 p.tables.scale.customers k.c_id))) in
      let histories = part_again districts_total districts_exact (λ k. k.w_id) (λ t. t.histories) w has
      (none_by_keys districts_total districts_exact (λ k. k.w_id) (λ t. t.histories) p _ it.histories) in
      let orders = part_again orders_total orders_exact (λ k. k.w_id) (λ t. t.orders) w has (none_by_rows orders_total orders_exact (λ k. k.w_id) (λ t. t.orders) p it.orders_here) in
      let new_orders = part_again orders_total orders_exact (λ k. k.w_id) (λ t. t.new_orders) w has (none_by_rows orders_total orders_exact (λ k. k.w_id) (λ t. t.new_orders) p it.new_orders_here) in
      let lines = part_again lines_total lines_exact (λ k. k.w_id) (λ t. t.lines) w has (none_by_rows lines_total lines_exact (λ k. k.w_id) (λ t. t.lines) p it.lines_here) in
      let at = are.each (w - 1) d (stands w has) in
      let home = sym (home_is w has) in
      let scale = sym at.scale in
      let items = sym at.items in
      λ i. record {
        home = home i;
        tables = record {
          scale = scale i;
          items = items i;
          warehouses = warehouses i;
          districts = districts i;
          stocks = stocks i;
          customers = customers i;
          histories = histories i;
          orders = orders i;
          new_orders = new_orders i;
          lines = lines i;
        };
      }

  pub whole_has_part : (place : ℕ) → place < length parts → part_of (whole_of shared parts) (place + 1) ≡ slice_index_or parts place d
  whole_has_part place l =
      let below : place < shared.scale.warehouses = omega (arith, are.many) in
      let has : has_warehouse shared.scale (place + 1) ≡ true = grind (arith, nat_tests) in
      part_of_warehouse (place + 1) has ∙ ap (λ n. slice_index_or parts n d) (let e : place + 1 - 1 ≡ place = omega arith in e)
