-- The parts of tables within the scale are parts, and make these tables again.
use Rattle.std.proofs.Common.{◌≡◌, ℕ, ◌+◌, ◌-◌, ◌<◌, ◌≤◌, Bool, true, false, cond, ◌&&◌, length, slice_index_or, Option, Some, None, is_some, IsTrue, refl, sym, ap, subst, ◌∙◌, arith}
use Rattle.std.specs.List.{All}
use Rattle.std.specs.declared.cmp.Ordering.{Ordering}
use Rattle.std.specs.Cmp.{IsTotalOrder, nat_cmp_total}
use Rattle.std.specs.FinMap.{FinMap, get, contains_key, retain_keys, get-retain_keys, same_map, IsAntisymmetric, nat_cmp-IsAntisymmetric}
use Rattle.std.proofs.lemmas.Bool.Decides.{nat_tests}
use Rattle.std.proofs.lemmas.List.FromFn.{get_or-map-range_with_len, length-map-range_with_len}
use Rattle.rows.specs.declared.keys.OrderKey.{OrderKey}
use Rattle.rows.specs.Keys.{order_of_line}
use Rattle.rows.specs.Ranged.{is_between}
use Rattle.schema.specs.declared.scale.Scale.{Scale}
use Rattle.schema.specs.EachRow.{EachRow}
use Rattle.schema.specs.Scale.{has_warehouse}
use Rattle.schema.specs.Database.{Database, IsWithinScale}
use Rattle.schema.proofs.KeyOrders.{districts_total, districts_exact, stocks_total, stocks_exact, customers_total, customers_exact, orders_total, orders_exact, lines_total, lines_exact}
use Rattle.partitions.specs.Parts.{shared_of, Part, IsPart, is_of, part_of, parts_of, rows_of_all, whole_of, ArePartsOf}
use Rattle.partitions.proofs.Wholes.{get-whole_of_parts}

-- ---- a part of a table

module _ {K X : Type 0} {R : K → K → Ordering} (o : IsTotalOrder R) (a : IsAntisymmetric R) where
  pub get-part : (m : FinMap R X) (p : K → Bool) (key : K) → get (retain_keys m p) key ≡ cond (p key) (get m key) None
  get-part m p key = get-retain_keys m p key (λ x e. ap p (sym (a key x e)))

  pub kept : (m : FinMap R X) (p : K → Bool) (key : K) (row : X) → get (retain_keys m p) key ≡ Some row → IsTrue (p key) × (get m key ≡ Some row)
  kept m p key row found =
      elim (p key) as (λ b. cond b (get m key) None ≡ Some row → IsTrue b × (get m key ≡ Some row)) [
        | true ↦ λ e. (refl, e)
        | false ↦ λ e. absurd cc
      ] (sym (get-part m p key) ∙ found)

  pub contains-part : (m : FinMap R X) (p : K → Bool) (key : K) → contains_key (retain_keys m p) key ≡ (p key && contains_key m key)
  contains-part m p key =
      ap is_some (get-part m p key)
      ∙ elim (p key) as (λ b. is_some (cond b (get m key) None) ≡ (b && is_some (get m key))) [ true ↦ refl | false ↦ refl ]

  each-part : (test : K → X → Bool) (m : FinMap R X) (p : K → Bool) → EachRow test m → EachRow test (retain_keys m p)
  each-part test m p h key row found = h key row (kept m p key row found).1

  here-part : (m : FinMap R X) (p : K → Bool) → EachRow (λ key _. p key) (retain_keys m p)
  here-part m p key row found = (kept m p key row found).0

  still_there : (m : FinMap R X) (p : K → Bool) (key : K) → IsTrue (p key) → IsTrue (contains_key m key) → IsTrue (contains_key (retain_keys m p) key)
  still_there m p key here there = contains-part m p key ∙ rw here there

pub same_home : (home warehouse : ℕ) → is_of home warehouse ≡ true → home ≡ warehouse
same_home home warehouse h = grind (arith, nat_tests)

pub own_home : (home : ℕ) → is_of home home ≡ true
own_home home = grind (arith, nat_tests)

-- of a warehouse of the scale, whether it is of the scale adds nothing
of_home : (scale : Scale) (home warehouse : ℕ) (b : Bool) → IsTrue (has_warehouse scale home) → (is_of home warehouse && (has_warehouse scale warehouse && b)) ≡ (is_of home warehouse && b)
of_home scale home warehouse b has =
    elim (is_of home warehouse) as (λ i. is_of home warehouse ≡ i → (i && (has_warehouse scale warehouse && b)) ≡ (i && b)) [
      | true ↦ λ e. let h : has_warehouse scale warehouse ≡ true = subst (λ w. IsTrue (has_warehouse scale w)) (same_home home warehouse e) has in rw h refl
      | false ↦ λ e. refl
    ] refl

pub and_assoc : (x y z : Bool) → ((x && y) && z) ≡ (x && (y && z))
and_assoc true y z = refl
and_assoc false y z = refl

pub and_true : (x : Bool) → (x && true) ≡ x
and_true true = refl
and_true false = refl

module _ (t : Database) (within : IsWithinScale t) (home : ℕ) (has : IsTrue (has_warehouse t.scale home)) where
  warehouses_here : (key : ℕ) → contains_key (part_of t home).tables.warehouses key ≡ is_of home key
  warehouses_here key =
      contains-part nat_cmp_total nat_cmp-IsAntisymmetric t.warehouses (is_of home) key
      ∙ ap (λ b. is_of home key && b) (within.warehouses key ∙ sym (and_true (has_warehouse t.scale key)))
      ∙ of_home t.scale home key true has ∙ and_true (is_of home key)

  pub part_is_part : IsPart (part_of t home)
  part_is_part = record {
    home = has;
    items = within.items;
    warehouses = warehouses_here;
    districts = λ key.
        contains-part districts_total districts_exact t.districts (λ k. is_of home k.w_id) key
        ∙ ap (λ b. is_of home key.w_id && b) (within.districts key) ∙ of_home t.scale home key.w_id _ has;
    stocks = λ key.
        contains-part stocks_total stocks_exact t.stocks (λ k. is_of home k.w_id) key
        ∙ ap (λ b. is_of home key.w_id && b) (within.stocks key) ∙ of_home t.scale home key.w_id _ has;
    customers = λ key.
        contains-part customers_total customers_exact t.customers (λ k. is_of home k.w_id) key
        ∙ ap (λ b. is_of home key.w_id && b) (within.customers key ∙ and_assoc (has_warehouse t.scale key.w_id) _ _) ∙ of_home t.scale home key.w_id _ has
        ∙ sym (and_assoc (is_of home key.w_id) _ _);
    histories = λ key.
        contains-part districts_total districts_exact t.histories (λ k. is_of home k.w_id) key
        ∙ ap (λ b. is_of home key.w_id && b) (within.histories key) ∙ of_home t.scale home key.w_id _ has;
    orders_here = here-part orders_total orders_exact t.orders (λ k. is_of home k.w_id);
    new_orders_here = here-part orders_total orders_exact t.new_orders (λ k. is_of home k.w_id);
    lines_here = here-part lines_total lines_exact t.lines (λ k. is_of home k.w_id);
    payers_known = each-part districts_total districts_exact _ t.histories (λ k. is_of home k.w_id) within.payers_known;
    orders_numbered = each-part orders_total orders_exact _ t.orders (λ k. is_of home k.w_id) within.orders_numbered;
    orders_have_customers = each-part orders_total orders_exact _ t.orders (λ k. is_of home k.w_id) within.orders_have_customers;
    new_orders_have_orders = λ key row found.
        let there = kept orders_total orders_exact t.new_orders (λ k. is_of home k.w_id) key row found in
        still_there orders_total orders_exact t.orders (λ k. is_of home k.w_id) key there.0 (within.new_orders_have_orders key row there.1);
    lines_have_orders = λ key row found.
        let there = kept lines_total lines_exact t.lines (λ k. is_of home k.w_id) key row found in
        still_there orders_total orders_exact t.orders (λ k. is_of home k.w_id) (order_of_line key) there.0 (within.lines_have_orders key row there.1);
    lines_numbered = each-part lines_total lines_exact _ t.lines (λ k. is_of home k.w_id) within.lines_numbered;
    lines_have_items = each-part lines_total lines_exact _ t.lines (λ k. is_of home k.w_id) within.lines_have_items;
    lines_have_suppliers = each-part lines_total lines_exact _ t.lines (λ k. is_of home k.w_id) within.lines_have_suppliers;
  }

-- ---- all parts

pub length-parts_of : (t : Database) → length (parts_of t) ≡ t.scale.warehouses
length-parts_of t = length-map-range_with_len (part_of t) 1 t.scale.warehouses

pub part_at : (t : Database) (place home : ℕ) (d : Part) → place < t.scale.warehouses → 1 + place ≡ home → slice_index_or (parts_of t) place d ≡ part_of t home
part_at t place home d l is = get_or-map-range_with_len (part_of t) 1 t.scale.warehouses place home d l is

pub parts_are : (t : Database) → ArePartsOf (shared_of t) (parts_of t)
parts_are t = record {
  many = length-parts_of t;
  each = λ place d l.
      let e : slice_index_or (parts_of t) place d ≡ part_of t (place + 1) = part_at t place (place + 1) d (omega (arith, length-parts_of t)) (omega arith) in
      record { home = ap (λ (p : Part). p.home) e; scale = ap (λ (p : Part). p.tables.scale) e; items = ap (λ (p : Part). p.tables.items) e };
}

pub parts_are_parts : (t : Database) → IsWithinScale t → All IsPart (parts_of t)
parts_are_parts t within place d l =
    let below : place < t.scale.warehouses = omega (arith, length-parts_of t) in
    let has : IsTrue (has_warehouse t.scale (place + 1)) = grind (arith, nat_tests) in
    subst IsPart (sym (part_at t place (place + 1) d below (omega arith))) (part_is_part t within (place + 1) has)

-- ---- the whole of the parts

pub absent : {X : Type 0} (r : Option X) → is_some r ≡ false → r ≡ None
absent None h = refl
absent (Some x) h = absurd cc

pub first : (b c : Bool) → IsTrue (b && c) → IsTrue b
first true c h = refl
first false c h = h

module _ {K X : Type 0} {R : K → K → Ordering} (o : IsTotalOrder R) (a : IsAntisymmetric R) (own : K → ℕ) (rows : Database → FinMap R X) (t : Database) where
  table_again : ((home : ℕ) → rows (part_of t home).tables ≡ retain_keys (rows t) (λ key. is_of home (own key)))
      → ((q : K) → has_warehouse t.scale (own q) ≡ false → get (rows t) q ≡ None)
      → rows_of_all own rows (parts_of t) ≡ rows t
  table_again cut none = same_map o a _ _ (λ q.
      get-whole_of_parts o a own rows (shared_of t) (parts_of t) (part_of t 0) (parts_are t) q
      ∙ elim (has_warehouse t.scale (own q)) as (λ b. has_warehouse t.scale (own q) ≡ b → cond b (get (rows (slice_index_or (parts_of t) (own q - 1) (part_of t 0)).tables) q) None ≡ get (rows t) q) [
        | true ↦ λ e.
            let low : 1 ≤ own q = grind (arith, nat_tests) in
            let high : own q ≤ t.scale.warehouses = grind (arith, nat_tests) in
            let at : slice_index_or (parts_of t) (own q - 1) (part_of t 0) ≡ part_of t (own q) = part_at t (own q - 1) (own q) (part_of t 0) (omega arith) (omega arith) in
            ap (λ (p : Part). get (rows p.tables) q) at ∙ ap (λ m. get m q) (cut (own q)) ∙ get-part o a (rows t) (λ key. is_of (own q) (own key)) q
            ∙ ap (λ b. cond b (get (rows t) q) None) (own_home (own q))
        | false ↦ λ e. sym (none q e)
      ] refl)

  none_by_keys : (test : K → Bool) → ((q : K) → contains_key (rows t) q ≡ (has_warehouse t.scale (own q) && test q))
      → (q : K) → has_warehouse t.scale (own q) ≡ false → get (rows t) q ≡ None
  none_by_keys test keys q out = absent (get (rows t) q) (keys q ∙ ap (λ b. b && test q) out)

  none_by_rows : ((q : K) (row : X) → get (rows t) q ≡ Some row → IsTrue (has_warehouse t.scale (own q)))
      → (q : K) → has_warehouse t.scale (own q) ≡ false → get (rows t) q ≡ None
  none_by_rows each q out =
      elim (get (rows t) q) as (λ r. get (rows t) q ≡ r → r ≡ None) [
        | None ↦ λ e. refl
        | Some row ↦ λ e. let in_scale : has_warehouse t.scale (own q) ≡ true = each q row e in absurd cc
      ] refl

module _ (t : Database) (within : IsWithinScale t) where
  pub order_home : (key : OrderKey) → IsTrue (contains_key t.orders key) → IsTrue (has_warehouse t.scale key.w_id)
  order_home key there =
      elim (get t.orders key) as (λ r. get t.orders key ≡ r → IsTrue (is_some r) → IsTrue (has_warehouse t.scale key.w_id)) [
        | None ↦ λ e h. absurd cc
        | Some row ↦ λ e h. first _ _ (first _ _ (within.orders_have_customers key row e))
      ] refl there

  pub tables_again : whole_of (shared_of t) (parts_of t) ≡ t
  tables_again =
      let warehouses = table_again nat_cmp_total nat_cmp-IsAntisymmetric (λ key. key) (λ t. t.warehouses) t (λ _. refl)
      (none_by_keys nat_cmp_total nat_cmp-IsAntisymmetric (λ key. key) (λ t. t.warehouses) t (λ _. true) (λ q. within.warehouses q ∙ sym (and_true _))) in
      let districts = table_again districts_total districts_exact (λ key. key.w_id) (λ t. t.districts) t (λ _. refl)
      (none_by_keys districts_total districts_exact (λ key. key.w_id) (λ t. t.districts) t _ within.districts) in
      let stocks = table_again stocks_total stocks_exact (λ key. key.w_id) (λ t. t.stocks) t (λ _. refl)
      (none_by_keys stocks_total stocks_exact (λ key. key.w_id) (λ t. t.stocks) t _ within.stocks) in
      let customers = table_again customers_total customers_exact (λ key. key.w_id) (λ t. t.customers) t (λ _. refl)
      (none_by_keys customers_total customers_exact (λ key. key.w_id) (λ t. t.customers) t (λ q. is_between 1 10 q.d_id && is_between 1 t.scale.customers q.c_id)
      (λ q. within.customers q ∙ and_assoc (has_warehouse t.scale q.w_id) (is_between 1 10 q.d_id) (is_between 1 t.scale.customers q.c_id))) in
      let histories = table_again districts_total districts_exact (λ key. key.w_id) (λ t. t.histories) t (λ _. refl)
      (none_by_keys districts_total districts_exact (λ key. key.w_id) (λ t. t.histories) t _ within.histories) in
      let orders = table_again orders_total orders_exact (λ key. key.w_id) (λ t. t.orders) t (λ _. refl)
      (none_by_rows orders_total orders_exact (λ key. key.w_id) (λ t. t.orders) t (λ q row e. first _ _ (first _ _ (within.orders_have_customers q row e)))) in
      let new_orders = table_again orders_total orders_exact (λ key. key.w_id) (λ t. t.new_orders) t (λ _. refl)
      (none_by_rows orders_total orders_exact (λ key. key.w_id) (λ t. t.new_orders) t (λ q row e. order_home q (within.new_orders_have_orders q row e))) in
      let lines = table_again lines_total lines_exact (λ key. key.w_id) (λ t. t.lines) t (λ _. refl)
      (none_by_rows lines_total lines_exact (λ key. key.w_id) (λ t. t.lines) t (λ q row e. order_home (order_of_line q) (within.lines_have_orders q row e))) in
      λ i. record {
        scale = t.scale;
        items = t.items;
        warehouses = warehouses i;
        districts = districts i;
        stocks = stocks i;
        customers = customers i;
        histories = histories i;
        orders = orders i;
        new_orders = new_orders i;
        lines = lines i;
      }
