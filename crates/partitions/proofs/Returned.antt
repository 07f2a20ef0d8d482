-- Rows of NEW-ORDER that came back, beside those of the map.
use Rattle.std.proofs.Common.{◌≡◌, ℕ, min, ◌&&◌, ◌==◌, Bool, true, false, cond, List, [], ◌∷◌, Option, Some, None, IsTrue, is_some, refl, sym, ap, ◌∙◌, arith}
use Rattle.std.specs.List.{filter}
use Rattle.std.specs.List.Sorted.{IsStrictlySortedBy}
use Rattle.std.specs.Map.{keys_of}
use Rattle.std.specs.BTreeMap.{BTreeMap}
use Rattle.std.specs.declared.cmp.Ordering.TheVariants.{Less, Equal, Greater}
use Rattle.std.specs.Ordering.{eq_by_cmp}
use Rattle.std.specs.FinMap.{FinMap, get, contains_key, insert, remove, entries, from_entries, get-entries, get-from_entries, get-insert, entries-insert, same_map}
use Rattle.std.specs.FinMap.Entries.{put}
use Rattle.std.proofs.lemmas.Bool.Decides.{nat_tests}
use Rattle.rows.specs.declared.keys.DistrictKey.{DistrictKey}
use Rattle.rows.specs.declared.keys.OrderKey.{OrderKey}
use Rattle.rows.specs.declared.records.NewOrder.{NewOrder}
use Rattle.rows.specs.Keys.{order_cmp, district_of_order}
use Rattle.schema.specs.EachRow.{EachRow}
use Rattle.schema.specs.MapRows.{table_of, put_row}
use Rattle.schema.specs.Database.{rows_where, is_of_district}
use Rattle.schema.specs.Consistency.{least, numbers}
use Rattle.schema.specs.OrderRows.{is_order, smallest}
use Rattle.schema.proofs.Deliveries.{order_test}
use Rattle.schema.proofs.KeyOrders.{orders_total, orders_exact}
use Rattle.schema.proofs.OrderedParts.{entries-ordered}
use Rattle.schema.proofs.TableWrites.{put_row_same, put_row_twice, put_row_apart}
use Rattle.partitions.specs.NewOrders.{with_returned, entries_with, lesser_of}
use Rattle.partitions.specs.declared.new_order_rows.Returned.{Returned, Nothing, Row'}

abbrev pub NewTable : Type 0
NewTable = FinMap order_cmp NewOrder

-- the table that a table's entries make
pub entries_again : (m : NewTable) → from_entries (entries m) ≡ m
entries_again m = same_map orders_total orders_exact (from_entries (entries m)) m (λ q. get-from_entries orders_total (entries m) q ∙ sym (get-entries m q))

-- the table that is seen
pub seen : (returned : Returned) (rows : BTreeMap OrderKey NewOrder) (es : List (OrderKey × NewOrder)) → entries_with returned rows ≡ es → from_entries es ≡ with_returned returned (table_of order_cmp rows)
seen returned rows es is = ap (λ l. from_entries l) (sym is) ∙ entries_again (with_returned returned (table_of order_cmp rows))

-- what each of all rows passes, each of the map does
pub each_of_map : (test : OrderKey → Bool) (returned : Returned) (rows : NewTable) → EachRow (λ key _. test key) (with_returned returned rows) → EachRow (λ key _. test key) rows
each_of_map test Nothing rows each = each
each_of_map test (Row' key p rest) rows each =
    each_of_map test rest rows (λ q row found. elim (eq_by_cmp order_cmp q key) as (λ b. get (insert (with_returned rest rows) key (record {})) q ≡ cond b (Some (record {})) (Some row) → IsTrue (test q)) [
      | true ↦ λ e. each q (record {}) e
      | false ↦ λ e. each q row e
    ] (get-insert orders_total (with_returned rest rows) key (record {}) q ∙ ap (cond (eq_by_cmp order_cmp q key) (Some (record {}))) found))

module _ (returned settled : Returned) (rows moved : BTreeMap OrderKey NewOrder) (es : List (OrderKey × NewOrder)) (is : entries_with returned rows ≡ es)
    (same : with_returned settled (table_of order_cmp moved) ≡ with_returned returned (table_of order_cmp rows)) (none : (m : NewTable) → with_returned settled m ≡ m) where
  -- the table of the map, once all that came back are in it
  pub settled_table : table_of order_cmp moved ≡ from_entries es
  settled_table = sym (none (table_of order_cmp moved)) ∙ same ∙ sym (seen returned rows es is)

  -- and what is seen of another map in its place
  pub settled_seen : (m : BTreeMap OrderKey NewOrder) → from_entries (entries_with settled m) ≡ table_of order_cmp m
  settled_seen m = entries_again (with_returned settled (table_of order_cmp m)) ∙ none (table_of order_cmp m)

  -- its entries are those that were seen
  pub settled_entries : IsStrictlySortedBy order_cmp (keys_of moved.entries) → moved.entries ≡ es
  settled_entries sorted = sym (entries-ordered orders_total moved.entries sorted) ∙ ap (λ m. entries m) (sym (none (table_of order_cmp moved)) ∙ same) ∙ is

-- ---- a row that is taken away

same_order : (key q : OrderKey) → is_order key q ≡ true → q ≡ key
same_order key q e =
    let w : q.w_id ≡ key.w_id = grind (arith, nat_tests) in
    let d : q.d_id ≡ key.d_id = grind (arith, nat_tests) in
    let n : q.o_id ≡ key.o_id = grind (arith, nat_tests) in
    λ i. record { w_id = w i; d_id = d i; o_id = n i }

-- the row itself
pub own_forgotten : (key own : OrderKey) (new old : NewTable) → is_order key own ≡ true → new ≡ remove old key → new ≡ remove (insert old own (record {})) key
own_forgotten key own new old same is =
    is ∙ sym (put_row_twice orders_total orders_exact old key (Some (record {})) None) ∙ ap (λ k. remove (insert old k (record {})) key) (sym (same_order key own same))

-- another one stays
pub other_kept : (key own : OrderKey) (new old : NewTable) → is_order key own ≡ false → new ≡ remove old key → insert new own (record {}) ≡ remove (insert old own (record {})) key
other_kept key own new old other is =
    ap (λ m. insert m own (record {})) is ∙ sym (put_row_apart orders_total orders_exact old own key (Some (record {})) None (order_test key own ∙ other))

-- all rows of NEW-ORDER are equal: restoring a row that is stored changes nothing
pub stands_again : (m : NewTable) (key : OrderKey) (was : Option NewOrder) → IsTrue (contains_key m key) → is_some was ≡ true → m ≡ put_row m key was
stands_again m key None there some = absurd cc
stands_again m key (Some row) there some =
    sym (put_row_same orders_total orders_exact m key (Some row) (elim (get m key) as (λ r. IsTrue (is_some r) → r ≡ Some row) [
      | None ↦ λ h. absurd cc
      | Some other ↦ λ h. refl
    ] there))

-- if none was stored before, the row is deleted
pub gone : (m : NewTable) (key : OrderKey) (was : Option NewOrder) → is_some was ≡ false → remove m key ≡ put_row m key was
gone m key None none = refl
gone m key (Some row) none = absurd cc

-- ---- the oldest order

pub same_district : (home district : DistrictKey) (key : OrderKey) → district ≡ district_of_order key → ((district.w_id == home.w_id) && (district.d_id == home.d_id)) ≡ is_of_district home key
same_district home district key is = ap (λ (d : DistrictKey). (d.w_id == home.w_id) && (d.d_id == home.d_id)) is

least_min : (a b : ℕ) (ns : List ℕ) → least (min a b) ns ≡ min a (least b ns)
least_min a b [] = refl
least_min a b (n ∷ ns) =
    let same : min (min a b) n ≡ min a (min b n) = omega arith in
    ap (λ m. least m ns) same ∙ least_min a (min b n) ns

one_more : (n : ℕ) (ns : List ℕ) → smallest (n ∷ ns) ≡ Some (lesser_of n (smallest ns))
one_more n [] = refl
one_more n (m ∷ ms) = ap Some (least_min n m ms)

twice : (n : ℕ) (ns : List ℕ) → smallest (n ∷ ns) ≡ Some (lesser_of n (smallest (n ∷ ns)))
twice n ns =
    let same : min n n ≡ n = omega arith in
    ap (λ m. Some (least m ns)) (sym same) ∙ ap Some (least_min n n ns)

turned : (a b : ℕ) (r : Option ℕ) → lesser_of a (Some (lesser_of b r)) ≡ lesser_of b (Some (lesser_of a r))
turned a b None = omega arith
turned a b (Some c) = omega arith

module _ (home : DistrictKey) (key : OrderKey) where
  abbrev of_home : List (OrderKey × NewOrder) → List ℕ
  of_home es = numbers (filter (λ e. is_of_district home e.0) es)

  -- an order of another district
  put_elsewhere : is_of_district home key ≡ false → (es : List (OrderKey × NewOrder)) → of_home (put order_cmp key (record {}) es) ≡ of_home es
  put_elsewhere other [] = ap (λ b. numbers {X = NewOrder} (cond b ((key, record {}) ∷ []) [])) other
  put_elsewhere other (e ∷ es) =
      elim (order_cmp key e.0) as (λ r. order_cmp key e.0 ≡ r → of_home (put order_cmp key (record {}) (e ∷ es)) ≡ of_home (e ∷ es)) [
        | Less ↦ λ r. rw (r, other) refl
        | Equal ↦ λ r. rw r (elim (is_of_district home e.0) as (λ b. numbers (cond b ((e.0, record {}) ∷ filter (λ e. is_of_district home e.0) es) (filter (λ e. is_of_district home e.0) es)) ≡ numbers (cond b (e ∷ filter (λ e. is_of_district home e.0) es) (filter (λ e. is_of_district home e.0) es))) [ true ↦ refl | false ↦ refl ])
        | Greater ↦ λ r. rw r (elim (is_of_district home e.0) as (λ b. numbers (cond b (e ∷ filter (λ e. is_of_district home e.0) (put order_cmp key (record {}) es)) (filter (λ e. is_of_district home e.0) (put order_cmp key (record {}) es)))
            ≡ numbers (cond b (e ∷ filter (λ e. is_of_district home e.0) es) (filter (λ e. is_of_district home e.0) es))) [ true ↦ ap (λ ns. e.0.o_id ∷ ns) (put_elsewhere other es) | false ↦ put_elsewhere other es ])
      ] refl

  -- an order of the district
  put_here : is_of_district home key ≡ true → (es : List (OrderKey × NewOrder)) → smallest (of_home (put order_cmp key (record {}) es)) ≡ Some (lesser_of key.o_id (smallest (of_home es)))
  put_here own [] = ap (λ b. smallest (numbers {X = NewOrder} (cond b ((key, record {}) ∷ []) []))) own
  put_here own (e ∷ es) =
      elim (order_cmp key e.0) as (λ r. order_cmp key e.0 ≡ r → smallest (of_home (put order_cmp key (record {}) (e ∷ es))) ≡ Some (lesser_of key.o_id (smallest (of_home (e ∷ es))))) [
        | Less ↦ λ r. rw (r, own) (one_more key.o_id (of_home (e ∷ es)))
        | Equal ↦ λ r.
            let same : key ≡ e.0 = orders_exact key e.0 r in
            let there : is_of_district home e.0 ≡ true = ap (is_of_district home) (sym same) ∙ own in
            rw (r, there) (twice e.0.o_id (of_home es) ∙ ap (λ (k : OrderKey). Some (lesser_of k.o_id (smallest (e.0.o_id ∷ of_home es)))) (sym same))
        | Greater ↦ λ r. rw r (elim (is_of_district home e.0) as (λ b. smallest (numbers (cond b (e ∷ filter (λ e. is_of_district home e.0) (put order_cmp key (record {}) es)) (filter (λ e. is_of_district home e.0) (put order_cmp key (record {}) es))))
            ≡ Some (lesser_of key.o_id (smallest (numbers (cond b (e ∷ filter (λ e. is_of_district home e.0) es) (filter (λ e. is_of_district home e.0) es)))))) [
              | true ↦ one_more e.0.o_id (of_home (put order_cmp key (record {}) es)) ∙ ap (λ s. Some (lesser_of e.0.o_id s)) (put_here own es) ∙ ap Some (turned e.0.o_id key.o_id (smallest (of_home es))) ∙ ap (λ s. Some (lesser_of key.o_id s)) (sym (one_more e.0.o_id (of_home es)))
              | false ↦ put_here own es
            ])
      ] refl

  pub oldest_elsewhere : (m : NewTable) (oldest : Option ℕ) → is_of_district home key ≡ false → oldest ≡ smallest (numbers (rows_where (is_of_district home) m))
      → oldest ≡ smallest (numbers (rows_where (is_of_district home) (insert m key (record {}))))
  oldest_elsewhere m oldest other is = is ∙ ap smallest (sym (put_elsewhere other (entries m))) ∙ ap (λ es. smallest (of_home es)) (sym (entries-insert orders_total m key (record {})))

  pub oldest_here : (m : NewTable) (oldest : Option ℕ) → is_of_district home key ≡ true → oldest ≡ smallest (numbers (rows_where (is_of_district home) m))
      → Some (lesser_of key.o_id oldest) ≡ smallest (numbers (rows_where (is_of_district home) (insert m key (record {}))))
  oldest_here m oldest own is = ap (λ s. Some (lesser_of key.o_id s)) is ∙ sym (put_here own (entries m)) ∙ ap (λ es. smallest (of_home es)) (sym (entries-insert orders_total m key (record {})))
