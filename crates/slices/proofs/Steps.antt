-- What each step changes in its group, and how steps are taken back.
use Rattle.std.proofs.Common.{◌≡◌, ℕ, List, [], ◌∷◌, ◌++◌, Option, Some, None, IsTrue, is_some, take, cond, refl, sym, ap, subst, ◌∙◌, arith, length-append}
use Rattle.std.specs.Prelude.{All}
use Rattle.std.specs.declared.cmp.Ordering.{Ordering}
use Rattle.std.specs.declared.cmp.Ordering.TheVariants.{Less, Equal, Greater}
use Rattle.std.specs.Ordering.{eq_by_cmp, is_eq}
use Rattle.std.specs.Cmp.{IsTotalOrder, nat_cmp_total}
use Rattle.std.specs.FinMap as map
use Rattle.std.specs.FinMap.{FinMap, get-insert, same_map, IsAntisymmetric, nat_cmp-IsAntisymmetric}
use Rattle.std.proofs.Math.Seq.{take-append_seam}
use Rattle.std.proofs.lemmas.List.Elements.{All-head, All-tail}
use Rattle.rows.specs.declared.keys.DistrictKey.{DistrictKey}
use Rattle.rows.specs.declared.keys.StockKey.{StockKey}
use Rattle.rows.specs.declared.keys.CustomerKey.{CustomerKey}
use Rattle.rows.specs.declared.records.Warehouse as warehouse
use Rattle.rows.specs.declared.records.District as district
use Rattle.rows.specs.declared.records.Stock as stock
use Rattle.rows.specs.declared.records.Customer as customer
use Rattle.rows.specs.declared.records.History as payment
use Rattle.schema.specs.declared.scale.Scale.{Scale}
use Rattle.schema.specs.Database.{Database, list_at, without_last}
use Rattle.schema.proofs.KeyOrders.{districts_total, districts_exact, stocks_total, stocks_exact, customers_total, customers_exact}
use Rattle.indexes.specs.NameOrder.{last_of, first_of}
use Rattle.partitions.specs.Parts.{Part}
use Rattle.partitions.specs.RowChanges.{AddsPayment, PutsCustomer, PutsDistrict, PutsStock, PutsWarehouse, RemovesPayment}
use Rattle.requests.specs.declared.group.Group.{Group}
use Rattle.groups.specs.Groups.{group_of_warehouse, group_of_district, group_of_customer, group_of_history, group_of_stock}
use Rattle.groups.specs.Content.{Content, content, rows_of}
use Rattle.groups.specs.Content.Content.{OfWarehouse, OfDistrict, OfCustomers, OfHistory, OfStock}
use Rattle.groups.specs.Laws.{ChangesOneGroup, with_warehouse, with_district, with_customer, with_stock}
use Rattle.groups.proofs.Parts.{get-insert_here}
use Rattle.groups.proofs.RowsInGroups.{each_row_stands_in_one_group}
use Rattle.groups.proofs.RowsPut.{each_put_changes_one_group}
use Rattle.slices.specs.declared.undo_record.UndoRecord.{UndoRecord}
use Rattle.slices.specs.declared.undo_record.UndoRecord.TheVariants as k
use Rattle.slices.specs.Undo.{group_of_kept, put_back_in, all_put_back_in, AreKept, AreNamesAt, CanPutBack, ChangesGroup, IsStep, with_payment_more, with_payment_fewer}

pub All-last : {X : Type 0} (P : X → Type 0) (xs : List X) (x : X) → All P (xs ++ x ∷ []) → P x
All-last P [] x all = All-head P x [] all
All-last P (first ∷ xs) x all = All-last P xs x (All-tail P first (xs ++ x ∷ []) all)

-- ---- one group changes

pub changes_to : (group : Group) (change : Content → Content) (p q : Part) (t : Database) → q ≡ record p { tables = t } → ChangesOneGroup group change p.tables t → t.scale ≡ p.tables.scale → t.items ≡ p.tables.items
    → ChangesGroup group change p q
changes_to group change p q t is contents scale items = subst (ChangesGroup group change p) (sym is) (record { contents = contents; home = refl; scale = scale; items = items })

pub no_change : (group : Group) (p : Part) → ChangesGroup group (λ c. c) p p
no_change group p = record { contents = record { here = refl; elsewhere = λ _ _. refl }; home = refl; scale = refl; items = refl }

module _ (p q : Part) where
  pub warehouse_changes : (w_id : ℕ) (row : warehouse.Warehouse) → PutsWarehouse w_id row p q
      → ChangesGroup (group_of_warehouse w_id) (with_warehouse row) p q
  warehouse_changes w_id row is = changes_to (group_of_warehouse w_id) (with_warehouse row) p q _ is ((each_put_changes_one_group p.tables).warehouses w_id row) refl refl

  pub district_changes : (key : DistrictKey) (row : district.District) → PutsDistrict key row p q
      → ChangesGroup (group_of_district key) (with_district row) p q
  district_changes key row is = changes_to (group_of_district key) (with_district row) p q _ is ((each_put_changes_one_group p.tables).districts key row) refl refl

  pub stock_changes : (key : StockKey) (row : stock.Stock) → PutsStock key row p q
      → ChangesGroup (group_of_stock key) (with_stock key row) p q
  stock_changes key row is = changes_to (group_of_stock key) (with_stock key row) p q _ is ((each_put_changes_one_group p.tables).stocks key row) refl refl

  pub customer_changes : (key : CustomerKey) (row : customer.Customer) → PutsCustomer key row p q
      → ChangesGroup (group_of_customer key) (with_customer key row) p q
  customer_changes key row is = changes_to (group_of_customer key) (with_customer key row) p q _ is ((each_put_changes_one_group p.tables).customers key row) refl refl

  pub payment_changes : (key : DistrictKey) (row : payment.History) → AddsPayment key row p q
      → ChangesGroup (group_of_history key) (with_payment_more row) p q
  payment_changes key row is =
      let put = (each_put_changes_one_group p.tables).histories key (list_at p.tables.histories key ++ row ∷ []) in
      changes_to (group_of_history key) (with_payment_more row) p q _ is (record { here = put.here; elsewhere = put.elsewhere }) refl refl

  pub no_payment_changes : (key : DistrictKey) → RemovesPayment key p q
      → ChangesGroup (group_of_history key) with_payment_fewer p q
  no_payment_changes key is =
      let put = (each_put_changes_one_group p.tables).histories key (without_last (list_at p.tables.histories key)) in
      changes_to (group_of_history key) with_payment_fewer p q _ is (record { here = put.here; elsewhere = put.elsewhere }) refl refl

-- ---- steps of a group are taken back

pub all_put_back_in-more : (undo : List UndoRecord) (kept : UndoRecord) (c : Content) → all_put_back_in (undo ++ kept ∷ []) c ≡ all_put_back_in undo (put_back_in kept c)
all_put_back_in-more [] kept c = refl
all_put_back_in-more (first ∷ undo) kept c = ap (put_back_in first) (all_put_back_in-more undo kept c)

pub AreKept-more : (scale : Scale) (group : Group) (undo : List UndoRecord) (kept : UndoRecord) (c : Content) → group_of_kept kept ≡ group → CanPutBack scale kept c → AreKept scale group undo (put_back_in kept c) → AreKept scale group (undo ++ kept ∷ []) c
AreKept-more scale group [] kept c own can are = (own, can, tt)
AreKept-more scale group (first ∷ undo) kept c own can are =
    (are.0, subst (CanPutBack scale first) (sym (all_put_back_in-more undo kept c)) are.1, AreKept-more scale group undo kept c own can are.2)

pub AreKept-last : (scale : Scale) (group : Group) (undo : List UndoRecord) (kept : UndoRecord) (c : Content) → AreKept scale group (undo ++ kept ∷ []) c → (group_of_kept kept ≡ group) × CanPutBack scale kept c × AreKept scale group undo (put_back_in kept c)
AreKept-last scale group [] kept c are = are
AreKept-last scale group (first ∷ undo) kept c are =
    let rest = AreKept-last scale group undo kept c are.2 in
    (rest.0, rest.1, (are.0, subst (CanPutBack scale first) (all_put_back_in-more undo kept c) are.1, rest.2))

-- what is left of all the steps of a group that were kept with the first rows, and what that makes of the group
pub record AreLeft (group : Group) (all : List UndoRecord) (first : Part) (undo : List UndoRecord) (p : Part) : Type 0 where
  pub kept : AreKept p.tables.scale group undo (content p.tables group)
  pub makes : all_put_back_in undo (content p.tables group) ≡ all_put_back_in all (content first.tables group)
  pub changes : ChangesGroup group (λ _. content p.tables group) first p

pub all_left : (group : Group) (all : List UndoRecord) (p : Part) → AreKept p.tables.scale group all (content p.tables group) → AreLeft group all p all p
all_left group all p are = record { kept = are; makes = refl; changes = record { contents = record { here = refl; elsewhere = λ _ _. refl }; home = refl; scale = refl; items = refl } }

-- the last step can be taken back
pub last_can : (group : Group) (all : List UndoRecord) (first : Part) (undo rest : List UndoRecord) (kept : UndoRecord) (p : Part) → AreLeft group all first undo p → undo ≡ rest ++ kept ∷ [] → CanPutBack p.tables.scale kept (content p.tables (group_of_kept kept))
last_can group all first undo rest kept p left is =
    let last = AreKept-last p.tables.scale group rest kept (content p.tables group) (subst (λ u. AreKept p.tables.scale group u (content p.tables group)) is left.kept) in
    subst (λ (g : Group). CanPutBack p.tables.scale kept (content p.tables g)) (sym last.0) last.1

pub one_fewer : (group : Group) (all : List UndoRecord) (first : Part) (undo rest : List UndoRecord) (kept : UndoRecord) (p q : Part) → AreLeft group all first undo p → undo ≡ rest ++ kept ∷ [] → ChangesGroup (group_of_kept kept) (put_back_in kept) p q
    → AreLeft group all first rest q
one_fewer group all first undo rest kept p q left is change =
    let had : Content = content p.tables group in
    let last = AreKept-last p.tables.scale group rest kept had (subst (λ u. AreKept p.tables.scale group u had) is left.kept) in
    let own : ChangesGroup group (put_back_in kept) p q = subst (λ (g : Group). ChangesGroup g (put_back_in kept) p q) last.0 change in
    let has : put_back_in kept had ≡ content q.tables group = sym own.contents.here in
    record {
      kept = subst (λ (s : Scale). AreKept s group rest (content q.tables group)) (sym own.scale) (subst (AreKept p.tables.scale group rest) has last.2);
      makes = ap (all_put_back_in rest) (sym has) ∙ sym (all_put_back_in-more rest kept had) ∙ sym (ap (λ u. all_put_back_in u had) is) ∙ left.makes;
      changes = record {
        contents = record { here = refl; elsewhere = λ other apart. own.contents.elsewhere other apart ∙ left.changes.contents.elsewhere other apart };
        home = own.home ∙ left.changes.home;
        scale = own.scale ∙ left.changes.scale;
        items = own.items ∙ left.changes.items;
      };
    }

pub none_left_over : (group : Group) (all : List UndoRecord) (first : Part) (undo : List UndoRecord) (p : Part) → AreLeft group all first undo p → undo ≡ [] → ChangesGroup group (all_put_back_in all) first p
none_left_over group all first undo p left none = record {
  contents = record { here = sym (ap (λ u. all_put_back_in u (content p.tables group)) none) ∙ left.makes; elsewhere = left.changes.contents.elsewhere };
  home = left.changes.home;
  scale = left.changes.scale;
  items = left.changes.items;
}

-- ---- each step, with what takes it back

-- a row is back at its key
restored : {K X : Type 0} {R : K → K → Ordering} → IsTotalOrder R → IsAntisymmetric R → (m : FinMap R X) (key : K) (old row : X) → map.get m key ≡ Some old → map.insert (map.insert m key row) key old ≡ m
restored {R = R} o a m key old row is = same_map o a (map.insert (map.insert m key row) key old) m each
  where
    each : (q : _) → map.get (map.insert (map.insert m key row) key old) q ≡ map.get m q
    each q =
        get-insert o (map.insert m key row) key old q
        ∙ ap (λ x. cond (eq_by_cmp R q key) (Some old) x) (get-insert o m key row q)
        ∙ elim (R q key) as (λ r. R q key ≡ r → cond (is_eq r) (Some old) (cond (is_eq r) (Some row) (map.get m q)) ≡ map.get m q) [
          | Less ↦ λ e. refl
          | Equal ↦ λ e. sym is ∙ ap (map.get m) (sym (a q key e))
          | Greater ↦ λ e. refl
        ] refl

without_last-more : (rows : List payment.History) (row : payment.History) → without_last (rows ++ row ∷ []) ≡ rows
without_last-more rows row =
    ap (λ n. take n (rows ++ row ∷ [])) (let long = length-append rows (row ∷ []) in omega (arith, long)) ∙ take-append_seam rows (row ∷ [])

module _ (p q : Part) where
  pub warehouse_step : (w_id : ℕ) (old row : warehouse.Warehouse) → map.get p.tables.warehouses w_id ≡ Some old → PutsWarehouse w_id row p q
      → IsStep (group_of_warehouse w_id) (with_warehouse row) (k.Warehouse w_id old) p q
  warehouse_step w_id old row was is =
      let changes = warehouse_changes p q w_id row is in
      let has : map.get q.tables.warehouses w_id ≡ Some row = ap (λ (r : Part). map.get r.tables.warehouses w_id) is ∙ get-insert_here nat_cmp_total nat_cmp-IsAntisymmetric p.tables.warehouses w_id row in
      record {
        changes = changes;
        own = refl;
        can = ap is_some (((each_row_stands_in_one_group q.tables).warehouses w_id).0 ∙ has);
        back = ap OfWarehouse (sym was);
      }

  pub district_step : (key : DistrictKey) (old row : district.District) → map.get p.tables.districts key ≡ Some old → PutsDistrict key row p q
      → IsStep (group_of_district key) (with_district row) (k.District key old) p q
  district_step key old row was is =
      let changes = district_changes p q key row is in
      let has : map.get q.tables.districts key ≡ Some row = ap (λ (r : Part). map.get r.tables.districts key) is ∙ get-insert_here districts_total districts_exact p.tables.districts key row in
      record {
        changes = changes;
        own = refl;
        can = ap is_some (((each_row_stands_in_one_group q.tables).districts key).0 ∙ has);
        back = ap OfDistrict (sym was);
      }

  pub stock_step : (key : StockKey) (old row : stock.Stock) → map.get p.tables.stocks key ≡ Some old → PutsStock key row p q
      → IsStep (group_of_stock key) (with_stock key row) (k.Stock key old) p q
  stock_step key old row was is =
      let changes = stock_changes p q key row is in
      let has : map.get q.tables.stocks key ≡ Some row = ap (λ (r : Part). map.get r.tables.stocks key) is ∙ get-insert_here stocks_total stocks_exact p.tables.stocks key row in
      let group = group_of_stock key in
      record {
        changes = changes;
        own = refl;
        can = ap is_some (((each_row_stands_in_one_group q.tables).stocks key).0 ∙ has);
        back = ap (with_stock key old) changes.contents.here
            ∙ ap OfStock (restored stocks_total stocks_exact (rows_of group_of_stock group p.tables.stocks) key old row (((each_row_stands_in_one_group p.tables).stocks key).0 ∙ was));
      }

  pub customer_step : (key : CustomerKey) (old row : customer.Customer) → map.get p.tables.customers key ≡ Some old → AreNamesAt p.tables key row
      → PutsCustomer key row p q → IsStep (group_of_customer key) (with_customer key row) (k.Customer key old) p q
  customer_step key old row was names is =
      let changes = customer_changes p q key row is in
      let has : map.get q.tables.customers key ≡ Some row = ap (λ (r : Part). map.get r.tables.customers key) is ∙ get-insert_here customers_total customers_exact p.tables.customers key row in
      let here = ((each_row_stands_in_one_group q.tables).customers key).0 ∙ has in
      let group = group_of_customer key in
      record {
        changes = changes;
        own = refl;
        can = (ap is_some here, (ap last_of here ∙ sym names.0 ∙ ap last_of was, ap first_of here ∙ sym names.1 ∙ ap first_of was));
        back = ap (with_customer key old) changes.contents.here
            ∙ ap OfCustomers (restored customers_total customers_exact (rows_of group_of_customer group p.tables.customers) key old row (((each_row_stands_in_one_group p.tables).customers key).0 ∙ was));
      }

  pub payment_step : (key : DistrictKey) (row : payment.History) → IsTrue (map.contains_key p.tables.histories key) → AddsPayment key row p q
      → IsStep (group_of_history key) (with_payment_more row) (k.NoPayment key) p q
  payment_step key row there is =
      let changes = payment_changes p q key row is in
      let has : map.get q.tables.histories key ≡ Some (list_at p.tables.histories key ++ row ∷ []) =
      ap (λ (r : Part). map.get r.tables.histories key) is ∙ get-insert_here districts_total districts_exact p.tables.histories key (list_at p.tables.histories key ++ row ∷ []) in
      record {
        changes = changes;
        own = refl;
        can = ap is_some (((each_row_stands_in_one_group q.tables).histories key).0 ∙ has);
        back = ap with_payment_fewer changes.contents.here ∙ fewer (map.get p.tables.histories key) there;
      }
    where
      fewer : (rows : Option (List payment.History)) → IsTrue (is_some rows) → with_payment_fewer (with_payment_more row (OfHistory rows)) ≡ OfHistory rows
      fewer (Some rows) h = ap (λ r. OfHistory (Some r)) (without_last-more rows row)
      fewer None h = cc
