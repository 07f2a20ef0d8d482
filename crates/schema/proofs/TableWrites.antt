-- Rows that are put and removed, and rows that are all changed at once: what the table then has at a key.
use Rattle.std.proofs.Common.{◌≡◌, true, false, cond, List, [], ◌∷◌, Option, Some, None, IsTrue, is_some, refl, sym, ap, subst, ◌∙◌, T, ◌&&◌}
use Rattle.std.specs.declared.cmp.Ordering.{Ordering}
use Rattle.std.specs.declared.cmp.Ordering.TheVariants.{Less, Equal, Greater}
use Rattle.std.specs.Ordering.{eq_by_cmp, is_eq, is_lt}
use Rattle.std.specs.Option.{option_map}
use Rattle.std.specs.Cmp.{IsTotalOrder, eq_by_cmp_equiv}
use Rattle.std.specs.BTreeMap.{BTreeMap, is_at}
use Rattle.std.specs.Map.{lookup}
use Rattle.std.specs.BTreeMap as tree
use Rattle.std.specs.FinMap.{FinMap, get, contains_key, insert, entries, entries_sorted, get-from_sorted, get-entries, get-insert, get-remove, same_map, IsAntisymmetric}
use Rattle.std.specs.FinMap.Entries.{find, is_sorted, below_all}
use Rattle.schema.specs.MapRows.{table_of, mapped, map_rows, put_row}
use Rattle.schema.proofs.EachRows.{is_equal}
use Rattle.schema.proofs.RowReads.{read_entry}

module _ {K X : Type 0} {R : K → K → Ordering} (o : IsTotalOrder R) (a : IsAntisymmetric R) where
  -- the table of an ordered map has what the map has
  pub read_tree : (m : BTreeMap K X) (q : K) → get (table_of R m) q ≡ tree.get R m q
  read_tree m q = read_entry o m.entries q

  pub get-put_row : (m : FinMap R X) (k : K) (w : Option X) (q : K) → get (put_row m k w) q ≡ cond (eq_by_cmp R q k) w (get m q)
  get-put_row m k None q = get-remove o m k q
  get-put_row m k (Some v) q = get-insert o m k v q

  -- what a write of the ordered map does to its table
  pub written : (m n : BTreeMap K X) (k : K) (w : Option X) → tree.Updates R m n k w → table_of R n ≡ put_row (table_of R m) k w
  written m n k w h = same_map o a (table_of R n) (put_row (table_of R m) k w) (λ q.
      read_tree n q ∙ h.0 q ∙ ap (λ b. cond b w (tree.get R m q)) ((eq_by_cmp_equiv o).symm k q)
      ∙ sym (get-put_row (table_of R m) k w q ∙ ap (cond (eq_by_cmp R q k) w) (read_tree m q)))

  pub unchanged : (m n : BTreeMap K X) → n.entries ≡ m.entries → table_of R n ≡ table_of R m
  unchanged m n h = same_map o a (table_of R n) (table_of R m) (λ q. read_tree n q ∙ ap (lookup (is_at (R q))) h ∙ sym (read_tree m q))

  -- the replaced row is restored
  pub put_row_same : (m : FinMap R X) (k : K) (w : Option X) → get m k ≡ w → put_row m k w ≡ m
  put_row_same m k w h = same_map o a (put_row m k w) m (λ q.
      get-put_row m k w q
      ∙ elim (eq_by_cmp R q k) as (λ b. eq_by_cmp R q k ≡ b → cond b w (get m q) ≡ get m q) [
        | true ↦ λ e. sym h ∙ ap (get m) (sym (a q k (is_equal _ e)))
        | false ↦ λ e. refl
      ] refl)

  -- of two rows at one key the later stays
  pub put_row_twice : (m : FinMap R X) (k : K) (v w : Option X) → put_row (put_row m k v) k w ≡ put_row m k w
  put_row_twice m k v w = same_map o a (put_row (put_row m k v) k w) (put_row m k w) (λ q.
      get-put_row (put_row m k v) k w q ∙ ap (cond (eq_by_cmp R q k) w) (get-put_row m k v q)
      ∙ elim (eq_by_cmp R q k) as (λ b. cond b w (cond b v (get m q)) ≡ cond b w (get m q)) [ true ↦ refl | false ↦ refl ]
      ∙ sym (get-put_row m k w q))

  -- rows at two keys come in any order
  pub put_row_apart : (m : FinMap R X) (k j : K) (v w : Option X) → eq_by_cmp R k j ≡ false → put_row (put_row m k v) j w ≡ put_row (put_row m j w) k v
  put_row_apart m k j v w apart = same_map o a (put_row (put_row m k v) j w) (put_row (put_row m j w) k v) (λ q.
      get-put_row (put_row m k v) j w q ∙ ap (cond (eq_by_cmp R q j) w) (get-put_row m k v q)
      ∙ elim (eq_by_cmp R q k) as (λ b. eq_by_cmp R q k ≡ b → cond (eq_by_cmp R q j) w (cond b v (get m q)) ≡ cond b v (cond (eq_by_cmp R q j) w (get m q))) [
        | true ↦ λ e.
            let other : eq_by_cmp R q j ≡ false = ap (λ x. eq_by_cmp R x j) (a q k (is_equal _ e)) ∙ apart in
            rw other refl
        | false ↦ λ e. refl
      ] refl
      ∙ sym (get-put_row (put_row m j w) k v q ∙ ap (cond (eq_by_cmp R q k) v) (get-put_row m j w q)))

  -- a row that is there once it was put
  pub now_there : (m : FinMap R X) (k : K) (v : X) → IsTrue (contains_key (insert m k v) k)
  now_there m k v = ap is_some (get-insert o m k v k ∙ ap (λ b. cond b (Some v) (get m k)) ((eq_by_cmp_equiv o).refl k))

  -- and one that was there before another was put
  pub still_there : (m : FinMap R X) (k : K) (v : X) (q : K) → IsTrue (contains_key m q) → IsTrue (contains_key (insert m k v) q)
  still_there m k v q there =
      ap is_some (get-insert o m k v q)
      ∙ elim (eq_by_cmp R q k) as (λ b. is_some (cond b (Some v) (get m q)) ≡ true) [ true ↦ refl | false ↦ there ]

  -- a row that was put is taken back
  pub undone : (old mid new last : FinMap R X) (k : K) (v : X) (was : Option X) → mid ≡ insert old k v → new ≡ mid → was ≡ get old k → last ≡ put_row new k was → last ≡ old
  undone old mid new last k v was put same stood back =
      back ∙ ap (λ t. put_row t k was) (same ∙ put) ∙ put_row_twice old k (Some v) was ∙ put_row_same old k was (sym stood)

  pub there_after : (old mid new : FinMap R X) (k : K) (v : X) → mid ≡ insert old k v → new ≡ mid → IsTrue (contains_key new k)
  there_after old mid new k v put same = ap (λ t. contains_key t k) (same ∙ put) ∙ now_there old k v

  -- a row that is changed in its place
  pub changed : (f : X → X) (m n : BTreeMap K X) (k : K) (row : X) → tree.get R m k ≡ Some row → tree.Updates R m n k (Some (f row))
      → (q : K) → get (table_of R n) q ≡ option_map (λ x. cond (eq_by_cmp R q k) (f x) x) (get (table_of R m) q)
  changed f m n k row found h q =
      read_tree n q ∙ h.0 q ∙ ap (λ b. cond b (Some (f row)) (tree.get R m q)) ((eq_by_cmp_equiv o).symm k q)
      ∙ elim (eq_by_cmp R q k) as (λ b. eq_by_cmp R q k ≡ b → cond b (Some (f row)) (tree.get R m q) ≡ option_map (λ x. cond b (f x) x) (tree.get R m q)) [
        | true ↦ λ e. sym (ap (λ r. option_map f r) (ap (tree.get R m) (a q k (is_equal _ e)) ∙ found))
        | false ↦ λ e. same_option (tree.get R m q)
      ] refl
      ∙ ap (option_map (λ x. cond (eq_by_cmp R q k) (f x) x)) (sym (read_tree m q))
    where
      same_option : (r : Option X) → r ≡ option_map (λ x. x) r
      same_option None = refl
      same_option (Some x) = refl

  -- and one that isn't there
  pub not_there : (f : X → X) (m n : BTreeMap K X) (k : K) → tree.get R m k ≡ None → n ≡ m
      → (q : K) → get (table_of R n) q ≡ option_map (λ x. cond (eq_by_cmp R q k) (f x) x) (get (table_of R m) q)
  not_there f m n k none same q =
      ap (λ (t : BTreeMap K X). get (table_of R t) q) same ∙ read_tree m q
      ∙ elim (eq_by_cmp R q k) as (λ b. eq_by_cmp R q k ≡ b → tree.get R m q ≡ option_map (λ x. cond b (f x) x) (tree.get R m q)) [
        | true ↦ λ e. let gone : tree.get R m q ≡ None = ap (tree.get R m) (a q k (is_equal _ e)) ∙ none in gone ∙ sym (ap (option_map f) gone)
        | false ↦ λ e. same_option (tree.get R m q)
      ] refl
      ∙ ap (option_map (λ x. cond (eq_by_cmp R q k) (f x) x)) (sym (read_tree m q))
    where
      same_option : (r : Option X) → r ≡ option_map (λ x. x) r
      same_option None = refl
      same_option (Some x) = refl

-- ---- all rows changed at once

module _ {K X Y : Type 0} (R : K → K → Ordering) (f : K → X → Y) where
  below-mapped : (x : K) (es : List (K × X)) → below_all R x (mapped f es) ≡ below_all R x es
  below-mapped x [] = refl
  below-mapped x (e ∷ es) = ap (λ b. is_lt (R x e.0) && b) (below-mapped x es)

  sorted-mapped : (es : List (K × X)) → is_sorted R (mapped f es) ≡ is_sorted R es
  sorted-mapped [] = refl
  sorted-mapped (e ∷ es) = ap (λ b. b && is_sorted R (mapped f es)) (below-mapped e.0 es) ∙ ap (λ b. below_all R e.0 es && b) (sorted-mapped es)

  -- what a search finds is changed too
  pub find-mapped : IsAntisymmetric R → (q : K) (es : List (K × X)) → find R q (mapped f es) ≡ option_map (f q) (find R q es)
  find-mapped a q [] = refl
  find-mapped a q (e ∷ es) =
      elim (R q e.0) as (λ r. R q e.0 ≡ r → cond (is_eq r) (Some (f e.0 e.1)) (find R q (mapped f es)) ≡ option_map (f q) (cond (is_eq r) (Some e.1) (find R q es))) [
        | Less ↦ λ h. find-mapped a q es
        | Equal ↦ λ h. ap (λ k. Some (f k e.1)) (sym (a q e.0 h))
        | Greater ↦ λ h. find-mapped a q es
      ] refl

  -- each row is changed, and none is inserted or deleted
  pub get-map_rows : IsAntisymmetric R → (m : FinMap R X) (q : K) → get (map_rows f m) q ≡ option_map (f q) (get m q)
  unfolding map_rows
  get-map_rows a m q =
      get-from_sorted R (mapped f (entries m)) q (subst T (sym (sorted-mapped (entries m))) (entries_sorted m))
      ∙ find-mapped a q (entries m) ∙ ap (option_map (f q)) (sym (get-entries m q))
