-- The lines of an order that is delivered, among those of all orders.
use Rattle.std.proofs.Common.{◌≡◌, ℕ, Bool, true, false, cond, List, [], ◌∷◌, ◌++◌, map, Some, None, refl, sym, ap, subst, ◌∙◌}
use Rattle.std.specs.List.{AllByRecursion}
use Rattle.std.specs.List.Sorted.{IsStrictlySortedBy}
use Rattle.std.specs.Map.{keys_of, lookup, set_value}
use Rattle.std.specs.BTreeMap.{is_at}
use Rattle.std.specs.Option.{option_map}
use Rattle.std.specs.declared.cmp.Ordering.TheVariants.{Less}
use Rattle.std.specs.Ordering.{nat_cmp}
use Rattle.std.specs.Cmp.{eq_by_cmp_equiv}
use Rattle.std.specs.FinMap.{get-from_entries, same_map}
use Rattle.std.proofs.lemmas.Map.Made.{keys_of-map_values}
use Rattle.std.proofs.lemmas.Map.Keys.{sorted_head, sorted_tail}
use Rattle.rows.specs.declared.keys.OrderKey.{OrderKey}
use Rattle.rows.specs.declared.keys.OrderLineKey.{OrderLineKey}
use Rattle.rows.specs.declared.records.OrderLine.{OrderLine}
use Rattle.rows.specs.Keys.{order_cmp, line_cmp}
use Rattle.schema.specs.MapRows.{mapped, map_rows}
use Rattle.schema.specs.OrderRows.{line_table, line_key, is_order, delivered_at, with_moment}
use Rattle.schema.specs.PackedLines.{with_keys, all_lines}
use Rattle.schema.proofs.KeyOrders.{orders_total, orders_exact, lines_total, lines_exact}
use Rattle.schema.proofs.EachRows.{is_equal}
use Rattle.schema.proofs.TableWrites.{find-mapped, get-map_rows}
use Rattle.schema.proofs.Deliveries.{order_test}

-- the table that changed rows make
pub table_of_mapped : (f : OrderLineKey → OrderLine → OrderLine) (old new : List (OrderLineKey × OrderLine)) → new ≡ mapped f old → line_table new ≡ map_rows f (line_table old)
table_of_mapped f old new is = ap line_table is ∙ same_map lines_total lines_exact (line_table (mapped f old)) (map_rows f (line_table old)) (λ q.
    get-from_entries lines_total (mapped f old) q ∙ find-mapped line_cmp f lines_exact q old
    ∙ sym (get-map_rows line_cmp f lines_exact (line_table old) q ∙ ap (option_map (f q)) (get-from_entries lines_total old q)))

-- mapping two lists is mapping both together
mapped_both : {K X : Type 0} (f : K → X → X) (xs ys us vs : List (K × X)) → mapped f xs ≡ us → mapped f ys ≡ vs → mapped f (xs ++ ys) ≡ us ++ vs
mapped_both {K = K} {X = X} f xs ys us vs h k = split xs ∙ ap (λ l. l ++ mapped f ys) h ∙ ap (λ l. us ++ l) k
  where
    split : (zs : List (K × X)) → mapped f (zs ++ ys) ≡ mapped f zs ++ mapped f ys
    split [] = refl
    split (z ∷ zs) = ap (λ l. (z.0, f z.0 z.1) ∷ l) (split zs)

-- a line with its number, at that moment
abbrev pub dated : ℕ → ℕ × OrderLine → ℕ × OrderLine
dated moment line = (line.0, delivered_at moment line.1)

-- the numbers stay
pub dated_order : (moment : ℕ) (old new : List (ℕ × OrderLine)) → new ≡ map (dated moment) old → IsStrictlySortedBy nat_cmp (keys_of old) → IsStrictlySortedBy nat_cmp (keys_of new)
dated_order moment old new is = subst (IsStrictlySortedBy nat_cmp) (sym (ap keys_of is ∙ keys_of-map_values (delivered_at moment) old))

module _ (order : OrderKey) (moment : ℕ) where
  abbrev at : OrderKey → Bool
  at = is_at (order_cmp order)

  -- the test of the entries is that of the rows
  test_is : (k : OrderKey) (b : Bool) → at k ≡ b → is_order order k ≡ b
  test_is k b e = sym (order_test order k) ∙ (eq_by_cmp_equiv orders_total).symm k order ∙ e

  -- the lines of the order
  own_dated : (k : OrderKey) (lines : List (ℕ × OrderLine)) → is_order order k ≡ true → mapped (with_moment order moment) (with_keys k lines) ≡ with_keys k (map (dated moment) lines)
  own_dated k [] e = refl
  own_dated k (line ∷ lines) e = rw e (ap (λ l. (line_key k line.0, delivered_at moment line.1) ∷ l) (own_dated k lines e))

  -- and those of another
  others_stay : (k : OrderKey) (lines : List (ℕ × OrderLine)) → is_order order k ≡ false → mapped (with_moment order moment) (with_keys k lines) ≡ with_keys k lines
  others_stay k [] e = refl
  others_stay k (line ∷ lines) e = rw e (ap (λ l. (line_key k line.0, line.1) ∷ l) (others_stay k lines e))

  -- where the order has no lines, all stay as they are
  pub all_stay : (orders : List (OrderKey × List (ℕ × OrderLine))) → lookup at orders ≡ None → mapped (with_moment order moment) (all_lines orders) ≡ all_lines orders
  all_stay [] none = refl
  all_stay (o ∷ orders) none =
      elim (at o.0) as (λ b. at o.0 ≡ b → cond b (Some o.1) (lookup at orders) ≡ None → mapped (with_moment order moment) (all_lines (o ∷ orders)) ≡ all_lines (o ∷ orders)) [
        | true ↦ λ e n. cc
        | false ↦ λ e n. mapped_both _ _ _ _ _ (others_stay o.0 o.1 (test_is o.0 false e)) (all_stay orders n)
      ] refl none

  -- an order before all others isn't among them
  not_later : (orders : List (OrderKey × List (ℕ × OrderLine))) → AllByRecursion (λ k. order_cmp order k ≡ Less) (keys_of orders) → lookup at orders ≡ None
  not_later [] later = refl
  not_later (o ∷ orders) later = rw later.0 (not_later orders later.1)

  -- its lines get the moment
  pub order_dated : (lines : List (ℕ × OrderLine)) (orders : List (OrderKey × List (ℕ × OrderLine))) → IsStrictlySortedBy order_cmp (keys_of orders) → Some lines ≡ lookup at orders
      → all_lines (set_value at orders (map (dated moment) lines)) ≡ mapped (with_moment order moment) (all_lines orders)
  order_dated lines [] sorted is = refl
  order_dated lines (o ∷ orders) sorted is =
      elim (at o.0) as (λ b. at o.0 ≡ b → Some lines ≡ cond b (Some o.1) (lookup at orders)
      → all_lines (cond b ((o.0, map (dated moment) lines) ∷ orders) (o ∷ set_value at orders (map (dated moment) lines))) ≡ mapped (with_moment order moment) (all_lines (o ∷ orders))) [
        | true ↦ λ e found.
            let later = subst (λ k. AllByRecursion (λ q. order_cmp k q ≡ Less) (keys_of orders)) (sym (orders_exact order o.0 (is_equal _ e))) (sorted_head order_cmp o.0 (keys_of orders) sorted) in
            let same : lines ≡ o.1 = cc in
            ap (λ ls. with_keys o.0 (map (dated moment) ls) ++ all_lines orders) same
            ∙ sym (mapped_both _ _ _ _ _ (own_dated o.0 o.1 (test_is o.0 true e)) (all_stay orders (not_later orders later)))
        | false ↦ λ e found.
            sym (mapped_both _ _ _ _ _ (others_stay o.0 o.1 (test_is o.0 false e)) (sym (order_dated lines orders (sorted_tail order_cmp o.0 (keys_of orders) sorted) found)))
      ] refl is
