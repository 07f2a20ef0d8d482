-- Lines that are stored under their orders: which line is at a key, and that all are in order.
use Rattle.std.proofs.Common.{◌≡◌, ◌≢◌, ℕ, ◌+◌, ◌-◌, ◌<◌, ◌≤◌, ◌^◌, Bool, true, false, cond, not, ◌&&◌, ◌||◌, List, [], ◌∷◌, ◌++◌, length, Option, Some, None, IsTrue, IsSome, is_some, nat_eq, nat_le, nat_lt, length-append, suc, refl, sym, ap, subst, ◌∙◌, arith, drop}
use Rattle.std.specs.List.{filter, list_all, AllByRecursion}
use Rattle.std.specs.List.Sorted.{IsStrictlySortedBy}
use Rattle.std.specs.Map.{keys_of, lookup, set_value}
use Rattle.std.specs.BTreeMap.{BTreeMap, is_at, insert_entry}
use Rattle.std.specs.BTreeMap as tree
use Rattle.std.specs.BTreeMap.Range.{range_contains, entries_between}
use Rattle.std.specs.declared.ops.Bound.{Bound}
use Rattle.std.specs.declared.ops.Bound.TheVariants.{Included}
use Rattle.std.specs.Option.{option_and_then, option_map, option_or, unwrap_or}
use Rattle.std.specs.declared.cmp.Ordering.{Ordering}
use Rattle.std.specs.declared.cmp.Ordering.TheVariants.{Less, Equal, Greater}
use Rattle.std.specs.Ordering.{nat_cmp, ordering_then, eq_by_cmp, is_eq, is_le, is_gt, is_lt, ordering_reverse, match_ordering}
use Rattle.std.specs.FinMap as table
use Rattle.std.specs.FinMap.{get, contains_key, insert, remove, len, len-insert, len-remove, get-insert, from_entries, get-from_entries, same_map, nat_cmp-IsAntisymmetric}
use Rattle.std.specs.FinMap.Entries.{find}
use Rattle.std.proofs.lemmas.Bool.{false≢true}
use Rattle.std.proofs.lemmas.Bool.Decides.{nat_tests}
use Rattle.std.proofs.lemmas.List.Filters.{length-filter_both}
use Rattle.std.proofs.lemmas.List.Folds.{list_all-append}
use Rattle.std.proofs.lemmas.Map.Keys.{sorted_head, sorted_tail}
use Rattle.std.specs.Cmp.{nat_cmp_total, eq_by_cmp_equiv}
use Rattle.rows.specs.declared.keys.OrderKey.{OrderKey}
use Rattle.rows.specs.declared.keys.OrderLineKey.{OrderLineKey}
use Rattle.rows.specs.declared.records.OrderLine.{OrderLine}
use Rattle.rows.specs.Keys.{order_cmp, line_cmp, order_of_line}
use Rattle.schema.specs.OrderRows.{line_key, line_table}
use Rattle.schema.specs.PackedLines.{numbered, with_keys, all_lines, AreNumbered, AreKept}
use Rattle.schema.specs.MapRows.{put_row}
use Rattle.schema.proofs.KeyOrders.{orders_total, orders_exact, lines_total, lines_exact}
use Rattle.schema.specs.Database.{rows_where}
use Rattle.schema.specs.EachRow.{EachRow}
use Rattle.schema.proofs.EachRows.{EachRow-entries}
use Rattle.schema.proofs.OrderedParts.{entries-ordered, filter_agrees}
use Rattle.schema.proofs.OrderSpans.{first_of_warehouse, from_warehouse, before_warehouse}
use Rattle.std.proofs.lemmas.List.Elements.{filter_agree}
use Rattle.schema.proofs.RowReads.{read_entry}
use Rattle.schema.proofs.TableWrites.{get-put_row}

-- ---- keys of lines, against their orders and numbers

then_equal : (a b : Ordering) → is_eq (ordering_then a b) ≡ (is_eq a && is_eq b)
then_equal Less b = refl
then_equal Equal b = refl
then_equal Greater b = refl

and_assoc : (a b c : Bool) → (a && (b && c)) ≡ ((a && b) && c)
and_assoc true b c = refl
and_assoc false b c = refl

then_assoc : (a b c : Ordering) → ordering_then a (ordering_then b c) ≡ ordering_then (ordering_then a b) c
then_assoc Less b c = refl
then_assoc Equal b c = refl
then_assoc Greater b c = refl

-- lines compare as their orders do, and then by their numbers
pub by_order : (a b : OrderLineKey) → line_cmp a b ≡ ordering_then (order_cmp (order_of_line a) (order_of_line b)) (nat_cmp a.number b.number)
by_order a b =
    let d = nat_cmp a.d_id b.d_id in
    let o = nat_cmp a.o_id b.o_id in
    let n = nat_cmp a.number b.number in
    ap (ordering_then (nat_cmp a.w_id b.w_id)) (then_assoc d o n) ∙ then_assoc (nat_cmp a.w_id b.w_id) (ordering_then d o) n

same_line : (q : OrderLineKey) (order : OrderKey) (n : ℕ) → eq_by_cmp line_cmp q (line_key order n) ≡ (eq_by_cmp order_cmp (order_of_line q) order && eq_by_cmp nat_cmp q.number n)
same_line q order n = ap is_eq (by_order q (line_key order n)) ∙ then_equal (order_cmp (order_of_line q) order) (nat_cmp q.number n)

-- ---- the line at a key

find-append : {K X : Type 0} (R : K → K → Ordering) (q : K) (xs ys : List (K × X)) → find R q (xs ++ ys) ≡ option_or (find R q xs) (find R q ys)
find-append R q [] ys = refl
find-append R q (x ∷ xs) ys =
    elim (eq_by_cmp R q x.0) as (λ b. cond b (Some x.1) (find R q (xs ++ ys)) ≡ option_or (cond b (Some x.1) (find R q xs)) (find R q ys)) [
      | true ↦ refl
      | false ↦ find-append R q xs ys
    ]

-- of the order, the line of the number
find_own : (q : OrderLineKey) (order : OrderKey) (lines : List (ℕ × OrderLine)) → eq_by_cmp order_cmp (order_of_line q) order ≡ true
    → find line_cmp q (with_keys order lines) ≡ find nat_cmp q.number lines
find_own q order [] own = refl
find_own q order (line ∷ lines) own =
    ap (λ b. cond b (Some line.1) (find line_cmp q (with_keys order lines))) (same_line q order line.0 ∙ ap (λ b. b && eq_by_cmp nat_cmp q.number line.0) own)
    ∙ ap (cond (eq_by_cmp nat_cmp q.number line.0) (Some line.1)) (find_own q order lines own)

-- none of another order
find_other : (q : OrderLineKey) (order : OrderKey) (lines : List (ℕ × OrderLine)) → eq_by_cmp order_cmp (order_of_line q) order ≡ false
    → find line_cmp q (with_keys order lines) ≡ None
find_other q order [] other = refl
find_other q order (line ∷ lines) other =
    ap (λ b. cond b (Some line.1) (find line_cmp q (with_keys order lines))) (same_line q order line.0 ∙ ap (λ b. b && eq_by_cmp nat_cmp q.number line.0) other)
    ∙ find_other q order lines other

is_equal : (r : Ordering) → is_eq r ≡ true → r ≡ Equal
is_equal Less h = cc
is_equal Equal h = refl
is_equal Greater h = cc

or_none : {X : Type 0} (r : Option X) → option_or r None ≡ r
or_none None = refl
or_none (Some x) = refl

find_later : (q : OrderLineKey) (orders : List (OrderKey × List (ℕ × OrderLine))) → AllByRecursion (λ k. order_cmp (order_of_line q) k ≡ Less) (keys_of orders)
    → find line_cmp q (all_lines orders) ≡ None
find_later q [] h = refl
find_later q (order ∷ orders) h =
    find-append line_cmp q (with_keys order.0 order.1) (all_lines orders)
    ∙ ap (λ r. option_or r (find line_cmp q (all_lines orders))) (find_other q order.0 order.1 (ap is_eq h.0))
    ∙ find_later q orders h.1

find_line : (q : OrderLineKey) (orders : List (OrderKey × List (ℕ × OrderLine))) → IsStrictlySortedBy order_cmp (keys_of orders)
    → find line_cmp q (all_lines orders) ≡ option_and_then (find nat_cmp q.number) (find order_cmp (order_of_line q) orders)
find_line q [] sorted = refl
find_line q (order ∷ orders) sorted =
    find-append line_cmp q (with_keys order.0 order.1) (all_lines orders)
    ∙ elim (eq_by_cmp order_cmp (order_of_line q) order.0) as (λ b. eq_by_cmp order_cmp (order_of_line q) order.0 ≡ b
    → option_or (find line_cmp q (with_keys order.0 order.1)) (find line_cmp q (all_lines orders))
    ≡ option_and_then (find nat_cmp q.number) (cond b (Some order.1) (find order_cmp (order_of_line q) orders))) [
      | true ↦ λ own.
          let same : order_of_line q ≡ order.0 = orders_exact _ _ (is_equal _ own) in
          let later : AllByRecursion (λ k. order_cmp (order_of_line q) k ≡ Less) (keys_of orders) =
          subst (λ o. AllByRecursion (λ k. order_cmp o k ≡ Less) (keys_of orders)) (sym same) (sorted_head order_cmp order.0 (keys_of orders) sorted) in
          ap (λ r. option_or r (find line_cmp q (all_lines orders))) (find_own q order.0 order.1 own)
          ∙ ap (option_or (find nat_cmp q.number order.1)) (find_later q orders later) ∙ or_none (find nat_cmp q.number order.1)
      | false ↦ λ other.
          ap (λ r. option_or r (find line_cmp q (all_lines orders))) (find_other q order.0 order.1 other)
          ∙ find_line q orders (sorted_tail order_cmp order.0 (keys_of orders) sorted)
    ] refl

-- the table of all lines has what the order's own table has at the number
pub read_line : (orders : List (OrderKey × List (ℕ × OrderLine))) → IsStrictlySortedBy order_cmp (keys_of orders) → (q : OrderLineKey)
    → get (line_table (all_lines orders)) q ≡ option_and_then (λ lines. get (numbered lines) q.number) (get (from_entries {R = order_cmp} orders) (order_of_line q))
read_line orders sorted q =
    get-from_entries lines_total (all_lines orders) q ∙ find_line q orders sorted
    ∙ same_read (find order_cmp (order_of_line q) orders)
    ∙ ap (option_and_then (λ lines. get (numbered lines) q.number)) (sym (get-from_entries orders_total orders (order_of_line q)))
  where
    same_read : (r : Option (List (ℕ × OrderLine))) → option_and_then (find nat_cmp q.number) r ≡ option_and_then (λ lines. get (numbered lines) q.number) r
    same_read None = refl
    same_read (Some lines) = sym (get-from_entries nat_cmp_total lines q.number)

-- ---- all lines are in key order

sorted_both : {K : Type 0} (R : K → K → Ordering) (xs ys : List K) → IsStrictlySortedBy R xs → IsStrictlySortedBy R ys
    → AllByRecursion (λ x. AllByRecursion (λ y. R x y ≡ Less) ys) xs → IsStrictlySortedBy R (xs ++ ys)
unfolding IsStrictlySortedBy
sorted_both R [] ys s t below = t
sorted_both {K = K} R (x ∷ xs) ys s t below = (all_both xs ys s.0 below.0, sorted_both R xs ys s.1 t below.1)
  where
    all_both : (ks bs : List K) → AllByRecursion (λ y. R x y ≡ Less) ks → AllByRecursion (λ y. R x y ≡ Less) bs → AllByRecursion (λ y. R x y ≡ Less) (ks ++ bs)
    all_both [] bs h k = k
    all_both (a ∷ ks) bs h k = (h.0, all_both ks bs h.1 k)

keys-append : {K X : Type 0} (xs ys : List (K × X)) → keys_of (xs ++ ys) ≡ keys_of xs ++ keys_of ys
keys-append [] ys = refl
keys-append (x ∷ xs) ys = ap (λ l. x.0 ∷ l) (keys-append xs ys)

-- two keys of lines of one order
own_less : (order : OrderKey) (m n : ℕ) → nat_cmp m n ≡ Less → line_cmp (line_key order m) (line_key order n) ≡ Less
own_less order m n less =
    by_order (line_key order m) (line_key order n) ∙ ap (λ r. ordering_then r (nat_cmp m n)) (same_order order) ∙ less
  where
    same_order : (k : OrderKey) → order_cmp k k ≡ Equal
    same_order k =
        let w : nat_cmp k.w_id k.w_id ≡ Equal = grind (arith, nat_tests) in
        let d : nat_cmp k.d_id k.d_id ≡ Equal = grind (arith, nat_tests) in
        let o : nat_cmp k.o_id k.o_id ≡ Equal = grind (arith, nat_tests) in
        rw (w, d, o) refl

own_sorted : (order : OrderKey) (lines : List (ℕ × OrderLine)) → IsStrictlySortedBy nat_cmp (keys_of lines) → IsStrictlySortedBy line_cmp (keys_of (with_keys order lines))
unfolding IsStrictlySortedBy
own_sorted order [] s = tt
own_sorted order (line ∷ lines) s = (below lines s.0, own_sorted order lines s.1)
  where
    below : (ls : List (ℕ × OrderLine)) → AllByRecursion (λ n. nat_cmp line.0 n ≡ Less) (keys_of ls) → AllByRecursion (λ k. line_cmp (line_key order line.0) k ≡ Less) (keys_of (with_keys order ls))
    below [] h = tt
    below (l ∷ ls) h = (own_less order line.0 l.0 h.0, below ls h.1)

-- lines of an order before those of later orders
later_lines : (order : OrderKey) (n : ℕ) (orders : List (OrderKey × List (ℕ × OrderLine))) → AllByRecursion (λ k. order_cmp order k ≡ Less) (keys_of orders)
    → AllByRecursion (λ k. line_cmp (line_key order n) k ≡ Less) (keys_of (all_lines orders))
later_lines order n [] h = tt
later_lines order n (o ∷ orders) h =
    subst (AllByRecursion (λ k. line_cmp (line_key order n) k ≡ Less)) (sym (keys-append (with_keys o.0 o.1) (all_lines orders)))
    (both (keys_of (with_keys o.0 o.1)) (own o.1) (later_lines order n orders h.1))
  where
    both : (ks : List OrderLineKey) → AllByRecursion (λ k. line_cmp (line_key order n) k ≡ Less) ks → AllByRecursion (λ k. line_cmp (line_key order n) k ≡ Less) (keys_of (all_lines orders))
        → AllByRecursion (λ k. line_cmp (line_key order n) k ≡ Less) (ks ++ keys_of (all_lines orders))
    both [] a b = b
    both (k ∷ ks) a b = (a.0, both ks a.1 b)

    own : (ls : List (ℕ × OrderLine)) → AllByRecursion (λ k. line_cmp (line_key order n) k ≡ Less) (keys_of (with_keys o.0 ls))
    own [] = tt
    own (l ∷ ls) = (by_order (line_key order n) (line_key o.0 l.0) ∙ ap (λ r. ordering_then r (nat_cmp n l.0)) h.0, own ls)

pub lines_sorted : (orders : List (OrderKey × List (ℕ × OrderLine))) → IsStrictlySortedBy order_cmp (keys_of orders) → AreNumbered orders
    → IsStrictlySortedBy line_cmp (keys_of (all_lines orders))
unfolding IsStrictlySortedBy
lines_sorted [] sorted each = tt
lines_sorted (order ∷ orders) sorted each =
    subst (IsStrictlySortedBy line_cmp) (sym (keys-append (with_keys order.0 order.1) (all_lines orders)))
    (sorted_both line_cmp (keys_of (with_keys order.0 order.1)) (keys_of (all_lines orders)) (own_sorted order.0 order.1 each.0)
    (lines_sorted orders sorted.1 each.1) (before order.1))
  where
    before : (ls : List (ℕ × OrderLine)) → AllByRecursion (λ x. AllByRecursion (λ y. line_cmp x y ≡ Less) (keys_of (all_lines orders))) (keys_of (with_keys order.0 ls))
    before [] = tt
    before (l ∷ ls) = (later_lines order.0 l.0 orders sorted.0, before ls)

-- how many lines there are, as a table
pub count_lines : (orders : List (OrderKey × List (ℕ × OrderLine))) → IsStrictlySortedBy order_cmp (keys_of orders) → AreNumbered orders
    → length (all_lines orders) ≡ table.len (line_table (all_lines orders))
count_lines orders sorted each =
    ap length (sym (entries-ordered lines_total (all_lines orders) (lines_sorted orders sorted each))) ∙ sym (table.len-entries (line_table (all_lines orders)))

-- a test of each line's order, at the orders that have lines
pub of_orders : (test : OrderKey → Bool) (orders : List (OrderKey × List (ℕ × OrderLine)))
    → list_all (λ e. test (order_of_line e.0)) (all_lines orders) ≡ list_all (λ o. nat_eq (length o.1) 0 || test o.0) orders
of_orders test [] = refl
of_orders test (order ∷ orders) =
    list_all-append (λ e. test (order_of_line e.0)) (with_keys order.0 order.1) (all_lines orders)
    ∙ ap (λ b. b && list_all (λ e. test (order_of_line e.0)) (all_lines orders)) (of_order order.1)
    ∙ ap (λ b. (nat_eq (length order.1) 0 || test order.0) && b) (of_orders test orders)
  where
    absorb : (t b : Bool) → (t && (b || t)) ≡ t
    absorb true true = refl
    absorb true false = refl
    absorb false b = refl

    of_order : (lines : List (ℕ × OrderLine)) → list_all (λ e. test (order_of_line e.0)) (with_keys order.0 lines) ≡ nat_eq (length lines) 0 || test order.0
    of_order [] = refl
    of_order (line ∷ lines) =
        let some : nat_eq (length (line ∷ lines)) 0 ≡ false = grind (arith, nat_tests) in
        ap (λ b. test order.0 && b) (of_order lines) ∙ absorb (test order.0) (nat_eq (length lines) 0) ∙ sym (ap (λ b. b || test order.0) some)

-- ---- one order changes

-- the order's own table, by the numbers of its lines
abbrev pub own : List (OrderKey × List (ℕ × OrderLine)) → OrderKey → List (ℕ × OrderLine)
own orders order = unwrap_or (lookup (is_at (order_cmp order)) orders) []

pub read_own : (orders : List (OrderKey × List (ℕ × OrderLine))) → IsStrictlySortedBy order_cmp (keys_of orders) → (q : OrderLineKey)
    → get (line_table (all_lines orders)) q ≡ get (numbered (own orders (order_of_line q))) q.number
read_own orders sorted q =
    read_line orders sorted q ∙ ap (option_and_then (λ lines. get (numbered lines) q.number)) (read_entry orders_total orders (order_of_line q))
    ∙ or_no_lines (lookup (is_at (order_cmp (order_of_line q))) orders)
  where
    or_no_lines : (r : Option (List (ℕ × OrderLine))) → option_and_then (λ lines. get (numbered lines) q.number) r ≡ get (numbered (unwrap_or r [])) q.number
    or_no_lines None = sym (table.get-empty nat_cmp q.number)
    or_no_lines (Some lines) = refl

unmapped : {X : Type 0} (r : Option X) → r ≡ option_map (λ x. x) r
unmapped None = refl
unmapped (Some x) = refl

module _ (old new : BTreeMap OrderKey (List (ℕ × OrderLine))) (order : OrderKey) (lines : List (ℕ × OrderLine))
    (before : IsStrictlySortedBy order_cmp (keys_of old.entries)) (after : IsStrictlySortedBy order_cmp (keys_of new.entries)) (h : tree.Updates order_cmp old new order (Some lines)) where
  own_changed : (k : OrderKey) → own new.entries k ≡ cond (eq_by_cmp order_cmp k order) lines (own old.entries k)
  own_changed k =
      ap (λ r. unwrap_or r []) (h.0 k ∙ ap (λ b. cond b (Some lines) (lookup (is_at (order_cmp k)) old.entries)) ((eq_by_cmp_equiv orders_total).symm order k))
      ∙ elim (eq_by_cmp order_cmp k order) as (λ b. unwrap_or (cond b (Some lines) (lookup (is_at (order_cmp k)) old.entries)) [] ≡ cond b lines (own old.entries k)) [ true ↦ refl | false ↦ refl ]

  line_changed : (q : OrderLineKey) → get (line_table (all_lines new.entries)) q
      ≡ cond (eq_by_cmp order_cmp (order_of_line q) order) (get (numbered lines) q.number) (get (line_table (all_lines old.entries)) q)
  line_changed q =
      read_own new.entries after q ∙ ap (λ ls. get (numbered ls) q.number) (own_changed (order_of_line q))
      ∙ elim (eq_by_cmp order_cmp (order_of_line q) order) as (λ b. get (numbered (cond b lines (own old.entries (order_of_line q)))) q.number
      ≡ cond b (get (numbered lines) q.number) (get (line_table (all_lines old.entries)) q)) [
        | true ↦ refl
        | false ↦ sym (read_own old.entries before q)
      ]

  -- a line is put, or taken away
  pub line_put : (number : ℕ) (row : Option OrderLine) → numbered lines ≡ put_row (numbered (own old.entries order)) number row
      → line_table (all_lines new.entries) ≡ put_row (line_table (all_lines old.entries)) (line_key order number) row
  line_put number row put = same_map lines_total lines_exact _ _ (λ q.
      line_changed q
      ∙ elim (eq_by_cmp order_cmp (order_of_line q) order) as (λ b. eq_by_cmp order_cmp (order_of_line q) order ≡ b
      → cond b (get (numbered lines) q.number) (get (line_table (all_lines old.entries)) q) ≡ cond (b && eq_by_cmp nat_cmp q.number number) row (get (line_table (all_lines old.entries)) q)) [
        | true ↦ λ e.
            let same : order_of_line q ≡ order = orders_exact _ _ (is_equal _ e) in
            ap (λ t. get t q.number) put ∙ get-put_row nat_cmp_total nat_cmp-IsAntisymmetric (numbered (own old.entries order)) number row q.number
            ∙ ap (cond (eq_by_cmp nat_cmp q.number number) row) (ap (λ k. get (numbered (own old.entries k)) q.number) (sym same) ∙ sym (read_own old.entries before q))
        | false ↦ λ e. refl
      ] refl
      ∙ ap (λ b. cond b row (get (line_table (all_lines old.entries)) q)) (sym (same_line q order number))
      ∙ sym (get-put_row lines_total lines_exact (line_table (all_lines old.entries)) (line_key order number) row q))

  -- a line is changed in its place
  pub line_set : (f : OrderLine → OrderLine) (number : ℕ)
      → ((n : ℕ) → get (numbered lines) n ≡ option_map (λ row. cond (nat_eq n number) (f row) row) (get (numbered (own old.entries order)) n))
      → (q : OrderLineKey) → get (line_table (all_lines new.entries)) q
      ≡ option_map (λ row. cond (eq_by_cmp line_cmp q (line_key order number)) (f row) row) (get (line_table (all_lines old.entries)) q)
  line_set f number set q =
      line_changed q
      ∙ elim (eq_by_cmp order_cmp (order_of_line q) order) as (λ b. eq_by_cmp order_cmp (order_of_line q) order ≡ b
      → cond b (get (numbered lines) q.number) (get (line_table (all_lines old.entries)) q)
      ≡ option_map (λ row. cond (b && eq_by_cmp nat_cmp q.number number) (f row) row) (get (line_table (all_lines old.entries)) q)) [
        | true ↦ λ e.
            let same : order_of_line q ≡ order = orders_exact _ _ (is_equal _ e) in
            let alike : nat_eq q.number number ≡ eq_by_cmp nat_cmp q.number number = grind (arith, nat_tests) in
            set q.number ∙ ap (λ b. option_map (λ row. cond b (f row) row) (get (numbered (own old.entries order)) q.number)) alike
            ∙ ap (option_map (λ row. cond (eq_by_cmp nat_cmp q.number number) (f row) row)) (ap (λ k. get (numbered (own old.entries k)) q.number) (sym same) ∙ sym (read_own old.entries before q))
        | false ↦ λ e. unmapped (get (line_table (all_lines old.entries)) q)
      ] refl
      ∙ ap (λ b. option_map (λ row. cond b (f row) row) (get (line_table (all_lines old.entries)) q)) (sym (same_line q order number))

-- a line of an order that isn't there changes nothing
pub line_unset : (orders : List (OrderKey × List (ℕ × OrderLine))) → IsStrictlySortedBy order_cmp (keys_of orders) → (order : OrderKey) → own orders order ≡ []
    → (f : OrderLine → OrderLine) (number : ℕ) (q : OrderLineKey) → get (line_table (all_lines orders)) q
    ≡ option_map (λ row. cond (eq_by_cmp line_cmp q (line_key order number)) (f row) row) (get (line_table (all_lines orders)) q)
line_unset orders sorted order none f number q =
    elim (eq_by_cmp order_cmp (order_of_line q) order) as (λ b. eq_by_cmp order_cmp (order_of_line q) order ≡ b
    → get (line_table (all_lines orders)) q ≡ option_map (λ row. cond (b && eq_by_cmp nat_cmp q.number number) (f row) row) (get (line_table (all_lines orders)) q)) [
      | true ↦ λ e.
          let same : order_of_line q ≡ order = orders_exact _ _ (is_equal _ e) in
          let gone : get (line_table (all_lines orders)) q ≡ None =
          read_own orders sorted q ∙ ap (λ k. get (numbered (own orders k)) q.number) same ∙ ap (λ ls. get (numbered ls) q.number) none ∙ table.get-empty nat_cmp q.number in
          gone ∙ ap (option_map (λ row. cond (eq_by_cmp nat_cmp q.number number) (f row) row)) (sym gone)
      | false ↦ λ e. unmapped (get (line_table (all_lines orders)) q)
    ] refl
    ∙ ap (λ b. option_map (λ row. cond b (f row) row) (get (line_table (all_lines orders)) q)) (sym (same_line q order number))

-- an order behind all that have lines has none
pub none_behind : (orders : BTreeMap OrderKey (List (ℕ × OrderLine))) (last order : OrderKey) → tree.IsUpperBound order_cmp orders last → order_cmp order last ≡ Greater → tree.get order_cmp orders order ≡ None
none_behind orders last order bound behind =
    elim (tree.get order_cmp orders order) as (λ r. tree.get order_cmp orders order ≡ r → r ≡ None) [
      | None ↦ λ e. refl
      | Some lines ↦ λ e.
          let back : order_cmp last order ≡ Less = orders_total.antisymm last order ∙ ap ordering_reverse behind in
          let not_less = bound order (subst (λ r. IsSome r) (sym e) refl) in
          absurd (false≢true (sym not_less ∙ ap is_lt back))
    ] refl

-- ---- each order's lines stay in order

pub set_numbered : (at : OrderKey → Bool) (lines : List (ℕ × OrderLine)) (orders : List (OrderKey × List (ℕ × OrderLine))) → IsStrictlySortedBy nat_cmp (keys_of lines)
    → AreNumbered orders → AreNumbered (set_value at orders lines)
set_numbered at lines [] s each = tt
set_numbered at lines (order ∷ orders) s each =
    elim (at order.0) as (λ b. AreNumbered (cond b ((order.0, lines) ∷ orders) (order ∷ set_value at orders lines))) [
      | true ↦ (s, each.1)
      | false ↦ (each.0, set_numbered at lines orders s each.1)
    ]

pub insert_numbered : (order : OrderKey) (lines : List (ℕ × OrderLine)) (orders : List (OrderKey × List (ℕ × OrderLine))) → IsStrictlySortedBy nat_cmp (keys_of lines)
    → AreNumbered orders → AreNumbered (insert_entry order_cmp orders order lines)
insert_numbered order lines [] s each = (s, tt)
insert_numbered order lines (o ∷ orders) s each =
    elim (order_cmp order o.0) as (λ r. AreNumbered (match_ordering r ((order, lines) ∷ o ∷ orders) ((o.0, lines) ∷ orders) (o ∷ insert_entry order_cmp orders order lines))) [
      | Less ↦ (s, each)
      | Equal ↦ (s, each.1)
      | Greater ↦ (each.0, insert_numbered order lines orders s each.1)
    ]

-- ---- the lines of some orders

pub lines_where : (test : OrderKey → Bool) (orders : List (OrderKey × List (ℕ × OrderLine)))
    → all_lines (filter (λ e. test e.0) orders) ≡ filter (λ e. test (order_of_line e.0)) (all_lines orders)
lines_where test [] = refl
lines_where test (order ∷ orders) =
    elim (test order.0) as (λ b. test order.0 ≡ b → all_lines (cond b (order ∷ filter (λ e. test e.0) orders) (filter (λ e. test e.0) orders))
    ≡ filter (λ e. test (order_of_line e.0)) (with_keys order.0 order.1) ++ filter (λ e. test (order_of_line e.0)) (all_lines orders)) [
      | true ↦ λ e. ap (λ l. with_keys order.0 order.1 ++ l) (lines_where test orders) ∙ ap (λ l. l ++ filter (λ e. test (order_of_line e.0)) (all_lines orders)) (sym (all_of order.1 e))
      | false ↦ λ e. lines_where test orders ∙ ap (λ l. l ++ filter (λ e. test (order_of_line e.0)) (all_lines orders)) (sym (none_of order.1 e))
    ] refl
    ∙ sym (filter-append (λ e. test (order_of_line e.0)) (with_keys order.0 order.1) (all_lines orders))
  where
    all_of : (ls : List (ℕ × OrderLine)) → test order.0 ≡ true → filter (λ e. test (order_of_line e.0)) (with_keys order.0 ls) ≡ with_keys order.0 ls
    all_of [] e = refl
    all_of (l ∷ ls) e = rw e (ap (λ r. (line_key order.0 l.0, l.1) ∷ r) (all_of ls e))

    none_of : (ls : List (ℕ × OrderLine)) → test order.0 ≡ false → filter (λ e. test (order_of_line e.0)) (with_keys order.0 ls) ≡ []
    none_of [] e = refl
    none_of (l ∷ ls) e = rw e (none_of ls e)

    filter-append : {X : Type 0} (p : X → Bool) (xs ys : List X) → filter p (xs ++ ys) ≡ filter p xs ++ filter p ys
    filter-append p [] ys = refl
    filter-append p (x ∷ xs) ys =
        elim (p x) as (λ b. cond b (x ∷ filter p (xs ++ ys)) (filter p (xs ++ ys)) ≡ cond b (x ∷ filter p xs) (filter p xs) ++ filter p ys) [
          | true ↦ ap (λ l. x ∷ l) (filter-append p xs ys)
          | false ↦ filter-append p xs ys
        ]

pub numbered_where : (test : OrderKey → Bool) (orders : List (OrderKey × List (ℕ × OrderLine))) → AreNumbered orders → AreNumbered (filter (λ e. test e.0) orders)
numbered_where test [] each = tt
numbered_where test (order ∷ orders) each =
    elim (test order.0) as (λ b. AreNumbered (cond b (order ∷ filter (λ e. test e.0) orders) (filter (λ e. test e.0) orders))) [
      | true ↦ (each.0, numbered_where test orders each.1)
      | false ↦ numbered_where test orders each.1
    ]

-- ---- an order that is inserted with its lines

-- a look-up among the lines of one order
find_of : (q : OrderLineKey) (order : OrderKey) (lines : List (ℕ × OrderLine))
    → get (line_table (with_keys order lines)) q ≡ cond (eq_by_cmp order_cmp (order_of_line q) order) (get (numbered lines) q.number) None
find_of q order lines =
    get-from_entries lines_total (with_keys order lines) q
    ∙ elim (eq_by_cmp order_cmp (order_of_line q) order) as (λ b. eq_by_cmp order_cmp (order_of_line q) order ≡ b
    → find line_cmp q (with_keys order lines) ≡ cond b (get (numbered lines) q.number) None) [
      | true ↦ λ own. find_own q order lines own ∙ sym (get-from_entries nat_cmp_total lines q.number)
      | false ↦ λ other. find_other q order lines other
    ] refl

pub no_order : (orders : List (OrderKey × List (ℕ × OrderLine))) (order : OrderKey) (there : Bool) → there ≡ is_some (lookup (is_at (order_cmp order)) orders) → there ≡ false
    → lookup (is_at (order_cmp order)) orders ≡ None
no_order orders order there is not_there =
    elim (lookup (is_at (order_cmp order)) orders) as (λ r. there ≡ is_some r → r ≡ None) [
      | None ↦ λ e. refl
      | Some lines ↦ λ e. absurd (false≢true (sym not_there ∙ e))
    ] is

-- where there was none of the order
pub order_added : (old new : BTreeMap OrderKey (List (ℕ × OrderLine))) (order : OrderKey) (lines : List (ℕ × OrderLine))
    → IsStrictlySortedBy order_cmp (keys_of old.entries) → IsStrictlySortedBy order_cmp (keys_of new.entries) → tree.Updates order_cmp old new order (Some lines) → own old.entries order ≡ []
    → (q : OrderLineKey) → get (line_table (all_lines new.entries)) q ≡ option_or (get (line_table (with_keys order lines)) q) (get (line_table (all_lines old.entries)) q)
order_added old new order lines before after h none q =
    line_changed old new order lines before after h q
    ∙ elim (eq_by_cmp order_cmp (order_of_line q) order) as (λ b. eq_by_cmp order_cmp (order_of_line q) order ≡ b
    → cond b (get (numbered lines) q.number) (get (line_table (all_lines old.entries)) q) ≡ option_or (cond b (get (numbered lines) q.number) None) (get (line_table (all_lines old.entries)) q)) [
      | true ↦ λ e.
          let same : order_of_line q ≡ order = orders_exact _ _ (is_equal _ e) in
          let gone : get (line_table (all_lines old.entries)) q ≡ None =
          read_own old.entries before q ∙ ap (λ k. get (numbered (own old.entries k)) q.number) same ∙ ap (λ ls. get (numbered ls) q.number) none ∙ table.get-empty nat_cmp q.number in
          sym (ap (option_or (get (numbered lines) q.number)) gone ∙ or_none (get (numbered lines) q.number))
      | false ↦ λ e. refl
    ] refl
    ∙ ap (λ r. option_or r (get (line_table (all_lines old.entries)) q)) (sym (find_of q order lines))

length-with_keys : (order : OrderKey) (lines : List (ℕ × OrderLine)) → length (with_keys order lines) ≡ length lines
length-with_keys order [] = refl
length-with_keys order (line ∷ lines) = ap (λ n. suc n) (length-with_keys order lines)

pub many_added : (order : OrderKey) (lines : List (ℕ × OrderLine)) (orders : List (OrderKey × List (ℕ × OrderLine))) → lookup (is_at (order_cmp order)) orders ≡ None
    → length (all_lines (insert_entry order_cmp orders order lines)) ≡ length (all_lines orders) + length lines
many_added order lines [] none = length-append (with_keys order lines) [] ∙ ap (λ n. n + 0) (length-with_keys order lines) ∙ (let e : length lines + 0 ≡ 0 + length lines = omega arith in e)
many_added order lines (o ∷ orders) none =
    elim (order_cmp order o.0) as (λ r. cond (is_eq r) (Some o.1) (lookup (is_at (order_cmp order)) orders) ≡ None
    → length (all_lines (match_ordering r ((order, lines) ∷ o ∷ orders) ((o.0, lines) ∷ orders) (o ∷ insert_entry order_cmp orders order lines)))
    ≡ length (with_keys o.0 o.1 ++ all_lines orders) + length lines) [
      | Less ↦ λ e.
          let all = length-append (with_keys order lines) (with_keys o.0 o.1 ++ all_lines orders) in
          omega (arith, all, length-with_keys order lines)
      | Equal ↦ λ e. absurd (some≢none o.1 e)
      | Greater ↦ λ e.
          let later = many_added order lines orders e in
          let all = length-append (with_keys o.0 o.1) (all_lines (insert_entry order_cmp orders order lines)) in
          let was = length-append (with_keys o.0 o.1) (all_lines orders) in
          omega (arith, all, was, later)
    ] none
  where
    some≢none : {X : Type 0} (x : X) → Some x ≢ None
    some≢none x e = cc

-- lines that are put one by one, the last first
pub one_more_put : (order : OrderKey) (rest all : List (ℕ × OrderLine)) (number : ℕ) (row : OrderLine) (old new : table.FinMap line_cmp OrderLine) → all ≡ rest ++ (number, row) ∷ []
    → new ≡ insert old (line_key order number) row
    → (q : OrderLineKey) → option_or (get (line_table (with_keys order rest)) q) (get new q) ≡ option_or (get (line_table (with_keys order all)) q) (get old q)
one_more_put order rest all number row old new is put q =
    ap (λ t. option_or (get (line_table (with_keys order rest)) q) (get t q)) put
    ∙ ap (option_or (get (line_table (with_keys order rest)) q)) (get-insert lines_total old (line_key order number) row q)
    ∙ either (get (line_table (with_keys order rest)) q) (eq_by_cmp line_cmp q (line_key order number)) (get old q)
    ∙ ap (λ r. option_or (option_or r (cond (eq_by_cmp line_cmp q (line_key order number)) (Some row) None)) (get old q)) (get-from_entries lines_total (with_keys order rest) q)
    ∙ ap (λ r. option_or r (get old q)) (sym (get-from_entries lines_total (with_keys order all) q ∙ ap (λ ls. find line_cmp q (with_keys order ls)) is
    ∙ ap (find line_cmp q) (keys-last rest) ∙ find-append line_cmp q (with_keys order rest) ((line_key order number, row) ∷ [])))
  where
    either : (a : Option OrderLine) (b : Bool) (c : Option OrderLine) → option_or a (cond b (Some row) c) ≡ option_or (option_or a (cond b (Some row) None)) c
    either (Some x) b c = refl
    either None true c = refl
    either None false c = refl

    keys-last : (ls : List (ℕ × OrderLine)) → with_keys order (ls ++ (number, row) ∷ []) ≡ with_keys order ls ++ (line_key order number, row) ∷ []
    keys-last [] = refl
    keys-last (l ∷ ls) = ap (λ r. (line_key order l.0, l.1) ∷ r) (keys-last ls)

-- the first of some orders has come, and the others are to come
pub one_more_order : (order : OrderKey) (lines : List (ℕ × OrderLine)) (rest all : List (OrderKey × List (ℕ × OrderLine))) (old new : table.FinMap line_cmp OrderLine) → all ≡ (order, lines) ∷ rest
    → IsStrictlySortedBy order_cmp (keys_of all) → ((q : OrderLineKey) → get new q ≡ option_or (get (line_table (with_keys order lines)) q) (get old q))
    → (q : OrderLineKey) → option_or (get (line_table (all_lines rest)) q) (get new q) ≡ option_or (get (line_table (all_lines all)) q) (get old q)
one_more_order order lines rest all old new is sorted came q =
    let w = get (line_table (with_keys order lines)) q in
    let n = get (line_table (all_lines rest)) q in
    ap (option_or n) (came q)
    ∙ elim (eq_by_cmp order_cmp (order_of_line q) order) as (λ b. eq_by_cmp order_cmp (order_of_line q) order ≡ b → option_or n (option_or w (get old q)) ≡ option_or (option_or w n) (get old q)) [
      | true ↦ λ own.
          let same : order_of_line q ≡ order = orders_exact _ _ (is_equal _ own) in
          let later : AllByRecursion (λ k. order_cmp (order_of_line q) k ≡ Less) (keys_of rest) =
          subst (λ o. AllByRecursion (λ k. order_cmp o k ≡ Less) (keys_of rest)) (sym same) (sorted_head order_cmp order (keys_of rest) (subst (λ es. IsStrictlySortedBy order_cmp (keys_of es)) is sorted)) in
          let none : n ≡ None = get-from_entries lines_total (all_lines rest) q ∙ find_later q rest later in
          ap (λ r. option_or r (option_or w (get old q))) none ∙ sym (ap (λ r. option_or (option_or w r) (get old q)) none ∙ ap (λ r. option_or r (get old q)) (or_none w))
      | false ↦ λ other.
          let none : w ≡ None = get-from_entries lines_total (with_keys order lines) q ∙ find_other q order lines other in
          ap (λ r. option_or n (option_or r (get old q))) none ∙ sym (ap (λ r. option_or (option_or r n) (get old q)) none)
    ] refl
    ∙ ap (λ r. option_or r (get old q)) (sym (get-from_entries lines_total (all_lines all) q ∙ ap (λ es. find line_cmp q (all_lines es)) is
    ∙ find-append line_cmp q (with_keys order lines) (all_lines rest)
    ∙ ap (λ r. option_or r (find line_cmp q (all_lines rest))) (sym (get-from_entries lines_total (with_keys order lines) q))
    ∙ ap (option_or w) (sym (get-from_entries lines_total (all_lines rest) q))))

-- what was there is put there
pub set_same : (at : OrderKey → Bool) (lines : List (ℕ × OrderLine)) (orders : List (OrderKey × List (ℕ × OrderLine))) → Some lines ≡ lookup at orders
    → set_value at orders lines ≡ orders
set_same at lines [] h = refl
set_same at lines (order ∷ orders) h =
    elim (at order.0) as (λ b. Some lines ≡ cond b (Some order.1) (lookup at orders) → cond b ((order.0, lines) ∷ orders) (order ∷ set_value at orders lines) ≡ order ∷ orders) [
      | true ↦ λ e. ap (λ r. (order.0, unwrap_or r []) ∷ orders) e
      | false ↦ λ e. ap (λ l. order ∷ l) (set_same at lines orders e)
    ] h

-- if no key is inserted, the entry is written in its place
pub set_in_place : (order : OrderKey) (lines : List (ℕ × OrderLine)) (orders : List (OrderKey × List (ℕ × OrderLine))) → keys_of (insert_entry order_cmp orders order lines) ≡ keys_of orders
    → insert_entry order_cmp orders order lines ≡ set_value (is_at (order_cmp order)) orders lines
set_in_place order lines [] stay = cc
set_in_place order lines (o ∷ orders) stay =
    elim (order_cmp order o.0) as (λ r. keys_of (match_ordering r ((order, lines) ∷ o ∷ orders) ((o.0, lines) ∷ orders) (o ∷ insert_entry order_cmp orders order lines)) ≡ o.0 ∷ keys_of orders
    → match_ordering r ((order, lines) ∷ o ∷ orders) ((o.0, lines) ∷ orders) (o ∷ insert_entry order_cmp orders order lines)
    ≡ cond (is_eq r) ((o.0, lines) ∷ orders) (o ∷ set_value (is_at (order_cmp order)) orders lines)) [
      | Less ↦ λ e. let many = ap length e in absurd (omega arith)
      | Equal ↦ λ e. refl
      | Greater ↦ λ e. ap (λ l. o ∷ l) (set_in_place order lines orders (ap (drop 1) e))
    ] stay

-- as many lines as were there
pub set_many : (at : OrderKey → Bool) (was lines : List (ℕ × OrderLine)) (orders : List (OrderKey × List (ℕ × OrderLine))) → Some was ≡ lookup at orders → length lines ≡ length was
    → length (all_lines (set_value at orders lines)) ≡ length (all_lines orders)
set_many at was lines [] h e = refl
set_many at was lines (order ∷ orders) h e =
    elim (at order.0) as (λ b. Some was ≡ cond b (Some order.1) (lookup at orders)
    → length (all_lines (cond b ((order.0, lines) ∷ orders) (order ∷ set_value at orders lines))) ≡ length (with_keys order.0 order.1 ++ all_lines orders)) [
      | true ↦ λ own.
          let same : length lines ≡ length order.1 = e ∙ ap (λ r. length (unwrap_or r [])) own in
          length-append (with_keys order.0 lines) (all_lines orders) ∙ ap (λ n. n + length (all_lines orders)) (length-with_keys order.0 lines ∙ same ∙ sym (length-with_keys order.0 order.1))
          ∙ sym (length-append (with_keys order.0 order.1) (all_lines orders))
      | false ↦ λ later.
          length-append (with_keys order.0 order.1) (all_lines (set_value at orders lines))
          ∙ ap (λ n. length (with_keys order.0 order.1) + n) (set_many at was lines orders later e)
          ∙ sym (length-append (with_keys order.0 order.1) (all_lines orders))
    ] h

-- the lines of the orders between two bounds
pub lines_between : (low high : Bound OrderKey) (known test : OrderLineKey → Bool) (orders : List (OrderKey × List (ℕ × OrderLine)))
    → IsStrictlySortedBy order_cmp (keys_of orders) → AreNumbered orders → EachRow (λ key _. known key) (line_table (all_lines orders))
    → ((key : OrderLineKey) → IsTrue (known key) → range_contains order_cmp low high (order_of_line key) ≡ test key)
    → all_lines (entries_between order_cmp low high orders) ≡ rows_where test (line_table (all_lines orders))
lines_between low high known test orders sorted each all agree =
    let ordered = lines_sorted orders sorted each in
    lines_where (range_contains order_cmp low high) orders
    ∙ filter_agrees (λ e. known e.0) _ _ (λ e h. agree e.0 h) (all_lines orders) ((EachRow-entries lines_total lines_exact (λ key _. known key) (all_lines orders) ordered).1 all)
    ∙ ap (filter (λ e. test e.0)) (sym (entries-ordered lines_total (all_lines orders) ordered))

pub few_between : (low high : Bound OrderKey) (orders : List (OrderKey × List (ℕ × OrderLine))) → length (all_lines (entries_between order_cmp low high orders)) ≤ length (all_lines orders)
few_between low high orders =
    let test = λ (e : OrderLineKey × OrderLine). range_contains order_cmp low high (order_of_line e.0) in
    omega (arith, ap length (lines_where (range_contains order_cmp low high) orders), length-filter_both test (λ e. not (test e)) (λ e. refl) (all_lines orders))

-- ---- the lines of one order

-- an order is not among the orders after it
not_behind : (order : OrderKey) (orders : List (OrderKey × List (ℕ × OrderLine))) → AllByRecursion (λ later. order_cmp order later ≡ Less) (keys_of orders)
    → entries_between order_cmp (Included order) (Included order) orders ≡ []
not_behind order [] behind = refl
not_behind order (other ∷ others) behind = rw behind.0 (not_behind order others behind.1)

pub own_between : (order : OrderKey) (orders : List (OrderKey × List (ℕ × OrderLine))) → IsStrictlySortedBy order_cmp (keys_of orders)
    → length (all_lines (entries_between order_cmp (Included order) (Included order) orders)) ≡ length (own orders order)
own_between order [] sorted = refl
own_between order (other ∷ others) sorted =
    by (order_cmp order other.0) refl (own_between order others (sorted_tail order_cmp other.0 (keys_of others) sorted))
  where
    by : (r : Ordering) → order_cmp order other.0 ≡ r → length (all_lines (entries_between order_cmp (Included order) (Included order) others)) ≡ length (own others order)
        → length (all_lines (entries_between order_cmp (Included order) (Included order) (other ∷ others))) ≡ length (own (other ∷ others) order)
    by Less is rest = rw is rest
    by Greater is rest = rw is rest
    by Equal is rest =
        let same : order ≡ other.0 = orders_exact order other.0 is in
        let behind = subst (λ key. AllByRecursion (λ later. order_cmp key later ≡ Less) (keys_of others)) (sym same) (sorted_head order_cmp other.0 (keys_of others) sorted) in
        let none : length (all_lines (entries_between order_cmp (Included order) (Included order) others)) ≡ 0 = ap (λ es. length (all_lines es)) (not_behind order others behind) in
        rw is (length-append (with_keys other.0 other.1) _ ∙ ap (λ n. length (with_keys other.0 other.1) + n) none ∙ omega (arith, length-with_keys other.0 other.1))

-- ---- how many lines are kept

module _ (old new : List (OrderKey × List (ℕ × OrderLine))) (count : ℕ) (h : AreKept old count) (sorted : IsStrictlySortedBy order_cmp (keys_of new)) (each : AreNumbered new) where
  -- as many lines as there were
  pub kept_as_many : length (all_lines new) ≡ length (all_lines old) → AreKept new count
  kept_as_many same = record { ordered = sorted; numbered = each; many = h.many ∙ sym same; fits = h.fits }

  before : len (line_table (all_lines old)) ≡ count
  before = sym (h.many ∙ count_lines old h.ordered h.numbered)

  module _ (key : OrderLineKey) (row : OrderLine) (put : line_table (all_lines new) ≡ insert (line_table (all_lines old)) key row) where
    after : (there : Bool) → contains_key (line_table (all_lines old)) key ≡ there → length (all_lines new) ≡ cond there count (count + 1)
    after there is =
        count_lines new sorted each ∙ ap len put ∙ len-insert lines_total (line_table (all_lines old)) key row
        ∙ ap (λ b. cond b (len (line_table (all_lines old))) (len (line_table (all_lines old)) + 1)) is
        ∙ ap (λ n. cond there n (n + 1)) before

    pub kept_one_more : get (line_table (all_lines old)) key ≡ None → count + 1 < 2 ^ 63 → AreKept new (count + 1)
    kept_one_more none fits = record { ordered = sorted; numbered = each; many = sym (after false (ap is_some none)); fits = fits }

    pub kept_replaced : IsTrue (contains_key (line_table (all_lines old)) key) → AreKept new count
    kept_replaced there = record { ordered = sorted; numbered = each; many = sym (after true there); fits = h.fits }

  pub kept_one_less : (key : OrderLineKey) → line_table (all_lines new) ≡ remove (line_table (all_lines old)) key → IsTrue (contains_key (line_table (all_lines old)) key) → AreKept new (count - 1)
  kept_one_less key gone there =
      let less : length (all_lines new) ≡ count - 1 =
      count_lines new sorted each ∙ ap len gone ∙ len-remove lines_total (line_table (all_lines old)) key
      ∙ ap (λ b. cond b (len (line_table (all_lines old)) - 1) (len (line_table (all_lines old)))) there ∙ ap (λ n. n - 1) before in
      record { ordered = sorted; numbered = each; many = sym less; fits = omega (arith, h.fits) }

-- where a line is, there is one
pub some_kept : (orders : List (OrderKey × List (ℕ × OrderLine))) (count : ℕ) (key : OrderLineKey) → AreKept orders count → IsTrue (contains_key (line_table (all_lines orders)) key) → 1 ≤ count
some_kept orders count key h there =
    elim (all_lines orders) as (λ l. all_lines orders ≡ l → 1 ≤ count) [
      | [] ↦ λ e. absurd (false≢true (sym (ap (λ l. contains_key (line_table l) key) e ∙ ap is_some (table.get-empty line_cmp key)) ∙ there))
      | l ∷ ls ↦ λ e. let many : count ≡ suc (length ls) = h.many ∙ ap length e in omega (arith, many)
    ] refl

-- the lines of some orders, and those of the others
module _ (orders part : List (OrderKey × List (ℕ × OrderLine))) (count : ℕ) (h : AreKept orders count) (test : OrderKey → Bool) (is : part ≡ filter (λ e. test e.0) orders) where
  pub lines_of_part : all_lines part ≡ filter (λ e. test (order_of_line e.0)) (all_lines orders)
  lines_of_part = ap all_lines is ∙ lines_where test orders

  pub kept_part : (many : ℕ) → IsStrictlySortedBy order_cmp (keys_of part) → many ≡ length (all_lines part) → many ≤ count → AreKept part many
  kept_part many sorted is_many few = record {
    ordered = sorted;
    numbered = subst AreNumbered (sym is) (numbered_where test orders h.numbered);
    many = is_many;
    fits = omega (arith, few, h.fits);
  }

-- the orders of the warehouses from one on are split off
module _ (orders later others : List (OrderKey × List (ℕ × OrderLine))) (count : ℕ) (h : AreKept orders count) (warehouse : ℕ)
    (from : later ≡ filter (λ e. is_le (order_cmp (first_of_warehouse warehouse) e.0)) orders) (below : others ≡ filter (λ e. is_gt (order_cmp (first_of_warehouse warehouse) e.0)) orders) where
  is_later : later ≡ filter (λ e. nat_le warehouse e.0.w_id) orders
  is_later = from ∙ filter_agree _ _ (λ e. from_warehouse warehouse e.0) orders

  are_others : others ≡ filter (λ e. nat_lt e.0.w_id warehouse) orders
  are_others = below ∙ filter_agree _ _ (λ e. before_warehouse warehouse e.0) orders

  pub later_lines_are : all_lines later ≡ filter (λ e. nat_le warehouse e.0.w_id) (all_lines orders)
  later_lines_are = lines_of_part orders later count h (λ o. nat_le warehouse o.w_id) is_later

  pub other_lines_are : all_lines others ≡ filter (λ e. nat_lt e.0.w_id warehouse) (all_lines orders)
  other_lines_are = lines_of_part orders others count h (λ o. nat_lt o.w_id warehouse) are_others

  pub parts_together : length (all_lines later) + length (all_lines others) ≡ count
  parts_together =
      let both = length-filter_both (λ (e : OrderLineKey × OrderLine). nat_le warehouse e.0.w_id) (λ e. nat_lt e.0.w_id warehouse) (λ e. grind (arith, nat_tests)) (all_lines orders) in
      omega (arith, ap length later_lines_are, ap length other_lines_are, both, h.many)

  pub kept_later : (many : ℕ) → IsStrictlySortedBy order_cmp (keys_of later) → many ≡ length (all_lines later) → AreKept later many
  kept_later many sorted is = kept_part orders later count h (λ o. nat_le warehouse o.w_id) is_later many sorted is (omega (arith, parts_together))

  pub kept_others : (many : ℕ) → IsStrictlySortedBy order_cmp (keys_of others) → many ≡ length (all_lines later) → AreKept others (count - many)
  kept_others many sorted is = kept_part orders others count h (λ o. nat_lt o.w_id warehouse) are_others (count - many) sorted (omega (arith, parts_together)) (omega arith)
