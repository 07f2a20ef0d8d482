-- The lines of one order after another.
use Rattle.std.proofs.Common.{◌≡◌, ℕ, zero, suc, ◌+◌, ◌<◌, ◌≤◌, List, [], ◌∷◌, ◌++◌, map, refl, sym, ap, ◌∙◌, arith, append_assoc}
use Rattle.std.proofs.lemmas.Bool.Decides.{nat_tests}
use Rattle.std.proofs.lemmas.List.{map-append}
use Rattle.std.specs.List.{AllByRecursion, range_with_len, flat_map}
use Rattle.std.specs.Map.{keys_of}
use Rattle.std.specs.declared.cmp.Ordering.{Ordering}
use Rattle.std.specs.declared.cmp.Ordering.TheVariants.{Less, Equal, Greater}
use Rattle.std.specs.Ordering.{nat_cmp, ordering_then}
use Rattle.rows.specs.declared.keys.OrderKey.{OrderKey}
use Rattle.rows.specs.declared.keys.OrderLineKey.{OrderLineKey}
use Rattle.rows.specs.declared.records.Order.{Order}
use Rattle.rows.specs.declared.records.OrderLine.{OrderLine}
use Rattle.rows.specs.Keys.{order_cmp, line_cmp, order_of_line}
use Rattle.population.specs.Append.{AreBefore}
use Rattle.schema.specs.OrderRows.{line_key}
use Rattle.population.specs.Book.{line_keys}
use Rattle.population.specs.Rows.{AreOfEarlierOrders}
use Rattle.population.proofs.Lists.{each_both, each_same, each_weaker}
use Rattle.population.proofs.Ranges.{numbers_more}

three_then : (w d o n : Ordering) → ordering_then w (ordering_then d o) ≡ Less → ordering_then w (ordering_then d (ordering_then o n)) ≡ Less
three_then Less d o n h = refl
three_then Equal Less o n h = refl
three_then Equal Equal Less n h = refl
three_then Equal Equal Equal n h = absurd cc
three_then Equal Equal Greater n h = absurd cc
three_then Equal Greater o n h = absurd cc
three_then Greater d o n h = absurd cc

-- a line of an earlier order is earlier
of_earlier_order : (order : OrderKey) (number : ℕ) (key : OrderLineKey) → order_cmp (order_of_line key) order ≡ Less → line_cmp key (line_key order number) ≡ Less
of_earlier_order order number key h = three_then (nat_cmp key.w_id order.w_id) (nat_cmp key.d_id order.d_id) (nat_cmp key.o_id order.o_id) (nat_cmp key.number number) h

-- a line of a lower number is earlier
of_lower_number : (order : OrderKey) (low high : ℕ) → low < high → line_cmp (line_key order low) (line_key order high) ≡ Less
of_lower_number order low high h =
    let warehouse : nat_cmp order.w_id order.w_id ≡ Equal = grind (arith, nat_tests) in
    let district : nat_cmp order.d_id order.d_id ≡ Equal = grind (arith, nat_tests) in
    let same_order : nat_cmp order.o_id order.o_id ≡ Equal = grind (arith, nat_tests) in
    let number : nat_cmp low high ≡ Less = grind (arith, nat_tests) in
    rw (warehouse, district, same_order) number

lower_lines : (order : OrderKey) (first number count : ℕ) → first + count ≤ number
    → AllByRecursion (λ key. line_cmp key (line_key order number) ≡ Less) (map (line_key order) (range_with_len first count))
lower_lines order first number zero h = tt
lower_lines order first number (suc count) h = (of_lower_number order first number (omega arith), lower_lines order (first + 1) number count (omega arith))

-- with so many lines of an order, the next one is after all of them
pub earlier_lines : (order : OrderKey) (old es : List (OrderLineKey × OrderLine)) (count : ℕ) → AreOfEarlierOrders order old
    → keys_of es ≡ keys_of old ++ map (line_key order) (range_with_len 1 count) → AreBefore line_cmp (line_key order (count + 1)) es
earlier_lines order old es count before is =
    let P = λ (key : OrderLineKey). line_cmp key (line_key order (count + 1)) ≡ Less in
    each_same P _ _ is (each_both P (keys_of old) (map (line_key order) (range_with_len 1 count))
    (each_weaker P (λ key. order_cmp (order_of_line key) order ≡ Less) (of_earlier_order order (count + 1)) (keys_of old) before)
    (lower_lines order 1 (count + 1) count (omega arith)))

of_one_order : (order other : OrderKey) (first count : ℕ) → order_cmp other order ≡ Less
    → AllByRecursion (λ key. order_cmp (order_of_line key) order ≡ Less) (map (line_key other) (range_with_len first count))
of_one_order order other first zero h = tt
of_one_order order other first (suc count) h = (h, of_one_order order other (first + 1) count h)

of_orders : (order : OrderKey) (es : List (OrderKey × Order)) → AreBefore order_cmp order es → AllByRecursion (λ key. order_cmp (order_of_line key) order ≡ Less) (flat_map line_keys es)
of_orders order [] before = tt
of_orders order (e ∷ es) before = each_both _ (line_keys e) (flat_map line_keys es) (of_one_order order e.0 1 e.1.ol_cnt before.0) (of_orders order es before.1)

-- lines of earlier orders
pub lines_of_earlier : (order : OrderKey) (es : List (OrderKey × Order)) (ls : List (OrderLineKey × OrderLine)) → AreBefore order_cmp order es → keys_of ls ≡ flat_map line_keys es → AreOfEarlierOrders order ls
lines_of_earlier order es ls before is = each_same _ _ _ is (of_orders order es before)

-- one line more
pub one_line_more : (order : OrderKey) (old es new : List (OrderLineKey × OrderLine)) (count : ℕ) (row : OrderLine)
    → keys_of es ≡ keys_of old ++ map (line_key order) (range_with_len 1 count) → new ≡ es ++ (line_key order (count + 1), row) ∷ []
    → keys_of new ≡ keys_of old ++ map (line_key order) (range_with_len 1 (count + 1))
one_line_more order old es new count row had is =
    let next = line_key order (count + 1) in
    ap keys_of is
    ∙ map-append (λ (e : OrderLineKey × OrderLine). e.0) es ((next, row) ∷ [])
    ∙ ap (λ l. l ++ next ∷ []) had
    ∙ append_assoc (keys_of old) (map (line_key order) (range_with_len 1 count)) (next ∷ [])
    ∙ ap (λ l. keys_of old ++ l) (sym (ap (map (line_key order)) (numbers_more count) ∙ map-append (line_key order) (range_with_len 1 count) ((count + 1) ∷ [])))
