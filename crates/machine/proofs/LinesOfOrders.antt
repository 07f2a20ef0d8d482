-- The lines of a district are those of its orders, so there is no line without an order.
use Rattle.std.proofs.Common.{◌≡◌, ℕ, ◌+◌, ◌≤◌, Bool, true, false, cond, ◌&&◌, ◌==◌, List, [], ◌∷◌, ◌++◌, map, length, sum, Some, None, T, IsTrue, refl, sym, ap, subst, ◌∙◌, arith}
use Rattle.std.specs.List.{filter, list_all}
use Rattle.std.proofs.lemmas.Bool.Decides.{nat_tests}
use Rattle.std.proofs.lemmas.Cmp.{tied_itself}
use Rattle.std.proofs.lemmas.List.Sums.{sum_by-cons}
use Rattle.std.specs.declared.cmp.Ordering.TheVariants.{Equal}
use Rattle.std.specs.Ordering.{is_lt}
use Rattle.std.specs.FinMap.{FinMap, get, insert, entries, entries_sorted}
use Rattle.std.specs.FinMap.Entries.{is_sorted, below_all}
use Rattle.rows.specs.Keys.{order_cmp, line_cmp, order_of_line}
use Rattle.rows.specs.declared.keys.DistrictKey.{DistrictKey}
use Rattle.rows.specs.declared.keys.OrderKey.{OrderKey}
use Rattle.rows.specs.declared.keys.OrderLineKey.{OrderLineKey}
use Rattle.rows.specs.declared.records.Order.{Order}
use Rattle.rows.specs.declared.records.OrderLine.{OrderLine}
use Rattle.schema.specs.Database.{rows_where, is_of_district, is_of_order}
use Rattle.schema.proofs.KeyOrders.{orders_total, orders_exact}
use Rattle.schema.proofs.EachRows.{EachRow-table}
use Rattle.machine.proofs.RowsAdded.{IsAdded, added-insert}

first : (b c : Bool) → T (b && c) → T b
first true c h = tt
first false c h = h

second : (b c : Bool) → T (b && c) → T c
second true c h = h
second false c h = absurd h

passes_first : (b c : Bool) → IsTrue (b && c) → IsTrue b
passes_first true c h = refl
passes_first false c h = h

passes_rest : (b c : Bool) → IsTrue (b && c) → IsTrue c
passes_rest true c h = h
passes_rest false c h = absurd cc

abbrev one : Bool → ℕ
one b = cond b 1 0

same_numbers : (a b : OrderKey) → a.w_id ≡ b.w_id → a.d_id ≡ b.d_id → a.o_id ≡ b.o_id → a ≡ b
same_numbers a b w d o =
    let numbers : (a.w_id, (a.d_id, a.o_id)) ≡ (b.w_id, (b.d_id, b.o_id)) = cc in
    ap (λ (p : ℕ × (ℕ × ℕ)). record { w_id = p.0; d_id = p.1.0; o_id = p.1.1 }) numbers

-- a line is of the order that its key names
pub order_is : (order : OrderKey) (line : OrderLineKey) → is_of_order order line ≡ true → order ≡ order_of_line line
order_is order line h = same_numbers order (order_of_line line) (grind (arith, nat_tests)) (grind (arith, nat_tests)) (grind (arith, nat_tests))

-- a line of a later key is of another order
later_is_other : (line : OrderLineKey) (order : OrderKey) → T (is_lt (order_cmp (order_of_line line) order)) → is_of_order order line ≡ false
later_is_other line order below =
    elim (is_of_order order line) as (λ b. is_of_order order line ≡ b → b ≡ false) [
      | true ↦ λ e.
          let same : order ≡ order_of_line line = order_is order line e in
          let tied : order_cmp order order ≡ Equal = tied_itself orders_total order in
          let not_less : is_lt (order_cmp (order_of_line line) order) ≡ false = ap (λ k. is_lt (order_cmp k order)) (sym same) ∙ ap is_lt tied in
          absurd (subst T not_less below)
      | false ↦ λ e. refl
    ] refl

module _ (home : DistrictKey) where
  -- how many of the district's orders a line is of
  abbrev hits : OrderLineKey → List (OrderKey × Order) → ℕ
  hits line [] = 0
  hits line (e ∷ es) = cond (is_of_district home e.0) (one (is_of_order e.0 line) + hits line es) (hits line es)

  -- how many lines the district's orders have together
  abbrev each_lines : List (OrderLineKey × OrderLine) → List (OrderKey × Order) → ℕ
  each_lines ls [] = 0
  each_lines ls (e ∷ es) = cond (is_of_district home e.0) (length (filter (λ l. is_of_order e.0 l.0) ls) + each_lines ls es) (each_lines ls es)

  no_hits : (line : OrderLineKey) (es : List (OrderKey × Order)) → T (below_all order_cmp (order_of_line line) es) → hits line es ≡ 0
  no_hits line [] h = refl
  no_hits line (e ∷ es) h =
      let other : one (is_of_order e.0 line) ≡ 0 = ap one (later_is_other line e.0 (first _ _ h)) in
      let below : T (below_all order_cmp (order_of_line line) es) = second (is_lt (order_cmp (order_of_line line) e.0)) (below_all order_cmp (order_of_line line) es) h in
      let rest : hits line es ≡ 0 = no_hits line es below in
      elim (is_of_district home e.0) as (λ b. cond b (one (is_of_order e.0 line) + hits line es) (hits line es) ≡ 0) [
        | true ↦ omega arith
        | false ↦ rest
      ]

  -- a line is of one order at most, and of none where it is of another district
  few_hits : (line : OrderLineKey) (es : List (OrderKey × Order)) → T (is_sorted order_cmp es) → hits line es ≤ one (is_of_district home (order_of_line line))
  few_hits line [] h = omega arith
  few_hits line (e ∷ es) h =
      let below : T (below_all order_cmp e.0 es) = first (below_all order_cmp e.0 es) (is_sorted order_cmp es) h in
      let sorted : T (is_sorted order_cmp es) = second (below_all order_cmp e.0 es) (is_sorted order_cmp es) h in
      let rest : hits line es ≤ one (is_of_district home (order_of_line line)) = few_hits line es sorted in
      elim (is_of_district home e.0) as (λ b. is_of_district home e.0 ≡ b → cond b (one (is_of_order e.0 line) + hits line es) (hits line es) ≤ one (is_of_district home (order_of_line line))) [
        | true ↦ λ there. elim (is_of_order e.0 line) as (λ c. is_of_order e.0 line ≡ c → one c + hits line es ≤ one (is_of_district home (order_of_line line))) [
          | true ↦ λ t.
              let same : e.0 ≡ order_of_line line = order_is e.0 line t in
              let of_home : one (is_of_district home (order_of_line line)) ≡ 1 = ap one (ap (is_of_district home) (sym same) ∙ there) in
              let none : hits line es ≡ 0 = no_hits line es (subst (λ k. T (below_all order_cmp k es)) same below) in
              omega arith
          | false ↦ λ t. omega arith
        ] refl
        | false ↦ λ there. rest
      ] refl

  one_line : (l : OrderLineKey × OrderLine) (ls : List (OrderLineKey × OrderLine)) (es : List (OrderKey × Order)) → each_lines (l ∷ ls) es ≡ hits l.0 es + each_lines ls es
  one_line l ls [] = omega arith
  one_line l ls (e ∷ es) =
      let rest : each_lines (l ∷ ls) es ≡ hits l.0 es + each_lines ls es = one_line l ls es in
      let others = filter (λ (l : OrderLineKey × OrderLine). is_of_order e.0 l.0) ls in
      elim (is_of_district home e.0) as (λ b. cond b (length (cond (is_of_order e.0 l.0) (l ∷ others) others) + each_lines (l ∷ ls) es) (each_lines (l ∷ ls) es)
      ≡ cond b (one (is_of_order e.0 l.0) + hits l.0 es) (hits l.0 es) + cond b (length others + each_lines ls es) (each_lines ls es)) [
        | true ↦ elim (is_of_order e.0 l.0) as (λ c. length (cond c (l ∷ others) others) + each_lines (l ∷ ls) es ≡ one c + hits l.0 es + (length others + each_lines ls es)) [
          | true ↦ omega arith
          | false ↦ omega arith
        ]
        | false ↦ rest
      ]

  no_lines : (es : List (OrderKey × Order)) → each_lines [] es ≡ 0
  no_lines [] = refl
  no_lines (e ∷ es) =
      let rest : each_lines [] es ≡ 0 = no_lines es in
      elim (is_of_district home e.0) as (λ b. cond b (0 + each_lines [] es) (each_lines [] es) ≡ 0) [
        | true ↦ omega arith
        | false ↦ rest
      ]

  -- orders that are in order have no more lines together than the district has
  lines_fit : (es : List (OrderKey × Order)) → T (is_sorted order_cmp es) → (ls : List (OrderLineKey × OrderLine))
      → each_lines ls es ≤ length (filter (λ l. is_of_district home (order_of_line l.0)) ls)
  lines_fit es h [] = let none : each_lines [] es ≡ 0 = no_lines es in omega arith
  lines_fit es h (l ∷ ls) =
      let of_home = λ (l : OrderLineKey × OrderLine). is_of_district home (order_of_line l.0) in
      let rest : each_lines ls es ≤ length (filter of_home ls) = lines_fit es h ls in
      let more : each_lines (l ∷ ls) es ≡ hits l.0 es + each_lines ls es = one_line l ls es in
      elim (of_home l) as (λ b. hits l.0 es ≤ one b → each_lines (l ∷ ls) es ≤ length (cond b (l ∷ filter of_home ls) (filter of_home ls))) [
        | true ↦ λ few. omega arith
        | false ↦ λ few. omega arith
      ] (few_hits l.0 es h)

  each_lines-append : (ls : List (OrderLineKey × OrderLine)) (es fs : List (OrderKey × Order)) → each_lines ls (es ++ fs) ≡ each_lines ls es + each_lines ls fs
  each_lines-append ls [] fs = omega arith
  each_lines-append ls (e ∷ es) fs =
      let rest : each_lines ls (es ++ fs) ≡ each_lines ls es + each_lines ls fs = each_lines-append ls es fs in
      let own = length (filter (λ (l : OrderLineKey × OrderLine). is_of_order e.0 l.0) ls) in
      elim (is_of_district home e.0) as (λ b. cond b (own + each_lines ls (es ++ fs)) (each_lines ls (es ++ fs)) ≡ cond b (own + each_lines ls es) (each_lines ls es) + each_lines ls fs) [
        | true ↦ omega arith
        | false ↦ rest
      ]

  each_lines-added : (ls : List (OrderLineKey × OrderLine)) (e : OrderKey × Order) (old new : List (OrderKey × Order)) → IsAdded e old new → is_of_district home e.0 ≡ true
      → each_lines ls new ≡ each_lines ls old + length (filter (λ l. is_of_order e.0 l.0) ls)
  each_lines-added ls e old new a of_home =
      let own = length (filter (λ (l : OrderLineKey × OrderLine). is_of_order e.0 l.0) ls) in
      let had : each_lines ls old ≡ each_lines ls a.before + each_lines ls a.after = ap (each_lines ls) a.old_is ∙ each_lines-append ls a.before a.after in
      let has : each_lines ls new ≡ each_lines ls a.before + each_lines ls (e ∷ a.after) = ap (each_lines ls) a.new_is ∙ each_lines-append ls a.before (e ∷ a.after) in
      let more : each_lines ls (e ∷ a.after) ≡ own + each_lines ls a.after = ap (λ b. cond b (own + each_lines ls a.after) (each_lines ls a.after)) of_home in
      omega arith

  -- where each order counts its lines, their counts are as many
  counted : (ls : List (OrderLineKey × OrderLine)) (es : List (OrderKey × Order)) → IsTrue (list_all (λ e. e.1.ol_cnt == length (filter (λ l. is_of_order e.0 l.0) ls)) es)
      → sum (map (λ e. e.1.ol_cnt) (filter (λ e. is_of_district home e.0) es)) ≡ each_lines ls es
  counted ls [] h = refl
  counted ls (e ∷ es) h =
      let own = length (filter (λ (l : OrderLineKey × OrderLine). is_of_order e.0 l.0) ls) in
      let kept = filter (λ (e : OrderKey × Order). is_of_district home e.0) es in
      let count_holds = λ (e : OrderKey × Order). e.1.ol_cnt == length (filter (λ (l : OrderLineKey × OrderLine). is_of_order e.0 l.0) ls) in
      let here : (e.1.ol_cnt == own) ≡ true = passes_first (count_holds e) (list_all count_holds es) h in
      let others : IsTrue (list_all count_holds es) = passes_rest (count_holds e) (list_all count_holds es) h in
      let is : e.1.ol_cnt ≡ own = grind (arith, nat_tests) in
      let rest : sum (map (λ e. e.1.ol_cnt) kept) ≡ each_lines ls es = counted ls es others in
      let more : sum (e.1.ol_cnt ∷ map (λ e. e.1.ol_cnt) kept) ≡ e.1.ol_cnt + sum (map (λ e. e.1.ol_cnt) kept) = sum_by-cons (λ n. n) e.1.ol_cnt (map (λ (e : OrderKey × Order). e.1.ol_cnt) kept) in
      elim (is_of_district home e.0) as (λ b. sum (map (λ e. e.1.ol_cnt) (cond b (e ∷ kept) kept)) ≡ cond b (own + each_lines ls es) (each_lines ls es)) [
        | true ↦ omega arith
        | false ↦ rest
      ]

no_length : {X : Type 0} (xs : List X) → length xs ≡ 0 → xs ≡ []
no_length [] e = refl
no_length (x ∷ xs) e = absurd (omega arith)

same_count : (a b : ℕ) → a ≡ b → IsTrue (a == b)
same_count a b e = grind (arith, nat_tests)

-- where the counts of a district's orders are those of its lines, a key with no order has no line
pub no_lines_yet : (orders : FinMap order_cmp Order) (lines : FinMap line_cmp OrderLine) (home : DistrictKey) (key : OrderKey) (row : Order)
    → is_of_district home key ≡ true → get orders key ≡ None
    → sum (map (λ order. order.1.ol_cnt) (rows_where (is_of_district home) orders)) ≡ length (rows_where (λ k. is_of_district home (order_of_line k)) lines)
    → ((k : OrderKey) (r : Order) → get orders k ≡ Some r → r.ol_cnt ≡ length (rows_where (is_of_order k) lines))
    → rows_where (is_of_order key) lines ≡ []
no_lines_yet orders lines home key row of_home none total each =
    let ls = entries lines in
    let with_it = entries (insert orders key row) in
    let own = length (rows_where (is_of_order key) lines) in
    let fits : each_lines home ls with_it ≤ length (rows_where (λ k. is_of_district home (order_of_line k)) lines) = lines_fit home with_it (entries_sorted (insert orders key row)) ls in
    let more : each_lines home ls with_it ≡ each_lines home ls (entries orders) + own = each_lines-added home ls (key, row) (entries orders) with_it (added-insert orders_total orders key row none) of_home in
    let all = (EachRow-table orders_total orders_exact (λ k r. r.ol_cnt == length (rows_where (is_of_order k) lines)) orders).1 (λ k r found. same_count _ _ (each k r found)) in
    let had : sum (map (λ order. order.1.ol_cnt) (rows_where (is_of_district home) orders)) ≡ each_lines home ls (entries orders) = counted home ls (entries orders) all in
    let nothing : own ≡ 0 = omega arith in
    no_length (rows_where (is_of_order key) lines) nothing
