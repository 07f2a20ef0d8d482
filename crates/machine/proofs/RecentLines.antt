-- A district's 20 orders have RECENT_LINES lines at most.
use Rattle.std.proofs.Common.{◌≡◌, ℕ, ◌+◌, ◌-◌, ◌*◌, ◌≤◌, Bool, true, false, cond, ◌&&◌, T, List, [], ◌∷◌, length, filter, IsTrue, refl, sym, ◌∙◌, arith}
use Rattle.std.specs.List.{list_all}
use Rattle.std.proofs.lemmas.Bool.Decides.{nat_tests}
use Rattle.std.specs.declared.cmp.Ordering.{Ordering}
use Rattle.std.specs.declared.cmp.Ordering.TheVariants.{Less, Equal, Greater}
use Rattle.std.specs.Ordering.{nat_cmp, ordering_then, is_lt}
use Rattle.std.specs.FinMap.{entries, entries_sorted}
use Rattle.std.specs.FinMap.Entries.{is_sorted, below_all}
use Rattle.rows.specs.Keys.{line_cmp}
use Rattle.rows.specs.declared.keys.DistrictKey.{DistrictKey}
use Rattle.rows.specs.declared.keys.OrderLineKey.{OrderLineKey}
use Rattle.rows.specs.declared.records.OrderLine.{OrderLine}
use Rattle.rows.specs.declared.limits.TheConstants.{LAST_LINE, RECENT_LINES}
use Rattle.schema.specs.Database.{Database, LinesNumbered, is_line_number, rows_where}
use Rattle.schema.specs.OrderRows.{is_in_span}
use Rattle.schema.proofs.EachRows.{EachRow-table}
use Rattle.schema.proofs.KeyOrders.{lines_total, lines_exact}

first : (b c : Bool) → T (b && c) → T b
first true c h = tt
first false c h = h

second : (b c : Bool) → T (b && c) → T c
second true c h = h
second false c h = absurd h

passes_first : (b c : Bool) → IsTrue (b && c) → IsTrue b
passes_first true c h = refl
passes_first false c h = h

passes_rest : (b c : Bool) → IsTrue (b && c) → IsTrue c
passes_rest true c h = h
passes_rest false c h = absurd cc

is_less : (r : Ordering) → T (is_lt r) → r ≡ Less
is_less Less h = refl
is_less Equal h = absurd h
is_less Greater h = absurd h

-- the line's place among the places of the district's lines, LAST_LINE to an order
abbrev rank : OrderLineKey → ℕ
rank key = key.o_id * LAST_LINE + key.number

module _ (home : DistrictKey) (from to : ℕ) where
  abbrev within : OrderLineKey → Bool
  within key = is_in_span home from to key

  abbrev numbered : List (OrderLineKey × OrderLine) → Bool
  numbered es = list_all (λ e. is_line_number e.0.number) es

  -- a later line has a greater place
  rises : (a b : OrderLineKey) → IsTrue (within a) → IsTrue (within b) → IsTrue (is_line_number a.number) → IsTrue (is_line_number b.number)
      → line_cmp a b ≡ Less → rank a + 1 ≤ rank b
  rises a b a_in b_in a_small b_small less =
      let w : nat_cmp a.w_id b.w_id ≡ Equal = grind (arith, nat_tests) in
      let d : nat_cmp a.d_id b.d_id ≡ Equal = grind (arith, nat_tests) in
      let below : ordering_then (nat_cmp a.o_id b.o_id) (nat_cmp a.number b.number) ≡ Less = sym (rw (w, d) refl) ∙ less in
      let most : a.number ≤ LAST_LINE = grind (arith, nat_tests) in
      let some : 1 ≤ b.number = grind (arith, nat_tests) in
      elim (nat_cmp a.o_id b.o_id) as (λ r. nat_cmp a.o_id b.o_id ≡ r → ordering_then r (nat_cmp a.number b.number) ≡ Less → rank a + 1 ≤ rank b) [
        | Less ↦ λ e h. let order : a.o_id + 1 ≤ b.o_id = grind (arith, nat_tests) in omega arith
        | Equal ↦ λ e h.
            let order : a.o_id ≡ b.o_id = grind (arith, nat_tests) in
            let number : a.number + 1 ≤ b.number = grind (arith, nat_tests) in
            omega arith
        | Greater ↦ λ e h. absurd cc
      ] refl below

  -- no line of the span has a lesser place than this
  abbrev From : ℕ → List (OrderLineKey × OrderLine) → Type 0
  From low [] = Unit {0}
  From low (e ∷ es) = (IsTrue (within e.0) → low ≤ rank e.0) × From low es

  later : (a : OrderLineKey) → IsTrue (within a) → IsTrue (is_line_number a.number) → (es : List (OrderLineKey × OrderLine))
      → T (below_all line_cmp a es) → IsTrue (numbered es) → From (rank a + 1) es
  later a a_in a_small [] below small = tt
  later a a_in a_small (e ∷ es) below small = (
    λ e_in. rises a e.0 a_in e_in a_small (passes_first (is_line_number e.0.number) (numbered es) small) (is_less (line_cmp a e.0) (first (is_lt (line_cmp a e.0)) (below_all line_cmp a es) below)),
    later a a_in a_small es (second (is_lt (line_cmp a e.0)) (below_all line_cmp a es) below) (passes_rest (is_line_number e.0.number) (numbered es) small),
  )

  all_from : (es : List (OrderLineKey × OrderLine)) → IsTrue (numbered es) → From (from * LAST_LINE + 1) es
  all_from [] small = tt
  all_from (e ∷ es) small = (
    λ e_in.
        let number : IsTrue (is_line_number e.0.number) = passes_first (is_line_number e.0.number) (numbered es) small in
        let some : 1 ≤ e.0.number = grind (arith, nat_tests) in
        let order : from ≤ e.0.o_id = grind (arith, nat_tests) in
        omega arith,
    all_from es (passes_rest (is_line_number e.0.number) (numbered es) small),
  )

  few_from : (es : List (OrderLineKey × OrderLine)) → T (is_sorted line_cmp es) → IsTrue (numbered es) → (low : ℕ) → low ≤ to * LAST_LINE + 1 → From low es
      → length (filter (λ e. within e.0) es) + low ≤ to * LAST_LINE + 1
  few_from [] sorted small low fits above = omega arith
  few_from (e ∷ es) sorted small low fits above =
      let below : T (below_all line_cmp e.0 es) = first (below_all line_cmp e.0 es) (is_sorted line_cmp es) sorted in
      let rest : T (is_sorted line_cmp es) = second (below_all line_cmp e.0 es) (is_sorted line_cmp es) sorted in
      let number : IsTrue (is_line_number e.0.number) = passes_first (is_line_number e.0.number) (numbered es) small in
      let others : IsTrue (numbered es) = passes_rest (is_line_number e.0.number) (numbered es) small in
      elim (within e.0) as (λ b. within e.0 ≡ b → length (cond b (e ∷ filter (λ e. within e.0) es) (filter (λ e. within e.0) es)) + low ≤ to * LAST_LINE + 1) [
        | true ↦ λ there.
            let here : low ≤ rank e.0 = above.0 there in
            let most : e.0.number ≤ LAST_LINE = grind (arith, nat_tests) in
            let order : e.0.o_id + 1 ≤ to = grind (arith, nat_tests) in
            let more : length (filter (λ (e : OrderLineKey × OrderLine). within e.0) es) + (rank e.0 + 1) ≤ to * LAST_LINE + 1 =
            few_from es rest others (rank e.0 + 1) (omega arith) (later e.0 there number es below others) in
            omega arith
        | false ↦ λ there. few_from es rest others low fits above.1
      ] refl

-- the 20 orders before the next one
pub few_lines : (t : Database) → LinesNumbered t → (home : DistrictKey) (next : ℕ) → length (rows_where (is_in_span home (next - 20) next) t.lines) ≤ RECENT_LINES
few_lines t are_numbered home next =
    let from = next - 20 in
    let small : IsTrue (numbered home from next (entries t.lines)) = (EachRow-table lines_total lines_exact (λ key _. is_line_number key.number) t.lines).1 are_numbered in
    let few : length (rows_where (is_in_span home (next - 20) next) t.lines) + (from * LAST_LINE + 1) ≤ next * LAST_LINE + 1 =
    few_from home from next (entries t.lines) (entries_sorted t.lines) small (from * LAST_LINE + 1) (omega arith) (all_from home from next (entries t.lines) small) in
    omega arith
