-- How many lines orders have.
use Rattle.std.proofs.Common.{◌≡◌, ℕ, zero, suc, ◌+◌, Bool, true, false, cond, List, [], ◌∷◌, map, length, Some, sum, refl, sym, ap, ◌∙◌, arith, length-append}
use Rattle.std.proofs.lemmas.List.Elements.{filter-append}
use Rattle.std.proofs.lemmas.List.Sums.{sum_by-cons}
use Rattle.std.specs.List.{AllByRecursion, filter, flat_map, range_with_len}
use Rattle.std.specs.List.Sorted.{IsStrictlySortedBy}
use Rattle.std.specs.Map.{keys_of}
use Rattle.std.specs.declared.cmp.Ordering.{Ordering}
use Rattle.std.specs.declared.cmp.Ordering.TheVariants.{Less}
use Rattle.std.specs.Ordering.{eq_by_cmp, is_eq}
use Rattle.std.specs.Cmp.{IsTotalOrder}
use Rattle.std.specs.FinMap.{IsAntisymmetric}
use Rattle.std.specs.FinMap.Entries.{find}
use Rattle.std.proofs.lemmas.Map.Keys.{sorted_head, sorted_tail}
use Rattle.rows.specs.declared.keys.OrderKey.{OrderKey}
use Rattle.rows.specs.declared.keys.OrderLineKey.{OrderLineKey}
use Rattle.rows.specs.declared.records.Order.{Order}
use Rattle.rows.specs.Keys.{order_of_line}
use Rattle.schema.specs.OrderRows.{line_key}
use Rattle.schema.proofs.EachRows.{is_equal}
use Rattle.population.specs.Book.{line_keys}

no_lines : (b : Bool) (n : ℕ) → n ≡ cond b n n
no_lines true n = refl
no_lines false n = refl

-- the lines of one order all pass, or none does
one_order : (test : OrderKey → Bool) (order : OrderKey) (first count : ℕ)
    → length (filter (λ key. test (order_of_line key)) (map (line_key order) (range_with_len first count))) ≡ cond (test order) count 0
one_order test order first zero = no_lines (test order) 0
one_order test order first (suc count) =
    let rest = one_order test order (first + 1) count in
    let others = filter (λ key. test (order_of_line key)) (map (line_key order) (range_with_len (first + 1) count)) in
    elim (test order) as (λ b. length others ≡ cond b count 0 → length (cond b (line_key order first ∷ others) others) ≡ cond b (suc count) 0) [
      | true ↦ λ r. ap (λ n. suc n) r
      | false ↦ λ r. r
    ] rest

-- the lines of the orders that pass a test are counted by these orders
pub lines_counted : (test : OrderKey → Bool) (es : List (OrderKey × Order))
    → length (filter (λ key. test (order_of_line key)) (flat_map line_keys es)) ≡ sum (map (λ e. e.1.ol_cnt) (filter (λ e. test e.0) es))
lines_counted test [] = refl
lines_counted test (e ∷ es) =
    let of_line = λ (key : OrderLineKey). test (order_of_line key) in
    let kept = filter (λ (e : OrderKey × Order). test e.0) es in
    let rest : length (filter of_line (flat_map line_keys es)) ≡ sum (map (λ e. e.1.ol_cnt) kept) = lines_counted test es in
    ap length (filter-append of_line (line_keys e) (flat_map line_keys es))
    ∙ length-append (filter of_line (line_keys e)) (filter of_line (flat_map line_keys es))
    ∙ ap (λ n. n + length (filter of_line (flat_map line_keys es))) (one_order test e.0 1 e.1.ol_cnt)
    ∙ ap (λ n. cond (test e.0) e.1.ol_cnt 0 + n) rest
    ∙ elim (test e.0) as (λ b. cond b e.1.ol_cnt 0 + sum (map (λ e. e.1.ol_cnt) kept) ≡ sum (map (λ e. e.1.ol_cnt) (cond b (e ∷ kept) kept))) [
      | true ↦ sym (sum_by-cons (λ n. n) e.1.ol_cnt (map (λ (e : OrderKey × Order). e.1.ol_cnt) kept))
      | false ↦ let z : 0 + sum (map (λ (e : OrderKey × Order). e.1.ol_cnt) kept) ≡ sum (map (λ (e : OrderKey × Order). e.1.ol_cnt) kept) = omega arith in z
    ]

-- a test of the keys
pub kept_lines : {X : Type 0} (test : OrderLineKey → Bool) (es : List (OrderLineKey × X)) → length (filter (λ e. test e.0) es) ≡ length (filter test (keys_of es))
kept_lines test [] = refl
kept_lines test (e ∷ es) =
    elim (test e.0) as (λ b. length (cond b (e ∷ filter (λ e. test e.0) es) (filter (λ e. test e.0) es)) ≡ length (cond b (e.0 ∷ filter test (keys_of es)) (filter test (keys_of es)))) [
      | true ↦ ap (λ n. suc n) (kept_lines test es)
      | false ↦ kept_lines test es
    ]

module _ {K X : Type 0} {R : K → K → Ordering} (o : IsTotalOrder R) (a : IsAntisymmetric R) where
  none_later : (q : K) (es : List (K × X)) → AllByRecursion (λ k. R q k ≡ Less) (keys_of es) → filter (λ e. eq_by_cmp R q e.0) es ≡ []
  none_later q [] below = refl
  none_later q (e ∷ es) below =
      let other : eq_by_cmp R q e.0 ≡ false = ap is_eq below.0 in
      rw other (none_later q es below.1)

  -- one entry has the key
  pub one_kept : (q : K) (row : X) (es : List (K × X)) → IsStrictlySortedBy R (keys_of es) → find R q es ≡ Some row → filter (λ e. eq_by_cmp R q e.0) es ≡ (q, row) ∷ []
  one_kept q row [] sorted found = absurd cc
  one_kept q row (e ∷ es) sorted found =
      elim (eq_by_cmp R q e.0) as (λ b. eq_by_cmp R q e.0 ≡ b → cond b (Some e.1) (find R q es) ≡ Some row → cond b (e ∷ filter (λ e. eq_by_cmp R q e.0) es) (filter (λ e. eq_by_cmp R q e.0) es) ≡ (q, row) ∷ []) [
        | true ↦ λ t f.
            let same : q ≡ e.0 = a q e.0 (is_equal _ t) in
            let is : e.1 ≡ row = cc in
            let whole : e ≡ (q, row) = ap (λ k. (k, e.1)) (sym same) ∙ ap (λ x. (q, x)) is in
            let none : filter (λ (e : K × X). eq_by_cmp R q e.0) es ≡ [] = none_later q es (rw same (sorted_head R e.0 (keys_of es) sorted)) in
            ap (λ l. e ∷ l) none ∙ ap (λ x. x ∷ []) whole
        | false ↦ λ t f. one_kept q row es (sorted_tail R e.0 (keys_of es) sorted) f
      ] refl found
