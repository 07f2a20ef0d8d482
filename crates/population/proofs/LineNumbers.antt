-- Which numbers the lines of an order have.
use Rattle.std.proofs.Common.{◌≡◌, ℕ, zero, suc, ◌+◌, true, false, cond, ◌&&◌, ◌==◌, nat_le, nat_lt, List, [], ◌∷◌, map, refl, sym, ap, ◌∙◌, arith, append-nil}
use Rattle.std.specs.Prelude.{◌||◌}
use Rattle.std.specs.List.{filter, flat_map, list_any, range_with_len}
use Rattle.std.specs.declared.cmp.Ordering.{Ordering}
use Rattle.std.specs.declared.cmp.Ordering.TheVariants.{Less, Equal, Greater}
use Rattle.std.specs.Ordering.{eq_by_cmp, is_eq, nat_cmp, ordering_then}
use Rattle.std.proofs.lemmas.Bool.Decides.{nat_tests}
use Rattle.std.proofs.lemmas.List.Folds.{list_any-append}
use Rattle.rows.specs.declared.keys.OrderKey.{OrderKey}
use Rattle.rows.specs.declared.records.Order.{Order}
use Rattle.rows.specs.Keys.{order_cmp, line_cmp}
use Rattle.rows.specs.Ranged.{is_between}
use Rattle.schema.specs.OrderRows.{line_key}
use Rattle.population.specs.Book.{line_keys}

then_equal : (w d o n : Ordering) → is_eq (ordering_then w (ordering_then d (ordering_then o n))) ≡ (is_eq (ordering_then w (ordering_then d o)) && is_eq n)
then_equal Less d o n = refl
then_equal Greater d o n = refl
then_equal Equal Less o n = refl
then_equal Equal Greater o n = refl
then_equal Equal Equal Less n = refl
then_equal Equal Equal Greater n = refl
then_equal Equal Equal Equal n = refl

pub same_number : (q j : ℕ) → is_eq (nat_cmp q j) ≡ (j == q)
same_number q j = grind (arith, nat_tests)

same_line : (key other : OrderKey) (number n : ℕ) → eq_by_cmp line_cmp (line_key key number) (line_key other n) ≡ (eq_by_cmp order_cmp key other && (n == number))
same_line key other number n =
    then_equal (nat_cmp key.w_id other.w_id) (nat_cmp key.d_id other.d_id) (nat_cmp key.o_id other.o_id) (nat_cmp number n)
    ∙ ap (λ b. eq_by_cmp order_cmp key other && b) (same_number number n)

none_in : (first number : ℕ) → false ≡ (nat_le first number && nat_lt number (first + 0))
none_in first number = grind (arith, nat_tests)

one_in : (first number count : ℕ) → ((first == number) || (nat_le (first + 1) number && nat_lt number (first + 1 + count))) ≡ (nat_le first number && nat_lt number (first + suc count))
one_in first number count = grind (arith, nat_tests)

-- a line of that number is among those of one order
among : (key other : OrderKey) (number first count : ℕ)
    → list_any (eq_by_cmp line_cmp (line_key key number)) (map (line_key other) (range_with_len first count)) ≡ (eq_by_cmp order_cmp key other && (nat_le first number && nat_lt number (first + count)))
among key other number first zero =
    elim (eq_by_cmp order_cmp key other) as (λ b. false ≡ (b && (nat_le first number && nat_lt number (first + 0)))) [
      | true ↦ none_in first number
      | false ↦ refl
    ]
among key other number first (suc count) =
    ap (λ b. b || list_any (eq_by_cmp line_cmp (line_key key number)) (map (line_key other) (range_with_len (first + 1) count))) (same_line key other number first)
    ∙ ap (λ b. (eq_by_cmp order_cmp key other && (first == number)) || b) (among key other number (first + 1) count)
    ∙ elim (eq_by_cmp order_cmp key other) as (λ b. ((b && (first == number)) || (b && (nat_le (first + 1) number && nat_lt number (first + 1 + count)))) ≡ (b && (nat_le first number && nat_lt number (first + suc count)))) [
      | true ↦ one_in first number count
      | false ↦ refl
    ]

-- only lines of the orders of that key count
among_kept : (key : OrderKey) (number : ℕ) (es : List (OrderKey × Order))
    → list_any (eq_by_cmp line_cmp (line_key key number)) (flat_map line_keys es) ≡ list_any (eq_by_cmp line_cmp (line_key key number)) (flat_map line_keys (filter (λ e. eq_by_cmp order_cmp key e.0) es))
among_kept key number [] = refl
among_kept key number (e ∷ es) =
    let test = eq_by_cmp line_cmp (line_key key number) in
    let kept = filter (λ (e : OrderKey × Order). eq_by_cmp order_cmp key e.0) es in
    let rest : list_any test (flat_map line_keys es) ≡ list_any test (flat_map line_keys kept) = among_kept key number es in
    list_any-append test (line_keys e) (flat_map line_keys es)
    ∙ ap (λ b. list_any test (line_keys e) || b) rest
    ∙ elim (eq_by_cmp order_cmp key e.0) as (λ b. eq_by_cmp order_cmp key e.0 ≡ b → (list_any test (line_keys e) || list_any test (flat_map line_keys kept)) ≡ list_any test (flat_map line_keys (cond b (e ∷ kept) kept))) [
      | true ↦ λ t. sym (list_any-append test (line_keys e) (flat_map line_keys kept))
      | false ↦ λ t.
          ap (λ b. b || list_any test (flat_map line_keys kept))
          (among key e.0 number 1 e.1.ol_cnt ∙ ap (λ b. b && (nat_le 1 number && nat_lt number (1 + e.1.ol_cnt))) t)
    ] refl

to_last : (number count : ℕ) → (nat_le 1 number && nat_lt number (1 + count)) ≡ is_between 1 count number
to_last number count = grind (arith, nat_tests)

-- of the one order of that key, those from 1 to O_OL_CNT
pub numbered_in : (key : OrderKey) (row : Order) (number : ℕ) (es : List (OrderKey × Order)) → eq_by_cmp order_cmp key key ≡ true
    → filter (λ e. eq_by_cmp order_cmp key e.0) es ≡ (key, row) ∷ []
    → list_any (eq_by_cmp line_cmp (line_key key number)) (flat_map line_keys es) ≡ is_between 1 row.ol_cnt number
numbered_in key row number es itself one =
    let test = eq_by_cmp line_cmp (line_key key number) in
    among_kept key number es
    ∙ ap (λ (l : List (OrderKey × Order)). list_any test (flat_map line_keys l)) one
    ∙ ap (list_any test) (append-nil (line_keys (key, row)))
    ∙ among key key number 1 row.ol_cnt
    ∙ ap (λ b. b && (nat_le 1 number && nat_lt number (1 + row.ol_cnt))) itself
    ∙ to_last number row.ol_cnt
