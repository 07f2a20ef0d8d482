-- The moments of an order's lines, written at their numbers one after another.
use Rattle.std.proofs.Common.{◌≡◌, ◌≢◌, ℕ, ◌+◌, ◌-◌, ◌<◌, Bool, true, false, cond, ◌&&◌, ◌==◌, nat_le, List, [], ◌∷◌, length, replicate, slice_index_or, slice_set, Option, Some, None, refl, sym, ap, subst, ◌∙◌, T, arith}
use Rattle.std.specs.declared.cmp.Ordering.TheVariants.{Less, Equal, Greater}
use Rattle.std.specs.List.{list_all, filter}
use Rattle.std.specs.Ordering.{eq_by_cmp, is_eq, is_lt}
use Rattle.std.specs.Option.{option_and_then, option_map, unwrap_or}
use Rattle.std.specs.Cmp.{eq_by_cmp_equiv}
use Rattle.std.specs.FinMap.{entries, entries_sorted, get-entries}
use Rattle.std.specs.FinMap.Entries.{find, is_sorted, below_all, find-where_key, is_sorted-where_key}
use Rattle.std.proofs.lemmas.Bool.Decides.{nat_tests}
use Rattle.std.proofs.lemmas.List.{length-set, get_or-set_same, get_or-set_other, get_or-replicate}
use Rattle.rows.specs.declared.keys.OrderKey.{OrderKey}
use Rattle.rows.specs.declared.keys.OrderLineKey.{OrderLineKey}
use Rattle.rows.specs.declared.records.OrderLine.{OrderLine}
use Rattle.rows.specs.Keys.{line_cmp}
use Rattle.rows.specs.declared.limits.TheConstants.{LAST_LINE, MOST_LINES}
use Rattle.schema.specs.Database.{is_of_order, rows_where}
use Rattle.schema.specs.OrderRows.{LineTable, line_key}
use Rattle.schema.proofs.KeyOrders.{lines_total, lines_exact}
use Rattle.partitions.specs.Deliveries.{moment_at}
use Rattle.partitions.proofs.Undelivered.{is_equal, line_test}

-- the moments with that of this line, where its number is one of an order's
abbrev pub with_line : OrderLineKey × OrderLine → List (Option ℕ) → List (Option ℕ)
with_line line moments = cond (nat_le 1 line.0.number && nat_le line.0.number LAST_LINE) (slice_set moments (line.0.number - 1) line.1.delivery_d) moments

-- and with those of these lines
abbrev pub written : List (OrderLineKey × OrderLine) → List (Option ℕ) → List (Option ℕ)
written [] moments = moments
written (line ∷ lines) moments = written lines (with_line line moments)

-- there are as many
length-with_line : (line : OrderLineKey × OrderLine) (moments : List (Option ℕ)) → length (with_line line moments) ≡ length moments
length-with_line line moments =
    elim (nat_le 1 line.0.number && nat_le line.0.number LAST_LINE) as (λ b. length (cond b (slice_set moments (line.0.number - 1) line.1.delivery_d) moments) ≡ length moments) [
      | true ↦ length-set moments (line.0.number - 1) line.1.delivery_d
      | false ↦ refl
    ]

-- the line's moment is at its number
at_line : (line : OrderLineKey × OrderLine) (moments : List (Option ℕ)) (n : ℕ) → n < MOST_LINES → length moments ≡ MOST_LINES → (line.0.number == n + 1) ≡ true
    → slice_index_or (with_line line moments) n None ≡ line.1.delivery_d
at_line line moments n few long e =
    let inside : (nat_le 1 line.0.number && nat_le line.0.number LAST_LINE) ≡ true = grind (arith, nat_tests) in
    let place : line.0.number - 1 ≡ n = grind (arith, nat_tests) in
    ap (λ b. slice_index_or (cond b (slice_set moments (line.0.number - 1) line.1.delivery_d) moments) n None) inside
    ∙ ap (λ k. slice_index_or (slice_set moments k line.1.delivery_d) n None) place ∙ get_or-set_same moments n line.1.delivery_d None (omega arith)

-- and elsewhere they are as they were
beside_line : (line : OrderLineKey × OrderLine) (moments : List (Option ℕ)) (n : ℕ) → (line.0.number == n + 1) ≡ false
    → slice_index_or (with_line line moments) n None ≡ slice_index_or moments n None
beside_line line moments n e =
    elim (nat_le 1 line.0.number && nat_le line.0.number LAST_LINE) as (λ b. (nat_le 1 line.0.number && nat_le line.0.number LAST_LINE) ≡ b
    → slice_index_or (cond b (slice_set moments (line.0.number - 1) line.1.delivery_d) moments) n None ≡ slice_index_or moments n None) [
      | true ↦ λ inside.
          let apart : n ≢ line.0.number - 1 = λ same. grind (arith, nat_tests) in
          get_or-set_other moments (line.0.number - 1) n line.1.delivery_d None apart
      | false ↦ λ outside. refl
    ] refl

-- a key before all others isn't among them
not_below : (key : OrderLineKey) (lines : List (OrderLineKey × OrderLine)) → T (below_all line_cmp key lines) → find line_cmp key lines ≡ None
not_below key [] h = refl
not_below key (line ∷ lines) h =
    elim (line_cmp key line.0) as (λ r. T (is_lt r && below_all line_cmp key lines) → cond (is_eq r) (Some line.1) (find line_cmp key lines) ≡ None) [
      | Less ↦ λ k. not_below key lines k
      | Equal ↦ λ k. absurd k
      | Greater ↦ λ k. absurd k
    ] h

-- what passes two tests passes the first
first : (b c : Bool) → T (b && c) → T b
first true c h = tt
first false c h = h

-- and the second
second : (b c : Bool) → T (b && c) → T c
second true c h = h
second false c h = absurd h

-- a test that passes is true
true_of : (b : Bool) → T b → b ≡ true
true_of true h = refl
true_of false h = absurd h

-- what a place has once such a line, or none, is written
abbrev moment_or : Option OrderLine → Option ℕ → Option ℕ
moment_or line was = unwrap_or (option_map (λ (row : OrderLine). row.delivery_d) line) was

-- of lines of the order, each stands at its number
read_written : (order : OrderKey) (n : ℕ) → n < MOST_LINES → (lines : List (OrderLineKey × OrderLine)) (moments : List (Option ℕ)) → length moments ≡ MOST_LINES
    → T (is_sorted line_cmp lines) → T (list_all (λ e. is_of_order order e.0) lines)
    → slice_index_or (written lines moments) n None ≡ moment_or (find line_cmp (line_key order (n + 1)) lines) (slice_index_or moments n None)
read_written order n few [] moments long sorted own = refl
read_written order n few (line ∷ lines) moments long sorted own =
    let key = line_key order (n + 1) in
    let here : eq_by_cmp line_cmp key line.0 ≡ (line.0.number == n + 1) =
    (eq_by_cmp_equiv lines_total).symm key line.0 ∙ line_test order (n + 1) line.0 ∙ ap (λ b. b && (line.0.number == n + 1)) (true_of _ (first _ _ own)) in
    read_written order n few lines (with_line line moments) (length-with_line line moments ∙ long) (second _ _ sorted) (second _ _ own)
    ∙ elim (line.0.number == n + 1) as (λ b. (line.0.number == n + 1) ≡ b
    → moment_or (find line_cmp key lines) (slice_index_or (with_line line moments) n None) ≡ moment_or (cond b (Some line.1) (find line_cmp key lines)) (slice_index_or moments n None)) [
      | true ↦ λ e.
          let none = subst (λ k. find line_cmp k lines ≡ None) (sym (lines_exact key line.0 (is_equal _ (here ∙ e)))) (not_below line.0 lines (first _ _ sorted)) in
          ap (λ r. moment_or r (slice_index_or (with_line line moments) n None)) none ∙ at_line line moments n few long e
      | false ↦ λ e. ap (moment_or (find line_cmp key lines)) (beside_line line moments n e)
    ] refl
    ∙ ap (λ b. moment_or (cond b (Some line.1) (find line_cmp key lines)) (slice_index_or moments n None)) (sym here)

-- all lines of the order are written
pub all_written : (order : OrderKey) (lines : LineTable) (n : ℕ) → n < MOST_LINES
    → slice_index_or (written (rows_where (is_of_order order) lines) (replicate MOST_LINES None)) n None ≡ moment_at lines (line_key order (n + 1))
all_written order lines n few =
    read_written order n few (rows_where (is_of_order order) lines) (replicate MOST_LINES None) refl
    (is_sorted-where_key line_cmp (is_of_order order) (entries lines) (entries_sorted lines)) (all_own (entries lines))
    ∙ ap (moment_or (find line_cmp key (rows_where (is_of_order order) lines))) (get_or-replicate MOST_LINES n None None few)
    ∙ or_none (find line_cmp key (rows_where (is_of_order order) lines))
    ∙ ap (option_and_then (λ (row : OrderLine). row.delivery_d))
    (find-where_key line_cmp (is_of_order order) key (λ k e. ap (is_of_order order) (sym (lines_exact key k e))) (entries lines)
    ∙ ap (λ b. cond b (find line_cmp key (entries lines)) None) own_key ∙ sym (get-entries lines key))
  where
    key : OrderLineKey
    key = line_key order (n + 1)

    own_key : is_of_order order (line_key order (n + 1)) ≡ true
    own_key = grind (arith, nat_tests)

    all_own : (es : List (OrderLineKey × OrderLine)) → T (list_all (λ e. is_of_order order e.0) (filter (λ e. is_of_order order e.0) es))
    all_own [] = tt
    all_own (e ∷ es) =
        elim (is_of_order order e.0) as (λ b. is_of_order order e.0 ≡ b → T (list_all (λ f. is_of_order order f.0) (cond b (e ∷ filter (λ f. is_of_order order f.0) es) (filter (λ f. is_of_order order f.0) es)))) [
          | true ↦ λ h. rw h (all_own es)
          | false ↦ λ h. all_own es
        ] refl

    or_none : (r : Option OrderLine) → moment_or r None ≡ option_and_then (λ (row : OrderLine). row.delivery_d) r
    or_none None = refl
    or_none (Some row) = refl
