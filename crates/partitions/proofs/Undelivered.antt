-- A delivery that is taken back, row by row, and all at once.
use Rattle.std.proofs.Common.{◌≡◌, ℕ, zero, suc, ◌+◌, ◌-◌, ◌<◌, ◌≤◌, Bool, true, false, cond, ◌&&◌, ◌||◌, ◌==◌, nat_le, nat_lt, List, [], ◌∷◌, length, slice_index_or, Option, Some, None, IsTrue, refl, sym, ap, ◌∙◌, arith}
use Rattle.std.specs.declared.cmp.Ordering.{Ordering}
use Rattle.std.specs.declared.cmp.Ordering.TheVariants.{Less, Equal, Greater}
use Rattle.std.specs.Ordering.{eq_by_cmp, is_eq}
use Rattle.std.specs.Option.{option_map}
use Rattle.std.specs.Cmp.{eq_by_cmp_equiv}
use Rattle.std.specs.FinMap.{FinMap, get, same_map}
use Rattle.std.proofs.lemmas.Bool.Decides.{nat_tests}
use Rattle.rows.specs.declared.keys.OrderKey.{OrderKey}
use Rattle.rows.specs.declared.keys.OrderLineKey.{OrderLineKey}
use Rattle.rows.specs.declared.records.Order.{Order}
use Rattle.rows.specs.declared.records.OrderLine.{OrderLine}
use Rattle.rows.specs.declared.limits.TheConstants.{LAST_LINE}
use Rattle.rows.specs.Keys.{order_cmp, line_cmp}
use Rattle.schema.specs.EachRow.{EachRow}
use Rattle.schema.specs.MapRows.{map_rows}
use Rattle.schema.specs.Database.{is_line_number, is_of_order}
use Rattle.schema.specs.OrderRows.{LineTable, line_key}
use Rattle.schema.proofs.Deliveries.{order_test}
use Rattle.schema.proofs.KeyOrders.{orders_total, orders_exact, lines_total, lines_exact}
use Rattle.schema.proofs.TableWrites.{get-map_rows}
use Rattle.partitions.specs.Deliveries.{with_carrier_back, with_moments_back}

-- the order's row
pub carried_back : (order : OrderKey) (carrier : Option ℕ) (old new : FinMap order_cmp Order)
    → ((q : OrderKey) → get new q ≡ option_map (λ (row : Order). cond (eq_by_cmp order_cmp q order) (record row { carrier_id = carrier }) row) (get old q))
    → new ≡ map_rows (with_carrier_back order carrier) old
carried_back order carrier old new h = same_map orders_total orders_exact new (map_rows (with_carrier_back order carrier) old) (λ q.
    h q ∙ ap (λ b. option_map (λ (row : Order). cond b (record row { carrier_id = carrier }) row) (get old q)) (order_test order q)
    ∙ sym (get-map_rows order_cmp (with_carrier_back order carrier) orders_exact old q))

-- a comparison that passes the test is of equals
pub is_equal : (r : Ordering) → is_eq r ≡ true → r ≡ Equal
is_equal Less h = absurd cc
is_equal Equal h = refl
is_equal Greater h = absurd cc

same_key : (order : OrderKey) (number : ℕ) (key : OrderLineKey) → key.w_id ≡ order.w_id → key.d_id ≡ order.d_id → key.o_id ≡ order.o_id → key.number ≡ number → key ≡ line_key order number
same_key order number key w d o n = λ i. record { w_id = w i; d_id = d i; o_id = o i; number = n i }

own_line : (order : OrderKey) (number : ℕ) → (is_of_order order (line_key order number) && (number == number)) ≡ true
own_line order number = grind (arith, nat_tests)

-- the key of one line of the order
pub line_test : (order : OrderKey) (number : ℕ) (key : OrderLineKey) → eq_by_cmp line_cmp key (line_key order number) ≡ (is_of_order order key && (key.number == number))
line_test order number key =
    elim (eq_by_cmp line_cmp key (line_key order number)) as (λ b. eq_by_cmp line_cmp key (line_key order number) ≡ b → b ≡ (is_of_order order key && (key.number == number))) [
      | true ↦ λ e.
          let same : key ≡ line_key order number = lines_exact key (line_key order number) (is_equal _ e) in
          sym (ap (λ (k : OrderLineKey). is_of_order order k && (k.number == number)) same ∙ own_line order number)
      | false ↦ λ e. elim (is_of_order order key && (key.number == number)) as (λ b. (is_of_order order key && (key.number == number)) ≡ b → false ≡ b) [
        | true ↦ λ f.
            let same = same_key order number key (grind (arith, nat_tests)) (grind (arith, nat_tests)) (grind (arith, nat_tests)) (grind (arith, nat_tests)) in
            sym e ∙ ap (λ k. eq_by_cmp line_cmp k (line_key order number)) same ∙ (eq_by_cmp_equiv lines_total).refl (line_key order number)
        | false ↦ λ f. refl
      ] refl
    ] refl

-- an element that is there, whatever stands for one that isn't
pub index_any : {X : Type 0} (xs : List X) (i : ℕ) (d e : X) → i < length xs → slice_index_or xs i d ≡ slice_index_or xs i e
index_any [] i d e l = absurd (omega arith)
index_any (x ∷ xs) zero d e l = refl
index_any (x ∷ xs) (suc i) d e l = index_any xs i d e (omega arith)

-- the line is the order's, and of a number below this one
abbrev is_before : OrderKey → ℕ → OrderLineKey → Bool
is_before order number key = is_of_order order key && (nat_le 1 key.number && nat_lt key.number number)

-- the row of a line with the moment at its number
abbrev dated_back : List (Option ℕ) → OrderLineKey → OrderLine → OrderLine
dated_back moments key row = record row { delivery_d = slice_index_or moments (key.number - 1) None }

-- the lines below that number have theirs
abbrev pub AreDatedBack : OrderKey → List (Option ℕ) → ℕ → LineTable → LineTable → Type 0
AreDatedBack order moments number old new = (q : OrderLineKey) → get new q ≡ option_map (λ (row : OrderLine). cond (is_before order number q) (dated_back moments q row) row) (get old q)

none_dated : (b : Bool) (moments : List (Option ℕ)) (q : OrderLineKey) (r : Option OrderLine) → b ≡ false → r ≡ option_map (λ (row : OrderLine). cond b (dated_back moments q row) row) r
none_dated b moments q None e = refl
none_dated b moments q (Some row) e = ap Some (sym (ap (λ t. cond t (dated_back moments q row) row) e))

and_false : (b : Bool) → (b && false) ≡ false
and_false true = refl
and_false false = refl

and_true : (b : Bool) → (b && true) ≡ b
and_true true = refl
and_true false = refl

pub dated_back_none : (order : OrderKey) (moments : List (Option ℕ)) (lines : LineTable) → AreDatedBack order moments 1 lines lines
dated_back_none order moments lines q =
    let numbers : (nat_le 1 q.number && nat_lt q.number 1) ≡ false = grind (arith, nat_tests) in
    none_dated (is_before order 1 q) moments q (get lines q) (ap (λ b. is_of_order order q && b) numbers ∙ and_false (is_of_order order q))

dated_twice : (a b c : Bool) → c ≡ (a || b) → (moments : List (Option ℕ)) (q : OrderLineKey) (moment : Option ℕ) → (a ≡ true → moment ≡ slice_index_or moments (q.number - 1) None) → (r : Option OrderLine)
    → option_map (λ (row : OrderLine). cond a (record row { delivery_d = moment }) row) (option_map (λ (row : OrderLine). cond b (dated_back moments q row) row) r)
    ≡ option_map (λ (row : OrderLine). cond c (dated_back moments q row) row) r
dated_twice a b c e moments q moment is None = refl
dated_twice true true c e moments q moment is (Some row) = ap (λ m. Some (record row { delivery_d = m })) (is refl) ∙ ap (λ t. Some (cond t (dated_back moments q row) row)) (sym e)
dated_twice true false c e moments q moment is (Some row) = ap (λ m. Some (record row { delivery_d = m })) (is refl) ∙ ap (λ t. Some (cond t (dated_back moments q row) row)) (sym e)
dated_twice false true c e moments q moment is (Some row) = ap (λ t. Some (cond t (dated_back moments q row) row)) (sym e)
dated_twice false false c e moments q moment is (Some row) = ap (λ t. Some (cond t (dated_back moments q row) row)) (sym e)

one_further : (of : Bool) (n number : ℕ) → 1 ≤ number → (of && (nat_le 1 n && nat_lt n (number + 1))) ≡ ((of && (n == number)) || (of && (nat_le 1 n && nat_lt n number)))
one_further false n number h = refl
one_further true n number h = grind (arith, nat_tests)

number_is : (of : Bool) (n number : ℕ) → (of && (n == number)) ≡ true → n ≡ number
number_is true n number h = grind (arith, nat_tests)
number_is false n number h = absurd cc

-- one line more
pub dated_back_more : (order : OrderKey) (moments : List (Option ℕ)) (place : ℕ) (moment : Option ℕ) (key : OrderLineKey) (old mid new : LineTable) → moment ≡ slice_index_or moments place None → key ≡ line_key order (place + 1)
    → AreDatedBack order moments (place + 1) old mid
    → ((q : OrderLineKey) → get new q ≡ option_map (λ (row : OrderLine). cond (eq_by_cmp line_cmp q key) (record row { delivery_d = moment }) row) (get mid q))
    → AreDatedBack order moments (place + 1 + 1) old new
dated_back_more order moments place moment key old mid new is at held one q =
    let number = place + 1 in
    one q ∙ ap (λ k. option_map (λ (row : OrderLine). cond (eq_by_cmp line_cmp q k) (record row { delivery_d = moment }) row) (get mid q)) at
    ∙ ap (option_map (λ (row : OrderLine). cond (eq_by_cmp line_cmp q (line_key order number)) (record row { delivery_d = moment }) row)) (held q)
    ∙ dated_twice (eq_by_cmp line_cmp q (line_key order number)) (is_before order number q) (is_before order (number + 1) q)
    (one_further (is_of_order order q) q.number number (omega arith) ∙ ap (λ b. b || is_before order number q) (sym (line_test order number q))) moments q moment
    (λ e.
    let n : q.number ≡ number = number_is (is_of_order order q) q.number number (sym (line_test order number q) ∙ e) in
    is ∙ ap (λ k. slice_index_or moments k None) (let k : place ≡ q.number - 1 = omega arith in k)) (get old q)

-- all lines of the order
pub dated_back_all : (order : OrderKey) (moments : List (Option ℕ)) (number : ℕ) (old new : LineTable) → number ≡ LAST_LINE + 1 → EachRow (λ key _. is_line_number key.number) old → AreDatedBack order moments number old new
    → new ≡ map_rows (with_moments_back order moments) old
dated_back_all order moments number old new e numbered held = same_map lines_total lines_exact new (map_rows (with_moments_back order moments) old) (λ q.
    held q
    ∙ elim (get old q) as (λ r. get old q ≡ r → option_map (λ (row : OrderLine). cond (is_before order number q) (dated_back moments q row) row) r ≡ option_map (with_moments_back order moments q) r) [
      | None ↦ λ f. refl
      | Some row ↦ λ f.
          let inside : IsTrue (is_line_number q.number) = numbered q row f in
          let all : (nat_le 1 q.number && nat_lt q.number number) ≡ true = grind (arith, nat_tests) in
          ap (λ b. Some (cond b (dated_back moments q row) row)) (ap (λ b. is_of_order order q && b) all ∙ and_true (is_of_order order q))
    ] refl
    ∙ sym (get-map_rows line_cmp (with_moments_back order moments) lines_exact old q))
