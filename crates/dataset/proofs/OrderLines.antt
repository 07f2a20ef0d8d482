-- Lines by ascending keys, and those of each order among them.
use Rattle.std.proofs.Common.{◌≡◌, ◌==◌, ◌<◌, ◌≤◌, ◌+◌, ◌-◌, ◌*◌, ◌^◌, ◌⊎◌, inl, inr, ℕ, Bool, true, false, cond, ◌||◌, nat_lt, List, [], ◌∷◌, ◌++◌, map, length, Option, Some, None, IsTrue, is_some, refl, sym, ap, subst, ◌∙◌, arith}
use Rattle.std.specs.List.{AllByRecursion, filter, flat_map, list_any}
use Rattle.std.specs.List.Sorted.{IsStrictlySortedBy}
use Rattle.std.specs.Map.{keys_of, values_of}
use Rattle.std.specs.Ordering.{nat_cmp, ordering_then, eq_by_cmp}
use Rattle.std.specs.Cmp.{Equal-is}
use Rattle.std.specs.declared.cmp.Ordering.{Ordering}
use Rattle.std.specs.declared.cmp.Ordering.TheVariants.{Less, Equal, Greater}
use Rattle.std.specs.FinMap.{contains_key, contains_key-keys, entries, get}
use Rattle.std.proofs.lemmas.Bool.{and_parts}
use Rattle.std.proofs.lemmas.Bool.Decides.{nat_tests}
use Rattle.std.proofs.lemmas.Cmp.{tied_itself}
use Rattle.std.proofs.lemmas.List.{append-nil, map-append}
use Rattle.std.proofs.lemmas.List.Elements.{filter-append}
use Rattle.std.proofs.lemmas.List.Kept.{IsStrictlySortedBy-filter}
use Rattle.rows.specs.declared.keys.OrderKey.{OrderKey}
use Rattle.rows.specs.declared.keys.OrderLineKey.{OrderLineKey}
use Rattle.rows.specs.declared.records.Order.{Order}
use Rattle.rows.specs.declared.records.OrderLine.{OrderLine}
use Rattle.rows.specs.Keys.{order_cmp, line_cmp, order_of_line}
use Rattle.schema.specs.Scale.{has_customer}
use Rattle.schema.specs.Database.{Database, IsWithinScale, customer_of_order, is_line_number, is_of_order, is_order_id}
use Rattle.schema.proofs.EachRows.{keys_ascend}
use Rattle.schema.proofs.KeyOrders.{orders_total, orders_exact, lines_total}
use Rattle.schema.proofs.PackedLines.{by_order}
use Rattle.dataset.specs.Columns.{ascend_from}
use Rattle.dataset.specs.Ranges.{IsFrom, IsOrderKey}
use Rattle.dataset.specs.TableRow.{numbers_of}
use Rattle.dataset.proofs.Bounds.{bounds}
use Rattle.dataset.proofs.Keys.{all-append, all-each, all-map, all-weaker}
use Rattle.dataset.proofs.Order.{turned}
use Rattle.dataset.proofs.TableEntries.{each_entry}

-- ---- the order of a line

-- of a line that passes the test
pub of_order_is : (order : OrderKey) (key : OrderLineKey) → is_of_order order key ≡ true → order_of_line key ≡ order
of_order_is order key h =
    let w : key.w_id ≡ order.w_id = grind (arith, nat_tests) in
    let d : key.d_id ≡ order.d_id = grind (arith, nat_tests) in
    let o : key.o_id ≡ order.o_id = grind (arith, nat_tests) in
    λ i. record { w_id = w i; d_id = d i; o_id = o i }

same_number : (n : ℕ) → (n == n) ≡ true
same_number n = grind (arith, nat_tests)

of_itself : (key : OrderLineKey) → is_of_order (order_of_line key) key ≡ true
of_itself key = rw (same_number key.w_id, same_number key.d_id, same_number key.o_id) refl

-- and the converse
pub is_of : (order : OrderKey) (key : OrderLineKey) → order_of_line key ≡ order → is_of_order order key ≡ true
is_of order key same = subst (λ o. is_of_order o key ≡ true) same (of_itself key)

pub not_of : (order : OrderKey) (key : OrderLineKey) → (order_of_line key ≡ order → ⊥) → is_of_order order key ≡ false
not_of order key other =
    elim (is_of_order order key) as (λ b. is_of_order order key ≡ b → b ≡ false) [
      | true ↦ λ own. absurd (other (of_order_is order key own))
      | false ↦ λ _. refl
    ] refl

not_less_itself : (a b : OrderKey) → order_cmp a b ≡ Less → a ≡ b → ⊥
not_less_itself a b less same =
    let alike : order_cmp a b ≡ Equal = ap (order_cmp a) (sym same) ∙ tied_itself orders_total a in
    let both : Less ≡ Equal = sym less ∙ alike in
    cc

-- not of a later order
pub not_of_later : (order : OrderKey) (key : OrderLineKey) → order_cmp (order_of_line key) order ≡ Less → is_of_order order key ≡ false
not_of_later order key less = not_of order key (not_less_itself (order_of_line key) order less)

-- nor of an earlier one
pub not_of_earlier : (order : OrderKey) (key : OrderLineKey) → order_cmp order (order_of_line key) ≡ Less → is_of_order order key ≡ false
not_of_earlier order key less = not_of order key (λ same. not_less_itself order (order_of_line key) less (sym same))

-- ---- the order of two lines

-- a line of a later order is later
pub later_order : (a b : OrderLineKey) → order_cmp (order_of_line a) (order_of_line b) ≡ Less → line_cmp a b ≡ Less
later_order a b less = by_order a b ∙ ap (λ r. ordering_then r (nat_cmp a.number b.number)) less

-- of two lines of an order
pub by_number : (a b : OrderLineKey) → order_of_line a ≡ order_of_line b → line_cmp a b ≡ nat_cmp a.number b.number
by_number a b same =
    by_order a b
    ∙ ap (λ r. ordering_then r (nat_cmp a.number b.number)) (ap (order_cmp (order_of_line a)) (sym same) ∙ tied_itself orders_total (order_of_line a))

-- an order before that of a line is before those of all later lines
before_later : (order : OrderKey) (a b : OrderLineKey) → order_cmp order (order_of_line a) ≡ Less → line_cmp a b ≡ Less → is_of_order order b ≡ false
before_later order a b before less = not_of order b clash
  where
    clash : order_of_line b ≡ order → ⊥
    clash same =
        let back : order_cmp (order_of_line b) (order_of_line a) ≡ Less = ap (λ o. order_cmp o (order_of_line a)) same ∙ before in
        let greater : order_cmp (order_of_line a) (order_of_line b) ≡ Greater = turned orders_total (order_of_line b) (order_of_line a) back in
        let lines : line_cmp a b ≡ Greater = by_order a b ∙ ap (λ r. ordering_then r (nat_cmp a.number b.number)) greater in
        let both : Less ≡ Greater = sym less ∙ lines in
        cc

-- ---- the numbers of an order's lines

abbrev pub AreOf : OrderKey → List (OrderLineKey × OrderLine) → Type 0
AreOf order ls = AllByRecursion (λ e. order_of_line e.0 ≡ order) ls

-- in key order they ascend
pub rising : (order : OrderKey) (low : ℕ) (ls : List (OrderLineKey × OrderLine)) → AreOf order ls → IsStrictlySortedBy line_cmp (keys_of ls)
    → AllByRecursion (λ e. low < e.0.number) ls → IsTrue (ascend_from low (numbers_of ls))
unfolding IsStrictlySortedBy
rising order low [] own sorted above = refl
rising order low (e ∷ ls) own sorted above =
    let here : nat_lt low e.0.number ≡ true = let first = above.0 in grind (arith, nat_tests, first) in
    rw here (rising order e.0.number ls own.1 sorted.1 (later ls own.1 sorted.0))
  where
    later : (ds : List (OrderLineKey × OrderLine)) → AreOf order ds → AllByRecursion (λ k. line_cmp e.0 k ≡ Less) (keys_of ds) → AllByRecursion (λ d. e.0.number < d.0.number) ds
    later [] of less = tt
    later (d ∷ ds) of less =
        let number : nat_cmp e.0.number d.0.number ≡ Less = sym (by_number e.0 d.0 (own.0 ∙ sym of.0)) ∙ less.0 in
        (grind (arith, nat_tests), later ds of.1 less.1)

-- what ascends from a number is above it
all_above : (low : ℕ) (ls : List (OrderLineKey × OrderLine)) → IsTrue (ascend_from low (numbers_of ls)) → AllByRecursion (λ e. low < e.0.number) ls
all_above low [] h = tt
all_above low (e ∷ ls) h =
    let tests = and_parts (nat_lt low e.0.number) (ascend_from e.0.number (numbers_of ls)) h in
    let here : low < e.0.number = let first = tests.0 in grind (arith, nat_tests, first) in
    (here, all-weaker _ _ (λ d above. omega (arith, here, above)) ls (all_above e.0.number ls tests.1))

-- lines whose numbers ascend are in key order
pub sorted_of_rising : (order : OrderKey) (low : ℕ) (ls : List (OrderLineKey × OrderLine)) → AreOf order ls → IsTrue (ascend_from low (numbers_of ls)) → IsStrictlySortedBy line_cmp (keys_of ls)
unfolding IsStrictlySortedBy
sorted_of_rising order low [] own h = tt
sorted_of_rising order low (e ∷ ls) own h =
    let tests = and_parts (nat_lt low e.0.number) (ascend_from e.0.number (numbers_of ls)) h in
    (later ls own.1 (all_above e.0.number ls tests.1), sorted_of_rising order e.0.number ls own.1 tests.1)
  where
    later : (ds : List (OrderLineKey × OrderLine)) → AreOf order ds → AllByRecursion (λ d. e.0.number < d.0.number) ds → AllByRecursion (λ k. line_cmp e.0 k ≡ Less) (keys_of ds)
    later [] of above = tt
    later (d ∷ ds) of above =
        let number : nat_cmp e.0.number d.0.number ≡ Less = let first = above.0 in grind (arith, nat_tests, first) in
        (by_number e.0 d.0 (own.0 ∙ sym of.0) ∙ number, later ds of.1 above.1)

-- they are no more than there are numbers
pub few_rising : (low n : ℕ) (ls : List (OrderLineKey × OrderLine)) → IsTrue (ascend_from low (numbers_of ls)) → AllByRecursion (λ e. e.0.number ≤ n) ls → length ls ≤ n - low
few_rising low n [] h few = omega arith
few_rising low n (e ∷ ls) h few =
    let tests = and_parts (nat_lt low e.0.number) (ascend_from e.0.number (numbers_of ls)) h in
    let above : low < e.0.number = let first = tests.0 in grind (arith, nat_tests, first) in
    let rest = few_rising e.0.number n ls tests.1 few.1 in
    let most = few.0 in
    omega (arith, above, rest, most)

-- ---- parts of lists

pub all-filter : {X : Type 0} (P Q : X → Type 0) (p : X → Bool) → ((x : X) → p x ≡ true → P x → Q x) → (xs : List X) → AllByRecursion P xs → AllByRecursion Q (filter p xs)
all-filter P Q p f [] h = tt
all-filter P Q p f (x ∷ xs) h =
    elim (p x) as (λ b. p x ≡ b → AllByRecursion Q (cond b (x ∷ filter p xs) (filter p xs))) [
      | true ↦ λ passes. (f x passes h.0, all-filter P Q p f xs h.1)
      | false ↦ λ _. all-filter P Q p f xs h.1
    ] refl

filter-all : {X : Type 0} (p : X → Bool) (xs : List X) → AllByRecursion (λ x. p x ≡ true) xs → filter p xs ≡ xs
filter-all p [] h = refl
filter-all p (x ∷ xs) h = ap (λ b. cond b (x ∷ filter p xs) (filter p xs)) h.0 ∙ ap (λ l. x ∷ l) (filter-all p xs h.1)

filter-none : {X : Type 0} (p : X → Bool) (xs : List X) → AllByRecursion (λ x. p x ≡ false) xs → filter p xs ≡ []
filter-none p [] h = refl
filter-none p (x ∷ xs) h = ap (λ b. cond b (x ∷ filter p xs) (filter p xs)) h.0 ∙ filter-none p xs h.1

keys-filter : {K X : Type 0} (p : K → Bool) (es : List (K × X)) → keys_of (filter (λ e. p e.0) es) ≡ filter p (keys_of es)
keys-filter {K} {X} p [] = refl
keys-filter {K} {X} p (e ∷ es) =
    elim (p e.0) as (λ b. keys_of (cond b (e ∷ filter (λ (e : K × X). p e.0) es) (filter (λ (e : K × X). p e.0) es)) ≡ cond b (e.0 ∷ filter p (keys_of es)) (filter p (keys_of es))) [
      | true ↦ ap (λ l. e.0 ∷ l) (keys-filter p es)
      | false ↦ keys-filter p es
    ]

-- a part of what is in order is in order
pub sorted-filter : {K X : Type 0} (c : K → K → Ordering) (p : K → Bool) (es : List (K × X)) → IsStrictlySortedBy c (keys_of es) → IsStrictlySortedBy c (keys_of (filter (λ e. p e.0) es))
sorted-filter c p es sorted = subst (IsStrictlySortedBy c) (sym (keys-filter p es)) (IsStrictlySortedBy-filter c p (keys_of es) sorted)

-- one list in order behind another
sorted-append : {K : Type 0} (c : K → K → Ordering) (xs ys : List K) → IsStrictlySortedBy c xs → IsStrictlySortedBy c ys → AllByRecursion (λ x. AllByRecursion (λ y. c x y ≡ Less) ys) xs
    → IsStrictlySortedBy c (xs ++ ys)
unfolding IsStrictlySortedBy
sorted-append c [] ys h g below = g
sorted-append c (x ∷ xs) ys h g below = (all-append (λ y. c x y ≡ Less) xs ys h.0 below.0, sorted-append c xs ys h.1 g below.1)

-- ---- lines in key order, order by order

-- x is one of these
abbrev pub IsAmong : {K : Type 0} → K → List K → Type 0
IsAmong x [] = ⊥
IsAmong x (k ∷ ks) = (x ≡ k) ⊎ IsAmong x ks

all-among : {K : Type 0} (P : K → Type 0) (ks : List K) (x : K) → AllByRecursion P ks → IsAmong x ks → P x
all-among P [] x h among = absurd among
all-among P (k ∷ ks) x h (inl same) = subst P (sym same) h.0
all-among P (k ∷ ks) x h (inr among) = all-among P ks x h.1 among

-- the order's own
abbrev pub own_of : OrderKey → List (OrderLineKey × OrderLine) → List (OrderLineKey × OrderLine)
own_of order es = filter (λ e. is_of_order order e.0) es

-- those of the orders, order by order
abbrev pub own_of_all : {X : Type 0} → List (OrderKey × X) → List (OrderLineKey × OrderLine) → List (OrderLineKey × OrderLine)
own_of_all orders es = flat_map (λ o. own_of o.0 es) orders

no_own : {X : Type 0} (orders : List (OrderKey × X)) → own_of_all orders [] ≡ []
no_own [] = refl
no_own (o ∷ orders) = no_own orders

-- later orders do not have the line
none_later : {X : Type 0} (e : OrderLineKey × OrderLine) (es : List (OrderLineKey × OrderLine)) (orders : List (OrderKey × X)) → AllByRecursion (λ k. order_cmp (order_of_line e.0) k ≡ Less) (keys_of orders)
    → own_of_all orders (e ∷ es) ≡ own_of_all orders es
none_later e es [] h = refl
none_later e es (o ∷ orders) h =
    ap (λ b. cond b (e ∷ own_of o.0 es) (own_of o.0 es) ++ own_of_all orders (e ∷ es)) (not_of_later o.0 e.0 h.0)
    ∙ ap (λ l. own_of o.0 es ++ l) (none_later e es orders h.1)

-- the first line is the first of its order, and no earlier order has a line
first_line : {X : Type 0} (e : OrderLineKey × OrderLine) (es : List (OrderLineKey × OrderLine)) (orders : List (OrderKey × X)) → IsStrictlySortedBy order_cmp (keys_of orders)
    → IsAmong (order_of_line e.0) (keys_of orders) → AllByRecursion (λ k. line_cmp e.0 k ≡ Less) (keys_of es) → own_of_all orders (e ∷ es) ≡ e ∷ own_of_all orders es
unfolding IsStrictlySortedBy
first_line e es [] sorted among below = absurd among
first_line e es (o ∷ orders) sorted (inl same) below =
    ap (λ b. cond b (e ∷ own_of o.0 es) (own_of o.0 es) ++ own_of_all orders (e ∷ es)) (is_of o.0 e.0 same)
    ∙ ap (λ l. e ∷ (own_of o.0 es ++ l)) (none_later e es orders (subst (λ k. AllByRecursion (λ j. order_cmp k j ≡ Less) (keys_of orders)) (sym same) sorted.0))
first_line e es (o ∷ orders) sorted (inr among) below =
    let before : order_cmp o.0 (order_of_line e.0) ≡ Less = all-among (λ j. order_cmp o.0 j ≡ Less) (keys_of orders) (order_of_line e.0) sorted.0 among in
    let none : own_of o.0 es ≡ [] = filter-none _ es (not_there before es below) in
    ap (λ b. cond b (e ∷ own_of o.0 es) (own_of o.0 es) ++ own_of_all orders (e ∷ es)) (not_of_earlier o.0 e.0 before)
    ∙ ap (λ l. l ++ own_of_all orders (e ∷ es)) none
    ∙ first_line e es orders sorted.1 among below
    ∙ ap (λ l. e ∷ (l ++ own_of_all orders es)) (sym none)
  where
    not_there : order_cmp o.0 (order_of_line e.0) ≡ Less → (ds : List (OrderLineKey × OrderLine)) → AllByRecursion (λ k. line_cmp e.0 k ≡ Less) (keys_of ds) → AllByRecursion (λ d. is_of_order o.0 d.0 ≡ false) ds
    not_there before [] h = tt
    not_there before (d ∷ ds) h = (before_later o.0 e.0 d.0 before h.0, not_there before ds h.1)

-- lines in key order, each of one of the orders in key order
pub grouped : {X : Type 0} (es : List (OrderLineKey × OrderLine)) (orders : List (OrderKey × X)) → IsStrictlySortedBy line_cmp (keys_of es) → IsStrictlySortedBy order_cmp (keys_of orders)
    → AllByRecursion (λ e. IsAmong (order_of_line e.0) (keys_of orders)) es → flat_map (λ o. filter (λ e. is_of_order o.0 e.0) es) orders ≡ es
unfolding IsStrictlySortedBy
grouped [] orders sorted ascend among = no_own orders
grouped (e ∷ es) orders sorted ascend among = first_line e es orders ascend among.0 sorted.0 ∙ ap (λ l. e ∷ l) (grouped es orders sorted.1 ascend among.1)

-- ---- orders with lines

-- each with its own lines
abbrev pub AreOwn : {X : Type 0} → List (OrderKey × (X × List (OrderLineKey × OrderLine))) → Type 0
AreOwn ws = AllByRecursion (λ w. AreOf w.0 w.1.1) ws

-- the lines of all
abbrev pub lines_of_all : {X : Type 0} → List (OrderKey × (X × List (OrderLineKey × OrderLine))) → List (OrderLineKey × OrderLine)
lines_of_all ws = flat_map (λ w. w.1.1) ws

all_own : (order : OrderKey) (ls : List (OrderLineKey × OrderLine)) → AreOf order ls → own_of order ls ≡ ls
all_own order ls own = filter-all _ ls (all-weaker _ _ (λ e same. is_of order e.0 same) ls own)

-- lines of a later order are not of an earlier one, and the other way round
none_of_later : (order later : OrderKey) (ls : List (OrderLineKey × OrderLine)) → order_cmp order later ≡ Less → AreOf later ls → own_of order ls ≡ []
none_of_later order later ls less own =
    filter-none _ ls (all-weaker _ _ (λ e same. not_of_earlier order e.0 (ap (order_cmp order) same ∙ less)) ls own)

none_of_earlier : (order earlier : OrderKey) (ls : List (OrderLineKey × OrderLine)) → order_cmp earlier order ≡ Less → AreOf earlier ls → own_of order ls ≡ []
none_of_earlier order earlier ls less own =
    filter-none _ ls (all-weaker _ _ (λ e same. not_of_later order e.0 (ap (λ k. order_cmp k order) same ∙ less)) ls own)

none_of_all : {X : Type 0} (order : OrderKey) (ws : List (OrderKey × (X × List (OrderLineKey × OrderLine)))) → AllByRecursion (λ k. order_cmp order k ≡ Less) (keys_of ws) → AreOwn ws → own_of order (lines_of_all ws) ≡ []
none_of_all order [] less own = refl
none_of_all order (w ∷ ws) less own =
    filter-append (λ e. is_of_order order e.0) w.1.1 (lines_of_all ws) ∙ ap (λ l. l ++ own_of order (lines_of_all ws)) (none_of_later order w.0 w.1.1 less.0 own.0)
    ∙ none_of_all order ws less.1 own.1

-- each with its own of these lines
abbrev pub with_own : {X : Type 0} → List (OrderLineKey × OrderLine) → List (OrderKey × (X × List (OrderLineKey × OrderLine))) → List (OrderKey × (X × List (OrderLineKey × OrderLine)))
with_own ls ws = map (λ w. (w.0, (w.1.0, filter (λ e. is_of_order w.0 e.0) ls))) ws

-- lines of an earlier order change nothing
with_earlier : {X : Type 0} (order : OrderKey) (ls all : List (OrderLineKey × OrderLine)) → AreOf order ls → (ws : List (OrderKey × (X × List (OrderLineKey × OrderLine)))) → AllByRecursion (λ k. order_cmp order k ≡ Less) (keys_of ws)
    → with_own (ls ++ all) ws ≡ with_own all ws
with_earlier order ls all own [] less = refl
with_earlier order ls all own (w ∷ ws) less =
    let here : own_of w.0 (ls ++ all) ≡ own_of w.0 all =
    filter-append (λ e. is_of_order w.0 e.0) ls all ∙ ap (λ l. l ++ own_of w.0 all) (none_of_earlier w.0 order ls less.0 own) in
    let rest = with_earlier order ls all own ws less.1 in
    λ i. (w.0, (w.1.0, here i)) ∷ rest i

-- the lines of each are its own of the lines of all
pub own_lines : {X : Type 0} (ws : List (OrderKey × (X × List (OrderLineKey × OrderLine)))) → IsStrictlySortedBy order_cmp (keys_of ws) → AreOwn ws
    → map (λ w. (w.0, (w.1.0, filter (λ e. is_of_order w.0 e.0) (flat_map (λ v. v.1.1) ws)))) ws ≡ ws
unfolding IsStrictlySortedBy
own_lines [] sorted own = refl
own_lines (w ∷ ws) sorted own =
    let here : own_of w.0 (w.1.1 ++ lines_of_all ws) ≡ w.1.1 =
    filter-append (λ e. is_of_order w.0 e.0) w.1.1 (lines_of_all ws) ∙ ap (λ l. own_of w.0 w.1.1 ++ l) (none_of_all w.0 ws sorted.0 own.1)
    ∙ append-nil (own_of w.0 w.1.1) ∙ all_own w.0 w.1.1 own.0 in
    let rest : with_own (w.1.1 ++ lines_of_all ws) ws ≡ ws = with_earlier w.0 w.1.1 (lines_of_all ws) own.0 ws sorted.0 ∙ own_lines ws sorted.1 own.1 in
    λ i. (w.0, (w.1.0, here i)) ∷ rest i

-- lines of the order that rise
abbrev pub AreRising : {X : Type 0} → List (OrderKey × (X × List (OrderLineKey × OrderLine))) → Type 0
AreRising ws = AllByRecursion (λ w. IsTrue (ascend_from 0 (numbers_of w.1.1))) ws

-- the lines of all are in key order
pub lines_sorted : {X : Type 0} (ws : List (OrderKey × (X × List (OrderLineKey × OrderLine)))) → IsStrictlySortedBy order_cmp (keys_of ws) → AreOwn ws → AreRising ws
    → IsStrictlySortedBy line_cmp (keys_of (flat_map (λ w. w.1.1) ws))
unfolding IsStrictlySortedBy
lines_sorted [] sorted own rise = tt
lines_sorted {X} (w ∷ ws) sorted own rise =
    subst (IsStrictlySortedBy line_cmp) (sym (map-append (λ (e : OrderLineKey × OrderLine). e.0) w.1.1 (lines_of_all ws)))
    (sorted-append line_cmp (keys_of w.1.1) (keys_of (lines_of_all ws)) (sorted_of_rising w.0 0 w.1.1 own.0 rise.0) (lines_sorted ws sorted.1 own.1 rise.1)
    (all-map (λ k. AllByRecursion (λ j. line_cmp k j ≡ Less) (keys_of (lines_of_all ws))) (λ e. e.0) w.1.1 (all-weaker _ _ (λ e same. below e.0 same ws sorted.0 own.1) w.1.1 own.0)))
  where
    below : (key : OrderLineKey) → order_of_line key ≡ w.0 → (vs : List (OrderKey × (X × List (OrderLineKey × OrderLine)))) → AllByRecursion (λ k. order_cmp w.0 k ≡ Less) (keys_of vs) → AreOwn vs
        → AllByRecursion (λ j. line_cmp key j ≡ Less) (keys_of (lines_of_all vs))
    below key same [] less of = tt
    below key same (v ∷ vs) less of =
        subst (AllByRecursion (λ j. line_cmp key j ≡ Less)) (sym (map-append (λ (e : OrderLineKey × OrderLine). e.0) v.1.1 (lines_of_all vs)))
        (all-append (λ j. line_cmp key j ≡ Less) (keys_of v.1.1) (keys_of (lines_of_all vs))
        (all-map (λ j. line_cmp key j ≡ Less) (λ e. e.0) v.1.1
        (all-weaker _ _ (λ e there. later_order key e.0 (ap (λ k. order_cmp k (order_of_line e.0)) same ∙ ap (order_cmp w.0) there ∙ less.0)) v.1.1 of.0))
        (below key same vs less.1 of.1))

-- ---- how many lines there are

-- the numbers of a key are within those of any scale
record IsBounded (key : OrderLineKey) : Type 0 where
  warehouse : key.w_id < 1048576
  district : key.d_id < 16
  order : key.o_id < 16777216
  number : key.number < 256

-- a number for each key, in the order of the keys
abbrev code : OrderLineKey → ℕ
code key = ((key.w_id * 16 + key.d_id) * 16777216 + key.o_id) * 256 + key.number

by_first : (a b : ℕ) (r : Ordering) → ordering_then (nat_cmp a b) r ≡ Less → (a < b) ⊎ ((a ≡ b) × (r ≡ Less))
by_first a b r h =
    elim (nat_cmp a b) as (λ s. nat_cmp a b ≡ s → ordering_then s r ≡ Less → (a < b) ⊎ ((a ≡ b) × (r ≡ Less))) [
      | Less ↦ λ e _. inl (grind (arith, nat_tests))
      | Equal ↦ λ e less. inr (let same : a ≡ b = grind (arith, nat_tests) in (same, less))
      | Greater ↦ λ e less. absurd cc
    ] refl h

code_rises : (j k : OrderLineKey) → IsBounded j → IsBounded k → line_cmp j k ≡ Less → code j + 1 ≤ code k
code_rises j k h g less = by_warehouse (by_first j.w_id k.w_id _ less)
  where
    by_order_number : j.w_id ≡ k.w_id → j.d_id ≡ k.d_id → (j.o_id < k.o_id) ⊎ ((j.o_id ≡ k.o_id) × (nat_cmp j.number k.number ≡ Less)) → code j + 1 ≤ code k
    by_order_number same_w same_d (inl lower) = let a = h.number in omega (arith, same_w, same_d, lower, a)
    by_order_number same_w same_d (inr rest) =
        let lower : j.number < k.number = let last = rest.1 in grind (arith, nat_tests, last) in
        let same_o = rest.0 in
        omega (arith, same_w, same_d, same_o, lower)

    by_district : j.w_id ≡ k.w_id → (j.d_id < k.d_id) ⊎ ((j.d_id ≡ k.d_id) × (ordering_then (nat_cmp j.o_id k.o_id) (nat_cmp j.number k.number) ≡ Less)) → code j + 1 ≤ code k
    by_district same_w (inl lower) = let a = h.number in let b = h.order in omega (arith, same_w, lower, a, b)
    by_district same_w (inr rest) = by_order_number same_w rest.0 (by_first j.o_id k.o_id _ rest.1)

    by_warehouse : (j.w_id < k.w_id) ⊎ ((j.w_id ≡ k.w_id) × (ordering_then (nat_cmp j.d_id k.d_id) (ordering_then (nat_cmp j.o_id k.o_id) (nat_cmp j.number k.number)) ≡ Less)) → code j + 1 ≤ code k
    by_warehouse (inl lower) = let a = h.number in let b = h.order in let c = h.district in omega (arith, lower, a, b, c)
    by_warehouse (inr rest) = by_district rest.0 (by_first j.d_id k.d_id _ rest.1)

few_from : (low : ℕ) (es : List (OrderLineKey × OrderLine)) → IsStrictlySortedBy line_cmp (keys_of es) → AllByRecursion (λ e. IsBounded e.0) es → AllByRecursion (λ e. low ≤ code e.0) es → low ≤ 72057594037927936
    → length es + low ≤ 72057594037927936
unfolding IsStrictlySortedBy
few_from low [] sorted within above small = omega (arith, small)
few_from low (e ∷ es) sorted within above small =
    let h = within.0 in
    let here : code e.0 + 1 ≤ 72057594037927936 = let a = h.number in let b = h.order in let c = h.district in let d = h.warehouse in omega (arith, a, b, c, d) in
    let rest = few_from (code e.0 + 1) es sorted.1 within.1 (later es sorted.0 within.1) here in
    let first = above.0 in
    omega (arith, rest, first)
  where
    later : (ds : List (OrderLineKey × OrderLine)) → AllByRecursion (λ k. line_cmp e.0 k ≡ Less) (keys_of ds) → AllByRecursion (λ d. IsBounded d.0) ds → AllByRecursion (λ d. code e.0 + 1 ≤ code d.0) ds
    later [] less bounds = tt
    later (d ∷ ds) less bounds = (code_rises e.0 d.0 within.0 bounds.0 less.0, later ds less.1 bounds.1)

-- ---- the lines of tables

known_by : (key : OrderKey) (ks : List OrderKey) → IsTrue (list_any (eq_by_cmp order_cmp key) ks) → IsAmong key ks
known_by key [] h = absurd cc
known_by key (k ∷ ks) h =
    elim (eq_by_cmp order_cmp key k) as (λ b. eq_by_cmp order_cmp key k ≡ b → IsTrue (b || list_any (eq_by_cmp order_cmp key) ks) → (key ≡ k) ⊎ IsAmong key ks) [
      | true ↦ λ same _. inl (orders_exact key k ((Equal-is (order_cmp key k)).0 same))
      | false ↦ λ _ rest. inr (known_by key ks rest)
    ] refl h

module _ (t : Database) (w : IsWithinScale t) where
  -- each line is of one of the orders
  pub lines_known : AllByRecursion (λ e. IsAmong (order_of_line e.0) (keys_of (entries t.orders))) (entries t.lines)
  lines_known =
      each_entry (λ _. Unit {0}) lines_total t.lines (all-each _ (λ _. tt) (values_of (entries t.lines)))
      (λ e found _. known_by (order_of_line e.0) (keys_of (entries t.orders)) (sym (contains_key-keys t.orders (order_of_line e.0)) ∙ w.lines_have_orders e.0 e.1 found))

  -- order by order
  pub lines_grouped : flat_map (λ o. filter (λ e. is_of_order o.0 e.0) (entries t.lines)) (entries t.orders) ≡ entries t.lines
  lines_grouped = grouped (entries t.lines) (entries t.orders) (keys_ascend _ t.lines) (keys_ascend _ t.orders) lines_known

  pub order_known : (key : OrderKey) (row : Order) → IsTrue (is_order_id key.o_id) → IsTrue (has_customer t.scale (customer_of_order key row))
      → IsOrderKey t.scale key × IsFrom 1 t.scale.customers row.c_id
  order_known key row numbered known =
      let tests = and_parts _ _ known in
      (record { home = tests.0; number = numbered }, bounds 1 t.scale.customers row.c_id tests.1)

  -- a key of ORDER is one of the scale
  pub known_order : (key : OrderKey) → IsTrue (contains_key t.orders key) → IsOrderKey t.scale key
  known_order key there = by (get t.orders key) refl there
    where
      by : (r : Option Order) → get t.orders key ≡ r → IsTrue (is_some r) → IsOrderKey t.scale key
      by None e there = absurd cc
      by (Some order) e there = (order_known key order (w.orders_numbered key order e) (w.orders_have_customers key order e)).0

  all_bounded : AllByRecursion (λ e. IsBounded e.0) (entries t.lines)
  all_bounded =
      each_entry (λ _. Unit {0}) lines_total t.lines (all-each _ (λ _. tt) (values_of (entries t.lines)))
      (λ e found _. bounded e.0 (known_order (order_of_line e.0) (w.lines_have_orders e.0 e.1 found)) (w.lines_numbered e.0 e.1 found))
    where
      bounded : (key : OrderLineKey) → IsOrderKey t.scale (order_of_line key) → IsTrue (is_line_number key.number) → IsBounded key
      bounded key order numbered =
          let home = and_parts _ _ order.home in
          let limits = t.scale.limits in
          let in_scale = (bounds 1 t.scale.warehouses key.w_id home.0).1 in
          let in_warehouse = (bounds 1 10 key.d_id home.1).1 in
          let in_district = (bounds 1 9999999 key.o_id order.number).1 in
          let in_order = (bounds 1 _ key.number numbered).1 in
          record {
            warehouse = omega (arith, limits.most_warehouses, in_scale);
            district = omega (arith, in_warehouse);
            order = omega (arith, in_district);
            number = omega (arith, in_order);
          }

  -- they are countable
  pub few_lines : length (entries t.lines) < 2 ^ 64
  few_lines =
      let few = few_from 0 (entries t.lines) (keys_ascend _ t.lines) all_bounded (all-each _ (λ e. let least : 0 ≤ code e.0 = omega arith in least) (entries t.lines)) (omega arith) in
      omega (arith, few)
