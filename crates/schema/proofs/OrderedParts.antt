-- The part of an ordered map between two keys, against the rows of one district or of one order.
use Rattle.std.proofs.Common.{◌≡◌, ℕ, ◌+◌, ◌≤◌, Bool, true, false, cond, not, ◌&&◌, ◌==◌, List, [], ◌∷◌, length, Some, None, IsTrue, is_some, refl, sym, ap, ◌∙◌, arith}
use Rattle.std.specs.List.{list_all, filter, AllByRecursion}
use Rattle.std.specs.List.Sorted.{IsStrictlySortedBy}
use Rattle.std.specs.Map.{keys_of}
use Rattle.std.specs.BTreeMap.Range.{range_contains, entries_between}
use Rattle.std.specs.declared.ops.Bound.TheVariants.{Included, Unbounded}
use Rattle.std.specs.declared.cmp.Ordering.{Ordering}
use Rattle.std.specs.declared.cmp.Ordering.TheVariants.{Less, Equal, Greater}
use Rattle.std.specs.Ordering.{nat_cmp, ordering_then, is_le, is_lt, match_ordering}
use Rattle.std.specs.Cmp.{IsTotalOrder}
use Rattle.std.specs.FinMap as map
use Rattle.std.specs.BTreeMap.{insert_entry}
use Rattle.std.specs.FinMap.{entries, from_entries, entries-insert}
use Rattle.std.specs.FinMap.Entries.{put, by_order}
use Rattle.std.proofs.lemmas.Bool.Decides.{nat_tests}
use Rattle.std.proofs.lemmas.Map.Keys.{sorted_head, sorted_tail}
use Rattle.rows.specs.declared.keys.DistrictKey.{DistrictKey}
use Rattle.rows.specs.declared.keys.OrderKey.{OrderKey}
use Rattle.rows.specs.Keys.{order_cmp, order_of_line}
use Rattle.schema.specs.Database.{Database, IsWithinScale, is_order_id, rows_where, is_of_district}
use Rattle.schema.specs.EachRow.{EachRow}
use Rattle.schema.proofs.EachRows.{EachRow-entries}
use Rattle.schema.proofs.KeyOrders.{orders_total, orders_exact}

-- a key before all others is put first
put_first : {K X : Type 0} (R : K → K → Ordering) (k : K) (v : X) (es : List (K × X)) → AllByRecursion (λ q. R k q ≡ Less) (keys_of es) → put R k v es ≡ (k, v) ∷ es
put_first R k v [] below = refl
put_first R k v (e ∷ es) below = rw below.0 refl

no_length : {X : Type 0} (xs : List X) → length xs ≡ 0 → xs ≡ []
no_length [] h = refl
no_length (x ∷ xs) h = absurd (omega arith)

same_entries_of_empty : {K X : Type 0} (R : K → K → Ordering) → entries (map.empty {X = X} {R = R}) ≡ []
same_entries_of_empty {X = X} R = no_length _ (sym (map.len-entries (map.empty {X = X} {R = R})) ∙ map.len-empty R X)

-- the entries of the table that entries in order make
pub entries-ordered : {K X : Type 0} {R : K → K → Ordering} → IsTotalOrder R → (es : List (K × X)) → IsStrictlySortedBy R (keys_of es) → entries (from_entries {R = R} es) ≡ es
entries-ordered {R = R} o [] sorted = same_entries_of_empty R
entries-ordered {R = R} o (e ∷ es) sorted =
    entries-insert o (from_entries es) e.0 e.1
    ∙ ap (put R e.0 e.1) (entries-ordered o es (sorted_tail R e.0 (keys_of es) sorted))
    ∙ put_first R e.0 e.1 es (sorted_head R e.0 (keys_of es) sorted)

-- a row that is put into entries in order
pub put_is_insert : {K X : Type 0} (R : K → K → Ordering) (k : K) (v : X) (es : List (K × X)) → put R k v es ≡ insert_entry R es k v
put_is_insert R k v [] = refl
put_is_insert R k v (e ∷ es) =
    elim (R k e.0) as (λ r. by_order r ((k, v) ∷ e ∷ es) ((e.0, v) ∷ es) (e ∷ put R k v es) ≡ match_ordering r ((k, v) ∷ e ∷ es) ((e.0, v) ∷ es) (e ∷ insert_entry R es k v)) [
      | Less ↦ refl
      | Equal ↦ refl
      | Greater ↦ ap (λ l. e ∷ l) (put_is_insert R k v es)
    ]

pub every_entry : {K X : Type 0} (R : K → K → Ordering) (es : List (K × X)) → entries_between R Unbounded Unbounded es ≡ es
every_entry R [] = refl
every_entry R (e ∷ es) = ap (λ l. e ∷ l) (every_entry R es)

-- the part of an ordered map that leaves nothing out has the entries of the table that it makes
pub whole_part : {K X : Type 0} {R : K → K → Ordering} → IsTotalOrder R → (es : List (K × X)) → IsStrictlySortedBy R (keys_of es)
    → entries_between R Unbounded Unbounded es ≡ entries (from_entries {R = R} es)
whole_part {R = R} o es sorted = every_entry R es ∙ sym (entries-ordered {R = R} o es sorted)

first : (b c : Bool) → IsTrue (b && c) → IsTrue b
first true c h = refl
first false c h = h

second : (b c : Bool) → IsTrue (b && c) → IsTrue c
second true c h = h
second false c h = absurd cc

-- tests that agree on what passes a third keep the same elements
pub filter_agrees : {X : Type 0} (known p q : X → Bool) → ((x : X) → IsTrue (known x) → p x ≡ q x) → (xs : List X) → IsTrue (list_all known xs) → filter p xs ≡ filter q xs
filter_agrees known p q h [] all = refl
filter_agrees known p q h (x ∷ xs) all =
    let here : p x ≡ q x = h x (first _ _ all) in
    let rest : filter p xs ≡ filter q xs = filter_agrees known p q h xs (second _ _ all) in
    ap (λ b. cond b (x ∷ filter p xs) (filter p xs)) here ∙ ap (λ l. cond (q x) (x ∷ l) l) rest

-- one number of the key after another
level : (a x : ℕ) (low high : Ordering)
    → (is_le (ordering_then (nat_cmp a x) low) && not (is_lt (ordering_then (nat_cmp a x) high))) ≡ ((x == a) && (is_le low && not (is_lt high)))
level a x low high =
    elim (nat_cmp a x) as (λ r. nat_cmp a x ≡ r → (is_le (ordering_then r low) && not (is_lt (ordering_then r high))) ≡ ((x == a) && (is_le low && not (is_lt high)))) [
      | Less ↦ λ e. let other : (x == a) ≡ false = grind (arith, nat_tests) in rw other refl
      | Equal ↦ λ e. let same : (x == a) ≡ true = grind (arith, nat_tests) in rw same refl
      | Greater ↦ λ e. let other : (x == a) ≡ false = grind (arith, nat_tests) in rw other refl
    ] refl

last_level : (x : ℕ) → x ≤ 4294967295 → (is_le (nat_cmp 0 x) && not (is_lt (nat_cmp 4294967295 x))) ≡ true
last_level x h = grind (arith, nat_tests)

and_true : (b : Bool) → (b && true) ≡ b
and_true true = refl
and_true false = refl

pub order_between : (home : DistrictKey) (key : OrderKey) → key.o_id ≤ 4294967295
    → range_contains order_cmp (Included (record { w_id = home.w_id; d_id = home.d_id; o_id = 0 })) (Included (record { w_id = home.w_id; d_id = home.d_id; o_id = 4294967295 })) key
    ≡ is_of_district home key
order_between home key h =
    level home.w_id key.w_id (ordering_then (nat_cmp home.d_id key.d_id) (nat_cmp 0 key.o_id)) (ordering_then (nat_cmp home.d_id key.d_id) (nat_cmp 4294967295 key.o_id))
    ∙ ap (λ b. (key.w_id == home.w_id) && b)
    (level home.d_id key.d_id (nat_cmp 0 key.o_id) (nat_cmp 4294967295 key.o_id) ∙ ap (λ b. (key.d_id == home.d_id) && b) (last_level key.o_id h) ∙ and_true _)

abbrev pub first_order : DistrictKey → OrderKey
first_order home = record { w_id = home.w_id; d_id = home.d_id; o_id = 0 }

abbrev pub last_order : DistrictKey → OrderKey
last_order home = record { w_id = home.w_id; d_id = home.d_id; o_id = 4294967295 }

pub small_order : (number : ℕ) → IsTrue (is_order_id number) → number ≤ 4294967295
small_order number h = grind (arith, nat_tests)

small_number : (number : ℕ) → IsTrue (is_order_id number) → number ≤ 9999999
small_number number h = grind (arith, nat_tests)

some_number : (number : ℕ) → IsTrue (is_order_id number) → 1 ≤ number
some_number number h = grind (arith, nat_tests)

-- the orders between the first and the last that a district can have are the district's
pub orders_part : {X : Type 0} (home : DistrictKey) (low high : OrderKey) → low ≡ first_order home → high ≡ last_order home → (es : List (OrderKey × X)) → IsStrictlySortedBy order_cmp (keys_of es)
    → EachRow {R = order_cmp} (λ key _. is_order_id key.o_id) (from_entries es)
    → entries_between order_cmp (Included low) (Included high) es ≡ rows_where {R = order_cmp} (is_of_district home) (from_entries es)
orders_part home low high is_low is_high es sorted numbered =
    ap (λ lo. entries_between order_cmp (Included lo) (Included high) es) is_low
    ∙ ap (λ hi. entries_between order_cmp (Included (first_order home)) (Included hi) es) is_high
    ∙ filter_agrees (λ e. is_order_id e.0.o_id) _ _ (λ e h. order_between home e.0 (small_order e.0.o_id h)) es
    ((EachRow-entries orders_total orders_exact (λ key _. is_order_id key.o_id) es sorted).1 numbered)
    ∙ ap (filter (λ e. is_of_district home e.0)) (sym (entries-ordered orders_total es sorted))

-- of two orders of a district the later has the greater number
later_number : (home : DistrictKey) (a b : OrderKey) → IsTrue (is_of_district home a) → IsTrue (is_of_district home b) → order_cmp a b ≡ Less → a.o_id + 1 ≤ b.o_id
later_number home a b h k less =
    let same_warehouse : nat_cmp a.w_id b.w_id ≡ Equal = grind (arith, nat_tests) in
    let same_district : nat_cmp a.d_id b.d_id ≡ Equal = grind (arith, nat_tests) in
    let number : nat_cmp a.o_id b.o_id ≡ Less = sym (rw (same_warehouse, same_district) refl) ∙ less in
    grind (arith, nat_tests)

pub from_later : (home : DistrictKey) (a : OrderKey) (ks : List OrderKey) → IsTrue (is_of_district home a) → AllByRecursion (λ k. order_cmp a k ≡ Less) ks → AllByRecursion (λ k. IsTrue (is_of_district home k) → a.o_id + 1 ≤ k.o_id) ks
from_later home a [] h below = tt
from_later home a (k ∷ ks) h below = (λ there. later_number home a k h there below.0, from_later home a ks h below.1)

few_from : {X : Type 0} (home : DistrictKey) (es : List (OrderKey × X)) → IsStrictlySortedBy order_cmp (keys_of es) → IsTrue (list_all (λ e. is_order_id e.0.o_id) es)
    → (low : ℕ) → low ≤ 10000000 → AllByRecursion (λ k. IsTrue (is_of_district home k) → low ≤ k.o_id) (keys_of es)
    → length (filter (λ e. is_of_district home e.0) es) + low ≤ 10000000
few_from home [] sorted numbered low small above = omega arith
few_from {X} home (e ∷ es) sorted numbered low small above =
    let others : IsTrue (list_all (λ (x : OrderKey × X). is_order_id x.0.o_id) es) = second _ _ numbered in
    elim (is_of_district home e.0) as (λ b. is_of_district home e.0 ≡ b → length (cond b (e ∷ filter (λ e. is_of_district home e.0) es) (filter (λ e. is_of_district home e.0) es)) + low ≤ 10000000) [
      | true ↦ λ there.
          let here : low ≤ e.0.o_id = above.0 there in
          let last : e.0.o_id ≤ 9999999 = small_number e.0.o_id (first _ _ numbered) in
          let rest : length (filter (λ (e : OrderKey × X). is_of_district home e.0) es) + (e.0.o_id + 1) ≤ 10000000 =
          few_from {X = X} home es (sorted_tail order_cmp e.0 (keys_of es) sorted) others (e.0.o_id + 1) (omega arith) (from_later home e.0 (keys_of es) there (sorted_head order_cmp e.0 (keys_of es) sorted)) in
          omega arith
      | false ↦ λ there. few_from home es (sorted_tail order_cmp e.0 (keys_of es) sorted) others low small above.1
    ] refl

from_first : {X : Type 0} (home : DistrictKey) (es : List (OrderKey × X)) → IsTrue (list_all (λ e. is_order_id e.0.o_id) es) → AllByRecursion (λ k. IsTrue (is_of_district home k) → 1 ≤ k.o_id) (keys_of es)
from_first home [] numbered = tt
from_first home (e ∷ es) numbered = (λ there. some_number e.0.o_id (first _ _ numbered), from_first home es (second _ _ numbered))

-- a district has at most as many orders as there are numbers for them
pub few_orders : {X : Type 0} (home : DistrictKey) (es : List (OrderKey × X)) → IsStrictlySortedBy order_cmp (keys_of es)
    → EachRow {R = order_cmp} (λ key _. is_order_id key.o_id) (from_entries es)
    → length (rows_where {R = order_cmp} (is_of_district home) (from_entries es)) ≤ 9999999
few_orders {X} home es sorted numbered =
    let all = (EachRow-entries orders_total orders_exact (λ key _. is_order_id key.o_id) es sorted).1 numbered in
    let few : length (filter (λ (e : OrderKey × X). is_of_district home e.0) es) + 1 ≤ 10000000 = few_from home es sorted all 1 (omega arith) (from_first home es all) in
    let same = ap (λ (l : List (OrderKey × X)). length (filter (λ e. is_of_district home e.0) l)) (entries-ordered orders_total es sorted) in
    omega arith

-- the number of a line's order is that of an order
pub lines_of_numbered : (t : Database) → IsWithinScale t → EachRow (λ key _. is_order_id key.o_id) t.lines
lines_of_numbered t h key row found =
    elim (map.get t.orders (order_of_line key)) as (λ r. map.get t.orders (order_of_line key) ≡ r → IsTrue (is_some r) → IsTrue (is_order_id key.o_id)) [
      | None ↦ λ e there. absurd cc
      | Some order ↦ λ e there. h.orders_numbered (order_of_line key) order e
    ] refl (h.lines_have_orders key row found)

-- the number of a new order is that of an order
pub new_orders_numbered : (t : Database) → IsWithinScale t → EachRow (λ key _. is_order_id key.o_id) t.new_orders
new_orders_numbered t h key row found =
    elim (map.get t.orders key) as (λ r. map.get t.orders key ≡ r → IsTrue (is_some r) → IsTrue (is_order_id key.o_id)) [
      | None ↦ λ e there. absurd cc
      | Some order ↦ λ e there. h.orders_numbered key order e
    ] refl (h.new_orders_have_orders key row found)
