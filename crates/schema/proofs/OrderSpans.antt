-- The oldest new order of a district, and the lines of some of its orders.
use Rattle.std.proofs.Common.{◌≡◌, ℕ, ◌+◌, ◌≤◌, max, min, Bool, true, false, cond, not, ◌&&◌, ◌==◌, nat_le, nat_lt, List, [], ◌∷◌, Option, Some, None, IsTrue, refl, sym, ap, ◌∙◌, arith, rules}
use Rattle.std.specs.List.{filter, AllByRecursion}
use Rattle.std.specs.List.Sorted.{IsStrictlySortedBy}
use Rattle.std.specs.Map.{keys_of}
use Rattle.std.specs.BTreeMap.Range.{range_contains}
use Rattle.std.specs.declared.ops.Bound.TheVariants.{Included, Excluded}
use Rattle.std.specs.declared.cmp.Ordering.{Ordering}
use Rattle.std.specs.declared.cmp.Ordering.TheVariants.{Less, Equal, Greater}
use Rattle.std.specs.Ordering.{nat_cmp, ordering_then, is_le, is_gt}
use Rattle.std.specs.FinMap.{from_entries}
use Rattle.std.proofs.lemmas.Bool.Decides.{nat_tests}
use Rattle.std.proofs.lemmas.Map.Keys.{sorted_head, sorted_tail}
use Rattle.rows.specs.declared.keys.DistrictKey.{DistrictKey}
use Rattle.rows.specs.declared.keys.OrderKey.{OrderKey}
use Rattle.rows.specs.declared.keys.OrderLineKey.{OrderLineKey}
use Rattle.rows.specs.Keys.{order_cmp, order_of_line}
use Rattle.schema.specs.Database.{rows_where, is_of_district, is_of_order}
use Rattle.schema.specs.Consistency.{least, numbers}
use Rattle.schema.specs.OrderRows.{smallest, is_in_span}
use Rattle.schema.proofs.KeyOrders.{orders_total}
use Rattle.schema.proofs.OrderedParts.{entries-ordered, from_later}

-- ---- the oldest of a district

-- the first of numbers that are no less
least_first : (n : ℕ) (ns : List ℕ) → AllByRecursion (λ m. n ≤ m) ns → least n ns ≡ n
least_first n [] h = refl
least_first n (m ∷ ms) h =
    let same : min n m ≡ n = omega (arith, h.0) in
    ap (λ k. least k ms) same ∙ least_first n ms h.1

none_less : {X : Type 0} (home : DistrictKey) (low : ℕ) (es : List (OrderKey × X)) → AllByRecursion (λ k. IsTrue (is_of_district home k) → low + 1 ≤ k.o_id) (keys_of es)
    → AllByRecursion (λ m. low ≤ m) (numbers (filter (λ e. is_of_district home e.0) es))
none_less home low [] h = tt
none_less home low (e ∷ es) h =
    elim (is_of_district home e.0) as (λ b. is_of_district home e.0 ≡ b → AllByRecursion (λ m. low ≤ m) (numbers (cond b (e ∷ filter (λ e. is_of_district home e.0) es) (filter (λ e. is_of_district home e.0) es)))) [
      | true ↦ λ there. (let above : low + 1 ≤ e.0.o_id = h.0 there in omega arith, none_less home low es h.1)
      | false ↦ λ there. none_less home low es h.1
    ] refl

abbrev pub first_number : {X : Type 0} → List (OrderKey × X) → Option ℕ
first_number [] = None
first_number (e ∷ es) = Some e.0.o_id

first_smallest : {X : Type 0} (home : DistrictKey) (es : List (OrderKey × X)) → IsStrictlySortedBy order_cmp (keys_of es)
    → first_number (filter (λ e. is_of_district home e.0) es) ≡ smallest (numbers (filter (λ e. is_of_district home e.0) es))
first_smallest home [] sorted = refl
first_smallest home (e ∷ es) sorted =
    elim (is_of_district home e.0) as (λ b. is_of_district home e.0 ≡ b
    → first_number (cond b (e ∷ filter (λ e. is_of_district home e.0) es) (filter (λ e. is_of_district home e.0) es)) ≡ smallest (numbers (cond b (e ∷ filter (λ e. is_of_district home e.0) es) (filter (λ e. is_of_district home e.0) es)))) [
      | true ↦ λ there.
          let later = from_later home e.0 (keys_of es) there (sorted_head order_cmp e.0 (keys_of es) sorted) in
          ap Some (sym (least_first e.0.o_id (numbers (filter (λ e. is_of_district home e.0) es)) (none_less home e.0.o_id es later)))
      | false ↦ λ there. first_smallest home es (sorted_tail order_cmp e.0 (keys_of es) sorted)
    ] refl

-- the first of the district's rows has the smallest number
pub oldest_first : {X : Type 0} (home : DistrictKey) (es : List (OrderKey × X)) → IsStrictlySortedBy order_cmp (keys_of es)
    → first_number (rows_where {R = order_cmp} (is_of_district home) (from_entries es)) ≡ smallest (numbers (rows_where {R = order_cmp} (is_of_district home) (from_entries es)))
oldest_first home es sorted =
    let same = entries-ordered orders_total es sorted in
    ap (λ l. first_number (filter (λ e. is_of_district home e.0) l)) same ∙ first_smallest home es sorted
    ∙ ap (λ l. smallest (numbers (filter (λ e. is_of_district home e.0) l))) (sym same)

-- ---- the orders of a span, and those of the warehouses from one on

from_number : (from x : ℕ) → is_le (nat_cmp from x) ≡ nat_le from x
from_number from x = grind (arith, nat_tests)

level : (a x : ℕ) (low high : Ordering)
    → (is_le (ordering_then (nat_cmp a x) low) && not (is_le (ordering_then (nat_cmp a x) high))) ≡ ((x == a) && (is_le low && not (is_le high)))
level a x low high =
    elim (nat_cmp a x) as (λ r. nat_cmp a x ≡ r → (is_le (ordering_then r low) && not (is_le (ordering_then r high))) ≡ ((x == a) && (is_le low && not (is_le high)))) [
      | Less ↦ λ e. let other : (x == a) ≡ false = grind (arith, nat_tests) in rw other refl
      | Equal ↦ λ e. let same : (x == a) ≡ true = grind (arith, nat_tests) in rw same refl
      | Greater ↦ λ e. let other : (x == a) ≡ false = grind (arith, nat_tests) in rw other refl
    ] refl

up_to : (from to x : ℕ) → (nat_le from x && not (nat_le (max to from) x)) ≡ (nat_le from x && nat_lt x to)
up_to from to x = grind (arith, nat_tests)

-- the order of that number
abbrev pub order_of_number : DistrictKey → ℕ → OrderKey
order_of_number home number = record { w_id = home.w_id; d_id = home.d_id; o_id = number }

pub span_between : (home : DistrictKey) (from to past : ℕ) (key : OrderLineKey) → past ≡ max to from
    → range_contains order_cmp (Included (order_of_number home from)) (Excluded (order_of_number home past)) (order_of_line key) ≡ is_in_span home from to key
span_between home from to past key e =
    level home.w_id key.w_id (ordering_then (nat_cmp home.d_id key.d_id) (nat_cmp from key.o_id)) (ordering_then (nat_cmp home.d_id key.d_id) (nat_cmp past key.o_id))
    ∙ ap (λ b. (key.w_id == home.w_id) && b)
    (level home.d_id key.d_id (nat_cmp from key.o_id) (nat_cmp past key.o_id)
    ∙ ap (λ b. (key.d_id == home.d_id) && b)
    (ap (λ b. b && not (is_le (nat_cmp past key.o_id))) (from_number from key.o_id)
    ∙ ap (λ b. nat_le from key.o_id && not b) (from_number past key.o_id)
    ∙ ap (λ n. nat_le from key.o_id && not (nat_le n key.o_id)) e
    ∙ up_to from to key.o_id))
    ∙ and_assoc (key.w_id == home.w_id) (key.d_id == home.d_id) (nat_le from key.o_id && nat_lt key.o_id to)
  where
    and_assoc : (a b c : Bool) → (a && (b && c)) ≡ ((a && b) && c)
    and_assoc true b c = refl
    and_assoc false b c = refl

-- such a part runs forward
pub span_forward : (home : DistrictKey) (from past : ℕ) → from ≤ past → is_gt (order_cmp (order_of_number home from) (order_of_number home past)) ≡ false
span_forward home from past h = search rules

-- just the order
pub one_order : (order : OrderKey) (key : OrderLineKey) → range_contains order_cmp (Included order) (Included order) (order_of_line key) ≡ is_of_order order key
one_order order key = search rules

-- the first key that an order of the warehouse can have
abbrev pub first_of_warehouse : ℕ → OrderKey
first_of_warehouse warehouse = record { w_id = warehouse; d_id = 0; o_id = 0 }

-- the orders before it are those of lower warehouses
pub before_warehouse : (warehouse : ℕ) (key : OrderKey) → is_gt (order_cmp (first_of_warehouse warehouse) key) ≡ nat_lt key.w_id warehouse
before_warehouse warehouse key = search rules

-- and from it on those of the others
pub from_warehouse : (warehouse : ℕ) (key : OrderKey) → is_le (order_cmp (first_of_warehouse warehouse) key) ≡ nat_le warehouse key.w_id
from_warehouse warehouse key = search rules
