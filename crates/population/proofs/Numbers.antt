-- The numbers of a district's orders and new orders.
use Rattle.std.proofs.Common.{◌≡◌, ℕ, zero, suc, ◌+◌, ◌-◌, ◌<◌, ◌≤◌, true, false, cond, nat_lt, List, [], ◌∷◌, map, length, max, min, refl, sym, ap, ◌∙◌, arith}
use Rattle.std.proofs.lemmas.Bool.Decides.{nat_tests}
use Rattle.std.proofs.lemmas.List.FromFn.{length-range_with_len}
use Rattle.std.specs.List.{filter, range_with_len}
use Rattle.std.specs.Map.{keys_of}
use Rattle.rows.specs.declared.keys.DistrictKey.{DistrictKey}
use Rattle.rows.specs.declared.keys.OrderKey.{OrderKey}
use Rattle.schema.specs.declared.scale.Scale.{Scale}
use Rattle.schema.specs.Consistency.{greatest, least}
use Rattle.schema.specs.Database.{is_of_district}
use Rattle.population.specs.Profile.{delivered_orders}
use Rattle.population.specs.Book.{is_new_order}

-- the greatest and the least of numbers in order
pub greatest_from : (first count : ℕ) → greatest (range_with_len first (suc count)) ≡ first + count
greatest_from first zero = omega arith
greatest_from first (suc count) =
    let rest = greatest_from (first + 1) count in
    ap (max first) rest ∙ (let e : max first (first + 1 + count) ≡ first + suc count = omega arith in e)

least_above : (n first count : ℕ) → n ≤ first → least n (range_with_len first count) ≡ n
least_above n first zero h = refl
least_above n first (suc count) h =
    ap (λ m. least m (range_with_len (first + 1) count)) (let e : min n first ≡ n = omega arith in e) ∙ least_above n (first + 1) count (omega arith)

pub least_from : (first count : ℕ) → least first (range_with_len (first + 1) count) ≡ first
least_from first count = least_above first (first + 1) count (omega arith)

-- numbers in order have no gap
pub no_gap : (low count : ℕ) (first : ℕ) (others : List ℕ) → range_with_len low count ≡ first ∷ others
    → greatest (first ∷ others) + 1 ≡ least first others + length (first ∷ others)
no_gap low zero first others is = absurd cc
no_gap low (suc count) first others is =
    let at : low ≡ first = cc in
    let behind : range_with_len (low + 1) count ≡ others = cc in
    let top : greatest (first ∷ others) ≡ low + count = ap greatest (sym is) ∙ greatest_from low count in
    let bottom : least first others ≡ low = ap (least first) (sym behind) ∙ ap (λ n. least n (range_with_len (low + 1) count)) (sym at) ∙ least_from low count in
    let many : length others ≡ count = ap length (sym behind) ∙ length-range_with_len (low + 1) count in
    omega arith

-- ---- the numbers above one

all_above : (d first count : ℕ) → d < first → filter (nat_lt d) (range_with_len first count) ≡ range_with_len first count
all_above d first zero h = refl
all_above d first (suc count) h =
    let above : nat_lt d first ≡ true = grind (arith, nat_tests) in
    rw above (ap (λ l. first ∷ l) (all_above d (first + 1) count (omega arith)))

pub above : (d first count : ℕ) → first ≤ d + 1 → filter (nat_lt d) (range_with_len first count) ≡ range_with_len (d + 1) (first + count - (d + 1))
above d first zero h = ap (range_with_len (d + 1)) (let e : 0 ≡ first + 0 - (d + 1) = omega arith in e)
above d first (suc count) h =
    elim (nat_lt d first) as (λ b. nat_lt d first ≡ b → cond b (first ∷ filter (nat_lt d) (range_with_len (first + 1) count)) (filter (nat_lt d) (range_with_len (first + 1) count)) ≡ range_with_len (d + 1) (first + suc count - (d + 1))) [
      | true ↦ λ t.
          let more : d < first = grind (arith, nat_tests) in
          let at : first ≡ d + 1 = omega arith in
          ap (λ l. first ∷ l) (all_above d (first + 1) count (omega arith))
          ∙ ap (λ n. range_with_len n (suc count)) at
          ∙ ap (range_with_len (d + 1)) (let e : suc count ≡ first + suc count - (d + 1) = omega arith in e)
      | false ↦ λ t.
          let less : first ≤ d = grind (arith, nat_tests) in
          above d (first + 1) count (omega arith)
          ∙ ap (range_with_len (d + 1)) (let e : first + 1 + count - (d + 1) ≡ first + suc count - (d + 1) = omega arith in e)
    ] refl

-- ---- of the keys

numbers_of : List OrderKey → List ℕ
numbers_of keys = map (λ key. key.o_id) keys

pub kept_keys : {X : Type 0} (home : DistrictKey) (es : List (OrderKey × X)) → map (λ e. e.0.o_id) (filter (λ e. is_of_district home e.0) es) ≡ map (λ key. key.o_id) (filter (is_of_district home) (keys_of es))
kept_keys home [] = refl
kept_keys home (e ∷ es) =
    let rest = kept_keys home es in
    elim (is_of_district home e.0) as (λ b. map (λ e. e.0.o_id) (cond b (e ∷ filter (λ e. is_of_district home e.0) es) (filter (λ e. is_of_district home e.0) es))
    ≡ map (λ key. key.o_id) (cond b (e.0 ∷ filter (is_of_district home) (keys_of es)) (filter (is_of_district home) (keys_of es)))) [
      | true ↦ ap (λ l. e.0.o_id ∷ l) rest
      | false ↦ rest
    ]

-- of the new orders those of a district, and of the district's orders those that are new
pub new_of_district : (scale : Scale) (home : DistrictKey) (keys : List OrderKey)
    → map (λ key. key.o_id) (filter (is_of_district home) (filter (is_new_order scale) keys)) ≡ filter (nat_lt (delivered_orders scale)) (map (λ key. key.o_id) (filter (is_of_district home) keys))
new_of_district scale home [] = refl
new_of_district scale home (key ∷ keys) =
    let rest = new_of_district scale home keys in
    let news = filter (is_new_order scale) keys in
    elim (is_of_district home key) as (λ b. is_of_district home key ≡ b → map (λ key. key.o_id) (filter (is_of_district home) (cond (nat_lt (delivered_orders scale) key.o_id) (key ∷ news) news))
    ≡ filter (nat_lt (delivered_orders scale)) (map (λ key. key.o_id) (cond b (key ∷ filter (is_of_district home) keys) (filter (is_of_district home) keys)))) [
      | true ↦ λ t. elim (nat_lt (delivered_orders scale) key.o_id) as (λ c. map (λ key. key.o_id) (filter (is_of_district home) (cond c (key ∷ news) news))
          ≡ cond c (key.o_id ∷ filter (nat_lt (delivered_orders scale)) (map (λ key. key.o_id) (filter (is_of_district home) keys))) (filter (nat_lt (delivered_orders scale)) (map (λ key. key.o_id) (filter (is_of_district home) keys)))) [
            | true ↦ rw t (ap (λ l. key.o_id ∷ l) rest)
            | false ↦ rest
          ]
      | false ↦ λ t. elim (nat_lt (delivered_orders scale) key.o_id) as (λ c. map (λ key. key.o_id) (filter (is_of_district home) (cond c (key ∷ news) news))
          ≡ filter (nat_lt (delivered_orders scale)) (map (λ key. key.o_id) (filter (is_of_district home) keys))) [
            | true ↦ rw t rest
            | false ↦ rest
          ]
    ] refl

-- the next number after numbers in order
pub greatest_next : (first count : ℕ) → 1 ≤ count → greatest (range_with_len first count) + 1 ≡ first + count
greatest_next first zero h = absurd (omega arith)
greatest_next first (suc count) h = ap (λ n. n + 1) (greatest_from first count) ∙ (let e : first + count + 1 ≡ first + suc count = omega arith in e)

no_rows : {X Y : Type 0} (f : X → Y) (xs : List X) → map f xs ≡ [] → xs ≡ []
no_rows f [] h = refl
no_rows f (x ∷ xs) h = absurd cc

-- numbers in order that are there have a last
pub last_next : {X : Type 0} (f : X → ℕ) (xs : List X) (first count : ℕ) → map f xs ≡ range_with_len first count → (xs ≡ [] → ⊥) → greatest (map f xs) + 1 ≡ first + count
last_next f xs first zero is some = absurd (some (no_rows f xs is))
last_next f xs first (suc count) is some = ap (λ l. greatest l + 1) is ∙ greatest_next first (suc count) (omega arith)
