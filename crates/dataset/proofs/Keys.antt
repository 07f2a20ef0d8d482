-- The scale's keys: the key at an index, and that they ascend.
use Rattle.std.proofs.Common.{is_some, Bool, true, false, cond, Option, None, ◌≡◌, ℕ, zero, suc, ◌+◌, ◌*◌, ◌/◌, ◌<◌, ◌≤◌, List, [], ◌∷◌, ◌++◌, map, length, Some, refl, sym, ap, subst, ◌∙◌, arith}
use Rattle.std.specs.Prelude.{if◌then◌else◌}
use Rattle.std.specs.List.{range_with_len, slice_get, flat_map, AllByRecursion}
use Rattle.std.specs.List.Sorted.{IsStrictlySortedBy}
use Rattle.std.specs.declared.cmp.Ordering.{Ordering}
use Rattle.std.specs.declared.cmp.Ordering.TheVariants.{Less, Equal, Greater}
use Rattle.std.specs.Ordering.{nat_cmp, ordering_then, eq_by_cmp}
use Rattle.std.specs.Option.{option_map}
use Rattle.std.specs.Cmp.{Equal-is, IsTotalOrder, nat_cmp_total}
use Rattle.std.specs.FinMap.{IsAntisymmetric, nat_cmp-IsAntisymmetric}
use Rattle.std.proofs.lemmas.Bool.Decides.{nat_tests}
use Rattle.std.proofs.Math.Nat.{div-lt_iff_lt-mul}
use Rattle.std.proofs.lemmas.List.FromFn.{length-map-range_with_len}
use Rattle.rows.specs.Keys.{district_cmp, stock_cmp, customer_cmp}
use Rattle.schema.specs.declared.scale.Scale.{Scale}
use Rattle.schema.specs.Dense.{grid, place}
use Rattle.schema.specs.Scale.{has_customer, has_district, has_item, has_stock, has_warehouse, item_ids, warehouse_ids, district_key, district_keys, stock_key, stock_keys, customer_key, customer_keys}
use Rattle.schema.proofs.KeyOrders.{districts_total, districts_exact, stocks_total, stocks_exact, customers_total, customers_exact}
use Rattle.schema.proofs.ScalePlaces.{item_place, warehouse_place, district_place, stock_place, customer_place}
use Rattle.dataset.proofs.Order.{lower_number}

-- ---- the key at a place

get-numbers : {X : Type 0} (f : ℕ → X) (first count n : ℕ) → n < count → slice_get (map f (range_with_len first count)) n ≡ Some (f (first + n))
get-numbers f first zero n below = absurd (omega arith)
get-numbers f first (suc count) zero below = ap (λ i. Some (f i)) (let e : first ≡ first + 0 = omega arith in e)
get-numbers f first (suc count) (suc n) below =
    get-numbers f (first + 1) count n (omega arith) ∙ ap (λ i. Some (f i)) (let e : first + 1 + n ≡ first + suc n = omega arith in e)

get-front : {X : Type 0} (xs ys : List X) (n : ℕ) (x : X) → slice_get xs n ≡ Some x → slice_get (xs ++ ys) n ≡ Some x
get-front [] ys n x e = absurd cc
get-front (y ∷ xs) ys zero x e = e
get-front (y ∷ xs) ys (suc n) x e = get-front xs ys n x e

get-back : {X : Type 0} (xs ys : List X) (n m : ℕ) → m ≡ length xs + n → slice_get (xs ++ ys) m ≡ slice_get ys n
get-back [] ys n m e = ap (slice_get ys) (let is : m ≡ n = omega arith in is)
get-back (x ∷ xs) ys n zero e = absurd (omega arith)
get-back (x ∷ xs) ys n (suc m) e = get-back xs ys n m (omega arith)

-- in a grid: the outer key's block, and in it the number
pub get-grid : {O K : Type 0} (key : O → ℕ → K) (count : ℕ) (os : List O) (p j : ℕ) (o : O) → slice_get os p ≡ Some o → j < count → slice_get (grid key count os) (p * count + j) ≡ Some (key o (1 + j))
get-grid key count [] p j o e below = absurd cc
get-grid key count (first ∷ os) zero j o e below =
    let same : first ≡ o = cc in
    let at : 0 * count + j ≡ j = grind arith in
    ap (slice_get (grid key count (first ∷ os))) at
    ∙ get-front (map (key first) (range_with_len 1 count)) (grid key count os) j (key first (1 + j)) (get-numbers (key first) 1 count j below)
    ∙ ap (λ k. Some (key k (1 + j))) same
get-grid key count (first ∷ os) (suc p) j o e below =
    let many = length-map-range_with_len (key first) 1 count in
    let at : suc p * count + j ≡ count + (p * count + j) = grind arith in
    get-back (map (key first) (range_with_len 1 count)) (grid key count os) (p * count + j) (suc p * count + j) (omega arith)
    ∙ get-grid key count os p j o e below

-- an index is in one of the blocks
pub block_below : (n blocks count : ℕ) → 0 < count → n < blocks * count → n / count < blocks
block_below n blocks count some below = (div-lt_iff_lt-mul some).1 below

same_numbers : (xs : List ℕ) → map (λ n. n) xs ≡ xs
same_numbers [] = refl
same_numbers (x ∷ xs) = ap (λ l. x ∷ l) (same_numbers xs)

pub get-range : (first count n : ℕ) → n < count → slice_get (range_with_len first count) n ≡ Some (first + n)
get-range first count n below = ap (λ l. slice_get l n) (sym (same_numbers (range_with_len first count))) ∙ get-numbers (λ i. i) first count n below

-- ---- their order

pub all-append : {X : Type 0} (P : X → Type 0) (xs ys : List X) → AllByRecursion P xs → AllByRecursion P ys → AllByRecursion P (xs ++ ys)
all-append P [] ys h g = g
all-append P (x ∷ xs) ys h g = (h.0, all-append P xs ys h.1 g)

pub all-weaker : {X : Type 0} (P Q : X → Type 0) → ((x : X) → P x → Q x) → (xs : List X) → AllByRecursion P xs → AllByRecursion Q xs
all-weaker P Q f [] h = tt
all-weaker P Q f (x ∷ xs) h = (f x h.0, all-weaker P Q f xs h.1)

pub all-each : {X : Type 0} (P : X → Type 0) → ((x : X) → P x) → (xs : List X) → AllByRecursion P xs
all-each P f [] = tt
all-each P f (x ∷ xs) = (f x, all-each P f xs)

pub all-map : {X Y : Type 0} (P : Y → Type 0) (f : X → Y) (xs : List X) → AllByRecursion (λ x. P (f x)) xs → AllByRecursion P (map f xs)
all-map P f [] h = tt
all-map P f (x ∷ xs) h = (h.0, all-map P f xs h.1)

pub all-flat_map : {X Y : Type 0} (P : Y → Type 0) (f : X → List Y) (xs : List X) → AllByRecursion (λ x. AllByRecursion P (f x)) xs
    → AllByRecursion P (flat_map f xs)
all-flat_map P f [] h = tt
all-flat_map P f (x ∷ xs) h = all-append P (f x) (flat_map f xs) h.0 (all-flat_map P f xs h.1)

all-numbers : {X : Type 0} (P : X → Type 0) (f : ℕ → X) (first count : ℕ) → ((n : ℕ) → first ≤ n → P (f n)) → AllByRecursion P (map f (range_with_len first count))
all-numbers P f first zero h = tt
all-numbers P f first (suc count) h = (h first (omega arith), all-numbers P f (first + 1) count (λ n above. h n (omega arith)))

module _ {K : Type 0} (c : K → K → Ordering) where
  sorted-append : (xs ys : List K) → IsStrictlySortedBy c xs → IsStrictlySortedBy c ys → AllByRecursion (λ x. AllByRecursion (λ y. c x y ≡ Less) ys) xs → IsStrictlySortedBy c (xs ++ ys)
  unfolding IsStrictlySortedBy
  sorted-append [] ys h g below = g
  sorted-append (x ∷ xs) ys h g below = (all-append (λ y. c x y ≡ Less) xs ys h.0 below.0, sorted-append xs ys h.1 g below.1)

  sorted-numbers : (f : ℕ → K) (first count : ℕ) → ((i j : ℕ) → i < j → c (f i) (f j) ≡ Less) → IsStrictlySortedBy c (map f (range_with_len first count))
  unfolding IsStrictlySortedBy
  sorted-numbers f first zero rises = tt
  sorted-numbers f first (suc count) rises =
      (all-numbers (λ y. c (f first) y ≡ Less) f (first + 1) count (λ n above. rises first n (omega arith)), sorted-numbers f (first + 1) count rises)

  module _ {O : Type 0} (outer : O → O → Ordering) (key : O → ℕ → K) where
    all-grid : (P : K → Type 0) (count : ℕ) (os : List O) → AllByRecursion (λ o. (j : ℕ) → P (key o j)) os → AllByRecursion P (grid key count os)
    all-grid P count [] h = tt
    all-grid P count (o ∷ os) h = all-append P (map (key o) (range_with_len 1 count)) (grid key count os) (all-numbers P (key o) 1 count (λ n _. h.0 n)) (all-grid P count os h.1)

    sorted-grid : (count : ℕ) (os : List O) → ((o : O) (i j : ℕ) → i < j → c (key o i) (key o j) ≡ Less) → ((o p : O) (i j : ℕ) → outer o p ≡ Less → c (key o i) (key p j) ≡ Less)
        → IsStrictlySortedBy outer os → IsStrictlySortedBy c (grid key count os)
    unfolding IsStrictlySortedBy
    sorted-grid count [] rises later sorted = tt
    sorted-grid count (o ∷ os) rises later sorted =
        sorted-append (map (key o) (range_with_len 1 count)) (grid key count os) (sorted-numbers (key o) 1 count (rises o)) (sorted-grid count os rises later sorted.1)
        (all-numbers (λ x. AllByRecursion (λ y. c x y ≡ Less) (grid key count os)) (key o) 1 count
        (λ i _. all-grid (λ y. c (key o i) y ≡ Less) count os (all-weaker (λ p. outer o p ≡ Less) (λ p. (j : ℕ) → c (key o i) (key p j) ≡ Less) (λ p e j. later o p i j e) os sorted.0)))

alike : (i : ℕ) → nat_cmp i i ≡ Equal
alike i = grind (arith, nat_tests)

then_less : (x y z : Ordering) → ordering_then x y ≡ Less → ordering_then x (ordering_then y z) ≡ Less
then_less Less y z e = refl
then_less Equal Less z e = refl
then_less Equal Equal z e = absurd cc
then_less Equal Greater z e = absurd cc
then_less Greater y z e = absurd cc

sorted-range : (first count : ℕ) → IsStrictlySortedBy nat_cmp (range_with_len first count)
sorted-range first count = subst (IsStrictlySortedBy nat_cmp) (same_numbers (range_with_len first count)) (sorted-numbers nat_cmp (λ i. i) first count lower_number)

pub sorted-item_ids : (scale : Scale) → IsStrictlySortedBy nat_cmp (item_ids scale)
sorted-item_ids scale = sorted-range 1 scale.items

pub sorted-warehouse_ids : (scale : Scale) → IsStrictlySortedBy nat_cmp (warehouse_ids scale)
sorted-warehouse_ids scale = sorted-range 1 scale.warehouses

pub sorted-district_keys : (scale : Scale) → IsStrictlySortedBy district_cmp (district_keys scale)
sorted-district_keys scale =
    sorted-grid district_cmp nat_cmp district_key 10 (warehouse_ids scale)
    (λ w i j h. ap (λ r. ordering_then r (nat_cmp i j)) (alike w) ∙ lower_number i j h)
    (λ v w i j e. ap (λ r. ordering_then r (nat_cmp i j)) e)
    (sorted-warehouse_ids scale)

pub sorted-stock_keys : (scale : Scale) → IsStrictlySortedBy stock_cmp (stock_keys scale)
sorted-stock_keys scale =
    sorted-grid stock_cmp nat_cmp stock_key scale.items (warehouse_ids scale)
    (λ w i j h. ap (λ r. ordering_then r (nat_cmp i j)) (alike w) ∙ lower_number i j h)
    (λ v w i j e. ap (λ r. ordering_then r (nat_cmp i j)) e)
    (sorted-warehouse_ids scale)

pub sorted-customer_keys : (scale : Scale) → IsStrictlySortedBy customer_cmp (customer_keys scale)
sorted-customer_keys scale =
    sorted-grid customer_cmp district_cmp customer_key scale.customers (district_keys scale)
    (λ home i j h. ap (λ r. ordering_then r (ordering_then (nat_cmp home.d_id home.d_id) (nat_cmp i j))) (alike home.w_id)
    ∙ ap (λ r. ordering_then r (nat_cmp i j)) (alike home.d_id) ∙ lower_number i j h)
    (λ a b i j e. then_less (nat_cmp a.w_id b.w_id) (nat_cmp a.d_id b.d_id) (nat_cmp i j) e)
    (sorted-district_keys scale)

-- the key whose place is known
pub get-place : {K : Type 0} {R : K → K → Ordering} → IsAntisymmetric R → (q : K) (ks : List K) (n : ℕ) → place (eq_by_cmp R q) ks ≡ Some n → slice_get ks n ≡ Some q
get-place exact q [] n e = absurd cc
get-place {R = R} exact q (k ∷ ks) n e = by (get-place exact q ks) (eq_by_cmp R q k) refl (place (eq_by_cmp R q) ks) refl n e
  where
    by : ((m : ℕ) → place (eq_by_cmp R q) ks ≡ Some m → slice_get ks m ≡ Some q) → (b : Bool) → eq_by_cmp R q k ≡ b → (o : Option ℕ) → place (eq_by_cmp R q) ks ≡ o → (n : ℕ) → cond b (Some 0) (option_map (λ m. suc m) o) ≡ Some n → slice_get (k ∷ ks) n ≡ Some q
    by later true test o rest zero e = ap Some (sym (exact q k ((Equal-is (R q k)).0 test)))
    by later true test o rest (suc n) e = absurd cc
    by later false test None rest n e = absurd cc
    by later false test (Some m) rest zero e = absurd cc
    by later false test (Some m) rest (suc n) e = let same : m ≡ n = cc in later n (rest ∙ ap Some same)

-- ---- the keys of the scale

-- in order, these are all the keys that the scale has
pub record AreScaleKeys {K : Type 0} (cmp : K → K → Ordering) (has : K → Bool) (ks : List K) : Type 0 where
  pub total : IsTotalOrder cmp
  pub exact : IsAntisymmetric cmp
  pub sorted : IsStrictlySortedBy cmp ks
  pub placed : (k : K) → is_some (place (eq_by_cmp cmp k) ks) ≡ has k

some_if : (b : Bool) (n : ℕ) → is_some (if b then Some n else None) ≡ b
some_if true n = refl
some_if false n = refl

scale_keys : {K : Type 0} {cmp : K → K → Ordering} {has : K → Bool} {ks : List K} (slot : K → ℕ) → IsTotalOrder cmp → IsAntisymmetric cmp
    → IsStrictlySortedBy cmp ks → ((k : K) → place (eq_by_cmp cmp k) ks ≡ (if has k then Some (slot k) else None)) → AreScaleKeys cmp has ks
scale_keys slot o exact sorted placed = record { total = o; exact = exact; sorted = sorted; placed = λ k. ap is_some (placed k) ∙ some_if _ _ }

pub items_of_scale : (scale : Scale) → AreScaleKeys nat_cmp (has_item scale) (item_ids scale)
items_of_scale scale = scale_keys _ nat_cmp_total nat_cmp-IsAntisymmetric (sorted-item_ids scale) (item_place scale)

pub warehouses_of_scale : (scale : Scale) → AreScaleKeys nat_cmp (has_warehouse scale) (warehouse_ids scale)
warehouses_of_scale scale = scale_keys _ nat_cmp_total nat_cmp-IsAntisymmetric (sorted-warehouse_ids scale) (warehouse_place scale)

pub districts_of_scale : (scale : Scale) → AreScaleKeys district_cmp (has_district scale) (district_keys scale)
districts_of_scale scale = scale_keys _ districts_total districts_exact (sorted-district_keys scale) (district_place scale)

pub stocks_of_scale : (scale : Scale) → AreScaleKeys stock_cmp (has_stock scale) (stock_keys scale)
stocks_of_scale scale = scale_keys _ stocks_total stocks_exact (sorted-stock_keys scale) (stock_place scale)

pub customers_of_scale : (scale : Scale) → AreScaleKeys customer_cmp (has_customer scale) (customer_keys scale)
customers_of_scale scale = scale_keys _ customers_total customers_exact (sorted-customer_keys scale) (customer_place scale)
