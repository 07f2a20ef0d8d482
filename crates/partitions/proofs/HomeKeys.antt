-- The keys of one warehouse, and those of all, which stand warehouse by warehouse.
use Rattle.std.proofs.Common.{◌≡◌, ℕ, zero, suc, ◌+◌, ◌*◌, List, [], ◌∷◌, ◌++◌, map, length, refl, sym, ap, ◌∙◌, arith}
use Rattle.std.specs.List.{flat_map, range_with_len}
use Rattle.std.proofs.lemmas.List.{append-nil}
use Rattle.std.proofs.lemmas.Grind.{flat_map-append}
use Rattle.rows.specs.declared.keys.DistrictKey.{DistrictKey}
use Rattle.rows.specs.declared.keys.StockKey.{StockKey}
use Rattle.rows.specs.declared.keys.CustomerKey.{CustomerKey}
use Rattle.schema.specs.declared.scale.Scale.{Scale}
use Rattle.schema.specs.Dense.{grid}
use Rattle.schema.specs.Scale.{warehouse_ids, district_key, district_keys, stock_key, stock_keys, customer_key, customer_keys}
use Rattle.schema.proofs.Places.{length-grid}
use Rattle.partitions.specs.Partitions.{district_keys_of, stock_keys_of, customer_keys_of}
use Rattle.partitions.proofs.KeyBlocks.{AreOf, keys_from}

flat_map-same : {X Y : Type 0} (f g : X → List Y) (xs : List X) → ((x : X) → f x ≡ g x) → flat_map f xs ≡ flat_map g xs
flat_map-same f g [] h = refl
flat_map-same f g (x ∷ xs) h = ap (λ l. l ++ flat_map f xs) (h x) ∙ ap (λ l. g x ++ l) (flat_map-same f g xs h)

flat_map-flat_map : {X Y Z : Type 0} (f : X → List Y) (g : Y → List Z) (xs : List X) → flat_map g (flat_map f xs) ≡ flat_map (λ x. flat_map g (f x)) xs
flat_map-flat_map f g [] = refl
flat_map-flat_map f g (x ∷ xs) = flat_map-append g (f x) (flat_map f xs) ∙ ap (λ l. flat_map g (f x) ++ l) (flat_map-flat_map f g xs)

are_of_map : {A K : Type 0} (own : K → ℕ) (w : ℕ) (f : A → K) (xs : List A) → ((x : A) → own (f x) ≡ w) → AreOf own w (map f xs)
are_of_map own w f [] h = tt
are_of_map own w f (x ∷ xs) h = (h x, are_of_map own w f xs h)

are_of_append : {K : Type 0} (own : K → ℕ) (w : ℕ) (ks ls : List K) → AreOf own w ks → AreOf own w ls → AreOf own w (ks ++ ls)
are_of_append own w [] ls h g = g
are_of_append own w (k ∷ ks) ls h g = (h.0, are_of_append own w ks ls h.1 g)

are_of_grid : {O K : Type 0} (outer : O → ℕ) (own : K → ℕ) (w : ℕ) (key : O → ℕ → K) (count : ℕ) → ((x : O) (n : ℕ) → own (key x n) ≡ outer x) → (os : List O) → AreOf outer w os → AreOf own w (grid key count os)
are_of_grid outer own w key count same [] h = tt
are_of_grid outer own w key count same (x ∷ os) h =
    are_of_append own w (map (key x) (range_with_len 1 count)) (grid key count os) (are_of_map own w (key x) (range_with_len 1 count) (λ n. same x n ∙ h.0)) (are_of_grid outer own w key count same os h.1)

-- ---- warehouses

abbrev pub warehouse_id_of : ℕ → List ℕ
warehouse_id_of home = home ∷ []

numbers_in_turn : (low n : ℕ) → range_with_len low n ≡ keys_from warehouse_id_of low n
numbers_in_turn low zero = refl
numbers_in_turn low (suc n) = ap (λ l. low ∷ l) (numbers_in_turn (low + 1) n)

pub warehouse_ids_in_turn : (scale : Scale) → warehouse_ids scale ≡ keys_from warehouse_id_of 1 scale.warehouses
warehouse_ids_in_turn scale = numbers_in_turn 1 scale.warehouses

pub warehouse_ids_owned : (w : ℕ) → AreOf (λ key. key) w (warehouse_id_of w)
warehouse_ids_owned w = (refl, tt)

-- ---- districts

pub district_keys_in_turn : (scale : Scale) → district_keys scale ≡ keys_from district_keys_of 1 scale.warehouses
district_keys_in_turn scale =
    flat_map-same (λ w. map (district_key w) (range_with_len 1 10)) district_keys_of (warehouse_ids scale) (λ w. sym (append-nil (map (district_key w) (range_with_len 1 10))))

pub length-district_keys_of : (w : ℕ) → length (district_keys_of w) ≡ 10
length-district_keys_of w = length-grid district_key 10 (w ∷ [])

pub district_keys_owned : (w : ℕ) → AreOf (λ (key : DistrictKey). key.w_id) w (district_keys_of w)
district_keys_owned w = are_of_grid (λ n. n) (λ (key : DistrictKey). key.w_id) w district_key 10 (λ x n. refl) (w ∷ []) (refl, tt)

-- ---- stocks

pub stock_keys_in_turn : (scale : Scale) → stock_keys scale ≡ keys_from (stock_keys_of scale) 1 scale.warehouses
stock_keys_in_turn scale =
    flat_map-same (λ w. map (stock_key w) (range_with_len 1 scale.items)) (stock_keys_of scale) (warehouse_ids scale) (λ w. sym (append-nil (map (stock_key w) (range_with_len 1 scale.items))))

pub length-stock_keys_of : (scale : Scale) (w : ℕ) → length (stock_keys_of scale w) ≡ scale.items
length-stock_keys_of scale w = length-grid stock_key scale.items (w ∷ []) ∙ (let e : 1 * scale.items ≡ scale.items = omega arith in e)

pub stock_keys_owned : (scale : Scale) (w : ℕ) → AreOf (λ (key : StockKey). key.w_id) w (stock_keys_of scale w)
stock_keys_owned scale w = are_of_grid (λ n. n) (λ (key : StockKey). key.w_id) w stock_key scale.items (λ x n. refl) (w ∷ []) (refl, tt)

-- ---- customers

pub customer_keys_in_turn : (scale : Scale) → customer_keys scale ≡ keys_from (customer_keys_of scale) 1 scale.warehouses
customer_keys_in_turn scale =
    ap (grid customer_key scale.customers) (district_keys_in_turn scale)
    ∙ flat_map-flat_map district_keys_of (λ home. map (customer_key home) (range_with_len 1 scale.customers)) (warehouse_ids scale)

pub length-customer_keys_of : (scale : Scale) (w : ℕ) → length (customer_keys_of scale w) ≡ 10 * scale.customers
length-customer_keys_of scale w = length-grid customer_key scale.customers (district_keys_of w) ∙ ap (λ n. n * scale.customers) (length-district_keys_of w)

pub customer_keys_owned : (scale : Scale) (w : ℕ) → AreOf (λ (key : CustomerKey). key.w_id) w (customer_keys_of scale w)
customer_keys_owned scale w =
    are_of_grid (λ (key : DistrictKey). key.w_id) (λ (key : CustomerKey). key.w_id) w customer_key scale.customers (λ x n. refl) (district_keys_of w) (district_keys_owned w)
