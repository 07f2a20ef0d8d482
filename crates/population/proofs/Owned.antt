-- Whose the orders are, one order after another.
use Rattle.std.proofs.Common.{◌≡◌, ℕ, zero, suc, ◌+◌, ◌-◌, ◌*◌, ◌/◌, ◌%◌, ◌<◌, ◌≤◌, true, ◌&&◌, IsTrue, List, [], ◌∷◌, ◌++◌, map, length, take, get_or, refl, sym, ap, ◌∙◌, arith, append_assoc, append-nil}
use Rattle.std.proofs.lemmas.Bool.Decides.{nat_tests}
use Rattle.std.proofs.lemmas.List.{take_more, length-take-le}
use Rattle.std.proofs.lemmas.List.Elements.{All-from_recursion}
use Rattle.std.proofs.lemmas.List.Sorted.{All-permutation, length_permutation}
use Rattle.std.proofs.lemmas.List.FromFn.{length-range_with_len}
use Rattle.std.specs.List.Sorted.{IsPermutation}
use Rattle.rows.specs.Ranged.{is_between}
use Rattle.std.specs.List.{All, AllByRecursion, range_with_len}
use Rattle.std.specs.Map.{keys_of}
use Rattle.std.specs.declared.cmp.Ordering.{Ordering}
use Rattle.std.specs.declared.cmp.Ordering.TheVariants.{Less, Equal, Greater}
use Rattle.std.specs.Ordering.{nat_cmp, ordering_then}
use Rattle.rows.specs.declared.keys.DistrictKey.{DistrictKey}
use Rattle.rows.specs.declared.keys.OrderKey.{OrderKey}
use Rattle.rows.specs.declared.records.Order.{Order}
use Rattle.rows.specs.Keys.{district_cmp, order_cmp, district_of_order}
use Rattle.population.specs.Append.{AreBefore}
use Rattle.population.specs.Keys.{order_key, district_at}
use Rattle.population.specs.Book.{Owned, owned, owned_by, owned_from, AreOfEarlierDistricts}
use Rattle.population.proofs.Lists.{each_both, each_same, each_weaker, each_mapped, each_from_mapped}

pub keys_owned : (es : List (OrderKey × Order)) → keys_of es ≡ map (λ o. o.0) (map owned es)
keys_owned [] = refl
keys_owned (e ∷ es) = ap (λ l. e.0 ∷ l) (keys_owned es)

-- one order more
pub owned_by_more : (home : DistrictKey) (first : ℕ) (owners : List ℕ) (owner : ℕ)
    → owned_by home first (owners ++ owner ∷ []) ≡ owned_by home first owners ++ (order_key home (first + length owners), owner) ∷ []
owned_by_more home first [] owner = ap (λ n. (order_key home n, owner) ∷ []) (let e : first ≡ first + 0 = omega arith in e)
owned_by_more home first (o ∷ owners) owner =
    ap (λ l. (order_key home first, o) ∷ l) (owned_by_more home (first + 1) owners owner
    ∙ ap (λ n. owned_by home (first + 1) owners ++ (order_key home n, owner) ∷ []) (let e : first + 1 + length owners ≡ first + suc (length owners) = omega arith in e))

-- one district more
pub owned_from_more : (place : ℕ) (owners : List (List ℕ)) (last : List ℕ)
    → owned_from place (owners ++ last ∷ []) ≡ owned_from place owners ++ owned_by (district_at (place + length owners)) 1 last
owned_from_more place [] last = append-nil (owned_by (district_at place) 1 last) ∙ ap (λ n. owned_by (district_at n) 1 last) (let e : place ≡ place + 0 = omega arith in e)
owned_from_more place (os ∷ owners) last =
    ap (λ l. owned_by (district_at place) 1 os ++ l) (owned_from_more (place + 1) owners last
    ∙ ap (λ n. owned_from (place + 1) owners ++ owned_by (district_at n) 1 last) (let e : place + 1 + length owners ≡ place + suc (length owners) = omega arith in e))
    ∙ sym (append_assoc (owned_by (district_at place) 1 os) (owned_from (place + 1) owners) (owned_by (district_at (place + suc (length owners))) 1 last))

-- ---- earlier orders

two_then : (w d o : Ordering) → ordering_then w d ≡ Less → ordering_then w (ordering_then d o) ≡ Less
two_then Less d o h = refl
two_then Equal Less o h = refl
two_then Equal Equal o h = absurd cc
two_then Equal Greater o h = absurd cc
two_then Greater d o h = absurd cc

-- an order of an earlier district is earlier
of_earlier_district : (home : DistrictKey) (number : ℕ) (key : OrderKey) → district_cmp (district_of_order key) home ≡ Less → order_cmp key (order_key home number) ≡ Less
of_earlier_district home number key h = two_then (nat_cmp key.w_id home.w_id) (nat_cmp key.d_id home.d_id) (nat_cmp key.o_id number) h

-- an order of a lower number is earlier
of_lower_number : (home : DistrictKey) (low high : ℕ) → low < high → order_cmp (order_key home low) (order_key home high) ≡ Less
of_lower_number home low high h =
    let warehouse : nat_cmp home.w_id home.w_id ≡ Equal = grind (arith, nat_tests) in
    let district : nat_cmp home.d_id home.d_id ≡ Equal = grind (arith, nat_tests) in
    let number : nat_cmp low high ≡ Less = grind (arith, nat_tests) in
    rw (warehouse, district) number

lower_numbers : (home : DistrictKey) (first number : ℕ) (owners : List ℕ) → first + length owners ≤ number
    → AllByRecursion (λ o. order_cmp o.0 (order_key home number) ≡ Less) (owned_by home first owners)
lower_numbers home first number [] h = tt
lower_numbers home first number (o ∷ owners) h = (of_lower_number home first number (omega arith), lower_numbers home (first + 1) number owners (omega arith))

-- with so many orders of a district, the next one is after all of them
pub earlier_orders : (home : DistrictKey) (old es : List (OrderKey × Order)) (owners : List ℕ) (number : ℕ) → AreOfEarlierDistricts home old
    → map owned es ≡ map owned old ++ owned_by home 1 owners → number ≡ length owners + 1 → AreBefore order_cmp (order_key home number) es
earlier_orders home old es owners number before is count =
    let P = λ (key : OrderKey). order_cmp key (order_key home number) ≡ Less in
    let old_before : AllByRecursion P (keys_of old) = each_weaker P (λ key. district_cmp (district_of_order key) home ≡ Less) (of_earlier_district home number) (keys_of old) before in
    let old_owned : AllByRecursion (λ (o : Owned). P o.0) (map owned old) = each_from_mapped P (λ o. o.0) (map owned old) (each_same P _ _ (sym (keys_owned old)) old_before) in
    each_same P _ _ (keys_owned es) (each_mapped P (λ o. o.0) (map owned es)
    (each_same (λ o. P o.0) _ _ is (each_both (λ o. P o.0) (map owned old) (owned_by home 1 owners) old_owned (lower_numbers home 1 number owners (omega arith)))))

-- ---- earlier districts

earlier_district : (low high : ℕ) → low < high → district_cmp (district_at low) (district_at high) ≡ Less
earlier_district low high h = grind (arith, nat_tests)

all_of_district : (home : DistrictKey) (place first : ℕ) (owners : List ℕ) → district_cmp (district_at place) home ≡ Less
    → AllByRecursion (λ o. district_cmp (district_of_order o.0) home ≡ Less) (owned_by (district_at place) first owners)
all_of_district home place first [] h = tt
all_of_district home place first (o ∷ owners) h = (h, all_of_district home place (first + 1) owners h)

from_earlier : (place last : ℕ) (owners : List (List ℕ)) → place + length owners ≤ last
    → AllByRecursion (λ o. district_cmp (district_of_order o.0) (district_at last) ≡ Less) (owned_from place owners)
from_earlier place last [] h = tt
from_earlier place last (os ∷ owners) h =
    each_both _ (owned_by (district_at place) 1 os) (owned_from (place + 1) owners)
    (all_of_district (district_at last) place 1 os (earlier_district place last (omega arith)))
    (from_earlier (place + 1) last owners (omega arith))

-- with so many districts, the next one is after all of them
pub earlier_districts : (es : List (OrderKey × Order)) (owners : List (List ℕ)) (count : ℕ) → map owned es ≡ owned_from 0 owners → length owners ≡ count → AreOfEarlierDistricts (district_at count) es
earlier_districts es owners count is many =
    let P = λ (key : OrderKey). district_cmp (district_of_order key) (district_at count) ≡ Less in
    each_same P _ _ (keys_owned es) (each_mapped P (λ o. o.0) (map owned es)
    (each_same (λ o. P o.0) _ _ is (from_earlier 0 count owners (omega arith))))

-- one order more of the same district
pub one_owned_more : (home : DistrictKey) (old : List Owned) (owners : List ℕ) (place d : ℕ) → place < length owners
    → (old ++ owned_by home 1 (take place owners)) ++ (order_key home (place + 1), get_or owners place d) ∷ [] ≡ old ++ owned_by home 1 (take (place + 1) owners)
one_owned_more home old owners place d below =
    let owner = get_or owners place d in
    let many : length (take place owners) ≡ place = length-take-le place owners (omega arith) in
    append_assoc old (owned_by home 1 (take place owners)) ((order_key home (place + 1), owner) ∷ [])
    ∙ ap (λ l. old ++ l)
    (ap (λ n. owned_by home 1 (take place owners) ++ (order_key home n, owner) ∷ []) (let e : place + 1 ≡ 1 + length (take place owners) = omega arith in e)
    ∙ sym (ap (owned_by home 1) (take_more owners place d below) ∙ owned_by_more home 1 (take place owners) owner))

-- ---- the owners are customers

between_from : (count first many : ℕ) → 1 ≤ first → first + many ≤ count + 1 → AllByRecursion (λ n. IsTrue (is_between 1 count n)) (range_with_len first many)
between_from count first zero low high = tt
between_from count first (suc many) low high =
    let inside : is_between 1 count first ≡ true = grind (arith, nat_tests) in
    (inside, between_from count (first + 1) many (omega arith) (omega arith))

pub owners_known : (count : ℕ) (owners : List ℕ) → IsPermutation (range_with_len 1 count) owners → All (λ n. IsTrue (is_between 1 count n)) owners
owners_known count owners moved =
    let P = λ (n : ℕ). IsTrue (is_between 1 count n) in
    All-permutation P (range_with_len 1 count) owners moved (All-from_recursion P (range_with_len 1 count) (between_from count 1 count (omega arith) (omega arith)))

pub owners_count : (count : ℕ) (owners : List ℕ) → IsPermutation (range_with_len 1 count) owners → length owners ≡ count
owners_count count owners moved = length_permutation (range_with_len 1 count) owners moved ∙ length-range_with_len 1 count

same_home : (home : DistrictKey) (w d : ℕ) → w ≡ home.w_id → d ≡ home.d_id → record { w_id = w; d_id = d } ≡ home
same_home home w d warehouse district =
    let both : (w, d) ≡ (home.w_id, home.d_id) = cc in
    ap (λ (p : ℕ × ℕ). record { w_id = p.0; d_id = p.1 }) both

-- a district's place among all
pub home_at : (home : DistrictKey) (warehouses : ℕ) → IsTrue (is_between 1 warehouses home.w_id && is_between 1 10 home.d_id) → district_at ((home.w_id - 1) * 10 + (home.d_id - 1)) ≡ home
home_at home warehouses h =
    let some_warehouse : 1 ≤ home.w_id = grind (arith, nat_tests) in
    let some_district : 1 ≤ home.d_id = grind (arith, nat_tests) in
    let few : home.d_id ≤ 10 = grind (arith, nat_tests) in
    let warehouse : ((home.w_id - 1) * 10 + (home.d_id - 1)) / 10 + 1 ≡ home.w_id = omega arith in
    let district : ((home.w_id - 1) * 10 + (home.d_id - 1)) % 10 + 1 ≡ home.d_id = omega arith in
    same_home home _ _ warehouse district

pub next_place : (home : DistrictKey) (warehouses : ℕ) → IsTrue (is_between 1 warehouses home.w_id && is_between 1 10 home.d_id) → (home.w_id - 1) * 10 + home.d_id ≡ (home.w_id - 1) * 10 + (home.d_id - 1) + 1
next_place home warehouses h =
    let some_district : 1 ≤ home.d_id = grind (arith, nat_tests) in
    omega arith
