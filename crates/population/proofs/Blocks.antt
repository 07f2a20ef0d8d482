-- The orders of one district, among those of all.
use Rattle.std.proofs.Common.{◌≡◌, ℕ, zero, suc, ◌+◌, ◌<◌, Bool, true, false, cond, ◌==◌, List, [], ◌∷◌, ◌++◌, map, length, Some, refl, sym, ap, ◌∙◌, arith, append-nil}
use Rattle.std.proofs.lemmas.Bool.Decides.{nat_tests}
use Rattle.std.proofs.lemmas.List.Elements.{filter-append}
use Rattle.std.specs.List.{filter, range_with_len, slice_get}
use Rattle.rows.specs.declared.keys.DistrictKey.{DistrictKey}
use Rattle.rows.specs.declared.keys.OrderKey.{OrderKey}
use Rattle.rows.specs.declared.records.Order.{Order}
use Rattle.schema.specs.Database.{is_of_district}
use Rattle.population.specs.Keys.{order_key, district_at}
use Rattle.population.specs.Book.{Owned, owned, owned_by, owned_from}

-- whether an order is of the district
abbrev of_district : DistrictKey → Owned → Bool
of_district home o = is_of_district home o.0

same_district : (p q n : ℕ) → is_of_district (district_at q) (order_key (district_at p) n) ≡ (p == q)
same_district p q n = grind (arith, nat_tests)

all_kept : (home at : DistrictKey) (first : ℕ) (owners : List ℕ) → is_of_district home (order_key at 0) ≡ true → filter (of_district home) (owned_by at first owners) ≡ owned_by at first owners
all_kept home at first [] h = refl
all_kept home at first (owner ∷ owners) h = rw h (ap (λ l. (order_key at first, owner) ∷ l) (all_kept home at (first + 1) owners h))

none_kept : (home at : DistrictKey) (first : ℕ) (owners : List ℕ) → is_of_district home (order_key at 0) ≡ false → filter (of_district home) (owned_by at first owners) ≡ []
none_kept home at first [] h = refl
none_kept home at first (owner ∷ owners) h = rw h (none_kept home at (first + 1) owners h)

-- later districts have none of the district's orders
past : (q place : ℕ) (owners : List (List ℕ)) → q < place → filter (of_district (district_at q)) (owned_from place owners) ≡ []
past q place [] h = refl
past q place (os ∷ owners) h =
    let other : (place == q) ≡ false = grind (arith, nat_tests) in
    filter-append (of_district (district_at q)) (owned_by (district_at place) 1 os) (owned_from (place + 1) owners)
    ∙ ap (λ l. l ++ filter (of_district (district_at q)) (owned_from (place + 1) owners)) (none_kept (district_at q) (district_at place) 1 os (same_district place q 0 ∙ other))
    ∙ past q (place + 1) owners (omega arith)

-- the orders of the n-th district from a place
pub block : (q place n : ℕ) (owners : List (List ℕ)) (os : List ℕ) → q ≡ place + n → slice_get owners n ≡ Some os
    → filter (of_district (district_at q)) (owned_from place owners) ≡ owned_by (district_at q) 1 os
block q place n [] os is there = absurd cc
block q place zero (here ∷ owners) os is there =
    let same : here ≡ os = cc in
    let at : q ≡ place = omega arith in
    let here_too : (place == q) ≡ true = grind (arith, nat_tests) in
    filter-append (of_district (district_at q)) (owned_by (district_at place) 1 here) (owned_from (place + 1) owners)
    ∙ ap (λ l. l ++ filter (of_district (district_at q)) (owned_from (place + 1) owners)) (all_kept (district_at q) (district_at place) 1 here (same_district place q 0 ∙ here_too))
    ∙ ap (λ l. owned_by (district_at place) 1 here ++ l) (past q (place + 1) owners (omega arith))
    ∙ append-nil (owned_by (district_at place) 1 here)
    ∙ ap (λ p. owned_by (district_at p) 1 here) (sym at)
    ∙ ap (owned_by (district_at q) 1) same
block q place (suc n) (other ∷ owners) os is there =
    let apart : (place == q) ≡ false = grind (arith, nat_tests) in
    filter-append (of_district (district_at q)) (owned_by (district_at place) 1 other) (owned_from (place + 1) owners)
    ∙ ap (λ l. l ++ filter (of_district (district_at q)) (owned_from (place + 1) owners)) (none_kept (district_at q) (district_at place) 1 other (same_district place q 0 ∙ apart))
    ∙ block q (place + 1) n owners os (omega arith) there

-- ---- the numbers and the owners of a district's orders

pub numbers_by : (home : DistrictKey) (first : ℕ) (owners : List ℕ) → map (λ o. o.0.o_id) (owned_by home first owners) ≡ range_with_len first (length owners)
numbers_by home first [] = refl
numbers_by home first (owner ∷ owners) = ap (λ l. first ∷ l) (numbers_by home (first + 1) owners)

pub owners_by : (home : DistrictKey) (first : ℕ) (owners : List ℕ) → map (λ o. o.1) (owned_by home first owners) ≡ owners
owners_by home first [] = refl
owners_by home first (owner ∷ owners) = ap (λ l. owner ∷ l) (owners_by home (first + 1) owners)

-- the same rows are kept of the orders and of whose they are
pub kept_mapped : {Y : Type 0} (f : Owned → Y) (home : DistrictKey) (es : List (OrderKey × Order))
    → map (λ e. f (owned e)) (filter (λ e. is_of_district home e.0) es) ≡ map f (filter (of_district home) (map owned es))
kept_mapped f home [] = refl
kept_mapped f home (e ∷ es) =
    let rest = kept_mapped f home es in
    elim (is_of_district home e.0) as (λ b. map (λ e. f (owned e)) (cond b (e ∷ filter (λ e. is_of_district home e.0) es) (filter (λ e. is_of_district home e.0) es))
    ≡ map f (cond b (owned e ∷ filter (of_district home) (map owned es)) (filter (of_district home) (map owned es)))) [
      | true ↦ ap (λ l. f (owned e) ∷ l) rest
      | false ↦ rest
    ]
