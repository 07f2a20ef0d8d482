-- The content of an index by last name, and when it fits the tables.
use Rattle.std.specs.Prelude.{◌≡◌, ℕ, ◌+◌, List, [], ◌∷◌, Option, Some}
use Rattle.std.specs.List.{filter, range_with_len, slice_get}
use Rattle.std.specs.List.Sorted.{IsPermutation, IsSorted}
use Rattle.std.specs.Option.{option_map_or, IsSomeAnd}
use Rattle.std.specs.declared.cmp.Ordering.{Ordering}
use Rattle.std.specs.Ordering.{nat_cmp, ordering_then}
use Rattle.std.specs.FinMap as map
use Rattle.rows.specs.declared.keys.DistrictKey.{DistrictKey}
use Rattle.rows.specs.declared.records.Customer.{Customer}
use Rattle.schema.specs.Scale.{customer_key, district_slot}
use Rattle.schema.specs.Database.{Database}
use Rattle.partitions.specs.Slots.{Slots}
use Rattle.indexes.specs.Namesakes.{Keyed, text_cmp, is_namesake, IsMiddle}

-- C_LAST of a row, empty if there is no row
abbrev pub last_of : Option Customer → List ℕ
last_of row = option_map_or (λ (r : Customer). r.last) row []

-- C_FIRST of a row, empty if there is no row
abbrev pub first_of : Option Customer → List ℕ
first_of row = option_map_or (λ (r : Customer). r.first) row []

-- the order of a district's customers' places (C_ID less 1): by last name, then by first name, then by number
abbrev pub place_cmp : (ℕ → List ℕ) → (ℕ → List ℕ) → ℕ → ℕ → Ordering
place_cmp last first a b = ordering_then (text_cmp (last a) (last b)) (ordering_then (text_cmp (first a) (first b)) (nat_cmp a b))

-- the places of this number of customers, each once, in that order
pub record IsNameRun (last first : ℕ → List ℕ) (count : ℕ) (run : List ℕ) : Type 0 where
  pub all_places : IsPermutation (range_with_len 0 count) run
  pub in_order : IsSorted (place_cmp last first) run

-- C_LAST of the customer at this place of the district, from 0
abbrev pub last_name : Database → DistrictKey → ℕ → List ℕ
last_name t home place = last_of (map.get t.customers (customer_key home (place + 1)))

-- C_FIRST of the customer at this place of the district, from 0
abbrev pub first_name : Database → DistrictKey → ℕ → List ℕ
first_name t home place = first_of (map.get t.customers (customer_key home (place + 1)))

-- the index has a run at the place of each district that has one; of the rows it depends only on the customers' names
abbrev pub FitsNamesBy : Slots → List (List ℕ) → Database → Type 0
FitsNamesBy slot index t = (home : DistrictKey) (place : ℕ) → slot home ≡ Some place
    → IsSomeAnd (slice_get index place) (IsNameRun (last_name t home) (first_name t home) t.scale.customers)

-- the index has a run for each district of the scale
abbrev pub FitsNames : List (List ℕ) → Database → Type 0
FitsNames index t = FitsNamesBy (district_slot t.scale) index t

-- ---- the rows of one district

-- C_LAST of the row at this place of a list
abbrev pub last_at : List Customer → ℕ → List ℕ
last_at rows place = last_of (slice_get rows place)

-- C_FIRST of the row at this place of a list
abbrev pub first_at : List Customer → ℕ → List ℕ
first_at rows place = first_of (slice_get rows place)

-- rows of a district with their keys, numbered from `first`
abbrev pub numbered : DistrictKey → ℕ → List Customer → List Keyed
numbered home first [] = []
numbered home first (row ∷ rows) = (customer_key home first, row) ∷ numbered home (first + 1) rows

-- the rows with that C_LAST
abbrev pub namesakes_among : List Customer → DistrictKey → List ℕ → List Keyed
namesakes_among rows home last = filter (is_namesake home last) (numbered home 1 rows)

-- the number of the middle one of the rows with that C_LAST
abbrev pub IsMiddleAmong : List Customer → DistrictKey → List ℕ → ℕ → Type 0
IsMiddleAmong rows home last number = (row : Customer) × IsMiddle (namesakes_among rows home last) (customer_key home number, row)
