-- The lists of payments while records of HISTORY are read.
use Rattle.std.specs.Prelude.{◌≡◌, ℕ, ◌+◌, ◌^◌, ◌<◌, ◌≤◌, List, [], ◌∷◌, ◌++◌, length, map, slice_set, sum, Option, Some}
use Rattle.std.specs.List.{AllByRecursion, slice_get}
use Rattle.rows.specs.declared.records.History.{History}

-- the number of payments
abbrev pub payment_count : List (List History) → ℕ
payment_count lists = sum (map length lists)

-- the number of payments is one that a field of an end record can have
abbrev pub AreCountable : List (List History) → Type 0
AreCountable lists = payment_count lists < 2 ^ 64

-- empty lists were added until there were at least count lists, and no more than needed
pub record Opens (count : ℕ) (old new : List (List History)) : Type 0 where
  pub opened : List (List History)
  pub are_empty : AllByRecursion (λ list. list ≡ []) opened
  pub more : new ≡ old ++ opened
  pub reaches : count ≤ length new
  pub enough : length old ≤ count → length new ≡ count

-- the list at that index has one more payment; it may have been added for it, with those before it
pub record Pays (place : Option ℕ) (row : History) (old new : List (List History)) : Type 0 where
  pub slot : ℕ
  pub is_slot : place ≡ Some slot
  pub opened : List (List History)
  pub opens : Opens (slot + 1) old opened
  pub list : List History
  pub is_list : slice_get opened slot ≡ Some list
  pub paid : new ≡ slice_set opened slot (list ++ row ∷ [])
