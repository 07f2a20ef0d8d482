-- Laws of the look-up by last name.
use Rattle.std.specs.Prelude.{◌≡◌, ℕ, List, Some}
use Rattle.std.specs.FinMap as map
use Rattle.rows.specs.declared.keys.DistrictKey.{DistrictKey}
use Rattle.rows.specs.declared.keys.CustomerKey.{CustomerKey}
use Rattle.rows.specs.declared.records.Customer.{Customer}
use Rattle.schema.specs.Scale.{customer_key}
use Rattle.schema.specs.Database.{Database, with_customer_row}
use Rattle.partitions.specs.Slots.{Slots}
use Rattle.indexes.specs.Namesakes.{IsMiddleOf}
use Rattle.indexes.specs.NameOrder.{last_of, first_of, FitsNamesBy}

-- at most one customer is the middle one
abbrev pub MiddleIsOne : Type 0
MiddleIsOne = (t : Database) (home : DistrictKey) (last : List ℕ) (a b : ℕ) → IsMiddleOf t.customers home last a → IsMiddleOf t.customers home last b → a ≡ b

-- the middle one is a customer of the tables, with that C_LAST
abbrev pub MiddleIsThere : Type 0
MiddleIsThere = (t : Database) (home : DistrictKey) (last : List ℕ) (number : ℕ) → IsMiddleOf t.customers home last number
    → (row : Customer) × (map.get t.customers (customer_key home number) ≡ Some row) × (row.last ≡ last)

-- the same scale, and at every key a customer of the same names
pub record SameNames (old new : Database) : Type 0 where
  pub scale : new.scale ≡ old.scale
  pub last : (key : CustomerKey) → last_of (map.get new.customers key) ≡ last_of (map.get old.customers key)
  pub first : (key : CustomerKey) → first_of (map.get new.customers key) ≡ first_of (map.get old.customers key)

-- an index still fits as long as the names do not change, for any places of the districts
abbrev pub SameNamesFit : Type 0
SameNamesFit = (slot : Slots) (index : List (List ℕ)) (old new : Database) → SameNames old new → FitsNamesBy slot index old → FitsNamesBy slot index new

-- replacing a customer's row by one with the same C_LAST and C_FIRST leaves the names unchanged
abbrev pub PutKeepsNames : Type 0
PutKeepsNames = (t : Database) (key : CustomerKey) (old new : Customer) → map.get t.customers key ≡ Some old → new.last ≡ old.last → new.first ≡ old.first
    → SameNames t (with_customer_row t key new)
