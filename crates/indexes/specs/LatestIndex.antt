-- The content of an index of latest orders, and when it fits the tables.
use Rattle.std.specs.Prelude.{◌≡◌, ℕ, zero, suc, ◌<◌, List, length, slice_get, slice_set, slice_index, max, Option, Some, None}
use Rattle.std.specs.Option.{option_map_or}
use Rattle.rows.specs.declared.keys.CustomerKey.{CustomerKey}
use Rattle.schema.specs.Scale.{district_slot}
use Rattle.schema.specs.Database.{Database}
use Rattle.schema.specs.Consistency.{greatest}
use Rattle.partitions.specs.Slots.{Slots, customer_slot_by}
use Rattle.indexes.specs.LatestOrder.{order_numbers}

-- the place of each customer contains the number of the customer's latest order, or 0 if there is none
abbrev pub FitsLatestBy : Slots → List ℕ → Database → Type 0
FitsLatestBy slot index t = (customer : CustomerKey) (place : ℕ) → customer_slot_by slot t.scale.customers customer ≡ Some place → slice_get index place ≡ Some (greatest (order_numbers t.orders customer))

-- the place of each customer of the scale contains the number of the customer's latest order, or 0 if there is none
abbrev pub FitsLatest : List ℕ → Database → Type 0
FitsLatest index t = FitsLatestBy (district_slot t.scale) index t

-- the meaning of a number of the index: 0 is none
abbrev pub number_of : ℕ → Option ℕ
number_of zero = None
number_of (suc n) = Some (suc n)

-- the index with this number for the customer
abbrev pub with_latest : Slots → ℕ → List ℕ → CustomerKey → ℕ → List ℕ
with_latest slot customers index customer number = option_map_or (λ place. slice_set index place number) (customer_slot_by slot customers customer) index

-- the customer, if of one of these districts, has a place in the index
abbrev pub HasPlace : Slots → ℕ → List ℕ → CustomerKey → Type 0
HasPlace slot customers index customer = (place : ℕ) → customer_slot_by slot customers customer ≡ Some place → place < length index

-- the index with this number for the customer, if the number there was less
abbrev pub raised : Slots → ℕ → List ℕ → CustomerKey → ℕ → List ℕ
raised slot customers index customer number =
    option_map_or (λ place. slice_set index place (max (slice_index index place) number)) (customer_slot_by slot customers customer) index
