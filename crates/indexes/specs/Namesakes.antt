-- The customers of a district who share a last name, and the middle one of them (clauses 2.5.2.2 and 2.6.2.2).
use Rattle.std.specs.Prelude.{ℕ, ◌-◌, ◌/◌, Bool, ◌&&◌, ◌==◌, List, length, Option, find, IsTrue}
use Rattle.std.specs.List.{filter, Contains}
use Rattle.std.specs.declared.cmp.Ordering.{Ordering}
use Rattle.std.specs.Ordering.{nat_cmp, ordering_then, is_lt, is_eq}
use Rattle.std.specs.Cmp.Lexicographic.{slice_cmp}
use Rattle.std.specs.FinMap as map
use Rattle.rows.specs.declared.keys.DistrictKey.{DistrictKey}
use Rattle.rows.specs.declared.keys.CustomerKey.{CustomerKey}
use Rattle.rows.specs.Keys.{customer_cmp}
use Rattle.rows.specs.declared.records.Customer.{Customer}
use Rattle.schema.specs.Scale.{customer_key}

-- a customer's key and row
abbrev pub Keyed : Type 0
Keyed = CustomerKey × Customer

-- texts are compared byte by byte; a text is before the longer ones that begin with it
abbrev pub text_cmp : List ℕ → List ℕ → Ordering
text_cmp = slice_cmp nat_cmp

-- the customer belongs to the district
abbrev pub is_customer_of : DistrictKey → CustomerKey → Bool
is_customer_of home key = (key.w_id == home.w_id) && (key.d_id == home.d_id)

-- C_LAST is that text, byte for byte
abbrev pub has_last : List ℕ → Customer → Bool
has_last last row = is_eq (text_cmp row.last last)

-- a customer of the district with that C_LAST
abbrev pub is_namesake : DistrictKey → List ℕ → Keyed → Bool
is_namesake home last c = is_customer_of home c.0 && has_last last c.1

-- the rows of customers
abbrev pub Customers : Type 0
Customers = map.FinMap customer_cmp Customer

-- all customers of the district with that C_LAST
abbrev pub namesakes : Customers → DistrictKey → List ℕ → List Keyed
namesakes customers home last = filter (is_namesake home last) (map.entries customers)

-- customers are compared by C_FIRST, and by C_ID if that is equal
abbrev pub first_cmp : Keyed → Keyed → Ordering
first_cmp a b = ordering_then (text_cmp a.1.first b.1.first) (nat_cmp a.0.c_id b.0.c_id)

-- the one is before the other in that order
abbrev pub is_before : Keyed → Keyed → Bool
is_before a b = is_lt (first_cmp a b)

-- exactly (n-1)/2 of n customers are before this one
abbrev pub is_middle : List Keyed → Keyed → Bool
is_middle customers c = length (filter (λ other. is_before other c) customers) == (length customers - 1) / 2

-- the middle one of some customers, if there is one
abbrev pub middle : List Keyed → Option Keyed
middle customers = find (is_middle customers) customers

-- one of n customers, with exactly (n-1)/2 of them before it
pub record IsMiddle (customers : List Keyed) (c : Keyed) : Type 0 where
  pub is_one : Contains customers c
  pub half_before : IsTrue (is_middle customers c)

-- the number of the middle one of the district's customers with that C_LAST
abbrev pub IsMiddleOf : Customers → DistrictKey → List ℕ → ℕ → Type 0
IsMiddleOf customers home last number = (row : Customer) × IsMiddle (namesakes customers home last) (customer_key home number, row)
