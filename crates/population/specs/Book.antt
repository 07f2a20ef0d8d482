-- The tables ORDER, NEW-ORDER and ORDER-LINE, filled order by order.
use Rattle.std.specs.Prelude.{◌≡◌, ℕ, ◌+◌, Bool, nat_lt, List, [], ◌∷◌, ◌++◌, map}
use Rattle.std.specs.List.{All, AllByRecursion, filter, flat_map, range_with_len}
use Rattle.std.specs.List.Sorted.{IsStrictlySortedBy}
use Rattle.std.specs.Map.{keys_of}
use Rattle.std.specs.BTreeMap.{BTreeMap, IsOrdered}
use Rattle.rows.specs.declared.keys.DistrictKey.{DistrictKey}
use Rattle.rows.specs.declared.keys.OrderKey.{OrderKey}
use Rattle.rows.specs.declared.keys.OrderLineKey.{OrderLineKey}
use Rattle.rows.specs.declared.records.Order.{Order}
use Rattle.rows.specs.declared.records.NewOrder.{NewOrder}
use Rattle.rows.specs.declared.records.OrderLine.{OrderLine}
use Rattle.rows.specs.Keys.{district_cmp, order_cmp, line_cmp, district_of_order}
use Rattle.schema.specs.declared.scale.Scale.{Scale}
use Rattle.schema.specs.OrderRows.{line_key}
use Rattle.population.specs.declared.order_book.OrderBook.{OrderBook}
use Rattle.population.specs.Keys.{order_key, district_at}
use Rattle.population.specs.Profile.{delivered_orders}
use Rattle.population.specs.Rows.{IsOpeningOrder, IsOpeningLine}
use Rattle.std.specs.declared.cmp.Ordering.TheVariants.{Less}

-- an order's key, and the number of its customer
abbrev pub Owned : Type 0
Owned = OrderKey × ℕ

-- the key and the customer of a row of ORDER
abbrev pub owned : OrderKey × Order → Owned
owned entry = (entry.0, entry.1.c_id)

-- the orders of a district, numbered from `first`, one for each owner in turn
abbrev pub owned_by : DistrictKey → ℕ → List ℕ → List Owned
owned_by home first [] = []
owned_by home first (owner ∷ owners) = (order_key home first, owner) ∷ owned_by home (first + 1) owners

-- the orders of several districts, from the district at this place on
abbrev pub owned_from : ℕ → List (List ℕ) → List Owned
owned_from place [] = []
owned_from place (owners ∷ others) = owned_by (district_at place) 1 owners ++ owned_from (place + 1) others

-- whether an order is not delivered
abbrev pub is_new_order : Scale → OrderKey → Bool
is_new_order scale key = nat_lt (delivered_orders scale) key.o_id

-- the keys of an order's lines
abbrev pub line_keys : OrderKey × Order → List OrderLineKey
line_keys entry = map (line_key entry.0) (range_with_len 1 entry.1.ol_cnt)

-- these orders have their lines, and their rows of NEW-ORDER exactly if they are new
pub record IsBook (scale : Scale) (now : ℕ) (orders : BTreeMap OrderKey Order) (new_orders : BTreeMap OrderKey NewOrder) (lines : List (OrderLineKey × OrderLine)) : Type 0 where
  pub new_keys : keys_of new_orders.entries ≡ filter (is_new_order scale) (keys_of orders.entries)
  pub line_keys : keys_of lines ≡ flat_map line_keys orders.entries
  pub order_rows : All (λ entry. IsOpeningOrder scale now entry.0 entry.1) orders.entries
  pub line_rows : All (λ entry. IsOpeningLine scale now entry.0 entry.1) lines
  pub orders_ordered : IsOrdered order_cmp orders
  pub new_orders_ordered : IsOrdered order_cmp new_orders
  pub lines_ordered : IsStrictlySortedBy line_cmp (keys_of lines)

-- the same of the three tables of an order book
abbrev pub IsBookOf : Scale → ℕ → OrderBook → Type 0
IsBookOf scale now book = IsBook scale now book.orders book.new_orders book.lines

-- the key and the customer of every order
abbrev pub all_owned : OrderBook → List Owned
all_owned book = map owned book.orders.entries

-- all orders are of districts before this one
abbrev pub AreOfEarlierDistricts : DistrictKey → List (OrderKey × Order) → Type 0
AreOfEarlierDistricts home entries = AllByRecursion (λ key. district_cmp (district_of_order key) home ≡ Less) (keys_of entries)
