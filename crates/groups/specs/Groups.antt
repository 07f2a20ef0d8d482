-- The group of each row, and the order of groups. Rows of one group are locked together.
use Rattle.std.specs.Prelude.{ℕ, ◌%◌, ◌==◌, ◌&&◌, Bool}
use Rattle.std.specs.declared.cmp.Ordering.{Ordering}
use Rattle.std.specs.Ordering.{nat_cmp, ordering_then}
use Rattle.rows.specs.declared.limits.TheConstants.{STOCK_GROUPS}
use Rattle.rows.specs.declared.keys.DistrictKey.{DistrictKey}
use Rattle.rows.specs.declared.keys.StockKey.{StockKey}
use Rattle.rows.specs.declared.keys.CustomerKey.{CustomerKey}
use Rattle.rows.specs.declared.keys.OrderKey.{OrderKey}
use Rattle.rows.specs.declared.keys.OrderLineKey.{OrderLineKey}
use Rattle.requests.specs.declared.group.Group.{Group}
use Rattle.requests.specs.declared.group.Group.TheVariants.{Warehouse, District, Customers, Orders, History, Stock}

-- ---- the group of each row, by its key

-- a row of WAREHOUSE is a group of its own
abbrev pub group_of_warehouse : ℕ → Group
group_of_warehouse key = Warehouse key

-- a row of DISTRICT is a group of its own
abbrev pub group_of_district : DistrictKey → Group
group_of_district key = District key.w_id key.d_id

-- the customers of a district are one group
abbrev pub group_of_customer : CustomerKey → Group
group_of_customer key = Customers key.w_id key.d_id

-- a row of ORDER or of NEW-ORDER is in the group of the orders of its district
abbrev pub group_of_order : OrderKey → Group
group_of_order key = Orders key.w_id key.d_id

-- a line is in the group of its order, with all orders, new orders and lines of the district
abbrev pub group_of_line : OrderLineKey → Group
group_of_line key = Orders key.w_id key.d_id

-- a district's list of payments is a group of its own
abbrev pub group_of_history : DistrictKey → Group
group_of_history key = History key.w_id key.d_id

-- the stock of a warehouse is divided into STOCK_GROUPS groups, by the item's number modulo STOCK_GROUPS
abbrev pub group_of_stock : StockKey → Group
group_of_stock key = Stock key.w_id (key.i_id % STOCK_GROUPS)

-- ---- the order of groups

-- the number of a group's kind, by which groups are ordered first
abbrev pub kind_of : Group → ℕ
kind_of (Warehouse w_id) = 0
kind_of (District w_id d_id) = 1
kind_of (Customers w_id d_id) = 2
kind_of (Orders w_id d_id) = 3
kind_of (History w_id d_id) = 4
kind_of (Stock w_id residue) = 5

-- the warehouse to which a group belongs
abbrev pub warehouse_of : Group → ℕ
warehouse_of (Warehouse w_id) = w_id
warehouse_of (District w_id d_id) = w_id
warehouse_of (Customers w_id d_id) = w_id
warehouse_of (Orders w_id d_id) = w_id
warehouse_of (History w_id d_id) = w_id
warehouse_of (Stock w_id residue) = w_id

-- the group's number within the warehouse: the district's number or the residue, and 0 for the warehouse's own row
abbrev pub number_of : Group → ℕ
number_of (Warehouse w_id) = 0
number_of (District w_id d_id) = d_id
number_of (Customers w_id d_id) = d_id
number_of (Orders w_id d_id) = d_id
number_of (History w_id d_id) = d_id
number_of (Stock w_id residue) = residue

-- groups are compared by kind, then by warehouse, and then by number
abbrev pub group_cmp : Group → Group → Ordering
group_cmp a b =
    ordering_then (nat_cmp (kind_of a) (kind_of b))
    (ordering_then (nat_cmp (warehouse_of a) (warehouse_of b)) (nat_cmp (number_of a) (number_of b)))

-- two groups are equal
abbrev pub is_same : Group → Group → Bool
is_same a b = (kind_of a == kind_of b) && ((warehouse_of a == warehouse_of b) && (number_of a == number_of b))
