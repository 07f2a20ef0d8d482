-- The keys of rows and their order (clause 1.3: the primary keys).
use Rattle.std.specs.declared.cmp.Ordering.{Ordering}
use Rattle.std.specs.Ordering.{nat_cmp, ordering_then}
use Rattle.rows.specs.declared.keys.DistrictKey.{DistrictKey}
use Rattle.rows.specs.declared.keys.StockKey.{StockKey}
use Rattle.rows.specs.declared.keys.CustomerKey.{CustomerKey}
use Rattle.rows.specs.declared.keys.OrderKey.{OrderKey}
use Rattle.rows.specs.declared.keys.OrderLineKey.{OrderLineKey}

-- by warehouse, then by district
abbrev pub district_cmp : DistrictKey → DistrictKey → Ordering
district_cmp a b = ordering_then (nat_cmp a.w_id b.w_id) (nat_cmp a.d_id b.d_id)

-- by warehouse, then by item
abbrev pub stock_cmp : StockKey → StockKey → Ordering
stock_cmp a b = ordering_then (nat_cmp a.w_id b.w_id) (nat_cmp a.i_id b.i_id)

-- by warehouse, then by district, then by customer
abbrev pub customer_cmp : CustomerKey → CustomerKey → Ordering
customer_cmp a b =
    ordering_then (nat_cmp a.w_id b.w_id) (ordering_then (nat_cmp a.d_id b.d_id) (nat_cmp a.c_id b.c_id))

-- by warehouse, then by district, then by order number
abbrev pub order_cmp : OrderKey → OrderKey → Ordering
order_cmp a b =
    ordering_then (nat_cmp a.w_id b.w_id) (ordering_then (nat_cmp a.d_id b.d_id) (nat_cmp a.o_id b.o_id))

-- by order, then by line number
abbrev pub line_cmp : OrderLineKey → OrderLineKey → Ordering
line_cmp a b =
    ordering_then (nat_cmp a.w_id b.w_id)
    (ordering_then (nat_cmp a.d_id b.d_id) (ordering_then (nat_cmp a.o_id b.o_id) (nat_cmp a.number b.number)))

-- the district of a customer
abbrev pub district_of_customer : CustomerKey → DistrictKey
district_of_customer key = record { w_id = key.w_id; d_id = key.d_id }

-- the district of an order
abbrev pub district_of_order : OrderKey → DistrictKey
district_of_order key = record { w_id = key.w_id; d_id = key.d_id }

-- the order of a line
abbrev pub order_of_line : OrderLineKey → OrderKey
order_of_line key = record { w_id = key.w_id; d_id = key.d_id; o_id = key.o_id }
