-- The latest order of a customer (clause 2.6.2.2: the one with the largest O_ID).
use Rattle.std.specs.Prelude.{ℕ, Bool, ◌&&◌, ◌==◌, List, [], ◌∷◌, Option, Some, None}
use Rattle.std.specs.List.{filter}
use Rattle.std.specs.FinMap as map
use Rattle.rows.specs.declared.keys.CustomerKey.{CustomerKey}
use Rattle.rows.specs.declared.keys.OrderKey.{OrderKey}
use Rattle.rows.specs.Keys.{order_cmp}
use Rattle.rows.specs.declared.records.Order.{Order}
use Rattle.schema.specs.Consistency.{numbers, greatest}

-- the order is the customer's
abbrev pub is_order_by : CustomerKey → OrderKey × Order → Bool
is_order_by customer e = (e.0.w_id == customer.w_id) && ((e.0.d_id == customer.d_id) && (e.1.c_id == customer.c_id))

-- the rows of orders
abbrev pub Orders : Type 0
Orders = map.FinMap order_cmp Order

-- the numbers of all orders of the customer
abbrev pub order_numbers : Orders → CustomerKey → List ℕ
order_numbers orders customer = numbers (filter (is_order_by customer) (map.entries orders))

-- the largest of some numbers, if there is one
abbrev pub largest : List ℕ → Option ℕ
largest [] = None
largest (n ∷ ns) = Some (greatest (n ∷ ns))

-- the number of the customer's latest order, if there is one
abbrev pub latest : Orders → CustomerKey → Option ℕ
latest orders customer = largest (order_numbers orders customer)
