use Rattle.std.proofs.Common.{arith}
use Rattle.requests.specs.declared.group.Group.TheVariants.{Warehouse, District, Customers, Orders, History, Stock}
use Rattle.requests.specs.declared.request.Request.TheVariants.{NewOrder, Payment, OrderStatus, Delivery, StockLevel}
use Rattle.groups.specs.Groups.{is_same}
use Rattle.groups.specs.Laws.{FootprintsNameEachGroupOnce}
use Rattle.groups.proofs.Counts.{one-le}
use Rattle.groups.proofs.NewOrderGroups.{new_order_names_each_group_once}
use Rattle.groups.proofs.StockGroups.{stock_level_names_each_group_once}
use Rattle.groups.proofs.laws.footprints_name_each_group_once.Goals as goal

-- at most one of the groups of a payment, an Order-Status or a Delivery has the kind of the group
each_once : FootprintsNameEachGroupOnce
each_once (NewOrder n) group = new_order_names_each_group_once n group
each_once (Payment p) (Warehouse w_id) = omega (arith, one-le (is_same (Warehouse w_id) (Warehouse p.home.w_id)))
each_once (Payment p) (District w_id d_id) = omega (arith, one-le (is_same (District w_id d_id) (District p.home.w_id p.home.d_id)))
each_once (Payment p) (Customers w_id d_id) = omega (arith, one-le (is_same (Customers w_id d_id) (Customers p.customer_home.w_id p.customer_home.d_id)))
each_once (Payment p) (Orders w_id d_id) = omega arith
each_once (Payment p) (History w_id d_id) = omega (arith, one-le (is_same (History w_id d_id) (History p.home.w_id p.home.d_id)))
each_once (Payment p) (Stock w_id residue) = omega arith
each_once (OrderStatus o) (Warehouse w_id) = omega arith
each_once (OrderStatus o) (District w_id d_id) = omega arith
each_once (OrderStatus o) (Customers w_id d_id) = omega (arith, one-le (is_same (Customers w_id d_id) (Customers o.home.w_id o.home.d_id)))
each_once (OrderStatus o) (Orders w_id d_id) = omega (arith, one-le (is_same (Orders w_id d_id) (Orders o.home.w_id o.home.d_id)))
each_once (OrderStatus o) (History w_id d_id) = omega arith
each_once (OrderStatus o) (Stock w_id residue) = omega arith
each_once (Delivery d) (Warehouse w_id) = omega arith
each_once (Delivery d) (District w_id d_id) = omega arith
each_once (Delivery d) (Customers w_id d_id) = omega (arith, one-le (is_same (Customers w_id d_id) (Customers d.home.w_id d.home.d_id)))
each_once (Delivery d) (Orders w_id d_id) = omega (arith, one-le (is_same (Orders w_id d_id) (Orders d.home.w_id d.home.d_id)))
each_once (Delivery d) (History w_id d_id) = omega arith
each_once (Delivery d) (Stock w_id residue) = omega arith
each_once (StockLevel s) group = stock_level_names_each_group_once s group

pub returns : goal.returns
returns c = each_once
