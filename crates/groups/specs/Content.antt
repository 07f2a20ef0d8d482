-- The content of a group.
use Rattle.std.specs.Prelude.{◌≡◌, ◌≢◌, List, Option}
use Rattle.std.specs.List.{All}
use Rattle.std.specs.declared.cmp.Ordering.{Ordering}
use Rattle.std.specs.FinMap as map
use Rattle.rows.specs.declared.records.Warehouse.{Warehouse}
use Rattle.rows.specs.declared.records.District.{District}
use Rattle.rows.specs.declared.records.Stock.{Stock}
use Rattle.rows.specs.declared.records.Customer.{Customer}
use Rattle.rows.specs.declared.records.History.{History}
use Rattle.rows.specs.declared.records.Order.{Order}
use Rattle.rows.specs.declared.records.NewOrder.{NewOrder}
use Rattle.rows.specs.declared.records.OrderLine.{OrderLine}
use Rattle.rows.specs.Keys.{stock_cmp, customer_cmp, order_cmp, line_cmp}
use Rattle.schema.specs.Scale.{district_key}
use Rattle.schema.specs.Database.{Database}
use Rattle.requests.specs.declared.group.Group.{Group}
use Rattle.requests.specs.declared.group.Group.TheVariants as g
use Rattle.groups.specs.Groups.{group_of_customer, group_of_order, group_of_line, group_of_stock, is_same}

-- a row or none, a list of payments or none, or the group's rows of one table or of three
pub data Content : Type 0 where
  OfWarehouse : Option Warehouse → Content
  OfDistrict : Option District → Content
  OfCustomers : map.FinMap customer_cmp Customer → Content
  OfOrders : map.FinMap order_cmp Order → map.FinMap order_cmp NewOrder → map.FinMap line_cmp OrderLine → Content
  OfHistory : Option (List History) → Content
  OfStock : map.FinMap stock_cmp Stock → Content

-- the rows of a table that belong to a group
abbrev pub rows_of : {K X : Type 0} {R : K → K → Ordering} → (K → Group) → Group → map.FinMap R X → map.FinMap R X
rows_of own group table = map.retain_keys table (λ key. is_same (own key) group)

-- the content of a group in these tables
abbrev pub content : Database → Group → Content
content t (g.Warehouse w_id) = OfWarehouse (map.get t.warehouses w_id)
content t (g.District w_id d_id) = OfDistrict (map.get t.districts (district_key w_id d_id))
content t (g.Customers w_id d_id) = OfCustomers (rows_of group_of_customer (g.Customers w_id d_id) t.customers)
content t (g.Orders w_id d_id) =
    OfOrders (rows_of group_of_order (g.Orders w_id d_id) t.orders)
    (rows_of group_of_order (g.Orders w_id d_id) t.new_orders)
    (rows_of group_of_line (g.Orders w_id d_id) t.lines)
content t (g.History w_id d_id) = OfHistory (map.get t.histories (district_key w_id d_id))
content t (g.Stock w_id residue) = OfStock (rows_of group_of_stock (g.Stock w_id residue) t.stocks)

-- ---- some groups of tables

-- each of these groups has the same content in both tables
abbrev pub AreAlikeIn : List Group → Database → Database → Type 0
AreAlikeIn groups s t = All (λ group. content s group ≡ content t group) groups

-- the group is none of these
abbrev pub IsNoneOf : List Group → Group → Type 0
IsNoneOf groups group = All (λ own. group ≢ own) groups
