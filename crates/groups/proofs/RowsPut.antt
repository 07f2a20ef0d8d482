-- A row that is put into a table changes what its own group has, and what no other group has.
use Rattle.std.proofs.Common.{◌≡◌, ◌≢◌, ℕ, List, refl, ap}
use Rattle.std.specs.Cmp.{nat_cmp_total}
use Rattle.std.specs.FinMap.{insert, remove, nat_cmp-IsAntisymmetric}
use Rattle.rows.specs.declared.keys.DistrictKey.{DistrictKey}
use Rattle.rows.specs.declared.keys.StockKey.{StockKey}
use Rattle.rows.specs.declared.keys.CustomerKey.{CustomerKey}
use Rattle.rows.specs.declared.keys.OrderKey.{OrderKey}
use Rattle.rows.specs.declared.keys.OrderLineKey.{OrderLineKey}
use Rattle.rows.specs.declared.records.Warehouse as warehouse
use Rattle.rows.specs.declared.records.District as district
use Rattle.rows.specs.declared.records.Stock as stock
use Rattle.rows.specs.declared.records.Customer.{Customer}
use Rattle.rows.specs.declared.records.History as payment
use Rattle.rows.specs.declared.records.Order.{Order}
use Rattle.rows.specs.declared.records.NewOrder.{NewOrder}
use Rattle.rows.specs.declared.records.OrderLine.{OrderLine}
use Rattle.schema.specs.Database.{Database}
use Rattle.schema.proofs.KeyOrders.{districts_total, districts_exact, stocks_total, stocks_exact, customers_total, customers_exact, orders_total, orders_exact, lines_total, lines_exact}
use Rattle.requests.specs.declared.group.Group.{Group}
use Rattle.requests.specs.declared.group.Group.TheVariants.{Warehouse, District, Customers, Orders, History, Stock}
use Rattle.groups.specs.Groups.{group_of_warehouse, group_of_district, group_of_customer, group_of_order, group_of_line, group_of_history, group_of_stock}
use Rattle.groups.specs.Content.{rows_of, content}
use Rattle.groups.specs.Content.Content.{OfWarehouse, OfDistrict, OfCustomers, OfOrders, OfHistory, OfStock}
use Rattle.groups.specs.Laws.{ChangesOneGroup, EachPutChangesOneGroup, with_warehouse, with_district, with_customer, with_order, with_new_order, without_new_order, with_line, with_history, with_stock}
use Rattle.groups.proofs.Parts.{get-insert_here, get-insert_elsewhere, rows_of-insert_own, rows_of-insert_other, rows_of-remove_own, rows_of-remove_other}

module _ (t : Database) where
  put_warehouse : (key : ℕ) (row : warehouse.Warehouse) → ChangesOneGroup (group_of_warehouse key) (with_warehouse row) t (record t { warehouses = insert t.warehouses key row })
  put_warehouse key row = record { here = ap OfWarehouse (get-insert_here nat_cmp_total nat_cmp-IsAntisymmetric t.warehouses key row); elsewhere = elsewhere }
    where
      elsewhere : (group : Group) → group ≢ group_of_warehouse key → content (record t { warehouses = insert t.warehouses key row }) group ≡ content t group
      elsewhere (Warehouse w_id) apart = ap OfWarehouse (get-insert_elsewhere nat_cmp_total nat_cmp-IsAntisymmetric t.warehouses key row w_id (λ same. apart (ap Warehouse same)))
      elsewhere _ apart = refl

  put_district : (key : DistrictKey) (row : district.District) → ChangesOneGroup (group_of_district key) (with_district row) t (record t { districts = insert t.districts key row })
  put_district key row = record { here = ap OfDistrict (get-insert_here districts_total districts_exact t.districts key row); elsewhere = elsewhere }
    where
      elsewhere : (group : Group) → group ≢ group_of_district key → content (record t { districts = insert t.districts key row }) group ≡ content t group
      elsewhere (District w_id d_id) apart = ap OfDistrict (get-insert_elsewhere districts_total districts_exact t.districts key row _ (λ same. apart (ap group_of_district same)))
      elsewhere _ apart = refl

  put_history : (key : DistrictKey) (row : List payment.History) → ChangesOneGroup (group_of_history key) (with_history row) t (record t { histories = insert t.histories key row })
  put_history key row = record { here = ap OfHistory (get-insert_here districts_total districts_exact t.histories key row); elsewhere = elsewhere }
    where
      elsewhere : (group : Group) → group ≢ group_of_history key → content (record t { histories = insert t.histories key row }) group ≡ content t group
      elsewhere (History w_id d_id) apart = ap OfHistory (get-insert_elsewhere districts_total districts_exact t.histories key row _ (λ same. apart (ap group_of_history same)))
      elsewhere _ apart = refl

  put_customer : (key : CustomerKey) (row : Customer) → ChangesOneGroup (group_of_customer key) (with_customer key row) t (record t { customers = insert t.customers key row })
  put_customer key row = record { here = ap OfCustomers (rows_of-insert_own customers_total customers_exact group_of_customer t.customers key row); elsewhere = elsewhere }
    where
      elsewhere : (group : Group) → group ≢ group_of_customer key → content (record t { customers = insert t.customers key row }) group ≡ content t group
      elsewhere (Customers w_id d_id) apart = ap OfCustomers (rows_of-insert_other customers_total customers_exact group_of_customer (Customers w_id d_id) t.customers key row apart)
      elsewhere _ apart = refl

  put_stock : (key : StockKey) (row : stock.Stock) → ChangesOneGroup (group_of_stock key) (with_stock key row) t (record t { stocks = insert t.stocks key row })
  put_stock key row = record { here = ap OfStock (rows_of-insert_own stocks_total stocks_exact group_of_stock t.stocks key row); elsewhere = elsewhere }
    where
      elsewhere : (group : Group) → group ≢ group_of_stock key → content (record t { stocks = insert t.stocks key row }) group ≡ content t group
      elsewhere (Stock w_id residue) apart = ap OfStock (rows_of-insert_other stocks_total stocks_exact group_of_stock (Stock w_id residue) t.stocks key row apart)
      elsewhere _ apart = refl

  put_order : (key : OrderKey) (row : Order) → ChangesOneGroup (group_of_order key) (with_order key row) t (record t { orders = insert t.orders key row })
  put_order key row = record { here = ap (λ rows. OfOrders rows (rows_of group_of_order (group_of_order key) t.new_orders) (rows_of group_of_line (group_of_order key) t.lines)) (rows_of-insert_own orders_total orders_exact group_of_order t.orders key row); elsewhere = elsewhere }
    where
      elsewhere : (group : Group) → group ≢ group_of_order key → content (record t { orders = insert t.orders key row }) group ≡ content t group
      elsewhere (Orders w_id d_id) apart = ap (λ rows. OfOrders rows (rows_of group_of_order (Orders w_id d_id) t.new_orders) (rows_of group_of_line (Orders w_id d_id) t.lines)) (rows_of-insert_other orders_total orders_exact group_of_order (Orders w_id d_id) t.orders key row apart)
      elsewhere _ apart = refl

  put_new_order : (key : OrderKey) (row : NewOrder) → ChangesOneGroup (group_of_order key) (with_new_order key row) t (record t { new_orders = insert t.new_orders key row })
  put_new_order key row = record { here = ap (λ rows. OfOrders (rows_of group_of_order (group_of_order key) t.orders) rows (rows_of group_of_line (group_of_order key) t.lines)) (rows_of-insert_own orders_total orders_exact group_of_order t.new_orders key row); elsewhere = elsewhere }
    where
      elsewhere : (group : Group) → group ≢ group_of_order key → content (record t { new_orders = insert t.new_orders key row }) group ≡ content t group
      elsewhere (Orders w_id d_id) apart = ap (λ rows. OfOrders (rows_of group_of_order (Orders w_id d_id) t.orders) rows (rows_of group_of_line (Orders w_id d_id) t.lines)) (rows_of-insert_other orders_total orders_exact group_of_order (Orders w_id d_id) t.new_orders key row apart)
      elsewhere _ apart = refl

  remove_new_order : (key : OrderKey) → ChangesOneGroup (group_of_order key) (without_new_order key) t (record t { new_orders = remove t.new_orders key })
  remove_new_order key = record { here = ap (λ rows. OfOrders (rows_of group_of_order (group_of_order key) t.orders) rows (rows_of group_of_line (group_of_order key) t.lines)) (rows_of-remove_own orders_total orders_exact group_of_order t.new_orders key); elsewhere = elsewhere }
    where
      elsewhere : (group : Group) → group ≢ group_of_order key → content (record t { new_orders = remove t.new_orders key }) group ≡ content t group
      elsewhere (Orders w_id d_id) apart = ap (λ rows. OfOrders (rows_of group_of_order (Orders w_id d_id) t.orders) rows (rows_of group_of_line (Orders w_id d_id) t.lines)) (rows_of-remove_other orders_total orders_exact group_of_order (Orders w_id d_id) t.new_orders key apart)
      elsewhere _ apart = refl

  put_line : (key : OrderLineKey) (row : OrderLine) → ChangesOneGroup (group_of_line key) (with_line key row) t (record t { lines = insert t.lines key row })
  put_line key row = record { here = ap (λ rows. OfOrders (rows_of group_of_order (group_of_line key) t.orders) (rows_of group_of_order (group_of_line key) t.new_orders) rows) (rows_of-insert_own lines_total lines_exact group_of_line t.lines key row); elsewhere = elsewhere }
    where
      elsewhere : (group : Group) → group ≢ group_of_line key → content (record t { lines = insert t.lines key row }) group ≡ content t group
      elsewhere (Orders w_id d_id) apart = ap (λ rows. OfOrders (rows_of group_of_order (Orders w_id d_id) t.orders) (rows_of group_of_order (Orders w_id d_id) t.new_orders) rows) (rows_of-insert_other lines_total lines_exact group_of_line (Orders w_id d_id) t.lines key row apart)
      elsewhere _ apart = refl

pub each_put_changes_one_group : EachPutChangesOneGroup
each_put_changes_one_group t = record {
  warehouses = put_warehouse t;
  districts = put_district t;
  customers = put_customer t;
  orders = put_order t;
  new_orders = put_new_order t;
  new_orders_removed = remove_new_order t;
  lines = put_line t;
  histories = put_history t;
  stocks = put_stock t;
}
