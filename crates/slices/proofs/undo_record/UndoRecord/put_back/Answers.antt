use Rattle.std.proofs.Common.{◌≡◌, ◌+◌, is_some, sym, ap, subst, ◌∙◌}
use Rattle.rows.specs.declared.keys.OrderKey.{OrderKey}
use Rattle.schema.specs.declared.order_rows.Replaced.{Replaced}
use Rattle.schema.specs.OrderRows.{line_key}
use Rattle.partitions.specs.Parts.{Part}
use Rattle.groups.specs.Groups.{group_of_order}
use Rattle.groups.specs.Content.{content}
use Rattle.groups.proofs.RowsInGroups.{each_row_stands_in_one_group}
use Rattle.indexes.specs.NameOrder.{last_of, first_of}
use Rattle.slices.specs.declared.undo_record.UndoRecord.{UndoRecord}
use Rattle.slices.specs.declared.undo_record.UndoRecord.TheVariants as k
use Rattle.slices.specs.Undo.{group_of_kept, CanPutBack, CanTakeBackDelivery, CanTakeBackOrder}
use Rattle.slices.proofs.Steps.{warehouse_changes, district_changes, stock_changes, customer_changes, no_payment_changes}
use Rattle.partitions.specs.declared.delivery_rows.BeforeDelivery.{BeforeDelivery}
use Rattle.slices.proofs.Delivered.{delivery_back_changes}
use Rattle.slices.proofs.Orders.{is_part_without_order, order_back_changes}
use Rattle.slices.proofs.undo_record.UndoRecord.put_back.Goals as goal

-- what is asked of an order that is taken back
can_take_back : (p : Part) (kept : UndoRecord) (key : OrderKey) (replaced : Replaced) → kept ≡ k.Order key replaced → CanPutBack p.tables.scale kept (content p.tables (group_of_kept kept))
    → CanTakeBackOrder p.tables.scale key replaced (content p.tables (group_of_order key))
can_take_back p kept key replaced is can = subst (λ (other : UndoRecord). CanPutBack p.tables.scale other (content p.tables (group_of_kept other))) is can

pub replace_customer-requires-clause-there : goal.replace_customer-requires-clause-there
replace_customer-requires-clause-there c =
    let t = c.args.rows.now.tables in
    let can = subst (λ (kept : UndoRecord). CanPutBack t.scale kept (content t (group_of_kept kept))) c.in-Customer.is c.requires in
    sym (ap is_some ((each_row_stands_in_one_group t).customers c.in-Customer.key).0) ∙ can.0

pub replace_customer-requires-clause-names : goal.replace_customer-requires-clause-names
replace_customer-requires-clause-names c =
    let t = c.args.rows.now.tables in
    let can = subst (λ (kept : UndoRecord). CanPutBack t.scale kept (content t (group_of_kept kept))) c.in-Customer.is c.requires in
    let here = sym ((each_row_stands_in_one_group t).customers c.in-Customer.key).0 in
    (ap last_of here ∙ can.1.0, ap first_of here ∙ can.1.1)

pub returns-in-Warehouse : goal.returns-in-Warehouse
returns-in-Warehouse c = rw c.in-Warehouse.is (warehouse_changes c.args.rows.now c.replace_warehouse.new.self c.in-Warehouse.w_id c.in-Warehouse.row c.replace_warehouse.ensures.tables)

pub returns-in-District : goal.returns-in-District
returns-in-District c = rw c.in-District.is (district_changes c.args.rows.now c.replace_district.new.self c.in-District.key c.in-District.row c.replace_district.ensures.tables)

pub replace_stock-requires : goal.replace_stock-requires
replace_stock-requires c =
    let t = c.args.rows.now.tables in
    let can = subst (λ (kept : UndoRecord). CanPutBack t.scale kept (content t (group_of_kept kept))) c.in-Stock.is c.requires in
    sym (ap is_some ((each_row_stands_in_one_group t).stocks c.in-Stock.key).0) ∙ can

pub take_back_order-requires-clause-few : goal.take_back_order-requires-clause-few
take_back_order-requires-clause-few c = (can_take_back c.args.rows.now c.args.self c.in-Order.key c.in-Order.replaced c.in-Order.is c.requires).few

pub take_back_order-requires-clause-order : goal.take_back_order-requires-clause-order
take_back_order-requires-clause-order c =
    let t = c.args.rows.now.tables in
    sym (ap is_some ((each_row_stands_in_one_group t).orders c.in-Order.key).0) ∙ (can_take_back c.args.rows.now c.args.self c.in-Order.key c.in-Order.replaced c.in-Order.is c.requires).order

pub take_back_order-requires-clause-new_order : goal.take_back_order-requires-clause-new_order
take_back_order-requires-clause-new_order c =
    let t = c.args.rows.now.tables in
    sym (ap is_some ((each_row_stands_in_one_group t).new_orders c.in-Order.key).0) ∙ (can_take_back c.args.rows.now c.args.self c.in-Order.key c.in-Order.replaced c.in-Order.is c.requires).new_order

pub take_back_order-requires-clause-lines : goal.take_back_order-requires-clause-lines
take_back_order-requires-clause-lines c = λ n below.
    let t = c.args.rows.now.tables in
    sym (ap is_some ((each_row_stands_in_one_group t).lines (line_key c.in-Order.key (1 + n))).0)
    ∙ (can_take_back c.args.rows.now c.args.self c.in-Order.key c.in-Order.replaced c.in-Order.is c.requires).lines n below

pub take_back_order-requires-clause-within : goal.take_back_order-requires-clause-within
take_back_order-requires-clause-within c =
    let can = can_take_back c.args.rows.now c.args.self c.in-Order.key c.in-Order.replaced c.in-Order.is c.requires in
    is_part_without_order c.args.rows.now c.in-Order.key c.in-Order.replaced c.partition.ensures.part can

-- what is asked of a delivery that is taken back
can_take_back_delivery : (p : Part) (kept : UndoRecord) (key : OrderKey) (before : BeforeDelivery) → kept ≡ k.Delivery key before → CanPutBack p.tables.scale kept (content p.tables (group_of_kept kept))
    → CanTakeBackDelivery key before (content p.tables (group_of_order key))
can_take_back_delivery p kept key before is can = subst (λ (other : UndoRecord). CanPutBack p.tables.scale other (content p.tables (group_of_kept other))) is can

pub take_back_delivery-requires-clause-order : goal.take_back_delivery-requires-clause-order
take_back_delivery-requires-clause-order c =
    let t = c.args.rows.now.tables in
    sym (ap is_some ((each_row_stands_in_one_group t).orders c.in-Delivery.key).0) ∙ (can_take_back_delivery c.args.rows.now c.args.self c.in-Delivery.key c.in-Delivery.before c.in-Delivery.is c.requires).order

pub take_back_delivery-requires-clause-most_lines : goal.take_back_delivery-requires-clause-most_lines
take_back_delivery-requires-clause-most_lines c = (can_take_back_delivery c.args.rows.now c.args.self c.in-Delivery.key c.in-Delivery.before c.in-Delivery.is c.requires).most_lines

pub returns-in-Delivery : goal.returns-in-Delivery
returns-in-Delivery c = rw c.in-Delivery.is (delivery_back_changes c.args.rows.now c.take_back_delivery.new.self c.in-Delivery.key c.in-Delivery.before c.take_back_delivery.ensures)

pub returns-in-Customer : goal.returns-in-Customer
returns-in-Customer c = rw c.in-Customer.is (customer_changes c.args.rows.now c.replace_customer.new.self c.in-Customer.key c.in-Customer.row c.replace_customer.ensures.tables)

pub returns-in-Stock : goal.returns-in-Stock
returns-in-Stock c = rw c.in-Stock.is (stock_changes c.args.rows.now c.replace_stock.new.self c.in-Stock.key c.in-Stock.row c.replace_stock.ensures.tables)

pub returns-in-NoPayment : goal.returns-in-NoPayment
returns-in-NoPayment c = rw c.in-NoPayment.is (no_payment_changes c.args.rows.now c.pop_history.new.self c.in-NoPayment.key c.pop_history.ensures)

pub returns-in-Order : goal.returns-in-Order
returns-in-Order c = rw c.in-Order.is (order_back_changes c.args.rows.now c.take_back_order.new.self c.in-Order.key c.in-Order.replaced c.take_back_order.ensures)
