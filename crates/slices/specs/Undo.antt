-- Steps in a group, and the group's contents after undoing them. The condition for undoing a step depends only on the
-- contents of its own group and on the scale.
use Rattle.std.specs.Prelude.{◌≡◌, ℕ, ◌+◌, ◌<◌, ◌≤◌, Bool, List, [], ◌∷◌, ◌++◌, length, map, Option, Some, is_some, IsTrue, unwrap_or}
use Rattle.std.specs.List.{list_all}
use Rattle.std.specs.FinMap as table
use Rattle.rows.specs.Keys.{order_of_line}
use Rattle.rows.specs.declared.keys.CustomerKey.{CustomerKey}
use Rattle.rows.specs.declared.keys.OrderKey.{OrderKey}
use Rattle.rows.specs.declared.records.Customer as customer
use Rattle.rows.specs.declared.records.Order as order
use Rattle.rows.specs.declared.records.OrderLine.{OrderLine}
use Rattle.rows.specs.declared.records.History.{History}
use Rattle.rows.specs.declared.limits.TheConstants.{MOST_LINES}
use Rattle.schema.specs.declared.scale.Scale.{Scale}
use Rattle.schema.specs.declared.order_rows.Replaced.{Replaced}
use Rattle.schema.specs.MapRows.{map_rows, put_row}
use Rattle.schema.specs.Scale.{has_item, has_warehouse, has_customer}
use Rattle.schema.specs.Database.{Database, without_last, customer_of_order, is_order_id, is_line_number}
use Rattle.schema.specs.OrderRows.{is_line_within, line_key, put_lines, with_carrier, with_moment}
use Rattle.partitions.specs.declared.delivery_rows.BeforeDelivery.{BeforeDelivery}
use Rattle.partitions.specs.Deliveries.{with_carrier_back, with_moments_back}
use Rattle.partitions.specs.Parts.{Part}
use Rattle.indexes.specs.NameOrder.{last_of, first_of}
use Rattle.requests.specs.declared.group.Group.{Group}
use Rattle.groups.specs.Groups.{group_of_warehouse, group_of_district, group_of_customer, group_of_order, group_of_history, group_of_stock}
use Rattle.groups.specs.Content.{Content, content}
use Rattle.groups.specs.Content.Content.{OfOrders, OfHistory}
use Rattle.groups.specs.Laws.{ChangesOneGroup, warehouse_in, district_in, customer_in, order_in, new_order_in, line_in, history_in, stock_in, with_warehouse, with_district, with_customer, with_stock}
use Rattle.slices.specs.declared.undo_record.UndoRecord.{UndoRecord}
use Rattle.slices.specs.declared.undo_record.UndoRecord.TheVariants.{Warehouse, District, Stock, Customer, NoPayment, Order, Delivery}

-- the contents of a district's list with one more payment at its end
abbrev pub with_payment_more : History → Content → Content
with_payment_more row (OfHistory rows) = OfHistory (Some (unwrap_or rows [] ++ row ∷ []))
with_payment_more row other = other

-- the contents without the last payment
abbrev pub with_payment_fewer : Content → Content
with_payment_fewer (OfHistory rows) = OfHistory (Some (without_last (unwrap_or rows [])))
with_payment_fewer other = other

-- the contents of a district's orders with one more order, which is new: its row, its row of NEW-ORDER, and its lines
abbrev pub with_order_more : OrderKey → order.Order → List OrderLine → Content → Content
with_order_more key row rows (OfOrders orders new_orders lines) =
    OfOrders (table.insert orders key row) (table.insert new_orders key (record {})) (put_lines key 1 (map Some rows) lines)
with_order_more key row rows other = other

-- the contents with the rows that the order replaced put back; where it replaced none, its row is deleted
abbrev pub with_order_back : OrderKey → Replaced → Content → Content
with_order_back key replaced (OfOrders orders new_orders lines) =
    OfOrders (put_row orders key replaced.order) (put_row new_orders key replaced.new_order) (put_lines key 1 replaced.lines.items lines)
with_order_back key replaced other = other

-- the contents of a district's orders after the delivery of an order: its row of NEW-ORDER is deleted, it has the
-- carrier, and its lines have the moment
abbrev pub with_order_delivered : OrderKey → ℕ → ℕ → Content → Content
with_order_delivered key carrier moment (OfOrders orders new_orders lines) =
    OfOrders (map_rows (with_carrier key carrier) orders) (table.remove new_orders key) (map_rows (with_moment key moment) lines)
with_order_delivered key carrier moment other = other

-- the contents with the values put back that the delivery replaced
abbrev pub with_order_undelivered : OrderKey → BeforeDelivery → Content → Content
with_order_undelivered key before (OfOrders orders new_orders lines) =
    OfOrders (map_rows (with_carrier_back key before.carrier_id) orders) (put_row new_orders key before.new_order) (map_rows (with_moments_back key before.moments) lines)
with_order_undelivered key before other = other

-- the row has this C_LAST and this C_FIRST
abbrev pub AreNamesOf : Option customer.Customer → customer.Customer → Type 0
AreNamesOf there row = (last_of there ≡ row.last) × (first_of there ≡ row.first)

-- the customer with that key has the C_LAST and the C_FIRST of this row
abbrev pub AreNamesAt : Database → CustomerKey → customer.Customer → Type 0
AreNamesAt t key row = AreNamesOf (table.get t.customers key) row

-- The precondition of adding an order to a warehouse's rows: it is of the warehouse, with a number in its range and a
-- customer of the scale, and it has at most MOST_LINES lines, with items and suppliers of the scale.
pub record IsOrderFor (p : Part) (key : OrderKey) (row : order.Order) (rows : List OrderLine) : Type 0 where
  pub home : key.w_id ≡ p.home
  pub number : IsTrue (is_order_id key.o_id)
  pub customer : IsTrue (has_customer p.tables.scale (customer_of_order key row))
  pub few : length rows ≤ MOST_LINES
  pub lines : IsTrue (list_all (is_line_within p.tables.scale) rows)

-- each row of a table in the group's contents passes the test
abbrev pub EachIn : {K X : Type 0} → (Group → Content → K → Option X) → Group → Content → (K → X → Bool) → Type 0
EachIn {K} {X} found group content test = (key : K) (row : X) → found group content key ≡ Some row → IsTrue (test key row)

-- The orders of a group follow the rules of the scale. Each order has a number in its range and a customer of the
-- scale. Each row of NEW-ORDER and each line has its row of ORDER. Each line has a number in its range, an item of the
-- scale, and a supplying warehouse of the scale.
pub record AreOrdersWithin (scale : Scale) (group : Group) (content : Content) : Type 0 where
  pub orders_numbered : EachIn order_in group content (λ key _. is_order_id key.o_id)
  pub orders_have_customers : EachIn order_in group content (λ key row. has_customer scale (customer_of_order key row))
  pub new_orders_have_orders : EachIn new_order_in group content (λ key _. is_some (order_in group content key))
  pub lines_have_orders : EachIn line_in group content (λ key _. is_some (order_in group content (order_of_line key)))
  pub lines_numbered : EachIn line_in group content (λ key _. is_line_number key.number)
  pub lines_have_items : EachIn line_in group content (λ _ row. has_item scale row.i_id)
  pub lines_have_suppliers : EachIn line_in group content (λ _ row. has_warehouse scale row.supply_w_id)

-- The rows of an order are stored, with as many lines as `replaced` has entries for; with the replaced rows put back,
-- the group's orders follow the rules of the scale.
pub record CanTakeBackOrder (scale : Scale) (key : OrderKey) (replaced : Replaced) (content : Content) : Type 0 where
  pub few : length replaced.lines.items ≤ MOST_LINES
  pub order : IsTrue (is_some (order_in (group_of_order key) content key))
  pub new_order : IsTrue (is_some (new_order_in (group_of_order key) content key))
  pub lines : (n : ℕ) → n < length replaced.lines.items → IsTrue (is_some (line_in (group_of_order key) content (line_key key (1 + n))))
  pub within : AreOrdersWithin scale (group_of_order key) (with_order_back key replaced content)

-- The order is stored, and the record has the earlier delivery moments of `MOST_LINES` lines.
pub record CanTakeBackDelivery (key : OrderKey) (before : BeforeDelivery) (content : Content) : Type 0 where
  pub order : IsTrue (is_some (order_in (group_of_order key) content key))
  pub most_lines : length before.moments ≡ MOST_LINES

-- The contents of one group change in this way. The warehouse, the scale, the items and the contents of all other
-- groups are unchanged.
pub record ChangesGroup (group : Group) (change : Content → Content) (old new : Part) : Type 0 where
  pub contents : ChangesOneGroup group change old.tables new.tables
  pub home : new.home ≡ old.home
  pub scale : new.tables.scale ≡ old.tables.scale
  pub items : new.tables.items ≡ old.tables.items

-- ---- one step

-- the group of a step
abbrev pub group_of_kept : UndoRecord → Group
group_of_kept (Warehouse w_id row) = group_of_warehouse w_id
group_of_kept (District key row) = group_of_district key
group_of_kept (Stock key row) = group_of_stock key
group_of_kept (Customer key row) = group_of_customer key
group_of_kept (NoPayment key) = group_of_history key
group_of_kept (Order key replaced) = group_of_order key
group_of_kept (Delivery key before) = group_of_order key

-- The condition on the group's contents. For a row: a row is stored at the key; a customer's has the names of the row
-- that is put back. For a payment: there is a list. For an order: its rows are stored, and without them the rules of
-- the scale hold. For a delivery: the order is stored.
abbrev pub CanPutBack : Scale → UndoRecord → Content → Type 0
CanPutBack scale (Warehouse w_id row) content = IsTrue (is_some (warehouse_in (group_of_warehouse w_id) content w_id))
CanPutBack scale (District key row) content = IsTrue (is_some (district_in (group_of_district key) content key))
CanPutBack scale (Stock key row) content = IsTrue (is_some (stock_in (group_of_stock key) content key))
CanPutBack scale (Customer key row) content =
    IsTrue (is_some (customer_in (group_of_customer key) content key)) × AreNamesOf (customer_in (group_of_customer key) content key) row
CanPutBack scale (NoPayment key) content = IsTrue (is_some (history_in (group_of_history key) content key))
CanPutBack scale (Order key replaced) content = CanTakeBackOrder scale key replaced content
CanPutBack scale (Delivery key before) content = CanTakeBackDelivery key before content

-- the group's contents after undoing the step
abbrev pub put_back_in : UndoRecord → Content → Content
put_back_in (Warehouse w_id row) content = with_warehouse row content
put_back_in (District key row) content = with_district row content
put_back_in (Stock key row) content = with_stock key row content
put_back_in (Customer key row) content = with_customer key row content
put_back_in (NoPayment key) content = with_payment_fewer content
put_back_in (Order key replaced) content = with_order_back key replaced content
put_back_in (Delivery key before) content = with_order_undelivered key before content

-- A step in a group, with its undo record: it changes the group's contents, and undoing it restores them.
pub record IsStep (group : Group) (change : Content → Content) (kept : UndoRecord) (old new : Part) : Type 0 where
  pub changes : ChangesGroup group change old new
  pub own : group_of_kept kept ≡ group
  pub can : CanPutBack new.tables.scale kept (content new.tables group)
  pub back : put_back_in kept (content new.tables group) ≡ content old.tables group

-- ---- all steps, from the last to the first

-- the contents after undoing all steps, from the last to the first
abbrev pub all_put_back_in : List UndoRecord → Content → Content
all_put_back_in [] content = content
all_put_back_in (kept ∷ undo) content = put_back_in kept (all_put_back_in undo content)

-- each step was in the group, and can be undone after those that follow it are
abbrev pub AreKept : Scale → Group → List UndoRecord → Content → Type 0
AreKept scale group [] content = Unit {0}
AreKept scale group (kept ∷ undo) content =
    (group_of_kept kept ≡ group) × CanPutBack scale kept (all_put_back_in undo content) × AreKept scale group undo content

-- with these rows, each step was in the group, and can be undone after those that follow it are
abbrev pub AreKeptIn : Part → Group → List UndoRecord → Type 0
AreKeptIn p group undo = AreKept p.tables.scale group undo (content p.tables group)

-- If all steps were in one group, whichever it is, they are undone now, from the last to the first, and nothing else
-- changed.
abbrev pub AreUndone : List UndoRecord → Part → Part → Type 0
AreUndone undo old new = (group : Group) → AreKeptIn old group undo → ChangesGroup group (all_put_back_in undo) old new
