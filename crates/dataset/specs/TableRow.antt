-- The rows of all tables, with their keys.
use Rattle.std.specs.Prelude.{◌≡◌, ◌≤◌, ◌-◌, ℕ, zero, suc, List, [], ◌∷◌, ◌++◌, ◌==◌, Bool, true, ◌&&◌, length, map, Option, None, Some, IsTrue}
use Rattle.std.specs.List.{AllByRecursion, flat_map}
use Rattle.std.specs.BTreeMap.{insert_entry}
use Rattle.rows.specs.Keys.{order_cmp, line_cmp, order_of_line}
use Rattle.rows.specs.declared.limits.TheConstants.{MOST_LINES}
use Rattle.rows.specs.declared.records.Address.{Address}
use Rattle.schema.specs.declared.table_rows.TableRows.{TableRows}
use Rattle.schema.specs.Scale.{district_slot}
use Rattle.schema.specs.OrderRows.{line_key}
use Rattle.dataset.specs.declared.loader.Loader.{Loader}
use Rattle.dataset.specs.Columns.{Sizes, Table, Items, Warehouses, Districts, Stocks, Customers, Histories, Orders, NewOrders, Lines, Kind, Of, Ending, address_columns, ascend_from, customer_key, district_key, info_columns, kind_of, line_row_columns, lines_columns, order_key, record_columns}
use Rattle.dataset.specs.Order.{follows}
use Rattle.dataset.specs.declared.format.Format.{Format}
use Rattle.dataset.specs.declared.format.Format.TheVariants.{One, Two}
use Rattle.dataset.specs.Formats.{line_count, most_lines}
use Rattle.dataset.specs.Payments.{Pays}
use Rattle.files.specs.Columns.{Values, read_columns}
use Rattle.rows.specs.declared.keys.DistrictKey.{DistrictKey}
use Rattle.rows.specs.declared.keys.StockKey.{StockKey}
use Rattle.rows.specs.declared.keys.CustomerKey.{CustomerKey}
use Rattle.rows.specs.declared.keys.OrderKey.{OrderKey}
use Rattle.rows.specs.declared.keys.OrderLineKey.{OrderLineKey}
use Rattle.rows.specs.declared.records.Item.{Item}
use Rattle.rows.specs.declared.records.Warehouse.{Warehouse}
use Rattle.rows.specs.declared.records.District.{District}
use Rattle.rows.specs.declared.records.Stock.{Stock}
use Rattle.rows.specs.declared.records.Customer.{Customer}
use Rattle.rows.specs.declared.records.History.{History}
use Rattle.rows.specs.declared.records.Order.{Order}
use Rattle.rows.specs.declared.records.NewOrder.{NewOrder}
use Rattle.rows.specs.declared.records.OrderLine.{OrderLine}
use Rattle.schema.specs.declared.scale.Scale.{Scale}
use Rattle.schema.specs.Scale.{has_item, has_warehouse, has_district, has_stock, has_customer}
use Rattle.dataset.specs.declared.place.Place.{Place}
use Rattle.dataset.specs.declared.place.Place.TheVariants as at
use Rattle.dataset.specs.Ranges.{ItemInRange, WarehouseInRange, DistrictInRange, StockInRange, CustomerInRange, IsPayment, IsOrderKey, IsOrder, IsLineKey, IsLine}
use Rattle.dataset.specs.Records.{Field, item_fields, warehouse_fields, district_fields, stock_fields, customer_fields, history_fields, order_record, new_order_fields, line_fields}

-- a row of any of the nine tables, with its key; an order has the lines that its record contains
pub data TableRow : Type 0 where
  OfItem : ℕ → Item → TableRow
  OfWarehouse : ℕ → Warehouse → TableRow
  OfDistrict : DistrictKey → District → TableRow
  OfStock : StockKey → Stock → TableRow
  OfCustomer : CustomerKey → Customer → TableRow
  OfHistory : DistrictKey → History → TableRow
  OfOrder : OrderKey → Order → List (OrderLineKey × OrderLine) → TableRow
  OfNewOrder : OrderKey → NewOrder → TableRow
  OfLine : OrderLineKey → OrderLine → TableRow

-- the record of the row: the letter of its table, its key and its columns
abbrev pub row_fields : TableRow → List Field
row_fields (OfItem key row) = item_fields key row
row_fields (OfWarehouse key row) = warehouse_fields key row
row_fields (OfDistrict key row) = district_fields key row
row_fields (OfStock key row) = stock_fields key row
row_fields (OfCustomer key row) = customer_fields key row
row_fields (OfHistory key row) = history_fields key row
row_fields (OfOrder key row lines) = order_record key row lines
row_fields (OfNewOrder key row) = new_order_fields key row
row_fields (OfLine key row) = line_fields key row

-- the place of the row's record
abbrev pub row_place : TableRow → Place
row_place (OfItem key row) = at.Item key
row_place (OfWarehouse key row) = at.Warehouse key
row_place (OfDistrict key row) = at.District key
row_place (OfStock key row) = at.Stock key
row_place (OfCustomer key row) = at.Customer key
row_place (OfHistory key row) = at.History key
row_place (OfOrder key row lines) = at.Order key
row_place (OfNewOrder key row) = at.NewOrder key
row_place (OfLine key row) = at.Line key

-- the numbers of lines
abbrev pub numbers_of : List (OrderLineKey × OrderLine) → List ℕ
numbers_of lines = map (λ e. e.0.number) lines

-- whether the numbers of the lines in the row's record, if there are any, ascend
abbrev pub has_rising_lines : TableRow → Bool
has_rising_lines (OfOrder key row lines) = ascend_from 0 (numbers_of lines)
has_rising_lines row = true

-- whether the row's record may directly follow one at the place last
abbrev pub row_follows : TableRow → Place → Bool
row_follows row last = has_rising_lines row && follows (row_place row) last

-- the lines in the record of an order: none in format 1; in format 2 lines of that order, by ascending numbers, as many as
-- a record can have
abbrev pub AreLinesOf : Format → OrderKey → List (OrderLineKey × OrderLine) → Type 0
AreLinesOf One order lines = lines ≡ []
AreLinesOf Two order lines =
    AllByRecursion (λ e. order_of_line e.0 ≡ order) lines × IsTrue (ascend_from 0 (numbers_of lines)) × (length lines ≤ MOST_LINES)

-- the row is one of ORDER-LINE that has a record in the format
abbrev pub FormatHasLine : Format → OrderLineKey → Type 0
FormatHasLine One key = key.number ≤ most_lines One
FormatHasLine Two key = ⊥

-- The key of the row is one of the scale, for the tables whose keys the scale determines. An order and its lines are as the
-- format has them.
abbrev pub IsKnown : Format → Scale → TableRow → Type 0
IsKnown format scale (OfItem key row) = IsTrue (has_item scale key)
IsKnown format scale (OfWarehouse key row) = IsTrue (has_warehouse scale key)
IsKnown format scale (OfDistrict key row) = IsTrue (has_district scale key)
IsKnown format scale (OfStock key row) = IsTrue (has_stock scale key)
IsKnown format scale (OfCustomer key row) = IsTrue (has_customer scale key)
IsKnown format scale (OfHistory key row) = IsTrue (has_district scale key)
IsKnown format scale (OfOrder key row lines) = (row.ol_cnt ≤ most_lines format) × AreLinesOf format key lines
IsKnown format scale (OfNewOrder key row) = Unit {0}
IsKnown format scale (OfLine key row) = FormatHasLine format key

-- the line's key, its columns and the rows that it refers to are within the scale and their ranges
abbrev pub LineFits : Scale → (OrderLineKey × OrderLine) → Type 0
LineFits scale e = IsLineKey scale e.0 × IsLine scale e.1

-- the row's columns and the rows that it refers to are within the scale and their ranges, and its key, for the tables whose
-- keys the scale does not determine
abbrev pub RowInRange : Scale → TableRow → Type 0
RowInRange scale (OfItem key row) = ItemInRange row
RowInRange scale (OfWarehouse key row) = WarehouseInRange row
RowInRange scale (OfDistrict key row) = DistrictInRange row
RowInRange scale (OfStock key row) = StockInRange row
RowInRange scale (OfCustomer key row) = CustomerInRange row
RowInRange scale (OfHistory key row) = IsPayment scale row
RowInRange scale (OfOrder key row lines) = IsOrderKey scale key × IsOrder scale row × AllByRecursion (LineFits scale) lines
RowInRange scale (OfNewOrder key row) = IsOrderKey scale key
RowInRange scale (OfLine key row) = LineFits scale (key, row)

-- the row is known, and is within the scale and its ranges
abbrev pub RowFits : Format → Scale → TableRow → Type 0
RowFits format scale row = IsKnown format scale row × RowInRange scale row

-- ---- a row that is read

-- W_ID and D_ID
abbrev pub district_key_of : (warehouses : ℕ) → Values (district_key warehouses) → DistrictKey
district_key_of warehouses v = record { w_id = v.0; d_id = v.1.0 }

-- W_ID, D_ID and C_ID
abbrev pub customer_key_of : (warehouses customers : ℕ) → Values (customer_key warehouses customers) → CustomerKey
customer_key_of warehouses customers v = record { w_id = v.0; d_id = v.1.0; c_id = v.1.1.0 }

-- W_ID, D_ID and O_ID
abbrev pub order_key_of : (warehouses : ℕ) → Values (order_key warehouses) → OrderKey
order_key_of warehouses v = record { w_id = v.0; d_id = v.1.0; o_id = v.1.1.0 }

-- street_1, street_2, city, state and zip
abbrev pub address_of : Values address_columns → Address
address_of v = record { street_1 = v.0; street_2 = v.1.0; city = v.1.1.0; state = v.1.1.1.0; zip = v.1.1.1.1.0 }

-- S_DIST_01 to S_DIST_10
abbrev pub infos_of : Values info_columns → List (List ℕ)
infos_of v =
    v.0 ∷ v.1.0 ∷ v.1.1.0 ∷ v.1.1.1.0 ∷ v.1.1.1.1.0 ∷ v.1.1.1.1.1.0 ∷ v.1.1.1.1.1.1.0 ∷ v.1.1.1.1.1.1.1.0
    ∷ v.1.1.1.1.1.1.1.1.0 ∷ v.1.1.1.1.1.1.1.1.1.0 ∷ []

-- the columns of ORDER-LINE after its key
abbrev pub line_row_of : (items warehouses : ℕ) → Values (line_row_columns items warehouses) → OrderLine
line_row_of items warehouses (i_id, (supply_w_id, (delivery_d, (quantity, (amount, (dist_info, _)))))) =
    record { i_id = i_id; supply_w_id = supply_w_id; delivery_d = delivery_d; quantity = quantity; amount = amount; dist_info = dist_info }

-- so many lines of the order
abbrev pub lines_made : (scale : Sizes) → OrderKey → (n : ℕ) → Values (lines_columns scale n) → List (OrderLineKey × OrderLine)
lines_made scale order zero v = []
lines_made scale order (suc n) (number, (i_id, (supply_w_id, (delivery_d, (quantity, (amount, (dist_info, rest))))))) =
    (line_key order number, line_row_of scale.items scale.warehouses (i_id, (supply_w_id, (delivery_d, (quantity, (amount, (dist_info, tt)))))))
    ∷ lines_made scale order n rest

-- the row, with its key, made from the values of the fields after the letter, of which there are so many
abbrev pub row_of : (scale : Sizes) (table : Table) (count : ℕ) → Values (record_columns scale table count) → TableRow
row_of scale Items count (i_id, (im_id, (name, (price, (words, _))))) = OfItem i_id (record { im_id = im_id; name = name; price = price; «data» = words })
row_of scale Warehouses count (w_id, (name, (street_1, (street_2, (city, (state, (zip, (tax, (ytd, _))))))))) =
    OfWarehouse w_id (record {
      name = name;
      address = record { street_1 = street_1; street_2 = street_2; city = city; state = state; zip = zip };
      tax = tax;
      ytd = ytd;
    })
row_of scale Districts count (w_id, (d_id, (name, (street_1, (street_2, (city, (state, (zip, (tax, (ytd, (next_o_id, _))))))))))) =
    OfDistrict (record { w_id = w_id; d_id = d_id }) (record {
      name = name;
      address = record { street_1 = street_1; street_2 = street_2; city = city; state = state; zip = zip };
      tax = tax;
      ytd = ytd;
      next_o_id = next_o_id;
    })
row_of scale Stocks count (w_id, (i_id, (quantity, (a, (b, (c, (d, (e, (f, (g, (h, (i, (j, (ytd, (order_cnt, (remote_cnt, (words, _))))))))))))))))) =
    OfStock (record { w_id = w_id; i_id = i_id }) (record {
      quantity = quantity;
      dist = a ∷ b ∷ c ∷ d ∷ e ∷ f ∷ g ∷ h ∷ i ∷ j ∷ [];
      ytd = ytd;
      order_cnt = order_cnt;
      remote_cnt = remote_cnt;
      «data» = words;
    })
row_of scale Customers count (w_id, (d_id, (c_id, (first, (middle, (last, (street_1, (street_2, (city, (state, (zip, (phone, (since, (credit, (credit_lim, (discount, (balance, (ytd_payment, (payment_cnt, (delivery_cnt, (words, _))))))))))))))))))))) =
    OfCustomer (record { w_id = w_id; d_id = d_id; c_id = c_id }) (record {
      first = first;
      middle = middle;
      last = last;
      address = record { street_1 = street_1; street_2 = street_2; city = city; state = state; zip = zip };
      phone = phone;
      since = since;
      credit = credit;
      credit_lim = credit_lim;
      discount = discount;
      balance = balance;
      ytd_payment = ytd_payment;
      payment_cnt = payment_cnt;
      delivery_cnt = delivery_cnt;
      «data» = words;
    })
row_of scale Histories count (w_id, (d_id, (c_w_id, (c_d_id, (c_id, (date, (amount, (words, _)))))))) =
    OfHistory (record { w_id = w_id; d_id = d_id }) (record {
      customer = record { w_id = c_w_id; d_id = c_d_id; c_id = c_id };
      date = date;
      amount = amount;
      «data» = words;
    })
row_of scale Orders count (w_id, (d_id, (o_id, (c_id, (entry_d, (carrier_id, (ol_cnt, (all_local, lines)))))))) =
    let key : OrderKey = record { w_id = w_id; d_id = d_id; o_id = o_id } in
    OfOrder key (record { c_id = c_id; entry_d = entry_d; carrier_id = carrier_id; ol_cnt = ol_cnt; all_local = all_local == 1 })
    (lines_made scale key (line_count scale.format (count - 8)) lines)
row_of scale NewOrders count (w_id, (d_id, (o_id, _))) = OfNewOrder (record { w_id = w_id; d_id = d_id; o_id = o_id }) (record {})
row_of scale Lines count (w_id, (d_id, (o_id, (number, columns)))) =
    OfLine (record { w_id = w_id; d_id = d_id; o_id = o_id; number = number }) (line_row_of scale.items scale.warehouses columns)

-- the same from the fields themselves; the value of a faulty field is irrelevant
abbrev pub row_read : (scale : Sizes) (table : Table) → List (List ℕ) → TableRow
row_read scale table fields =
    let count = length fields in
    row_of scale table count (read_columns (record_columns scale table count) (record { left = fields; fault = None })).0

-- the row of a record of that kind, if it has one
abbrev pub kind_rows : Sizes → Option Kind → List (List ℕ) → List TableRow
kind_rows scale None fields = []
kind_rows scale (Some Ending) fields = []
kind_rows scale (Some (Of table)) fields = row_read scale table fields ∷ []

abbrev pub record_rows : Sizes → List (List ℕ) → List TableRow
record_rows scale [] = []
record_rows scale (word ∷ fields) = kind_rows scale (kind_of scale.format word) fields

-- the rows of these records, in order
abbrev pub rows_read : Sizes → List (List (List ℕ)) → List TableRow
rows_read scale records = flat_map (record_rows scale) records

-- ---- a row that is added

-- the lines with others, each stored under its key
abbrev pub insert_lines : List (OrderLineKey × OrderLine) → List (OrderLineKey × OrderLine) → List (OrderLineKey × OrderLine)
insert_lines old [] = old
insert_lines old (e ∷ lines) = insert_lines (insert_entry line_cmp old e.0 e.1) lines

-- new consists of old and the row: at the end of its table, under its key, or at the end of its district's list
abbrev pub AddsRow : Scale → TableRow → TableRows → TableRows → Type 0
AddsRow scale (OfItem key row) old new = (new ≡ record old { items = new.items }) × (new.items.items ≡ old.items.items ++ row ∷ [])
AddsRow scale (OfWarehouse key row) old new = (new ≡ record old { warehouses = new.warehouses }) × (new.warehouses.items ≡ old.warehouses.items ++ row ∷ [])
AddsRow scale (OfDistrict key row) old new = (new ≡ record old { districts = new.districts }) × (new.districts.items ≡ old.districts.items ++ row ∷ [])
AddsRow scale (OfStock key row) old new = (new ≡ record old { stocks = new.stocks }) × (new.stocks.items ≡ old.stocks.items ++ row ∷ [])
AddsRow scale (OfCustomer key row) old new = (new ≡ record old { customers = new.customers }) × (new.customers.items ≡ old.customers.items ++ row ∷ [])
AddsRow scale (OfHistory key row) old new = (new ≡ record old { histories = new.histories }) × Pays (district_slot scale key) row old.histories.items new.histories.items
AddsRow scale (OfOrder key row lines) old new =
    (new ≡ record old { orders = new.orders; lines = new.lines }) × (new.orders.entries ≡ insert_entry order_cmp old.orders.entries key row)
    × (new.lines ≡ insert_lines old.lines lines)
AddsRow scale (OfNewOrder key row) old new = (new ≡ record old { new_orders = new.new_orders }) × (new.new_orders.entries ≡ insert_entry order_cmp old.new_orders.entries key row)
AddsRow scale (OfLine key row) old new = (new ≡ record old { lines = new.lines }) × (new.lines ≡ insert_entry line_cmp old.lines key row)

-- the row was added to the loader, which is at the place of its record
pub record IsAdded (row : TableRow) (l m : Loader) : Type 0 where
  pub format : m.format ≡ l.format
  pub scale : m.scale ≡ l.scale
  pub last : m.last ≡ row_place row
  pub rows : AddsRow l.scale row l.rows m.rows
