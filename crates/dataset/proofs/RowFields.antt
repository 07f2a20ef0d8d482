-- The records of the nine tables' rows, as their columns.
use Rattle.std.proofs.Common.{◌≡◌, ◌≤◌, ◌<◌, ◌^◌, ◌+◌, ◌-◌, ◌*◌, ◌==◌, ◌&&◌, ℕ, zero, suc, List, [], ◌∷◌, ◌++◌, length, Bool, true, false, Some, None, IsTrue, refl, sym, ap, subst, ◌∙◌, arith}
use Rattle.std.specs.Prelude.{if◌then◌else◌}
use Rattle.std.specs.List.{AllByRecursion, list_all}
use Rattle.files.specs.Span.{record_size}
use Rattle.dataset.proofs.Short.{bytes_of, bytes_of_32, bytes_of_500, is_narrow, longer, short_fields}
use Rattle.std.proofs.lemmas.Bool.Decides.{nat_tests}
use Rattle.std.proofs.lemmas.Bool.{and_parts}
use Rattle.rows.specs.Ranged.{is_between}
use Rattle.rows.specs.Text.{IsText}
use Rattle.rows.specs.declared.keys.DistrictKey.{DistrictKey}
use Rattle.rows.specs.declared.records.Address.{Address}
use Rattle.rows.specs.declared.keys.CustomerKey.{CustomerKey}
use Rattle.rows.specs.declared.keys.OrderKey.{OrderKey}
use Rattle.rows.specs.declared.keys.OrderLineKey.{OrderLineKey}
use Rattle.rows.specs.declared.records.OrderLine.{OrderLine}
use Rattle.rows.specs.Keys.{district_of_customer, district_of_order, order_of_line}
use Rattle.rows.specs.declared.limits.TheConstants.{LAST_LINE, MOST_LINES}
use Rattle.schema.specs.declared.scale.Scale.{Scale}
use Rattle.schema.specs.OrderRows.{line_key}
use Rattle.schema.specs.Scale.{has_district, has_customer}
use Rattle.dataset.specs.declared.format.Format.{Format}
use Rattle.dataset.specs.declared.format.Format.TheVariants.{One, Two}
use Rattle.dataset.specs.Formats.{line_count, most_lines}
use Rattle.files.specs.FieldRead.{FieldsView}
use Rattle.files.specs.Columns.{Column, Whole, Words as Texts, Cents, Moment, Credit, at_end, columns_fault}
use Rattle.dataset.specs.Columns.{Sizes, Table, Items, Warehouses, Districts, Stocks, Customers, Histories, Orders, NewOrders, Lines, Of, address_columns, ascend_from, counter, info_columns, kind_of, letter, lines_columns, record_columns, sizes}
use Rattle.dataset.specs.Ranges.{AddressInRange, IsFrom}
use Rattle.dataset.specs.Records.{Words, Number, Date, IsSpelt, AreSpelt, carrier_field, delivery_field, lines_fields}
use Rattle.dataset.specs.TableRow.{TableRow, OfItem, OfWarehouse, OfDistrict, OfStock, OfCustomer, OfHistory, OfOrder, OfNewOrder, OfLine, AreLinesOf, FormatHasLine, IsKnown, LineFits, RowFits, has_rising_lines, infos_of, lines_made, numbers_of, row_fields, row_of, row_read}
use Rattle.files.specs.Columns.{Value, Values, read_columns}
use Rattle.dataset.proofs.Bounds.{bounds, most_lines_within}
use Rattle.dataset.proofs.ColumnFields.{AreBetween, AreIn, AreSmall, IsBetween, IsIn, fields_of, read_are_between, read_are_spelt, spelt_are_read}
use Rattle.dataset.proofs.RowTaken.{IsRead}
use Rattle.std.proofs.lemmas.Slice.Zip.{AllZip-long}
use Rattle.files.proofs.ColumnValues.{join, read-take}

-- ---- the columns of a scale

few_warehouses : (scale : Scale) → scale.warehouses < 2 ^ 64
few_warehouses scale = let most = scale.limits.most_warehouses in omega (arith, most)

few_items : (scale : Scale) → scale.items < 2 ^ 64
few_items scale = let most = scale.limits.most_items in omega (arith, most)

few_customers : (scale : Scale) → scale.customers < 2 ^ 64
few_customers scale = let most = scale.limits.most_customers in omega (arith, most)

few_lines : (format : Format) → most_lines format < 2 ^ 64
few_lines format = let most = most_lines_within format in omega (arith, most)

small_lines : (format : Format) (scale : Scale) (n : ℕ) → AreSmall (lines_columns (sizes format scale) n)
small_lines format scale zero = tt
small_lines format scale (suc n) =
    (few_lines format, (few_items scale, (few_warehouses scale, (tt, (omega arith, (omega arith, (tt, small_lines format scale n)))))))

pub small_columns : (format : Format) (scale : Scale) (table : Table) (count : ℕ) → AreSmall (record_columns (sizes format scale) table count)
small_columns format scale Items count = (few_items scale, (omega arith, (tt, (omega arith, (tt, tt)))))
small_columns format scale Warehouses count = (few_warehouses scale, (tt, (tt, (tt, (tt, (tt, (tt, (omega arith, (tt, tt)))))))))
small_columns format scale Districts count = (few_warehouses scale, (omega arith, (tt, (tt, (tt, (tt, (tt, (tt, (omega arith, (tt, (omega arith, tt)))))))))))
small_columns format scale Stocks count =
    (few_warehouses scale, (few_items scale, (omega arith, (tt, (tt, (tt, (tt, (tt, (tt, (tt, (tt, (tt, (tt, (omega arith, (omega arith, (omega arith, (tt, tt)))))))))))))))))
small_columns format scale Customers count =
    (few_warehouses scale, (omega arith, (few_customers scale, (tt, (tt, (tt, (tt, (tt, (tt, (tt, (tt, (tt, (tt, (tt, (tt, (omega arith, (tt, (tt, (omega arith, (omega arith, (tt, tt)))))))))))))))))))))
small_columns format scale Histories count = (few_warehouses scale, (omega arith, (few_warehouses scale, (omega arith, (few_customers scale, (tt, (tt, (tt, tt))))))))
small_columns format scale Orders count =
    (few_warehouses scale, (omega arith, (omega arith, (few_customers scale, (tt, (omega arith, (few_lines format, (omega arith, small_lines format scale (line_count format (count - 8))))))))))
small_columns format scale NewOrders count = (few_warehouses scale, (omega arith, (omega arith, tt)))
small_columns format scale Lines count =
    (few_warehouses scale, (omega arith, (omega arith, (few_lines format, (few_items scale, (few_warehouses scale, (tt, (omega arith, (omega arith, (tt, tt))))))))))

-- the greatest width of a table's texts; that of C_DATA is 500
widest : Table → ℕ
widest Orders = 32
widest table = 500

some_width : (table : Table) → 32 ≤ widest table
unfolding widest
some_width Items = omega arith
some_width table = omega arith

narrow_lines : (s : Sizes) (n : ℕ) → list_all (is_narrow 32) (lines_columns s n) ≡ true
unfolding is_narrow
narrow_lines s zero = refl
narrow_lines s (suc n) = narrow_lines s n

narrow_columns : (s : Sizes) (table : Table) (count : ℕ) → list_all (is_narrow (widest table)) (record_columns s table count) ≡ true
unfolding is_narrow widest
narrow_columns s Orders count = narrow_lines s (line_count s.format (count - 8))
narrow_columns s table count = refl

long_columns : (s : Sizes) (n : ℕ) → length (lines_columns s n) ≡ 7 * n
long_columns s zero = refl
long_columns s (suc n) = let rest = long_columns s n in omega (arith, rest)

pub few_in_record : (format : Format) (left : ℕ) → line_count format left ≤ MOST_LINES
few_in_record One left = omega arith
few_in_record Two left = omega arith

-- a record's fields have few bytes
few_bytes : (s : Sizes) (table : Table) (count : ℕ) → bytes_of (widest table) (suc (length (record_columns s table count))) ≤ 65536
unfolding widest
few_bytes s Orders count =
    let n = line_count s.format (count - 8) in
    let few = few_in_record s.format (count - 8) in
    let long = long_columns s n in
    let is = bytes_of_32 (suc (length (record_columns s Orders count))) in
    omega (arith, few, long, is)
few_bytes s table count = let is = bytes_of_500 (suc (length (record_columns s table count))) in omega (arith, is)

short_letter : (table : Table) → length (letter table) ≤ 1
short_letter Items = omega arith
short_letter table = omega arith

-- ---- the row made from the columns' values

flag_number : (n : ℕ) → n ≤ 1 → (if n == 1 then 1 else 0) ≡ n
flag_number n most = grind (arith, nat_tests)

number_flag : (flag : Bool) → ((if flag then 1 else 0) == 1) ≡ flag
number_flag true = refl
number_flag false = refl

lines_reported : (s : Sizes) (order : OrderKey) (n : ℕ) (values : Values (lines_columns s n)) → lines_fields (lines_made s order n values) ≡ fields_of (lines_columns s n) values
lines_reported s order zero values = refl
lines_reported s order (suc n) values =
    ap (λ l.
    Number values.0 ∷ Number values.1.0 ∷ Number values.1.1.0 ∷ delivery_field values.1.1.1.0 ∷ Number values.1.1.1.1.0
    ∷ Number values.1.1.1.1.1.0 ∷ Words values.1.1.1.1.1.1.0 ∷ l) (lines_reported s order n values.1.1.1.1.1.1.1)

fields_reported : (s : Sizes) (table : Table) (count : ℕ) (values : Values (record_columns s table count)) → AreBetween (record_columns s table count) values
    → row_fields (row_of s table count values) ≡ Words (letter table) ∷ fields_of (record_columns s table count) values
fields_reported s Orders count values between =
    let flag = flag_number values.1.1.1.1.1.1.1.0 between.1.1.1.1.1.1.1.0.1 in
    let key : OrderKey = record { w_id = values.0; d_id = values.1.0; o_id = values.1.1.0 } in
    let lines = lines_reported s key (line_count s.format (count - 8)) values.1.1.1.1.1.1.1.1 in
    λ i. Words (letter Orders) ∷ Number values.0 ∷ Number values.1.0 ∷ Number values.1.1.0 ∷ Number values.1.1.1.0 ∷ Date values.1.1.1.1.0
    ∷ carrier_field values.1.1.1.1.1.0 ∷ Number values.1.1.1.1.1.1.0 ∷ Number (flag i) ∷ lines i
fields_reported s table count values between = refl

-- a record whose fields have no fault spells the row that it is read as
pub row_is_spelt : (format : Format) (scale : Scale) (table : Table) (fields : List (List ℕ)) → IsRead (sizes format scale) table fields
    → AreSpelt (row_fields (row_read (sizes format scale) table fields)) (letter table ∷ fields)
row_is_spelt format scale table fields read =
    let s = sizes format scale in
    let columns = record_columns s table (length fields) in
    let values = (read_columns columns (record { left = fields; fault = None })).0 in
    let reported = fields_reported s table (length fields) values (read_are_between columns values fields read.are_read) in
    subst (λ fs. AreSpelt fs (letter table ∷ fields)) (sym reported) (refl, read_are_spelt columns values fields (small_columns format scale table (length fields)) read.are_read)

-- ---- the columns that a row has

-- the row is made from the columns' values, and each value is within its column
pub record RowValues (format : Format) (scale : Scale) (row : TableRow) : Type 0 where
  pub table : Table
  pub is_kind : kind_of format (letter table) ≡ Some (Of table)
  pub count : ℕ
  pub many : length (record_columns (sizes format scale) table count) ≡ count
  pub values : Values (record_columns (sizes format scale) table count)
  pub is : row_of (sizes format scale) table count values ≡ row
  pub inside : AreIn (record_columns (sizes format scale) table count) values

-- the lines are made from the values of their columns, and each value is within its column
record LinesValues (s : Sizes) (order : OrderKey) (lines : List (OrderLineKey × OrderLine)) (n : ℕ) : Type 0 where
  values : Values (lines_columns s n)
  is : lines_made s order n values ≡ lines
  inside : AreIn (lines_columns s n) values

same_line_key : (order : OrderKey) (key : OrderLineKey) → order_of_line key ≡ order → line_key order key.number ≡ key
same_line_key order key is i = record { w_id = (sym is i).w_id; d_id = (sym is i).d_id; o_id = (sym is i).o_id; number = key.number }

lines_values : (scale : Scale) (order : OrderKey) (lines : List (OrderLineKey × OrderLine)) → AllByRecursion (λ e. order_of_line e.0 ≡ order) lines → AllByRecursion (LineFits scale) lines
    → LinesValues (sizes Two scale) order lines (length lines)
lines_values scale order [] own fit = record { values = tt; is = refl; inside = tt }
lines_values scale order (line ∷ lines) own fit =
    let rest = lines_values scale order lines own.1 fit.1 in
    let f = fit.0 in
    let row = line.1 in
    let r = f.1.in_range in
    let key = same_line_key order line.0 own.0 in
    record {
      values = (line.0.number, (row.i_id, (row.supply_w_id, (row.delivery_d, (row.quantity, (row.amount, (row.dist_info, rest.values)))))));
      is = λ i. (key i, row) ∷ rest.is i;
      inside = (
        bounds 1 LAST_LINE line.0.number f.0.number,
        (bounds 1 scale.items row.i_id f.1.item, (bounds 1 scale.warehouses row.supply_w_id f.1.supplier, (r.delivery_d, (r.quantity, (r.amount, (r.dist_info, rest.inside)))))),
      );
    }

-- as many lines as the fields of so many make, and their columns
record OrderLinesValues (format : Format) (scale : Scale) (order : OrderKey) (lines : List (OrderLineKey × OrderLine)) : Type 0 where
  count : ℕ
  some : 8 ≤ count
  many : length (lines_columns (sizes format scale) (line_count format (count - 8))) + 8 ≡ count
  lines_are : LinesValues (sizes format scale) order lines (line_count format (count - 8))

order_lines_values : (format : Format) (scale : Scale) (order : OrderKey) (lines : List (OrderLineKey × OrderLine)) → AreLinesOf format order lines → AllByRecursion (LineFits scale) lines
    → OrderLinesValues format scale order lines
order_lines_values One scale order lines own fit = record { count = 8; some = omega arith; many = refl; lines_are = record { values = tt; is = sym own; inside = tt } }
order_lines_values Two scale order lines own fit =
    let n = length lines in
    let few : n ≤ MOST_LINES = own.2 in
    let same : line_count Two (7 * n + 8 - 8) ≡ n = omega (arith, few) in
    let long = long_columns (sizes Two scale) n in record {
      count = 7 * n + 8;
      some = omega arith;
      many = ap (λ k. length (lines_columns (sizes Two scale) k) + 8) same ∙ ap (λ l. l + 8) long;
      lines_are = subst (LinesValues (sizes Two scale) order lines) (sym same) (lines_values scale order lines own.0 fit);
    }

-- ten texts
record InfoValues (infos : List (List ℕ)) : Type 0 where
  values : Values info_columns
  is : infos_of values ≡ infos
  inside : AreIn info_columns values

info_values : (infos : List (List ℕ)) → length infos ≡ 10 → AllByRecursion (IsText 24) infos → InfoValues infos
info_values (a ∷ b ∷ c ∷ d ∷ e ∷ f ∷ g ∷ h ∷ i ∷ j ∷ []) ten texts =
    record { values = (a, (b, (c, (d, (e, (f, (g, (h, (i, (j, tt)))))))))); is = refl; inside = texts }
info_values infos ten texts = absurd (omega arith)

flag_within : (flag : Bool) → IsFrom 0 1 (if flag then 1 else 0)
flag_within true = (omega arith, omega arith)
flag_within false = (omega arith, omega arith)

rate_within : (rate : ℕ) → rate < 10000 → IsFrom 0 9999 rate
rate_within rate small = (omega arith, omega arith)

district_within : (scale : Scale) (key : DistrictKey) → IsTrue (has_district scale key) → IsFrom 1 scale.warehouses key.w_id × IsFrom 1 10 key.d_id
district_within scale key h = let parts = and_parts _ _ h in (bounds 1 scale.warehouses key.w_id parts.0, bounds 1 10 key.d_id parts.1)

customer_within : (scale : Scale) (key : CustomerKey) → IsTrue (has_customer scale key)
    → IsFrom 1 scale.warehouses key.w_id × (IsFrom 1 10 key.d_id × IsFrom 1 scale.customers key.c_id)
customer_within scale key h =
    let parts = and_parts _ _ h in
    let home = district_within scale (district_of_customer key) parts.0 in
    (home.0, (home.1, bounds 1 scale.customers key.c_id parts.1))

-- columns that are within theirs, and then more
in_join : (columns more : List Column) (values : Values columns) (others : Values more) → AreIn columns values → AreIn more others → AreIn (columns ++ more) (join columns more values others)
in_join [] more values others h g = g
in_join (column ∷ columns) more values others h g = (h.0, in_join columns more values.1 others h.1 g)

abbrev address_values : Address → Values address_columns
address_values a = (a.street_1, (a.street_2, (a.city, (a.state, (a.zip, tt)))))

address_inside : (a : Address) → AddressInRange a → AreIn address_columns (address_values a)
address_inside a r = (r.street_1, (r.street_2, (r.city, (r.state, (r.zip, tt)))))

pub row_values : (format : Format) (scale : Scale) (row : TableRow) → RowFits format scale row → RowValues format scale row
row_values format scale (OfItem key row) h =
    let r = h.1 in record {
      table = Items;
      is_kind = refl;
      count = length (record_columns (sizes format scale) Items 0);
      many = refl;
      values = (key, (row.im_id, (row.name, (row.price, (row.data, tt)))));
      is = refl;
      inside = (bounds 1 scale.items key h.0, (r.im_id, (r.name, (r.price, (r.item_data, tt)))));
    }
row_values format scale (OfWarehouse key row) h =
    let r = h.1 in
    let a = row.address in record {
      table = Warehouses;
      is_kind = refl;
      count = length (record_columns (sizes format scale) Warehouses 0);
      many = refl;
      values = (key, (row.name, (a.street_1, (a.street_2, (a.city, (a.state, (a.zip, (row.tax, (row.ytd, tt)))))))));
      is = refl;
      inside = (bounds 1 scale.warehouses key h.0, (r.name, (r.address.street_1, (r.address.street_2, (r.address.city, (r.address.state, (r.address.zip, (rate_within row.tax r.tax, (r.ytd, tt)))))))));
    }
row_values format scale (OfDistrict key row) h =
    let k = district_within scale key h.0 in
    let r = h.1 in
    let a = row.address in record {
      table = Districts;
      is_kind = refl;
      count = length (record_columns (sizes format scale) Districts 0);
      many = refl;
      values = (key.w_id, (key.d_id, (row.name, (a.street_1, (a.street_2, (a.city, (a.state, (a.zip, (row.tax, (row.ytd, (row.next_o_id, tt)))))))))));
      is = refl;
      inside = (k.0, (k.1, (r.name, (r.address.street_1, (r.address.street_2, (r.address.city, (r.address.state, (r.address.zip, (rate_within row.tax r.tax, (r.ytd, (r.next_o_id, tt)))))))))));
    }
row_values format scale (OfStock key row) h =
    let k = and_parts _ _ h.0 in
    let r = h.1 in
    let infos = info_values row.dist r.dist.ten r.dist.texts in
    let more : List Column = counter ∷ counter ∷ counter ∷ Texts 50 ∷ [] in
    let others : Values more = (row.ytd, (row.order_cnt, (row.remote_cnt, (row.data, tt)))) in
    record {
      table = Stocks;
      is_kind = refl;
      count = length (record_columns (sizes format scale) Stocks 0);
      many = refl;
      values = (key.w_id, (key.i_id, (row.quantity, join info_columns more infos.values others)));
      is = λ n. OfStock key (record { quantity = row.quantity; dist = infos.is n; ytd = row.ytd; order_cnt = row.order_cnt; remote_cnt = row.remote_cnt; «data» = row.data });
      inside = (
        bounds 1 scale.warehouses key.w_id k.0,
        (bounds 1 scale.items key.i_id k.1, (r.quantity, in_join info_columns more infos.values others infos.inside (r.ytd, (r.order_cnt, (r.remote_cnt, (r.stock_data, tt)))))),
      );
    }
row_values format scale (OfCustomer key row) h =
    let k = customer_within scale key h.0 in
    let r = h.1 in
    let address = address_values row.address in
    let more : List Column = Texts 16 ∷ Moment ∷ Credit ∷ Cents ∷ Whole 0 9999 ∷ Cents ∷ Cents ∷ counter ∷ counter ∷ Texts 500 ∷ [] in
    let others : Values more =
    (row.phone, (row.since, (row.credit, (row.credit_lim, (row.discount, (row.balance, (row.ytd_payment, (row.payment_cnt, (row.delivery_cnt, (row.data, tt)))))))))) in
    let others_inside : AreIn more others =
    (r.phone, (r.since, (tt, (r.credit_lim, (rate_within row.discount r.discount, (r.balance, (r.ytd_payment, (r.payment_cnt, (r.delivery_cnt, (r.customer_data, tt)))))))))) in
    record {
      table = Customers;
      is_kind = refl;
      count = length (record_columns (sizes format scale) Customers 0);
      many = refl;
      values = (key.w_id, (key.d_id, (key.c_id, (row.first, (row.middle, (row.last, join address_columns more address others))))));
      is = refl;
      inside = (k.0, (k.1.0, (k.1.1, (r.first, (r.middle, (r.last, in_join address_columns more address others (address_inside row.address r.address) others_inside))))));
    }
row_values format scale (OfHistory key row) h =
    let k = district_within scale key h.0 in
    let payer = customer_within scale row.customer h.1.payer in
    let r = h.1.in_range in record {
      table = Histories;
      is_kind = refl;
      count = length (record_columns (sizes format scale) Histories 0);
      many = refl;
      values = (key.w_id, (key.d_id, (row.customer.w_id, (row.customer.d_id, (row.customer.c_id, (row.date, (row.amount, (row.data, tt))))))));
      is = refl;
      inside = (k.0, (k.1, (payer.0, (payer.1.0, (payer.1.1, (r.date, (r.amount, (r.history_data, tt))))))));
    }
row_values format scale (OfOrder key row lines) h =
    let k = district_within scale (district_of_order key) h.1.0.home in
    let r = h.1.1.in_range in
    let o = order_lines_values format scale key lines h.0.1 h.1.2 in
    let many = o.many in record {
      table = Orders;
      is_kind = refl;
      count = o.count;
      many = omega (arith, many);
      values = (key.w_id, (key.d_id, (key.o_id, (row.c_id, (row.entry_d, (row.carrier_id, (row.ol_cnt, ((if row.all_local then 1 else 0), o.lines_are.values))))))));
      is = λ n. OfOrder key (record { c_id = row.c_id; entry_d = row.entry_d; carrier_id = row.carrier_id; ol_cnt = row.ol_cnt; all_local = number_flag row.all_local n }) (o.lines_are.is n);
      inside = (k.0, (k.1, (bounds 1 9999999 key.o_id h.1.0.number, (h.1.1.c_id, (r.entry_d, (r.carrier_id, ((r.ol_cnt.0, h.0.0), (flag_within row.all_local, o.lines_are.inside))))))));
    }
row_values format scale (OfNewOrder key row) h =
    let k = district_within scale (district_of_order key) h.1.home in record {
      table = NewOrders;
      is_kind = refl;
      count = length (record_columns (sizes format scale) NewOrders 0);
      many = refl;
      values = (key.w_id, (key.d_id, (key.o_id, tt)));
      is = refl;
      inside = (k.0, (k.1, (bounds 1 9999999 key.o_id h.1.number, tt)));
    }
row_values One scale (OfLine key row) h =
    let k = district_within scale (district_of_order (order_of_line key)) h.1.0.order.home in
    let number = bounds 1 LAST_LINE key.number h.1.0.number in
    let r = h.1.1.in_range in record {
      table = Lines;
      is_kind = refl;
      count = length (record_columns (sizes One scale) Lines 0);
      many = refl;
      values = (key.w_id, (key.d_id, (key.o_id, (key.number, (row.i_id, (row.supply_w_id, (row.delivery_d, (row.quantity, (row.amount, (row.dist_info, tt))))))))));
      is = refl;
      inside = (
        k.0,
        (
          k.1,
          (
            bounds 1 9999999 key.o_id h.1.0.order.number,
            (
              (number.0, h.0),
              (bounds 1 scale.items row.i_id h.1.1.item, (bounds 1 scale.warehouses row.supply_w_id h.1.1.supplier, (r.delivery_d, (r.quantity, (r.amount, (r.dist_info, tt)))))),
            ),
          ),
        ),
      );
    }
row_values Two scale (OfLine key row) h = absurd h.0

-- ---- what spells a row that fits is read as it

length_fields : (columns : List Column) (values : Values columns) → length (fields_of columns values) ≡ length columns
length_fields [] values = refl
length_fields (column ∷ columns) values = ap (λ n. suc n) (length_fields columns values.1)

in_between : (columns : List Column) (values : Values columns) → AreIn columns values → AreBetween columns values
in_between [] values inside = tt
in_between (column ∷ columns) values inside = (one column values.0 inside.0, in_between columns values.1 inside.1)
  where
    one : (column : Column) (value : Value column) → IsIn column value → IsBetween column value
    one (Whole low high) n from = from
    one column value from = tt

-- the texts are a record of a table, without a fault except for its order, and are read as the row
pub record RowRead (format : Format) (scale : Scale) (row : TableRow) (texts : List (List ℕ)) : Type 0 where
  pub table : Table
  pub fields : List (List ℕ)
  pub are : texts ≡ letter table ∷ fields
  pub is_kind : kind_of format (letter table) ≡ Some (Of table)
  pub none : columns_fault (record_columns (sizes format scale) table (length fields)) fields ≡ None
  pub is_row : row_read (sizes format scale) table fields ≡ row
  pub kept : record_size texts ≤ 65536

pub row_reads : (format : Format) (scale : Scale) (row : TableRow) (texts : List (List ℕ)) → RowFits format scale row → AreSpelt (row_fields row) texts → RowRead format scale row texts
row_reads format scale row texts fits spelt = by texts refl (subst (λ fs. AreSpelt fs texts) (ap row_fields (sym v.is) ∙ reported) spelt)
  where
    s : Sizes
    s = sizes format scale

    v : RowValues format scale row
    v = row_values format scale row fits

    reported : row_fields (row_of s v.table v.count v.values) ≡ Words (letter v.table) ∷ fields_of (record_columns s v.table v.count) v.values
    reported = fields_reported s v.table v.count v.values (in_between (record_columns s v.table v.count) v.values v.inside)

    by : (ts : List (List ℕ)) → texts ≡ ts → AreSpelt (Words (letter v.table) ∷ fields_of (record_columns s v.table v.count) v.values) ts → RowRead format scale row texts
    by [] e spelt = absurd spelt
    by (text ∷ fields) e spelt =
        let cs = record_columns s v.table v.count in
        let start : FieldsView = record { left = fields; fault = None } in
        let read = spelt_are_read cs v.values fields (small_columns format scale v.table v.count) v.inside spelt.1 in
        let long : length fields ≡ v.count = AllZip-long IsSpelt (fields_of cs v.values) fields spelt.1 ∙ length_fields cs v.values ∙ v.many in
        let none : columns_fault cs fields ≡ None = ap (λ (t : FieldsView). at_end t.left t.fault) (sym (read-take cs start) ∙ ap (λ (p : Values cs × FieldsView). p.1) read) in
        let is_row : row_of s v.table v.count (read_columns cs start).0 ≡ row = ap (λ (p : Values cs × FieldsView). row_of s v.table v.count p.0) read ∙ v.is in
        record {
          table = v.table;
          fields = fields;
          are = e ∙ ap (λ w. w ∷ fields) spelt.0;
          is_kind = v.is_kind;
          none = subst (λ n. columns_fault (record_columns s v.table n) fields ≡ None) (sym long) none;
          is_row = subst (λ n. row_of s v.table n (read_columns (record_columns s v.table n) start).0 ≡ row) (sym long) is_row;
          kept =
              let short = short_letter v.table in
              let some = some_width v.table in
              let first : length text ≤ widest v.table = rw spelt.0 (omega (arith, short, some)) in
              let size = longer (widest v.table) some text fields (length cs) first (short_fields (widest v.table) some cs v.values fields (small_columns format scale v.table v.count) (narrow_columns s v.table v.count) v.inside spelt.1) in
              let few = few_bytes s v.table v.count in
              let all : record_size (text ∷ fields) ≤ 65536 = omega (arith, size, few) in
              subst (λ ts. record_size ts ≤ 65536) (sym e) all;
        }

-- ---- what is known of it

between : (low high n : ℕ) → IsFrom low high n → IsTrue (is_between low high n)
between low high n h = let least = h.0 in let most = h.1 in grind (arith, nat_tests)

all_of : (b c : Bool) → IsTrue b → IsTrue c → IsTrue (b && c)
all_of true c h g = g
all_of false c h g = absurd cc

lines_are_of : (s : Sizes) (order : OrderKey) (n : ℕ) (values : Values (lines_columns s n)) → AllByRecursion (λ e. order_of_line e.0 ≡ order) (lines_made s order n values)
lines_are_of s order zero values = tt
lines_are_of s order (suc n) values = (refl, lines_are_of s order n values.1.1.1.1.1.1.1)

many_lines : (s : Sizes) (order : OrderKey) (n : ℕ) (values : Values (lines_columns s n)) → length (lines_made s order n values) ≡ n
many_lines s order zero values = refl
many_lines s order (suc n) values = ap (λ k. suc k) (many_lines s order n values.1.1.1.1.1.1.1)

lines_known : (format : Format) (scale : Scale) (order : OrderKey) (left : ℕ) (values : Values (lines_columns (sizes format scale) (line_count format left)))
    → IsTrue (ascend_from 0 (numbers_of (lines_made (sizes format scale) order (line_count format left) values)))
    → AreLinesOf format order (lines_made (sizes format scale) order (line_count format left) values)
lines_known One scale order left values rising = refl
lines_known Two scale order left values rising =
    let s = sizes Two scale in
    let n = line_count Two left in
    let few = few_in_record Two left in
    (lines_are_of s order n values, rising, let many = many_lines s order n values in omega (arith, many, few))

line_known : (format : Format) (key : OrderLineKey) → kind_of format (letter Lines) ≡ Some (Of Lines) → key.number ≤ most_lines format → FormatHasLine format key
line_known One key is_kind few = few
line_known Two key is_kind few = absurd cc

pub known_row : (format : Format) (scale : Scale) (table : Table) (count : ℕ) (values : Values (record_columns (sizes format scale) table count)) → kind_of format (letter table) ≡ Some (Of table)
    → IsTrue (has_rising_lines (row_of (sizes format scale) table count values)) → AreBetween (record_columns (sizes format scale) table count) values
    → IsKnown format scale (row_of (sizes format scale) table count values)
known_row format scale Items count v kind rising b = between 1 scale.items v.0 b.0
known_row format scale Warehouses count v kind rising b = between 1 scale.warehouses v.0 b.0
known_row format scale Districts count v kind rising b = all_of _ _ (between 1 scale.warehouses v.0 b.0) (between 1 10 v.1.0 b.1.0)
known_row format scale Stocks count v kind rising b = all_of _ _ (between 1 scale.warehouses v.0 b.0) (between 1 scale.items v.1.0 b.1.0)
known_row format scale Customers count v kind rising b = all_of _ _ (all_of _ _ (between 1 scale.warehouses v.0 b.0) (between 1 10 v.1.0 b.1.0)) (between 1 scale.customers v.1.1.0 b.1.1.0)
known_row format scale Histories count v kind rising b = all_of _ _ (between 1 scale.warehouses v.0 b.0) (between 1 10 v.1.0 b.1.0)
known_row format scale Orders count v kind rising b =
    (b.1.1.1.1.1.1.0.1, lines_known format scale (record { w_id = v.0; d_id = v.1.0; o_id = v.1.1.0 }) (count - 8) v.1.1.1.1.1.1.1.1 rising)
known_row format scale NewOrders count v kind rising b = tt
known_row format scale Lines count v kind rising b =
    line_known format (record { w_id = v.0; d_id = v.1.0; o_id = v.1.1.0; number = v.1.1.1.0 }) kind b.1.1.1.0.1
