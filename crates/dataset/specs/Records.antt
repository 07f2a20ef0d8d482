-- The records of a dataset: its header, the rows of the nine tables, and its end.
use Rattle.std.specs.Prelude.{◌≡◌, ◌≤◌, ◌⊎◌, ℕ, ℤ, List, [], ◌∷◌, ◌++◌, length, map, Option, Some, None, codes, if◌then◌else◌}
use Rattle.std.specs.Fmt.{decimal, signed_decimal}
use Rattle.std.specs.List.{flat_map, AllZip}
use Rattle.std.specs.declared.cmp.Ordering.{Ordering}
use Rattle.std.specs.FinMap as table
use Rattle.rows.specs.declared.keys.DistrictKey.{DistrictKey}
use Rattle.rows.specs.declared.keys.StockKey.{StockKey}
use Rattle.rows.specs.declared.keys.CustomerKey.{CustomerKey}
use Rattle.rows.specs.declared.keys.OrderKey.{OrderKey}
use Rattle.rows.specs.declared.keys.OrderLineKey.{OrderLineKey}
use Rattle.rows.specs.declared.records.Address.{Address}
use Rattle.rows.specs.declared.records.Item.{Item}
use Rattle.rows.specs.declared.records.Warehouse.{Warehouse}
use Rattle.rows.specs.declared.records.District.{District}
use Rattle.rows.specs.declared.records.Stock.{Stock}
use Rattle.rows.specs.declared.records.Customer.{Customer}
use Rattle.rows.specs.declared.records.History.{History}
use Rattle.rows.specs.declared.records.Order.{Order}
use Rattle.rows.specs.declared.records.NewOrder.{NewOrder}
use Rattle.rows.specs.declared.records.OrderLine.{OrderLine}
use Rattle.schema.specs.declared.scale.Scale.{Scale}
use Rattle.schema.specs.Database.{Database}
use Rattle.schema.specs.Consistency.{lines_of}
use Rattle.dataset.specs.declared.format.Format.{Format}
use Rattle.dataset.specs.declared.format.Format.TheVariants.{One, Two}
use Rattle.dataset.specs.Formats.{IsWithinFormat, format_number, most_warehouses}
use Rattle.files.specs.MomentText.{IsMomentText}
use Rattle.files.specs.Place.{Rows}
use Rattle.files.specs.Sending.{OfFirst}
use Rattle.files.specs.Word.{credit_text}

-- a field: words, a number, an amount in cents, a date and time in seconds since the start of 1970, or null
pub data Field : Type 0 where
  Words : List ℕ → Field
  Number : ℕ → Field
  Money : ℤ → Field
  Date : ℕ → Field
  Null : Field

-- the text spells the field; null is the empty text
abbrev pub IsSpelt : Field → List ℕ → Type 0
IsSpelt (Words words) text = text ≡ words
IsSpelt (Number number) text = text ≡ decimal number
IsSpelt (Money cents) text = text ≡ signed_decimal cents
IsSpelt (Date seconds) text = IsMomentText text seconds
IsSpelt Null text = text ≡ []

-- ---- the columns of each table without its key

-- the five columns of an address (clause 1.3.1, as all columns)
abbrev pub address_fields : Address → List Field
address_fields a = Words a.street_1 ∷ Words a.street_2 ∷ Words a.city ∷ Words a.state ∷ Words a.zip ∷ []

-- the last seven columns of CUSTOMER
abbrev pub account_fields : Customer → List Field
account_fields row =
    Money row.credit_lim ∷ Number row.discount ∷ Money row.balance ∷ Money row.ytd_payment
    ∷ Number row.payment_cnt ∷ Number row.delivery_cnt ∷ Words row.data ∷ []

-- ITEM
abbrev pub item_columns : Item → List Field
item_columns row = Number row.im_id ∷ Words row.name ∷ Number row.price ∷ Words row.data ∷ []

-- WAREHOUSE
abbrev pub warehouse_columns : Warehouse → List Field
warehouse_columns row = Words row.name ∷ address_fields row.address ++ Number row.tax ∷ Money row.ytd ∷ []

-- DISTRICT
abbrev pub district_columns : District → List Field
district_columns row =
    Words row.name ∷ address_fields row.address ++ Number row.tax ∷ Money row.ytd ∷ Number row.next_o_id ∷ []

-- STOCK; S_DIST_01 to S_DIST_10 follow S_QUANTITY
abbrev pub stock_columns : Stock → List Field
stock_columns row =
    Number row.quantity ∷ map (λ text. Words text) row.dist
    ++ Number row.ytd ∷ Number row.order_cnt ∷ Number row.remote_cnt ∷ Words row.data ∷ []

-- CUSTOMER
abbrev pub customer_columns : Customer → List Field
customer_columns row =
    Words row.first ∷ Words row.middle ∷ Words row.last ∷ address_fields row.address
    ++ Words row.phone ∷ Date row.since ∷ Words (credit_text row.credit) ∷ account_fields row

-- HISTORY; the customer who paid is first
abbrev pub history_columns : History → List Field
history_columns row =
    Number row.customer.w_id ∷ Number row.customer.d_id ∷ Number row.customer.c_id
    ∷ Date row.date ∷ Money row.amount ∷ Words row.data ∷ []

-- O_CARRIER_ID, null until the order is delivered
abbrev pub carrier_field : Option ℕ → Field
carrier_field None = Null
carrier_field (Some carrier) = Number carrier

-- ORDER; O_ALL_LOCAL is 1 or 0
abbrev pub order_columns : Order → List Field
order_columns row =
    Number row.c_id ∷ Date row.entry_d ∷ carrier_field row.carrier_id ∷ Number row.ol_cnt
    ∷ Number (if row.all_local then 1 else 0) ∷ []

-- OL_DELIVERY_D, null until the order is delivered
abbrev pub delivery_field : Option ℕ → Field
delivery_field None = Null
delivery_field (Some seconds) = Date seconds

-- ORDER-LINE
abbrev pub line_columns : OrderLine → List Field
line_columns row =
    Number row.i_id ∷ Number row.supply_w_id ∷ delivery_field row.delivery_d ∷ Number row.quantity
    ∷ Number row.amount ∷ Words row.dist_info ∷ []

-- ---- the keys

-- W_ID and D_ID
abbrev pub district_key_fields : DistrictKey → List Field
district_key_fields key = Number key.w_id ∷ Number key.d_id ∷ []

-- W_ID, D_ID and C_ID
abbrev pub customer_key_fields : CustomerKey → List Field
customer_key_fields key = Number key.w_id ∷ Number key.d_id ∷ Number key.c_id ∷ []

-- W_ID, D_ID and O_ID
abbrev pub order_key_fields : OrderKey → List Field
order_key_fields key = Number key.w_id ∷ Number key.d_id ∷ Number key.o_id ∷ []

-- ---- a record of each table: its letter, the key, and the other columns

-- ITEM, by I_ID
abbrev pub item_fields : ℕ → Item → List Field
item_fields i_id row = Words (codes "I") ∷ Number i_id ∷ item_columns row

-- WAREHOUSE, by W_ID
abbrev pub warehouse_fields : ℕ → Warehouse → List Field
warehouse_fields w_id row = Words (codes "W") ∷ Number w_id ∷ warehouse_columns row

-- DISTRICT, by D_W_ID and D_ID
abbrev pub district_fields : DistrictKey → District → List Field
district_fields key row = Words (codes "D") ∷ district_key_fields key ++ district_columns row

-- STOCK, by S_W_ID and S_I_ID
abbrev pub stock_fields : StockKey → Stock → List Field
stock_fields key row = Words (codes "S") ∷ Number key.w_id ∷ Number key.i_id ∷ stock_columns row

-- CUSTOMER, by C_W_ID, C_D_ID and C_ID
abbrev pub customer_fields : CustomerKey → Customer → List Field
customer_fields key row = Words (codes "C") ∷ customer_key_fields key ++ customer_columns row

-- HISTORY, by the district whose list contains the payment
abbrev pub history_fields : DistrictKey → History → List Field
history_fields home row = Words (codes "H") ∷ district_key_fields home ++ history_columns row

-- ORDER, by O_W_ID, O_D_ID and O_ID, without lines
abbrev pub order_fields : OrderKey → Order → List Field
order_fields key row = Words (codes "O") ∷ order_key_fields key ++ order_columns row

-- NEW-ORDER, by NO_W_ID, NO_D_ID and NO_O_ID; it has no other column
abbrev pub new_order_fields : OrderKey → NewOrder → List Field
new_order_fields key row = Words (codes "N") ∷ order_key_fields key

-- ORDER-LINE, by OL_W_ID, OL_D_ID, OL_O_ID and OL_NUMBER
abbrev pub line_fields : OrderLineKey → OrderLine → List Field
line_fields key row =
    Words (codes "L") ∷ Number key.w_id ∷ Number key.d_id ∷ Number key.o_id ∷ Number key.number ∷ line_columns row

-- the lines of an order in its record, each OL_NUMBER and the columns of ORDER-LINE
abbrev pub lines_fields : List (OrderLineKey × OrderLine) → List Field
lines_fields lines = flat_map (λ e. Number e.0.number ∷ line_columns e.1) lines

-- ORDER with lines
abbrev pub order_record : OrderKey → Order → List (OrderLineKey × OrderLine) → List Field
order_record key row lines = order_fields key row ++ lines_fields lines

-- ---- all records

-- the three numbers of a scale
abbrev pub scale_fields : Scale → List Field
scale_fields scale = Number scale.warehouses ∷ Number scale.items ∷ Number scale.customers ∷ []

-- the name and number of the format, and the scale
abbrev pub header_fields : Format → Scale → List Field
header_fields format scale = Words (codes "TPCC") ∷ Number (format_number format) ∷ scale_fields scale

-- one record for each row
abbrev pub row_records : {K X : Type 0} → (K → X → List Field) → List (K × X) → List (List Field)
row_records fields rows = map (λ e. fields e.0 e.1) rows

-- the records of the rows of a table, by ascending keys
abbrev pub table_records : {K X : Type 0} {R : K → K → Ordering} → (K → X → List Field) → table.FinMap R X → List (List Field)
table_records fields rows = row_records fields (table.entries rows)

-- the records of the payments, by ascending districts, and those of a district in the order of its list
abbrev pub payment_records : List (DistrictKey × List History) → List (List Field)
payment_records lists = flat_map (λ e. map (history_fields e.0) e.1) lists

-- the lines in the record of an order: none in format 1, all of the order in format 2
abbrev pub lines_in_order : Format → Database → OrderKey → List (OrderLineKey × OrderLine)
lines_in_order One t key = []
lines_in_order Two t key = lines_of t key

-- the records of the orders, by ascending keys
abbrev pub order_records : Format → Database → List (List Field)
order_records format t = row_records (λ key row. order_record key row (lines_in_order format t key)) (table.entries t.orders)

-- the records of the lines, by ascending keys, which format 2 does not have
abbrev pub line_records : Format → Database → List (List Field)
line_records One t = table_records line_fields t.lines
line_records Two t = []

-- the records of the nine tables, table by table
unfoldable pub records_by_table : Format → Database → List (List (List Field))
records_by_table format t =
    table_records item_fields t.items ∷ table_records warehouse_fields t.warehouses
    ∷ table_records district_fields t.districts ∷ table_records stock_fields t.stocks
    ∷ table_records customer_fields t.customers ∷ payment_records (table.entries t.histories)
    ∷ order_records format t ∷ table_records new_order_fields t.new_orders ∷ line_records format t ∷ []

-- END, and the number of records of each table
abbrev pub end_fields : List (List (List Field)) → List Field
end_fields tables = Words (codes "END") ∷ map (λ records. Number (length records)) tables

-- the header, the records of all tables, and the end; in both formats, the end counts the rows of each table, which are
-- as many as its records in format 1
unfoldable pub records : Format → Database → List (List Field)
records format t =
    header_fields format t.scale ∷ flat_map (λ records. records) (records_by_table format t)
    ++ end_fields (records_by_table One t) ∷ []

-- ---- as texts

-- each text spells its field
abbrev pub AreSpelt : List Field → List (List ℕ) → Type 0
AreSpelt fields texts = AllZip IsSpelt fields texts

-- the texts are a header of that format and scale
pub record IsHeader (format : Format) (scale : Scale) (header : List (List ℕ)) : Type 0 where
  pub within : scale.warehouses ≤ most_warehouses format
  pub is_spelt : AreSpelt (header_fields format scale) header

-- the tables are within the limits of the format, and these are their records in it, each a list of texts
unfoldable pub AreRecordsIn : Format → Database → Rows → Type 0
AreRecordsIn format t rows = IsWithinFormat format t × AllZip AreSpelt (records format t) rows

-- these are the records of the tables in format 1
abbrev pub AreRecords1 : Database → Rows → Type 0
AreRecords1 t rows = AreRecordsIn One t rows

-- these are the records of the tables in format 2
abbrev pub AreRecords2 : Database → Rows → Type 0
AreRecords2 t rows = AreRecordsIn Two t rows

-- these are the records of the tables in either format
abbrev pub AreRecordsOfEither : Database → Rows → Type 0
AreRecordsOfEither t rows = AreRecords1 t rows ⊎ AreRecords2 t rows

-- these are the first records of the tables in format 2, some number of them
abbrev pub AreFirstRecords2 : Database → Rows → Type 0
AreFirstRecords2 t rows = OfFirst (λ (first : List (List Field)). AllZip AreSpelt first) (records Two t) rows
