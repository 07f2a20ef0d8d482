-- Rows in order, table by table; and the tables to which they were added.
use Rattle.std.proofs.Common.{◌≡◌, ◌≤◌, ◌<◌, ◌==◌, ◌&&◌, ◌+◌, ℕ, List, [], ◌∷◌, ◌++◌, length, map, nat_lt, Bool, true, false, Option, Some, None, IsTrue, refl, sym, ap, subst, ◌∙◌, arith, append_assoc}
use Rattle.std.specs.Prelude.{if◌then◌else◌}
use Rattle.std.specs.List.{AllByRecursion, flat_map, list_all, zip}
use Rattle.std.specs.List.Sorted.{IsStrictlySortedBy}
use Rattle.std.specs.Map.{keys_of, values_of}
use Rattle.std.specs.BTreeMap.{insert_entry}
use Rattle.std.specs.Ordering.{is_le, nat_cmp}
use Rattle.std.specs.Cmp.Lexicographic.{slice_cmp}
use Rattle.std.specs.Cmp.{IsTotalOrder}
use Rattle.std.specs.declared.cmp.Ordering.{Ordering}
use Rattle.std.specs.declared.cmp.Ordering.TheVariants.{Less, Greater}
use Rattle.std.proofs.lemmas.Bool.{and_parts}
use Rattle.std.proofs.lemmas.Bool.Decides.{nat_tests}
use Rattle.std.proofs.lemmas.List.{append-nil, map-append}
use Rattle.rows.specs.declared.keys.DistrictKey.{DistrictKey}
use Rattle.rows.specs.declared.keys.OrderKey.{OrderKey}
use Rattle.rows.specs.declared.keys.OrderLineKey.{OrderLineKey}
use Rattle.rows.specs.declared.records.History.{History}
use Rattle.rows.specs.declared.records.NewOrder.{NewOrder}
use Rattle.rows.specs.declared.records.Order.{Order}
use Rattle.rows.specs.declared.records.OrderLine.{OrderLine}
use Rattle.schema.specs.declared.scale.Scale.{Scale}
use Rattle.schema.specs.declared.table_rows.TableRows.{TableRows}
use Rattle.schema.specs.Scale.{district_keys, district_slot}
use Rattle.schema.proofs.KeyOrders.{orders_total, lines_total}
use Rattle.dataset.specs.Payments.{Pays}
use Rattle.dataset.specs.declared.place.Place.{Place}
use Rattle.dataset.specs.declared.place.Place.TheVariants as at
use Rattle.dataset.specs.declared.format.Format.{Format}
use Rattle.dataset.specs.declared.format.Format.TheVariants.{One, Two}
use Rattle.dataset.specs.Columns.{Table, Items, Warehouses, Districts, Stocks, Customers, Histories, Orders, NewOrders, Lines, table_number}
use Rattle.dataset.specs.Loading.{AddsRows, AreInOrder}
use Rattle.dataset.specs.Order.{place_cmp, place_numbers, follows}
use Rattle.dataset.specs.TableRow.{TableRow, OfItem, OfWarehouse, OfDistrict, OfStock, OfCustomer, OfHistory, OfOrder, OfNewOrder, OfLine, AddsRow, AreLinesOf, IsKnown, insert_lines, row_place}
use Rattle.dataset.proofs.AllRows.{rows_of}
use Rattle.dataset.proofs.EachTable.{EntryOf, Found, Other, Own, RowOf, all_tables, cmp_of, find, get, is_keyed, make, number_of_row, rises}
use Rattle.dataset.proofs.Keys.{all-append, all-each, all-map, all-weaker, sorted-district_keys}
use Rattle.rows.specs.Keys.{order_cmp, line_cmp}
use Rattle.dataset.proofs.Order.{follows_le, numbers_of, place_number, place_reaches, turned}
use Rattle.dataset.proofs.OrderLines.{lines_sorted}
use Rattle.dataset.proofs.Payments.{all_reached, district_at_slot, few_opened, few_paid, lists_paid, payments_of, places, slots_paid}

-- ---- the rows of one table

abbrev pub with_row : Bool → TableRow → List TableRow → List TableRow
with_row true row rows = row ∷ rows
with_row false row rows = rows

-- those of the table of that number
abbrev pub of_table : ℕ → List TableRow → List TableRow
of_table n [] = []
of_table n (row ∷ rows) = with_row (number_of_row row == n) row (of_table n rows)

none_of : (n : ℕ) (rows : List TableRow) → AllByRecursion (λ row. n < number_of_row row) rows → of_table n rows ≡ []
none_of n [] h = refl
none_of n (row ∷ rows) h =
    let other : (number_of_row row == n) ≡ false = let first = h.0 in grind (arith, nat_tests, first) in
    ap (λ b. with_row b row (of_table n rows)) other ∙ none_of n rows h.1

-- whether a number is among ascending numbers
is_placed : ℕ → List ℕ → Bool
is_placed k [] = false
is_placed k (n ∷ ns) = if nat_lt n k then is_placed k ns else (k == n) && list_all (λ m. nat_lt k m) ns

module _ (row : TableRow) (rows : List TableRow) (above : AllByRecursion (λ later. number_of_row row ≤ number_of_row later) rows) where
  others : (ns : List ℕ) → list_all (λ m. nat_lt (number_of_row row) m) ns ≡ true → flat_map (λ n. of_table n (row ∷ rows)) ns ≡ flat_map (λ n. of_table n rows) ns
  others [] apart = refl
  others (n ∷ ns) apart =
      let tests = and_parts (nat_lt (number_of_row row) n) (list_all (λ m. nat_lt (number_of_row row) m) ns) apart in
      let other : (number_of_row row == n) ≡ false = let below = tests.0 in grind (arith, nat_tests, below) in
      ap (λ b. with_row b row (of_table n rows) ++ flat_map (λ m. of_table m (row ∷ rows)) ns) other ∙ ap (λ l. of_table n rows ++ l) (others ns tests.1)

  placed : (ns : List ℕ) → is_placed (number_of_row row) ns ≡ true → flat_map (λ n. of_table n (row ∷ rows)) ns ≡ row ∷ flat_map (λ n. of_table n rows) ns
  unfolding is_placed
  placed [] h = absurd cc
  placed (n ∷ ns) h = by (placed ns) (nat_lt n (number_of_row row)) refl
    where
      by : (is_placed (number_of_row row) ns ≡ true → flat_map (λ m. of_table m (row ∷ rows)) ns ≡ row ∷ flat_map (λ m. of_table m rows) ns) → (b : Bool) → nat_lt n (number_of_row row) ≡ b → flat_map (λ m. of_table m (row ∷ rows)) (n ∷ ns) ≡ row ∷ flat_map (λ m. of_table m rows) (n ∷ ns)
      by behind true below =
          let later = rw below at h in
          let other : (number_of_row row == n) ≡ false = grind (arith, nat_tests, below) in
          let none : of_table n rows ≡ [] = none_of n rows (all-weaker _ _ (λ r le. let less : n < number_of_row row = grind (arith, nat_tests, below) in omega (arith, less, le)) rows above) in
          ap (λ b. with_row b row (of_table n rows) ++ flat_map (λ m. of_table m (row ∷ rows)) ns) other
          ∙ ap (λ l. l ++ flat_map (λ m. of_table m (row ∷ rows)) ns) none ∙ behind later ∙ ap (λ l. row ∷ (l ++ flat_map (λ m. of_table m rows) ns)) (sym none)
      by behind false below =
          let tests = and_parts (number_of_row row == n) (list_all (λ m. nat_lt (number_of_row row) m) ns) (rw below at h) in
          ap (λ b. with_row b row (of_table n rows) ++ flat_map (λ m. of_table m (row ∷ rows)) ns) tests.0 ∙ ap (λ l. row ∷ (of_table n rows ++ l)) (others ns tests.1)

-- ---- rows in order

lower_first : (m n : ℕ) (ms ns : List ℕ) → n < m → slice_cmp nat_cmp (m ∷ ms) (n ∷ ns) ≡ Greater
lower_first m n ms ns h = let greater : nat_cmp m n ≡ Greater = grind (arith, nat_tests) in rw greater refl

numbers_le : (last p : Place) → IsTrue (follows p last) → place_number last ≤ place_number p
numbers_le last p h = by (nat_lt (place_number p) (place_number last)) refl
  where
    by : (b : Bool) → nat_lt (place_number p) (place_number last) ≡ b → place_number last ≤ place_number p
    by false e = grind (arith, nat_tests, e)
    by true e =
        let a = numbers_of last in
        let b = numbers_of p in
        let less : place_number p < place_number last = grind (arith, nat_tests, e) in
        let order : place_cmp last p ≡ Greater = ap (λ xs. slice_cmp nat_cmp xs (place_numbers p)) a.1 ∙ ap (slice_cmp nat_cmp (place_number last ∷ a.0)) b.1 ∙ lower_first (place_number last) (place_number p) a.0 b.0 less in
        let le : is_le (place_cmp last p) ≡ true = follows_le last p h in
        let clash : is_le Greater ≡ true = sym (ap is_le order) ∙ le in
        absurd cc

row_placed : (row : TableRow) → is_placed (number_of_row row) (map table_number all_tables) ≡ true
unfolding is_placed
row_placed (OfItem key row) = refl
row_placed row = refl

pub by_tables : (rows : List TableRow) → AreInOrder rows → rows ≡ flat_map (λ table. of_table (table_number table) rows) all_tables
by_tables [] h = refl
by_tables (row ∷ rows) h =
    let above = all-weaker _ _ (λ later follow. numbers_le (row_place row) (row_place later) follow) rows h.0 in
    ap (λ l. row ∷ l) (by_tables rows h.1) ∙ sym (placed row rows above (map table_number all_tables) (row_placed row))

-- ---- a table's entries

abbrev pub with_entry : {E : Type 0} → Option E → List E → List E
with_entry None es = es
with_entry (Some e) es = e ∷ es

-- of what the table's rows among these are made
abbrev pub entries_of : (table : Table) → List TableRow → List (EntryOf table)
entries_of table [] = []
entries_of table (row ∷ rows) = with_entry (get table row) (entries_of table rows)

-- the rows of a table are those that its entries make
pub of_entries : (table : Table) (rows : List TableRow) → of_table (table_number table) rows ≡ rows_of table (entries_of table rows)
of_entries table [] = refl
of_entries table (row ∷ rows) = by (of_entries table rows) (find table row)
  where
    by : of_table (table_number table) rows ≡ rows_of table (entries_of table rows) → Found table row
        → of_table (table_number table) (row ∷ rows) ≡ rows_of table (entries_of table (row ∷ rows))
    by rest (Own e some is own) = rw (own, some) (λ i. is i ∷ rest i)
    by rest (Other none other) = rw (other, none) rest

-- what is said of all rows is said of those that a table's entries make
pub all_entries : (table : Table) (P : TableRow → Type 0) (rows : List TableRow) → AllByRecursion P rows
    → AllByRecursion (λ e. P (make table e)) (entries_of table rows)
all_entries table P [] h = tt
all_entries table P (row ∷ rows) h = by (all_entries table P rows h.1) (find table row)
  where
    by : AllByRecursion (λ e. P (make table e)) (entries_of table rows) → Found table row
        → AllByRecursion (λ e. P (make table e)) (entries_of table (row ∷ rows))
    by rest (Own e some is own) = rw some (subst P is h.0, rest)
    by rest (Other none other) = rw none rest

pub keys_ascend : (table : Table) → IsTrue (is_keyed table) → (rows : List TableRow) → AreInOrder rows
    → IsStrictlySortedBy (cmp_of table) (keys_of (entries_of table rows))
unfolding IsStrictlySortedBy
keys_ascend table keyed [] h = tt
keys_ascend table keyed (row ∷ rows) h = by (keys_ascend table keyed rows h.1) (find table row)
  where
    by : IsStrictlySortedBy (cmp_of table) (keys_of (entries_of table rows)) → Found table row
        → IsStrictlySortedBy (cmp_of table) (keys_of (entries_of table (row ∷ rows)))
    by rest (Own e some is own) =
        let follow = all_entries table (λ later. IsTrue (follows (row_place later) (row_place row))) rows h.0 in
        let less : AllByRecursion (λ (later : EntryOf table). cmp_of table e.0 later.0 ≡ Less) (entries_of table rows) =
        all-weaker _ _ (λ later f. rises table keyed e later (subst (λ r. IsTrue (follows (row_place (make table later)) (row_place r))) is f))
        (entries_of table rows) follow in
        rw some (all-map (λ k. cmp_of table e.0 k ≡ Less) (λ later. later.0) (entries_of table rows) less, rest)
    by rest (Other none other) = rw none rest

-- ---- the tables to which the rows were added

-- what is kept of a table
abbrev pub Kept : Table → Type 0
Kept Histories = List (List History)
Kept Orders = List (OrderKey × Order)
Kept NewOrders = List (OrderKey × NewOrder)
Kept Lines = List (OrderLineKey × OrderLine)
Kept table = List (RowOf table)

abbrev pub kept : (table : Table) → TableRows → Kept table
kept Items rows = rows.items.items
kept Warehouses rows = rows.warehouses.items
kept Districts rows = rows.districts.items
kept Stocks rows = rows.stocks.items
kept Customers rows = rows.customers.items
kept Histories rows = rows.histories.items
kept Orders rows = rows.orders.entries
kept NewOrders rows = rows.new_orders.entries
kept Lines rows = rows.lines

-- a row is put at the end, a payment at the end of its district's list
abbrev pub Pushed : {E X : Type 0} → E × X → List X → List X → Type 0
Pushed e old new = new ≡ old ++ e.1 ∷ []

abbrev pub Paid : Scale → DistrictKey × History → List (List History) → List (List History) → Type 0
Paid scale e old new = Pays (district_slot scale e.0) e.1 old new

-- an entry, if there is one
abbrev pub PutSome : {E L : Type 0} → (E → L → L → Type 0) → Option E → L → L → Type 0
PutSome put None old new = new ≡ old
PutSome put (Some e) old new = put e old new

-- how a row was put to what is kept of a table; nothing is said of ordered tables
abbrev pub RowPut : Scale → Table → TableRow → TableRows → TableRows → Type 0
RowPut scale Histories row old new = PutSome (Paid scale) (get Histories row) old.histories.items new.histories.items
RowPut scale Orders row old new = Unit {0}
RowPut scale NewOrders row old new = Unit {0}
RowPut scale Lines row old new = Unit {0}
RowPut scale table row old new = PutSome Pushed (get table row) (kept table old) (kept table new)

-- a row that is added changes its own table only
pub row_put : (scale : Scale) (table : Table) (row : TableRow) (old new : TableRows) → AddsRow scale row old new → RowPut scale table row old new
row_put scale Items (OfItem key row) old new add = add.1
row_put scale Warehouses (OfWarehouse key row) old new add = add.1
row_put scale Districts (OfDistrict key row) old new add = add.1
row_put scale Stocks (OfStock key row) old new add = add.1
row_put scale Customers (OfCustomer key row) old new add = add.1
row_put scale Histories (OfHistory key row) old new add = add.1
row_put scale Orders row old new add = tt
row_put scale NewOrders row old new add = tt
row_put scale Lines row old new add = tt
row_put scale table row old new add = ap (kept table) add.0

-- rows at the end of a list
module _ (table : Table) (list : TableRows → List (RowOf table)) (scale : Scale)
    (step : (row : TableRow) (old mid : TableRows) → AddsRow scale row old mid → PutSome Pushed (get table row) (list old) (list mid)) where
  pub pushed : (rows : List TableRow) (old new : TableRows) → AddsRows scale rows old new → list new ≡ list old ++ values_of (entries_of table rows)
  pushed [] old new h = ap list h ∙ sym (append-nil (list old))
  pushed (row ∷ rows) old new h = pushed rows h.0 new h.1.1 ∙ by (get table row) (step row old h.0 h.1.0)
    where
      by : (r : Option (EntryOf table)) → PutSome Pushed r (list old) (list h.0)
          → list h.0 ++ values_of (entries_of table rows) ≡ list old ++ values_of (with_entry r (entries_of table rows))
      by None same = ap (λ l. l ++ values_of (entries_of table rows)) same
      by (Some e) put = ap (λ l. l ++ values_of (entries_of table rows)) put ∙ append_assoc (list old) (e.1 ∷ []) (values_of (entries_of table rows))

-- ---- the ordered tables

-- the lines that a row adds
abbrev pub lines_added : TableRow → List (OrderLineKey × OrderLine)
lines_added (OfOrder key row lines) = lines
lines_added (OfLine key row) = (key, row) ∷ []
lines_added row = []

-- the order that it adds, if it is one
abbrev pub orders_added : TableRow → List (OrderKey × Order)
orders_added (OfOrder key row lines) = (key, row) ∷ []
orders_added row = []

-- and the new order
abbrev pub new_orders_added : TableRow → List (OrderKey × NewOrder)
new_orders_added (OfNewOrder key row) = (key, row) ∷ []
new_orders_added row = []

-- entries with others, each stored under its key
abbrev pub insert_all : {K X : Type 0} → (K → K → Ordering) → List (K × X) → List (K × X) → List (K × X)
insert_all c old [] = old
insert_all c old (e ∷ es) = insert_all c (insert_entry c old e.0 e.1) es

pub insert_lines_is : (old es : List (OrderLineKey × OrderLine)) → insert_lines old es ≡ insert_all line_cmp old es
insert_lines_is old [] = refl
insert_lines_is old (e ∷ es) = insert_lines_is (insert_entry line_cmp old e.0 e.1) es

insert_all-append : {K X : Type 0} (c : K → K → Ordering) (old xs ys : List (K × X)) → insert_all c old (xs ++ ys) ≡ insert_all c (insert_all c old xs) ys
insert_all-append c old [] ys = refl
insert_all-append c old (x ∷ xs) ys = insert_all-append c (insert_entry c old x.0 x.1) xs ys

-- where each row inserts entries, all rows insert theirs
module _ {K X : Type 0} (c : K → K → Ordering) (list : TableRows → List (K × X)) (added : TableRow → List (K × X)) (scale : Scale)
    (step : (row : TableRow) (old mid : TableRows) → AddsRow scale row old mid → list mid ≡ insert_all c (list old) (added row)) where
  all_inserted : (rows : List TableRow) (old new : TableRows) → AddsRows scale rows old new → list new ≡ insert_all c (list old) (flat_map added rows)
  all_inserted [] old new h = ap list h
  all_inserted (row ∷ rows) old new h =
      all_inserted rows h.0 new h.1.1 ∙ ap (λ l. insert_all c l (flat_map added rows)) (step row old h.0 h.1.0)
      ∙ sym (insert_all-append c (list old) (added row) (flat_map added rows))

lines_put : (scale : Scale) (row : TableRow) (old new : TableRows) → AddsRow scale row old new → new.lines ≡ insert_all line_cmp old.lines (lines_added row)
lines_put scale (OfOrder key row lines) old new add = add.2 ∙ insert_lines_is old.lines lines
lines_put scale (OfLine key row) old new add = add.1
lines_put scale row old new add = ap (λ (r : TableRows). r.lines) add.0

orders_put : (scale : Scale) (row : TableRow) (old new : TableRows) → AddsRow scale row old new → new.orders.entries ≡ insert_all order_cmp old.orders.entries (orders_added row)
orders_put scale (OfOrder key row lines) old new add = add.1
orders_put scale row old new add = ap (λ (r : TableRows). r.orders.entries) add.0

new_orders_put : (scale : Scale) (row : TableRow) (old new : TableRows) → AddsRow scale row old new
    → new.new_orders.entries ≡ insert_all order_cmp old.new_orders.entries (new_orders_added row)
new_orders_put scale (OfNewOrder key row) old new add = add.1
new_orders_put scale row old new add = ap (λ (r : TableRows). r.new_orders.entries) add.0

-- the lines of all rows were inserted
pub lines_inserted : (scale : Scale) (rows : List TableRow) (old new : TableRows) → AddsRows scale rows old new
    → new.lines ≡ insert_all line_cmp old.lines (flat_map lines_added rows)
lines_inserted scale = all_inserted line_cmp (λ r. r.lines) lines_added scale (lines_put scale)

-- and the orders
pub orders_inserted : (scale : Scale) (rows : List TableRow) (old new : TableRows) → AddsRows scale rows old new
    → new.orders.entries ≡ insert_all order_cmp old.orders.entries (flat_map orders_added rows)
orders_inserted scale = all_inserted order_cmp (λ r. r.orders.entries) orders_added scale (orders_put scale)

-- and the new orders
pub new_orders_inserted : (scale : Scale) (rows : List TableRow) (old new : TableRows) → AddsRows scale rows old new
    → new.new_orders.entries ≡ insert_all order_cmp old.new_orders.entries (flat_map new_orders_added rows)
new_orders_inserted scale = all_inserted order_cmp (λ r. r.new_orders.entries) new_orders_added scale (new_orders_put scale)

-- a key above all others is put at the end
insert-last : {K X : Type 0} (c : K → K → Ordering) → ((j k : K) → c j k ≡ Less → c k j ≡ Greater) → (es : List (K × X)) (key : K) (row : X) → AllByRecursion (λ k. c k key ≡ Less) (keys_of es)
    → insert_entry c es key row ≡ es ++ ((key, row) ∷ [])
insert-last c turn [] key row h = refl
insert-last c turn (e ∷ es) key row h = rw (turn e.0 key h.0) (ap (λ l. e ∷ l) (insert-last c turn es key row h.1))

below_pushed : {K : Type 0} (cmp : K → K → Ordering) (ks : List K) (key : K) (later : List K) → AllByRecursion (λ j. AllByRecursion (λ k. cmp k j ≡ Less) ks) later → AllByRecursion (λ j. cmp key j ≡ Less) later
    → AllByRecursion (λ j. AllByRecursion (λ k. cmp k j ≡ Less) (ks ++ (key ∷ []))) later
below_pushed cmp ks key [] h g = tt
below_pushed cmp ks key (j ∷ later) h g = (all-append (λ k. cmp k j ≡ Less) ks (key ∷ []) h.0 (g.0, tt), below_pushed cmp ks key later h.1 g.1)

-- entries by ascending keys above those that are there are put at the end
pub insert_all-ascending : {K X : Type 0} {c : K → K → Ordering} → IsTotalOrder c → (old es : List (K × X)) → IsStrictlySortedBy c (keys_of es)
    → AllByRecursion (λ key. AllByRecursion (λ k. c k key ≡ Less) (keys_of old)) (keys_of es) → insert_all c old es ≡ old ++ es
unfolding IsStrictlySortedBy
insert_all-ascending o old [] sorted below = sym (append-nil old)
insert_all-ascending {K} {X} {c} o old (e ∷ es) sorted below =
    let last : insert_entry c old e.0 e.1 ≡ old ++ (e ∷ []) = insert-last c (turned o) old e.0 e.1 below.0 in
    let keys : keys_of (insert_entry c old e.0 e.1) ≡ keys_of old ++ (e.0 ∷ []) = ap keys_of last ∙ map-append (λ (f : K × X). f.0) old (e ∷ []) in
    let below_rest = subst (λ ks. AllByRecursion (λ key. AllByRecursion (λ k. c k key ≡ Less) ks) (keys_of es)) (sym keys) (below_pushed c (keys_of old) e.0 (keys_of es) below.1 sorted.0) in
    insert_all-ascending o (insert_entry c old e.0 e.1) es sorted.1 below_rest ∙ ap (λ l. l ++ es) last ∙ append_assoc old (e ∷ []) es

-- into nothing
pub insert_all-none : {K X : Type 0} {c : K → K → Ordering} → IsTotalOrder c → (old es : List (K × X)) → old ≡ [] → IsStrictlySortedBy c (keys_of es) → insert_all c old es ≡ es
insert_all-none {c = c} o old es none sorted =
    ap (λ l. insert_all c l es) none ∙ insert_all-ascending o [] es sorted (all-each _ (λ _. tt) (keys_of es))

-- ---- what rows add to the ordered tables

-- the orders without their lines
abbrev pub without_lines : List (EntryOf Orders) → List (OrderKey × Order)
without_lines es = map (λ e. (e.0, e.1.0)) es

pub keys-without_lines : (es : List (EntryOf Orders)) → keys_of (without_lines es) ≡ keys_of es
keys-without_lines [] = refl
keys-without_lines (e ∷ es) = ap (λ l. e.0 ∷ l) (keys-without_lines es)

-- the orders of these rows
pub orders_of_rows : (rows : List TableRow) → flat_map orders_added rows ≡ map (λ e. (e.0, e.1.0)) (entries_of Orders rows)
orders_of_rows [] = refl
orders_of_rows (OfOrder key row lines ∷ rows) = ap (λ l. (key, row) ∷ l) (orders_of_rows rows)
orders_of_rows (row ∷ rows) = orders_of_rows rows

-- the new orders
pub new_orders_of_rows : (rows : List TableRow) → flat_map new_orders_added rows ≡ entries_of NewOrders rows
new_orders_of_rows [] = refl
new_orders_of_rows (OfNewOrder key row ∷ rows) = ap (λ l. (key, row) ∷ l) (new_orders_of_rows rows)
new_orders_of_rows (row ∷ rows) = new_orders_of_rows rows

-- the lines of these rows: in format 1 rows of their own, in format 2 those of the orders
abbrev pub lines_of_format : Format → List TableRow → List (OrderLineKey × OrderLine)
lines_of_format One rows = entries_of Lines rows
lines_of_format Two rows = flat_map (λ e. e.1.1) (entries_of Orders rows)

pub lines_of_rows : (format : Format) (scale : Scale) (rows : List TableRow) → AllByRecursion (IsKnown format scale) rows → flat_map lines_added rows ≡ lines_of_format format rows
lines_of_rows One scale [] known = refl
lines_of_rows One scale (OfOrder key row lines ∷ rows) known = ap (λ l. l ++ flat_map lines_added rows) known.0.1 ∙ lines_of_rows One scale rows known.1
lines_of_rows One scale (OfLine key row ∷ rows) known = ap (λ l. (key, row) ∷ l) (lines_of_rows One scale rows known.1)
lines_of_rows One scale (row ∷ rows) known = lines_of_rows One scale rows known.1
lines_of_rows Two scale [] known = refl
lines_of_rows Two scale (OfOrder key row lines ∷ rows) known = ap (λ l. lines ++ l) (lines_of_rows Two scale rows known.1)
lines_of_rows Two scale (OfLine key row ∷ rows) known = absurd known.0
lines_of_rows Two scale (row ∷ rows) known = lines_of_rows Two scale rows known.1

-- the orders of known rows in format 2 have lines of their own, by ascending numbers
pub orders_own : (scale : Scale) (rows : List TableRow) → AllByRecursion (IsKnown Two scale) rows
    → AllByRecursion (λ (e : EntryOf Orders). AreLinesOf Two e.0 e.1.1) (entries_of Orders rows)
orders_own scale rows known = all-weaker _ _ (λ e k. k.1) (entries_of Orders rows) (all_entries Orders (IsKnown Two scale) rows known)

-- the lines of known rows in order are in key order
pub lines_ascend : (format : Format) (scale : Scale) (rows : List TableRow) → AllByRecursion (IsKnown format scale) rows → AreInOrder rows
    → IsStrictlySortedBy line_cmp (keys_of (lines_of_format format rows))
lines_ascend One scale rows known order = keys_ascend Lines refl rows order
lines_ascend Two scale rows known order =
    let own = orders_own scale rows known in
    lines_sorted (entries_of Orders rows) (keys_ascend Orders refl rows order)
    (all-weaker _ _ (λ e are. are.0) (entries_of Orders rows) own) (all-weaker _ _ (λ e are. are.1) (entries_of Orders rows) own)

-- the ordered tables to which the rows were added
module _ (scale : Scale) (rows : List TableRow) (old new : TableRows) (h : AddsRows scale rows old new) (order : AreInOrder rows) where
  pub orders_are : old.orders.entries ≡ [] → new.orders.entries ≡ map (λ e. (e.0, e.1.0)) (entries_of Orders rows)
  orders_are none =
      let es = without_lines (entries_of Orders rows) in
      orders_inserted scale rows old new h ∙ ap (insert_all order_cmp old.orders.entries) (orders_of_rows rows)
      ∙ insert_all-none orders_total old.orders.entries es none (subst (IsStrictlySortedBy order_cmp) (sym (keys-without_lines (entries_of Orders rows))) (keys_ascend Orders refl rows order))

  pub new_orders_are : old.new_orders.entries ≡ [] → new.new_orders.entries ≡ entries_of NewOrders rows
  new_orders_are none =
      new_orders_inserted scale rows old new h ∙ ap (insert_all order_cmp old.new_orders.entries) (new_orders_of_rows rows)
      ∙ insert_all-none orders_total old.new_orders.entries (entries_of NewOrders rows) none (keys_ascend NewOrders refl rows order)

  pub lines_are : (format : Format) → AllByRecursion (IsKnown format scale) rows → old.lines ≡ [] → new.lines ≡ lines_of_format format rows
  lines_are format known none =
      lines_inserted scale rows old new h ∙ ap (insert_all line_cmp old.lines) (lines_of_rows format scale rows known)
      ∙ insert_all-none lines_total old.lines (lines_of_format format rows) none (lines_ascend format scale rows known order)

-- ---- the lists of payments

-- the lists have the payments of these rows, and are no more than the scale has districts
pub record PaysAll (scale : Scale) (rows : List TableRow) (old new : List (List History)) : Type 0 where
  pub few : length new ≤ length (district_keys scale)
  pub payments : payments_of (zip (district_keys scale) new) ≡ payments_of (zip (district_keys scale) old) ++ entries_of Histories rows

abbrev Reached : Scale → List (List History) → Place → Type 0
Reached scale lists p = AllByRecursion (λ q. IsTrue (is_le (place_cmp q p))) (places at.History (zip (district_keys scale) lists))

pub paid_all : (scale : Scale) (rows : List TableRow) (old new : TableRows) (last : Place) → AddsRows scale rows old new → AreInOrder rows
    → AllByRecursion (λ row. IsTrue (is_le (place_cmp last (row_place row)))) rows → Reached scale old.histories.items last → length old.histories.items ≤ length (district_keys scale)
    → PaysAll scale rows old.histories.items new.histories.items
paid_all scale [] old new last h order after reached few =
    let same = ap (λ (r : TableRows). r.histories.items) h in
    record { few = subst (λ l. length l ≤ length (district_keys scale)) (sym same) few; payments = ap (λ l. payments_of (zip (district_keys scale) l)) same ∙ sym (append-nil (payments_of (zip (district_keys scale) old.histories.items))) }
paid_all scale (row ∷ rows) old new last h order after reached few = by (paid_all scale rows h.0 new) (find Histories row)
  where
    by : ((last : Place) → AddsRows scale rows h.0 new → AreInOrder rows → AllByRecursion (λ later. IsTrue (is_le (place_cmp last (row_place later)))) rows → Reached scale h.0.histories.items last → length h.0.histories.items ≤ length (district_keys scale)
        → PaysAll scale rows h.0.histories.items new.histories.items)
        → Found Histories row → PaysAll scale (row ∷ rows) old.histories.items new.histories.items
    by rest (Other none other) =
        let same : h.0.histories.items ≡ old.histories.items = rw none at (row_put scale Histories row old h.0 h.1.0) in
        let paid = rest last h.1.1 order.1 after.1 (subst (λ l. Reached scale l last) (sym same) reached) (subst (λ l. length l ≤ length (district_keys scale)) (sym same) few) in
        record {
          few = paid.few;
          payments = rw none (paid.payments ∙ ap (λ l. payments_of (zip (district_keys scale) l) ++ entries_of Histories rows) same);
        }
    by rest (Own e some is own) =
        let pays : Paid scale e old.histories.items h.0.histories.items = rw some at (row_put scale Histories row old h.0 h.1.0) in
        let at_home : row_place row ≡ at.History e.0 = ap row_place is in
        let at_slot = district_at_slot scale e.0 pays.slot pays.is_slot in
        let le : IsTrue (is_le (place_cmp last (at.History e.0))) = subst (λ p. IsTrue (is_le (place_cmp last p))) at_home after.0 in
        let opened = all-weaker _ _ (λ q before. place_reaches q last (at.History e.0) before le) (places at.History (zip (district_keys scale) old.histories.items)) reached in
        let few_old : length old.histories.items ≤ pays.slot + 1 = few_opened (district_keys scale) old.histories.items pays.slot e.0 (sorted-district_keys scale) at_slot opened few in
        let many : length h.0.histories.items ≡ pays.slot + 1 = slots_paid pays few_old in
        let later = all-weaker _ _ (λ r follow. follows_le (at.History e.0) (row_place r) (subst (λ p. IsTrue (follows (row_place r) p)) at_home follow)) rows order.0 in
        let paid = rest (at.History e.0) h.1.1 order.1 later (all_reached (district_keys scale) h.0.histories.items pays.slot e.0 (sorted-district_keys scale) at_slot many)
        (few_paid scale e.0 pays.slot pays.is_slot (length h.0.histories.items) many) in
        record {
          few = paid.few;
          payments = rw some (paid.payments
              ∙ ap (λ l. l ++ entries_of Histories rows) (lists_paid pays few_old (district_keys scale) e.0 at_slot)
              ∙ append_assoc (payments_of (zip (district_keys scale) old.histories.items)) (e ∷ []) (entries_of Histories rows));
        }
