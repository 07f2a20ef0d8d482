-- A New-Order (clause 2.4.2.2): what its actions find and do, stated of their claims alone, that is of the content that they
-- record and leave; and its phases.
use Rattle.std.specs.Prelude.{◌≡◌, ◌≤◌, ◌⊎◌, ◌+◌, ◌==◌, ◌&&◌, ℕ, pos, Bool, true, false, List, [], ◌∷◌, ◌++◌, length, map, find, Option, Some, None, option_map, unwrap_or, is_some, Result, Ok, Err, if◌then◌else◌, IsTrue}
use Rattle.std.specs.List.{filter, filter_map, list_all, list_any, range_with_len}
use Rattle.std.specs.FinMap as table
use Rattle.amounts.specs.Total.{total_of}
use Rattle.rows.specs.declared.records.Warehouse.{Warehouse}
use Rattle.rows.specs.declared.records.District.{District}
use Rattle.rows.specs.declared.records.Customer.{Customer}
use Rattle.rows.specs.declared.limits.TheConstants.{MOST_LINES}
use Rattle.partitions.specs.Parts.{SharedTables, shared_of}
use Rattle.schema.specs.declared.scale.Scale.{Scale}
use Rattle.schema.specs.Scale.{customer_key, has_customer}
use Rattle.schema.specs.Database.{Database, customer_of_order, is_order_id}
use Rattle.schema.specs.OrderRows.{is_line_within, with_order}
use Rattle.indexes.specs.Namesakes.{Customers}
use Rattle.requests.specs.declared.group.Group.{Group}
use Rattle.requests.specs.declared.group.Group.TheVariants as g
use Rattle.requests.specs.declared.new_order.NewOrder.{NewOrder}
use Rattle.requests.specs.declared.new_order.OrderedLine.{OrderedLine}
use Rattle.requests.specs.declared.new_order.NewOrderReply.{NewOrderReply}
use Rattle.requests.specs.declared.request.Request.{Request}
use Rattle.requests.specs.declared.request.Request.TheVariants as request
use Rattle.requests.specs.declared.reply.Fault.{Fault}
use Rattle.requests.specs.declared.reply.Fault.TheVariants.{NoItem as NoItemOf, Range}
use Rattle.groups.specs.Groups.{group_of_district, group_of_order, is_same, warehouse_of}
use Rattle.groups.specs.Content.{content}
use Rattle.groups.specs.Content.Content.{OfWarehouse, OfDistrict, OfCustomers}
use Rattle.groups.specs.NewOrder.{group_of_supply, supplies_of}
use Rattle.groups.specs.declared.group_wants.GroupWant.{GroupWant}
use Rattle.groups.specs.Footprint.{exclusively, shared as sharing}
use Rattle.requests.specs.Check.{IsAccepted}
use Rattle.tickets.specs.Claims.{ClaimView}
use Rattle.machine.specs.NewOrder.{district_ordered, order_key, order_row, stocks_taken, sum_of, all_there}
use Rattle.machine.specs.NewOrderLines.{line_placed}
use Rattle.transactions.specs.declared.new_order.HomeFound.{HomeFound}
use Rattle.transactions.specs.declared.new_order.HomeFound.TheVariants as h
use Rattle.transactions.specs.declared.new_order.HomeShown.{HomeShown}
use Rattle.transactions.specs.declared.new_order.Orderer.{Orderer}
use Rattle.transactions.specs.declared.new_order.OrdererFound.{OrdererFound}
use Rattle.transactions.specs.declared.new_order.OrdererFound.TheVariants as c
use Rattle.transactions.specs.declared.new_order.StockTaken.{StockTaken}
use Rattle.transactions.specs.declared.new_order.StockTaken.TheVariants.{NoItem, OutOfRange, Taken}
use Rattle.transactions.specs.declared.new_order.LineSold.{LineSold}
use Rattle.transactions.specs.declared.new_order.OrderRows.{OrderRows}
use Rattle.transactions.specs.declared.new_order.OrderPlaced.{OrderPlaced}
use Rattle.transactions.specs.declared.new_order.OrderBegun.{OrderBegun}
use Rattle.transactions.specs.declared.new_order.work.Work.{Work}
use Rattle.transactions.specs.declared.new_order.work.Work.TheVariants.{TakeNumber, ShowOrderer, TakeStock, AddOrder}
use Rattle.transactions.specs.declared.new_order.work.Found.{Found}
use Rattle.transactions.specs.declared.new_order.work.Found.TheVariants as found
use Rattle.transactions.specs.declared.new_order.phases.Progress.{Progress}
use Rattle.transactions.specs.declared.new_order.phases.Progress.TheVariants.{ReadRows, TakeLines, AddRows}
use Rattle.transactions.specs.declared.work.Work.{Work as AnyWork}
use Rattle.transactions.specs.declared.work.Work.TheVariants as any_work
use Rattle.transactions.specs.declared.work.Found.{Found as AnyFound}
use Rattle.transactions.specs.declared.work.Found.TheVariants as any_found
use Rattle.transactions.specs.Granted.{IsAsked, IsExclusiveOn, IsSharedOn, group_of_customers}

-- ---- the home warehouse and district

-- what is shown of the two rows, and whether D_NEXT_O_ID can grow
abbrev pub home_shown : Warehouse → District → HomeShown
home_shown w d = record { warehouse_tax = w.tax; district_tax = d.tax; o_id = d.next_o_id; has_next = is_some (district_ordered d) }

-- one of the two rows is missing, and nothing is done
pub record IsHomeMissing (warehouse district : ClaimView) : Type 0 where
  pub none : (warehouse.recorded ≡ OfWarehouse None) ⊎ (district.recorded ≡ OfDistrict None)
  pub left : district.left ≡ district.recorded

-- both rows are there and this is shown of them; the claim leaves the district with its next number, if there is one
pub record IsNumberTaken (home : HomeShown) (warehouse district : ClaimView) : Type 0 where
  pub warehouse_row : Warehouse
  pub district_row : District
  pub warehouse_recorded : warehouse.recorded ≡ OfWarehouse (Some warehouse_row)
  pub district_recorded : district.recorded ≡ OfDistrict (Some district_row)
  pub shown : home ≡ home_shown warehouse_row district_row
  pub left : district.left ≡ OfDistrict (Some (unwrap_or (district_ordered district_row) district_row))

-- a row is missing, or the order has its number
abbrev pub FindsHome : HomeFound → ClaimView → ClaimView → Type 0
FindsHome h.Missing warehouse district = IsHomeMissing warehouse district
FindsHome (h.Shown home) warehouse district = IsNumberTaken home warehouse district

-- what a New-Order found of its home warehouse and district, and did there
pub record IsHomeOrdered (n : NewOrder) (found : HomeFound) (warehouse district : ClaimView) : Type 0 where
  pub warehouse_claim : IsSharedOn (g.Warehouse n.home.w_id) warehouse
  pub district_claim : IsExclusiveOn (group_of_district n.home) district
  pub rows : FindsHome found warehouse district

-- if the district has a next number, an order can have this number
abbrev pub IsNumberKnown : HomeFound → Type 0
IsNumberKnown h.Missing = Unit {0}
IsNumberKnown (h.Shown home) = IsTrue home.has_next → IsTrue (is_order_id home.o_id)

-- ---- the customer

-- what is shown of the customer's row (clause 2.4.3.3)
abbrev pub orderer_of : Customer → Orderer
orderer_of row = record { last = row.last; credit = row.credit; discount = row.discount }

-- what is found if this is the row
abbrev pub orderer_found : Option Customer → OrdererFound
orderer_found (Some row) = c.Shown (orderer_of row)
orderer_found None = c.Missing

-- what a New-Order found of its customer, among those of the district
pub record IsOrdererShown (n : NewOrder) (found : OrdererFound) (customers : ClaimView) : Type 0 where
  pub claim : IsSharedOn (group_of_customers n.home) customers
  pub rows : Customers
  pub recorded : customers.recorded ≡ OfCustomers rows
  pub shown : found ≡ orderer_found (table.get rows (customer_key n.home n.c_id))

-- a customer that is shown is one of the scale
abbrev pub IsOrdererKnown : Scale → NewOrder → OrdererFound → Type 0
IsOrdererKnown scale n c.Missing = Unit {0}
IsOrdererKnown scale n (c.Shown orderer) = IsTrue (has_customer scale (customer_key n.home n.c_id))

-- ---- the stock

-- a line of an order, with its OL_NUMBER
abbrev pub Numbered : Type 0
Numbered = ℕ × OrderedLine

-- the lines, numbered from this number on
abbrev pub numbered : ℕ → List OrderedLine → List Numbered
numbered number [] = []
numbered number (line ∷ lines) = (number, line) ∷ numbered (number + 1) lines

-- whether the group supplies the line
abbrev pub is_in : Group → Numbered → Bool
is_in group line = is_same (group_of_supply line.1) group

-- the lines that the group supplies
abbrev pub lines_in : Group → List OrderedLine → List Numbered
lines_in group lines = filter (is_in group) (numbered 1 lines)

-- whether there is the line's item
abbrev pub has_item_of : Database → Numbered → Bool
has_item_of t line = table.contains_key t.items line.1.i_id

-- the row of ORDER-LINE that the line adds, and what the reply shows of it, if there is the item and its row of STOCK can supply
-- it
abbrev pub line_sold : Database → NewOrder → Numbered → Option LineSold
line_sold t n line = option_map (λ placed. record { number = line.0; row = placed.row; shown = placed.shown }) (line_placed t n line.0 line.1)

-- all of these lines sold, if each can be
abbrev pub lines_sold : Database → NewOrder → List Numbered → Option (List LineSold)
lines_sold t n lines = all_there (map (line_sold t n) lines)

-- all lines could be sold, or a counter would leave its range
abbrev pub sold_or_out : Option (List LineSold) → StockTaken
sold_or_out (Some sold) = Taken sold
sold_or_out None = OutOfRange

-- what is found of these lines of the order in these tables: a missing item comes before a counter out of its range
abbrev pub stock_found : Database → NewOrder → List Numbered → StockTaken
stock_found t n lines = if list_all (has_item_of t) lines then sold_or_out (lines_sold t n lines) else NoItem

-- the tables once this was found: the order's lines are taken from the stock if they were sold; else nothing changes
abbrev pub once_found : StockTaken → NewOrder → Database → Database
once_found (Taken sold) n t = record t { stocks = stocks_taken n.home.w_id t.stocks n.lines }
once_found _ n t = t

-- What a New-Order found of the lines that a group supplies, and did there. What was found holds in all tables with these items
-- whose content of the group is the recorded one; and the claim leaves what these have in the group once the lines are taken.
pub record IsStockTaken (shared : SharedTables) (n : NewOrder) (group : Group) (found : StockTaken) (stock : ClaimView) : Type 0 where
  pub claim : IsExclusiveOn group stock
  pub shown : (t : Database) → shared_of t ≡ shared → content t stock.group ≡ stock.recorded → found ≡ stock_found t n (lines_in group n.lines)
  pub left : (t : Database) → shared_of t ≡ shared → content t stock.group ≡ stock.recorded → stock.left ≡ content (once_found found n t) stock.group

-- lines that are sold have the numbers of those that the group supplies, and their items and warehouses are of the scale
abbrev pub AreSoldKnown : Scale → NewOrder → Group → StockTaken → Type 0
AreSoldKnown scale n group (Taken sold) =
    (map (λ line. line.number) sold ≡ map (λ (line : Numbered). line.0) (lines_in group n.lines))
    × IsTrue (list_all (λ line. is_line_within scale line.row) sold)
AreSoldKnown scale n group _ = Unit {0}

-- so for each of several groups
abbrev pub AreStocksTaken : SharedTables → NewOrder → List Group → List StockTaken → List ClaimView → Type 0
AreStocksTaken shared n [] [] [] = Unit {0}
AreStocksTaken shared n (group ∷ groups) (one ∷ found) (stock ∷ stocks) =
    IsStockTaken shared n group one stock × AreSoldKnown shared.scale n group one × AreStocksTaken shared n groups found stocks
AreStocksTaken shared n groups found stocks = ⊥

-- ---- the order

-- tables of the scale can have the order
pub record IsOrderKnown (scale : Scale) (order : OrderRows) : Type 0 where
  pub number : IsTrue (is_order_id order.key.o_id)
  pub customer : IsTrue (has_customer scale (customer_of_order order.key order.row))
  pub few : length order.lines ≤ MOST_LINES
  pub lines : IsTrue (list_all (is_line_within scale) order.lines)

-- the claim leaves what all tables whose content of the group is the recorded one have there with the order
pub record IsOrderAdded (order : OrderRows) (orders : ClaimView) : Type 0 where
  pub claim : IsExclusiveOn (group_of_order order.key) orders
  pub left : (t : Database) → content t orders.group ≡ orders.recorded → orders.left ≡ content (with_order t order.key order.row order.lines) orders.group

-- ---- the decision on an order

-- whether an action found that an item is missing
abbrev pub is_no_item : StockTaken → Bool
is_no_item NoItem = true
is_no_item _ = false

-- whether an action sold its lines
abbrev pub is_taken : StockTaken → Bool
is_taken (Taken sold) = true
is_taken _ = false

-- the lines that actions sold, in the order of the actions
abbrev pub all_sold : List StockTaken → List LineSold
all_sold [] = []
all_sold (Taken sold ∷ found) = sold ++ all_sold found
all_sold (_ ∷ found) = all_sold found

-- the lines by their numbers, from 1 to this count, in whatever order they were sold
abbrev pub in_order : ℕ → List LineSold → List LineSold
in_order count sold = filter_map (λ number. find (λ line. line.number == number) sold) (range_with_len 1 count)

-- the rows that are added once these lines were sold
abbrev pub order_rows : NewOrder → HomeShown → List LineSold → OrderRows
order_rows n home sold = record { key = order_key n.home home.o_id; row = order_row n; lines = map (λ line. line.row) sold }

-- the reply (clause 2.4.3.3)
abbrev pub order_reply : NewOrder → HomeShown → Orderer → List LineSold → NewOrderReply
order_reply n home orderer sold = record {
  last = orderer.last;
  credit = orderer.credit;
  discount = orderer.discount;
  warehouse_tax = home.warehouse_tax;
  district_tax = home.district_tax;
  o_id = home.o_id;
  entry_d = n.moment;
  total = pos (total_of (sum_of (map (λ line. line.row) sold)) orderer.discount home.warehouse_tax home.district_tax);
  lines = map (λ line. line.shown) sold;
}

-- an order that has its number and whose lines were sold
abbrev pub order_placed : NewOrder → HomeShown → Orderer → List LineSold → OrderPlaced
order_placed n home orderer sold = record { rows = order_rows n home sold; reply = order_reply n home orderer sold }

-- The decision on an order when this was found of its stock: a missing item, at whatever place, comes before a number or a
-- counter out of its range.
abbrev pub decided : NewOrder → HomeShown → Orderer → List StockTaken → Result OrderPlaced Fault
decided n home orderer found =
    if list_any is_no_item found then Err (NoItemOf orderer.last orderer.credit home.o_id)
    else (if home.has_next && list_all is_taken found then Ok (order_placed n home orderer (in_order (length n.lines) (all_sold found))) else Err Range)

-- ---- the actions

-- the warehouse at which the work is done
abbrev pub home_of : Work → ℕ
home_of (TakeNumber n) = n.home.w_id
home_of (ShowOrderer n) = n.home.w_id
home_of (TakeStock n group) = warehouse_of group
home_of (AddOrder order) = order.key.w_id

-- the wants of an action's work
abbrev pub group_wants_of : Work → List GroupWant
group_wants_of (TakeNumber n) = sharing (g.Warehouse n.home.w_id) ∷ exclusively (group_of_district n.home) ∷ []
group_wants_of (ShowOrderer n) = sharing (group_of_customers n.home) ∷ []
group_wants_of (TakeStock n group) = exclusively group ∷ []
group_wants_of (AddOrder order) = exclusively (group_of_order order.key) ∷ []

-- whether the group is one of those that supply the order's lines
abbrev pub is_supply_of : NewOrder → Group → Bool
is_supply_of n group = list_any (λ own. is_same group own) (supplies_of n.lines)

-- The work can be done: its New-Order is one that the check accepts, and the group that it claims supplies some of the lines;
-- tables of the scale can have an order that is added.
abbrev pub CanDo : SharedTables → Work → Type 0
CanDo shared (TakeNumber n) = IsAccepted shared.scale (request.NewOrder n)
CanDo shared (ShowOrderer n) = IsAccepted shared.scale (request.NewOrder n)
CanDo shared (TakeStock n group) = IsAccepted shared.scale (request.NewOrder n) × IsTrue (is_supply_of n group)
CanDo shared (AddOrder order) = IsOrderKnown shared.scale order

-- The work found this, and was done under these claims. For TakeNumber and TakeStock, the check accepts the New-Order.
abbrev pub HasDone : SharedTables → Work → Found → List ClaimView → Type 0
HasDone shared (TakeNumber n) one claims =
    (home : HomeFound) × (warehouse : ClaimView) × (district : ClaimView)
    × (one ≡ found.Home home) × (claims ≡ warehouse ∷ district ∷ []) × IsHomeOrdered n home warehouse district × IsNumberKnown home
    × IsAccepted shared.scale (request.NewOrder n)
HasDone shared (ShowOrderer n) one claims =
    (orderer : OrdererFound) × (customers : ClaimView)
    × (one ≡ found.Orderer orderer) × (claims ≡ customers ∷ []) × IsOrdererShown n orderer customers × IsOrdererKnown shared.scale n orderer
HasDone shared (TakeStock n group) one claims =
    (taken : StockTaken) × (stock : ClaimView)
    × (one ≡ found.Stock taken) × (claims ≡ stock ∷ []) × IsStockTaken shared n group taken stock × AreSoldKnown shared.scale n group taken
    × IsAccepted shared.scale (request.NewOrder n)
HasDone shared (AddOrder order) one claims = (orders : ClaimView) × (one ≡ found.Added) × (claims ≡ orders ∷ []) × IsOrderAdded order orders

-- ---- the phases

-- under these claims the order got its number and its customer was shown, and these are the groups that supply its lines
pub record IsBegun (shared : SharedTables) (asked : Request) (given : OrderBegun) (held : List (List ClaimView)) : Type 0 where
  pub is : asked ≡ request.NewOrder given.order
  pub accepted : IsAccepted shared.scale asked
  pub warehouse : ClaimView
  pub district : ClaimView
  pub customers : ClaimView
  pub claims : held ≡ (warehouse ∷ district ∷ []) ∷ (customers ∷ []) ∷ []
  pub home : IsHomeOrdered given.order (h.Shown given.home) warehouse district
  pub number : IsNumberKnown (h.Shown given.home)
  pub orderer : IsOrdererShown given.order (c.Shown given.orderer) customers
  pub known : IsOrdererKnown shared.scale given.order (c.Shown given.orderer)
  pub supplies : given.first ∷ given.others ≡ supplies_of given.order.lines

-- then its lines were sold under these claims too, and the rows and the reply follow from that
pub record IsSold (shared : SharedTables) (asked : Request) (given : OrderPlaced) (held : List (List ClaimView)) : Type 0 where
  pub begun : OrderBegun
  pub before : List (List ClaimView)
  pub reached : IsBegun shared asked begun before
  pub found : List StockTaken
  pub stocks : List ClaimView
  pub claims : held ≡ before ++ map (λ stock. stock ∷ []) stocks
  pub taken : AreStocksTaken shared begun.order (supplies_of begun.order.lines) found stocks
  pub next : decided begun.order begun.home begun.orderer found ≡ Ok given

-- the facts of a New-Order that has come so far, under the claims of each action of its earlier phases
abbrev pub IsReached : SharedTables → Request → Progress → List (List ClaimView) → Type 0
IsReached shared asked (ReadRows n) held = IsAsked shared asked (request.NewOrder n) held
IsReached shared asked (TakeLines given) held = IsBegun shared asked given held
IsReached shared asked (AddRows given) held = IsSold shared asked given held

-- the work of a group of stock for an order
abbrev pub taking : NewOrder → Group → AnyWork
taking n group = any_work.NewOrder (TakeStock n group)

-- the works of the phase's actions: place 0 takes the number, and place 1 shows the customer; then each group that supplies lines
-- sells them, in the order of their first lines; then the order is added
abbrev pub works_of : Progress → List AnyWork
works_of (ReadRows n) = any_work.NewOrder (TakeNumber n) ∷ any_work.NewOrder (ShowOrderer n) ∷ []
works_of (TakeLines given) = map (taking given.order) (given.first ∷ given.others)
works_of (AddRows given) = any_work.NewOrder (AddOrder given.rows) ∷ []

-- what the actions of the first phase found, in turn
abbrev pub AreRowsFound : List AnyFound → Type 0
AreRowsFound items =
    (home : HomeFound) × (orderer : OrdererFound) × (items ≡ any_found.NewOrder (found.Home home) ∷ any_found.NewOrder (found.Orderer orderer) ∷ [])

-- what the actions of the second phase found, in turn
abbrev pub AreStocksFound : List AnyFound → List StockTaken → Type 0
AreStocksFound items stocks = items ≡ map (λ one. any_found.NewOrder (found.Stock one)) stocks
