-- The actions of a New-Order are the New-Order: from tables that their claims record, the machine does the same.
use Rattle.std.proofs.Common.{◌≡◌, ◌⊎◌, inl, inr, ◌&&◌, true, false, cond, List, [], ◌∷◌, ◌++◌, map, Option, Some, None, unwrap_or, Result, Ok, Err, refl, sym, ap, subst, ◌∙◌}
use Rattle.std.specs.Prelude.{length}
use Rattle.std.specs.List.{AllByRecursion, list_all, list_any}
use Rattle.std.specs.FinMap as table
use Rattle.std.proofs.lemmas.Bool.{and_parts}
use Rattle.std.proofs.lemmas.List.Elements.{recursion_from_All}
use Rattle.partitions.specs.Parts.{SharedTables, shared_of}
use Rattle.rows.specs.declared.records.Item.{Item}
use Rattle.rows.specs.declared.records.Stock.{Stock}
use Rattle.rows.specs.declared.records.Warehouse.{Warehouse}
use Rattle.rows.specs.declared.records.District.{District}
use Rattle.rows.specs.declared.records.Customer.{Customer}
use Rattle.rows.specs.declared.records.OrderLine.{OrderLine}
use Rattle.schema.specs.Scale.{customer_key}
use Rattle.schema.specs.Database.{Database}
use Rattle.schema.specs.OrderRows.{with_order}
use Rattle.schema.proofs.KeyOrders.{customers_total, customers_exact}
use Rattle.indexes.specs.Namesakes.{Customers}
use Rattle.requests.specs.declared.group.Group.{Group}
use Rattle.requests.specs.declared.group.Group.TheVariants as g
use Rattle.requests.specs.declared.new_order.NewOrder.{NewOrder}
use Rattle.requests.specs.declared.reply.Fault.{Fault}
use Rattle.requests.specs.declared.reply.Fault.TheVariants.{NoCustomer, NoItem as NoItemOf, Range}
use Rattle.requests.specs.declared.reply.Reply.TheVariants as reply
use Rattle.requests.specs.declared.reply.Shown.TheVariants as kind
use Rattle.groups.specs.Groups.{group_of_customer}
use Rattle.groups.specs.Content.{content, rows_of}
use Rattle.groups.specs.Content.Content.{OfWarehouse, OfDistrict, OfCustomers}
use Rattle.groups.specs.NewOrder.{supplies_of}
use Rattle.groups.specs.declared.group_wants.Mode.TheVariants.{Exclusive}
use Rattle.groups.proofs.Parts.{get-rows_of-own}
use Rattle.tickets.specs.Claims.{ClaimView}
use Rattle.tickets.specs.Committed.{RecordsContent, contents_after}
use Rattle.machine.specs.Outcome.{Outcome, rolled_back}
use Rattle.machine.specs.NewOrder.{district_ordered, items_found, line_rows, lines_shown, new_order, new_order_reply, order_key, order_row, ordered, placed, placed_of, placed_within, found_rows, supplies}
use Rattle.machine.specs.NewOrderLines.{lines_placed}
use Rattle.machine.proofs.LinesPlaced.{Agrees, agrees}
use Rattle.transactions.specs.declared.new_order.HomeFound.{HomeFound}
use Rattle.transactions.specs.declared.new_order.HomeFound.TheVariants as h
use Rattle.transactions.specs.declared.new_order.HomeShown.{HomeShown}
use Rattle.transactions.specs.declared.new_order.Orderer.{Orderer}
use Rattle.transactions.specs.declared.new_order.OrdererFound.{OrdererFound}
use Rattle.transactions.specs.declared.new_order.OrdererFound.TheVariants as c
use Rattle.transactions.specs.declared.new_order.StockTaken.{StockTaken}
use Rattle.transactions.specs.declared.new_order.LineSold.{LineSold}
use Rattle.transactions.specs.declared.new_order.OrderPlaced.{OrderPlaced}
use Rattle.transactions.specs.NewOrder.{AreStocksTaken, IsHomeOrdered, IsOrderAdded, IsOrdererShown, all_sold, decided, in_order, is_no_item, is_taken, order_placed, orderer_found, orderer_of}
use Rattle.transactions.specs.NewOrderLaws.{NewOrdersAreCarriedOut, NewOrdersOfNobodyAreCarriedOut, RolledBackNewOrdersAreCarriedOut}
use Rattle.transactions.proofs.EachOne.{each_of_first, each_of_second, is_none, is_there}
use Rattle.transactions.proofs.NewOrderSettled.{settled, stocks_leave}
use Rattle.transactions.proofs.NewOrderSold.{all_items, all_placed, are_placed, each_in_order, found_by, found_in, items_missing, items_there, none_placed}
use Rattle.transactions.proofs.NewOrderSupplies.{supplies_are_stock}

-- ---- the decision on an order

module _ (n : NewOrder) (home : HomeShown) (orderer : Orderer) (found : List StockTaken) where
  -- its lines in order
  abbrev pub sold : List LineSold
  sold = in_order (length n.lines) (all_sold found)

  -- it is placed
  pub record IsPlaced (placed : OrderPlaced) : Type 0 where
    pub items : list_any is_no_item found ≡ false
    pub next : home.has_next ≡ true
    pub taken : list_all is_taken found ≡ true
    pub is : order_placed n home orderer sold ≡ placed

  pub is_placed : (placed : OrderPlaced) → decided n home orderer found ≡ Ok placed → IsPlaced placed
  is_placed placed is =
      let done : Result OrderPlaced Fault = Ok (order_placed n home orderer sold) in
      elim (list_any is_no_item found) as (λ b. list_any is_no_item found ≡ b → cond b (Err (NoItemOf orderer.last orderer.credit home.o_id)) (cond (home.has_next && list_all is_taken found) done (Err Range)) ≡ Ok placed → IsPlaced placed) [
        | true ↦ λ e no. absurd cc
        | false ↦ λ e later.
            elim (home.has_next && list_all is_taken found) as (λ b. (home.has_next && list_all is_taken found) ≡ b → cond b done (Err Range) ≡ Ok placed → IsPlaced placed) [
              | true ↦ λ f all. let parts = and_parts home.has_next (list_all is_taken found) f in record { items = e; next = parts.0; taken = parts.1; is = cc }
              | false ↦ λ f no. absurd cc
            ] refl later
      ] refl is

  -- or rolled back, since an item isn't there, or since the number or a counter would leave its range
  abbrev pub IsRolledBack : Fault → Type 0
  IsRolledBack fault =
      ((list_any is_no_item found ≡ true) × (NoItemOf orderer.last orderer.credit home.o_id ≡ fault))
      ⊎ ((list_any is_no_item found ≡ false) × ((home.has_next ≡ false) ⊎ (list_all is_taken found ≡ false)) × (Range ≡ fault))

  is_rolled_back : (fault : Fault) → decided n home orderer found ≡ Err fault → IsRolledBack fault
  is_rolled_back fault is =
      let done : Result OrderPlaced Fault = Ok (order_placed n home orderer sold) in
      elim (list_any is_no_item found) as (λ b. list_any is_no_item found ≡ b → cond b (Err (NoItemOf orderer.last orderer.credit home.o_id)) (cond (home.has_next && list_all is_taken found) done (Err Range)) ≡ Err fault → IsRolledBack fault) [
        | true ↦ λ e all. inl (e, cc)
        | false ↦ λ e later.
            elim (home.has_next) as (λ b. home.has_next ≡ b → cond (b && list_all is_taken found) done (Err Range) ≡ Err fault → IsRolledBack fault) [
              | false ↦ λ f all. inr (e, inl f, cc)
              | true ↦ λ f more.
                  elim (list_all is_taken found) as (λ b. list_all is_taken found ≡ b → cond b done (Err Range) ≡ Err fault → IsRolledBack fault) [
                    | true ↦ λ k no. absurd cc
                    | false ↦ λ k all. inr (e, inr k, cc)
                  ] refl more
            ] refl later
      ] refl is

-- ---- the rows that are there

-- a customer that is shown has a row
pub record HasRow (orderer : Orderer) (row : Option Customer) : Type 0 where
  pub customer : Customer
  pub there : row ≡ Some customer
  pub shown : orderer ≡ orderer_of customer

has_row : (orderer : Orderer) (row : Option Customer) → c.Shown orderer ≡ orderer_found row → HasRow orderer row
has_row orderer (Some customer) is = record { customer = customer; there = refl; shown = cc }
has_row orderer None is = absurd cc

no_row : (row : Option Customer) → c.Missing ≡ orderer_found row → row ≡ None
no_row (Some customer) is = absurd cc
no_row None is = refl

-- the claims on the stock are exclusive ones on its groups, in turn
stocks_exclusive : (shared : SharedTables) (n : NewOrder) (groups : List Group) (found : List StockTaken) (stocks : List ClaimView) → AreStocksTaken shared n groups found stocks
    → AllByRecursion (λ (stock : ClaimView). stock.mode ≡ Exclusive) stocks
stocks_exclusive shared n [] [] [] taken = tt
stocks_exclusive shared n [] (one ∷ found) stocks taken = absurd taken
stocks_exclusive shared n [] [] (stock ∷ stocks) taken = absurd taken
stocks_exclusive shared n (group ∷ groups) [] stocks taken = absurd taken
stocks_exclusive shared n (group ∷ groups) (one ∷ found) [] taken = absurd taken
stocks_exclusive shared n (group ∷ groups) (one ∷ found) (stock ∷ stocks) taken = (taken.0.claim.mode, stocks_exclusive shared n groups found stocks taken.2)

pub stocks_on : (shared : SharedTables) (n : NewOrder) (groups : List Group) (found : List StockTaken) (stocks : List ClaimView) → AreStocksTaken shared n groups found stocks
    → map (λ (stock : ClaimView). stock.group) stocks ≡ groups
stocks_on shared n [] [] [] taken = refl
stocks_on shared n [] (one ∷ found) stocks taken = absurd taken
stocks_on shared n [] [] (stock ∷ stocks) taken = absurd taken
stocks_on shared n (group ∷ groups) [] stocks taken = absurd taken
stocks_on shared n (group ∷ groups) (one ∷ found) [] taken = absurd taken
stocks_on shared n (group ∷ groups) (one ∷ found) (stock ∷ stocks) taken =
    let rest = stocks_on shared n groups found stocks taken.2 in
    λ i. taken.0.claim.group i ∷ rest i

module _ (t : Database) (n : NewOrder) where
  orderer_recorded : (found : OrdererFound) (customers : ClaimView) → content t customers.group ≡ customers.recorded → (shown : IsOrdererShown n found customers)
      → table.get t.customers (customer_key n.home n.c_id) ≡ table.get shown.rows (customer_key n.home n.c_id)
  orderer_recorded found customers records shown =
      let own = g.Customers n.home.w_id n.home.d_id in
      let has : OfCustomers (rows_of group_of_customer own t.customers) ≡ OfCustomers shown.rows = ap (content t) (sym shown.claim.group) ∙ records ∙ shown.recorded in
      let same : rows_of group_of_customer own t.customers ≡ shown.rows = cc in
      sym (get-rows_of-own customers_total customers_exact group_of_customer t.customers (customer_key n.home n.c_id))
      ∙ ap (λ (rows : Customers). table.get rows (customer_key n.home n.c_id)) same

  warehouse_recorded : (found : HomeFound) (warehouse district : ClaimView) → IsHomeOrdered n found warehouse district → content t warehouse.group ≡ warehouse.recorded
      → (row : Option Warehouse) → warehouse.recorded ≡ OfWarehouse row → table.get t.warehouses n.home.w_id ≡ row
  warehouse_recorded found warehouse district is records row recorded =
      let has : OfWarehouse (table.get t.warehouses n.home.w_id) ≡ OfWarehouse row = ap (content t) (sym is.warehouse_claim.group) ∙ records ∙ recorded in cc

  district_recorded : (found : HomeFound) (warehouse district : ClaimView) → IsHomeOrdered n found warehouse district → content t district.group ≡ district.recorded
      → (row : Option District) → district.recorded ≡ OfDistrict row → table.get t.districts n.home ≡ row
  district_recorded found warehouse district is records row recorded =
      let has : OfDistrict (table.get t.districts n.home) ≡ OfDistrict row = ap (content t) (sym is.district_claim.group) ∙ records ∙ recorded in cc

  -- ---- one of the three isn't there

  no_warehouse : (w : Option Warehouse) (d : Option District) (o : Option Customer) → w ≡ None → ordered t n w d o ≡ rolled_back t NoCustomer
  no_warehouse w d o none = ap (λ x. ordered t n x d o) none

  no_district : (w : Option Warehouse) (d : Option District) (o : Option Customer) → d ≡ None → ordered t n w d o ≡ rolled_back t NoCustomer
  no_district (Some w) d o none = ap (λ x. ordered t n (Some w) x o) none
  no_district None d o none = refl

  no_orderer : (w : Option Warehouse) (d : Option District) (o : Option Customer) → o ≡ None → ordered t n w d o ≡ rolled_back t NoCustomer
  no_orderer (Some w) (Some d) o none = ap (λ x. ordered t n (Some w) (Some d) x) none
  no_orderer (Some w) None o none = refl
  no_orderer None d o none = refl

  nobody : (home : HomeFound) (orderer : OrdererFound) (warehouse district customers : ClaimView) → IsHomeOrdered n home warehouse district → IsOrdererShown n orderer customers
      → content t warehouse.group ≡ warehouse.recorded → content t district.group ≡ district.recorded → content t customers.group ≡ customers.recorded
      → (home ≡ h.Missing) ⊎ (orderer ≡ c.Missing) → new_order t n ≡ rolled_back t NoCustomer
  nobody h.Missing orderer warehouse district customers is shown w d o missing = by_home is.rows.none
    where
      by_home : (warehouse.recorded ≡ OfWarehouse None) ⊎ (district.recorded ≡ OfDistrict None) → new_order t n ≡ rolled_back t NoCustomer
      by_home (inl none) = no_warehouse _ _ _ (warehouse_recorded h.Missing warehouse district is w None none)
      by_home (inr none) = no_district _ _ _ (district_recorded h.Missing warehouse district is d None none)
  nobody (h.Shown home) c.Missing warehouse district customers is shown w d o missing =
      no_orderer _ _ _ (orderer_recorded c.Missing customers o shown ∙ no_row _ shown.shown)
  nobody (h.Shown home) (c.Shown orderer) warehouse district customers is shown w d o (inl missing) = absurd cc
  nobody (h.Shown home) (c.Shown orderer) warehouse district customers is shown w d o (inr missing) = absurd cc

  -- ---- all three are

  module _
      (home : HomeShown) (orderer : Orderer) (warehouse district customers : ClaimView)
      (is : IsHomeOrdered n (h.Shown home) warehouse district) (shown : IsOrdererShown n (c.Shown orderer) customers)
      (warehouse_records : content t warehouse.group ≡ warehouse.recorded) (district_records : content t district.group ≡ district.recorded) (customers_record : content t customers.group ≡ customers.recorded)
    where
      abbrev w : Warehouse
      w = is.rows.warehouse_row

      abbrev d : District
      d = is.rows.district_row

      who : HasRow orderer (table.get shown.rows (customer_key n.home n.c_id))
      who = has_row orderer (table.get shown.rows (customer_key n.home n.c_id)) shown.shown

      all_there : new_order t n ≡ placed_of t n w d who.customer (items_found t n.lines)
      all_there =
          let w_is = warehouse_recorded (h.Shown home) warehouse district is warehouse_records (Some w) is.rows.warehouse_recorded in
          let d_is = district_recorded (h.Shown home) warehouse district is district_records (Some d) is.rows.district_recorded in
          let o_is = orderer_recorded (c.Shown orderer) customers customers_record shown ∙ who.there in
          λ i. ordered t n (w_is i) (d_is i) (o_is i)

      -- ---- rolled back

      no_item : items_found t n.lines ≡ None → new_order t n ≡ rolled_back t (NoItemOf orderer.last orderer.credit home.o_id)
      no_item none =
          all_there ∙ ap (placed_of t n w d who.customer) none
          ∙ (λ i. rolled_back t (NoItemOf (sym who.shown i).last (sym who.shown i).credit (sym is.rows.shown i).o_id))

      out_of_range : (items : List Item) → items_found t n.lines ≡ Some items → (district_ordered d ≡ None) ⊎ (supplies t n ≡ None) → new_order t n ≡ rolled_back t Range
      out_of_range items items_are (inl none) =
          all_there ∙ ap (placed_of t n w d who.customer) items_are ∙ ap (λ o. placed_within t n (found_rows w d who.customer items) o (supplies t n)) none
      out_of_range items items_are (inr none) =
          all_there ∙ ap (placed_of t n w d who.customer) items_are ∙ ap (placed_within t n (found_rows w d who.customer items) (district_ordered d)) none
          ∙ elim (district_ordered d) as (λ o. placed_within t n (found_rows w d who.customer items) o None ≡ rolled_back t Range) [ None ↦ refl | Some new ↦ refl ]

      no_next : home.has_next ≡ false → district_ordered d ≡ None
      no_next none = is_none (district_ordered d) (sym (ap (λ (s : HomeShown). s.has_next) is.rows.shown) ∙ none)

      no_supplies : (items : List Item) → items_found t n.lines ≡ Some items → lines_placed t n 1 n.lines ≡ None → supplies t n ≡ None
      no_supplies items items_are none = subst (Agrees t n 1 n.lines items) none (agrees t n n.lines 1 items items_are)

      rolled : (shared : SharedTables) → shared_of t ≡ shared → (found : List StockTaken) (stocks : List ClaimView) → AreStocksTaken shared n (supplies_of n.lines) found stocks
          → AllByRecursion (RecordsContent (content t)) stocks → (fault : Fault) → decided n home orderer found ≡ Err fault → new_order t n ≡ rolled_back t fault
      rolled shared same found stocks taken records fault back =
          by (subst (λ those. IsRolledBack n home orderer those fault) (found_by shared t n same (supplies_of n.lines) found stocks taken records) (is_rolled_back n home orderer found fault back))
        where
          by : IsRolledBack n home orderer (map (found_in t n) (supplies_of n.lines)) fault → new_order t n ≡ rolled_back t fault
          by (inl missing) = no_item (items_missing t n missing.0) ∙ ap (rolled_back t) missing.1
          by (inr out) =
              let items = items_there t n (all_items t n out.0) in
              out_of_range items.0 items.1 (either out.1) ∙ ap (rolled_back t) out.2
            where
              either : (home.has_next ≡ false) ⊎ (list_all is_taken (map (found_in t n) (supplies_of n.lines)) ≡ false) → (district_ordered d ≡ None) ⊎ (supplies t n ≡ None)
              either (inl none) = inl (no_next none)
              either (inr not_taken) =
                  let items = items_there t n (all_items t n out.0) in
                  inr (no_supplies items.0 items.1 (none_placed t n out.0 not_taken))

      -- ---- carried out

      module _
          (shared : SharedTables) (same : shared_of t ≡ shared) (found : List StockTaken) (stocks : List ClaimView) (taken : AreStocksTaken shared n (supplies_of n.lines) found stocks)
          (stocks_record : AllByRecursion (RecordsContent (content t)) stocks) (given : OrderPlaced) (by : IsPlaced n home orderer found given)
          (orders : ClaimView) (orders_record : content t orders.group ≡ orders.recorded) (added : IsOrderAdded given.rows orders)
        where
          abbrev lines : List LineSold
          lines = sold n home orderer found

          found_is : found ≡ map (found_in t n) (supplies_of n.lines)
          found_is = found_by shared t n same (supplies_of n.lines) found stocks taken stocks_record

          -- the machine sells the same lines
          record AreSold : Type 0 where
            items : List Item
            items_are : items_found t n.lines ≡ Some items
            supplied : List Stock
            supplied_is : supplies t n ≡ Some supplied
            rows_are : map (λ (line : LineSold). line.row) lines ≡ line_rows n.home n.lines items supplied
            shown_are : map (λ (line : LineSold). line.shown) lines ≡ lines_shown n.lines 1 n.lines items supplied

          are_sold : AreSold
          are_sold =
              let no_item : list_any is_no_item (map (found_in t n) (supplies_of n.lines)) ≡ false = ap (list_any is_no_item) (sym found_is) ∙ by.items in
              let all : list_all is_taken (map (found_in t n) (supplies_of n.lines)) ≡ true = ap (list_all is_taken) (sym found_is) ∙ by.taken in
              let items = items_there t n (all_items t n no_item) in
              let machine = are_placed t n (all_sold (map (found_in t n) (supplies_of n.lines))) 1 n.lines (all_placed t n all) (each_in_order t n all) in
              let left = subst (Agrees t n 1 n.lines items.0) machine.placed (agrees t n n.lines 1 items.0 items.1) in
              record {
                items = items.0;
                items_are = items.1;
                supplied = left.stocks;
                supplied_is = left.found;
                rows_are = ap (λ those. map (λ (line : LineSold). line.row) (in_order (length n.lines) (all_sold those))) found_is ∙ machine.rows ∙ left.rows;
                shown_are = ap (λ those. map (λ (line : LineSold). line.shown) (in_order (length n.lines) (all_sold those))) found_is ∙ machine.shown ∙ left.shown;
              }

          abbrev rows : List OrderLine
          rows = line_rows n.home n.lines are_sold.items are_sold.supplied

          new : (new : District) × (district_ordered d ≡ Some new)
          new = is_there (district_ordered d) (sym (ap (λ (s : HomeShown). s.has_next) is.rows.shown) ∙ by.next)

          carried : new_order t n ≡ placed_within t n (found_rows w d who.customer are_sold.items) (Some new.0) (Some are_sold.supplied)
          carried =
              all_there ∙ ap (placed_of t n w d who.customer) are_sold.items_are
              ∙ (λ i. placed_within t n (found_rows w d who.customer are_sold.items) (new.1 i) (are_sold.supplied_is i))

          reply_is : new_order_reply n w d who.customer rows (lines_shown n.lines 1 n.lines are_sold.items are_sold.supplied) ≡ given.reply
          reply_is =
              (λ i. new_order_reply n w d who.customer (sym are_sold.rows_are i) (sym are_sold.shown_are i))
              ∙ (λ i. (order_placed n (sym is.rows.shown i) (sym who.shown i) lines).reply)
              ∙ ap (λ (p : OrderPlaced). p.reply) by.is

          settles_all : (group : Group) → content (placed t n d.next_o_id new.0 rows) group ≡ contents_after group (content t group) (warehouse ∷ district ∷ customers ∷ (stocks ++ orders ∷ []))
          settles_all =
              let own : IsOrderAdded (order_placed n home orderer lines).rows orders = subst (λ (p : OrderPlaced). IsOrderAdded p.rows orders) (sym by.is) added in
              let number : home.o_id ≡ d.next_o_id = ap (λ (s : HomeShown). s.o_id) is.rows.shown in
              settled t n d.next_o_id new.0 rows warehouse district customers stocks orders is.warehouse_claim.mode shown.claim.mode is.district_claim
              (is.rows.left ∙ ap (λ o. OfDistrict (Some (unwrap_or o d))) new.1)
              (stocks_leave t n d.next_o_id new.0 rows shared same (supplies_of n.lines) found stocks taken stocks_record by.taken (supplies_are_stock n.lines))
              (stocks_exclusive shared n (supplies_of n.lines) found stocks taken) (stocks_on shared n (supplies_of n.lines) found stocks taken)
              own.claim
              (own.left t orders_record ∙ (λ i. content (with_order t (order_key n.home (number i)) (order_row n) (are_sold.rows_are i)) orders.group))

-- ---- the laws

pub new_orders_of_nobody_are_carried_out : NewOrdersOfNobodyAreCarriedOut
new_orders_of_nobody_are_carried_out opening n home orderer warehouse district customers is shown missing t scale items records =
    let each = recursion_from_All (RecordsContent (content t)) (warehouse ∷ district ∷ customers ∷ []) records in
    let done = nobody t n home orderer warehouse district customers is shown each.0 each.1.0 each.1.1.0 missing in
    (ap (λ (o : Outcome). o.reply) done, λ group. ap (λ (o : Outcome). content o.tables group) done)

pub rolled_back_new_orders_are_carried_out : RolledBackNewOrdersAreCarriedOut
rolled_back_new_orders_are_carried_out opening n home orderer found fault warehouse district customers stocks is shown taken back t scale items records =
    let each = recursion_from_All (RecordsContent (content t)) (warehouse ∷ district ∷ customers ∷ stocks) records in
    let same : shared_of t ≡ shared_of opening = λ i. record { scale = scale i; items = items i } in
    let done = rolled t n home orderer warehouse district customers is shown each.0 each.1.0 each.1.1.0 (shared_of opening) same found stocks taken each.1.1.1 fault back in
    (ap (λ (o : Outcome). o.reply) done, λ group. ap (λ (o : Outcome). content o.tables group) done)

pub new_orders_are_carried_out : NewOrdersAreCarriedOut
new_orders_are_carried_out opening n home orderer found given warehouse district customers stocks orders is shown taken done added t scale items records =
    let each = recursion_from_All (RecordsContent (content t)) (warehouse ∷ district ∷ customers ∷ (stocks ++ orders ∷ [])) records in
    let of_stocks = each_of_first (RecordsContent (content t)) stocks (orders ∷ []) each.1.1.1 in
    let of_orders = each_of_second (RecordsContent (content t)) stocks (orders ∷ []) each.1.1.1 in
    let same : shared_of t ≡ shared_of opening = λ i. record { scale = scale i; items = items i } in
    let by = is_placed n home orderer found given done in
    let made = carried t n home orderer warehouse district customers is shown each.0 each.1.0 each.1.1.0 (shared_of opening) same found stocks taken of_stocks given by orders of_orders.0 added in
    let replied = reply_is t n home orderer warehouse district customers is shown each.0 each.1.0 each.1.1.0 (shared_of opening) same found stocks taken of_stocks given by orders of_orders.0 added in
    let left = settles_all t n home orderer warehouse district customers is shown each.0 each.1.0 each.1.1.0 (shared_of opening) same found stocks taken of_stocks given by orders of_orders.0 added in (
      ap (λ (o : Outcome). o.reply) made ∙ ap (λ r. reply.Done (kind.NewOrder r)) replied,
      λ group. ap (λ (o : Outcome). content o.tables group) made ∙ left group,
    )
