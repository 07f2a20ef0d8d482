-- The outcome of New-Order, given the rows that it reads and the results of its lines.
use Rattle.std.proofs.Common.{◌≡◌, suc, Bool, true, false, ◌&&◌, List, [], ◌∷◌, map, length, Option, Some, None, is_some, refl, sym, ap, subst, ◌∙◌}
use Rattle.std.specs.List.{list_all}
use Rattle.std.specs.Option.{option_map, option_and_then}
use Rattle.std.specs.FinMap as table
use Rattle.rows.specs.declared.records.Item.{Item}
use Rattle.rows.specs.declared.records.Warehouse.{Warehouse}
use Rattle.rows.specs.declared.records.District.{District}
use Rattle.rows.specs.declared.records.Stock.{Stock}
use Rattle.rows.specs.declared.records.Customer.{Customer}
use Rattle.rows.specs.declared.records.OrderLine.{OrderLine}
use Rattle.schema.specs.Scale.{customer_key, has_item, has_warehouse}
use Rattle.schema.specs.Database.{Database, IsWithinScale}
use Rattle.schema.specs.OrderRows.{is_line_within}
use Rattle.requests.specs.declared.new_order.NewOrder.{NewOrder}
use Rattle.requests.specs.declared.new_order.OrderedLine.{OrderedLine}
use Rattle.requests.specs.declared.new_order.NewOrderLine.{NewOrderLine}
use Rattle.requests.specs.declared.reply.Fault.TheVariants.{NoCustomer, NoItem, Range}
use Rattle.requests.specs.declared.reply.Shown.TheVariants.{NewOrder as OrderShown}
use Rattle.machine.specs.declared.new_order_lines.LinePlaced.{LinePlaced}
use Rattle.machine.specs.Outcome.{done, rolled_back}
use Rattle.machine.specs.NewOrder.{new_order, ordered, placed, placed_of, placed_within, found_rows, district_ordered, items_found, all_there, supplies, stock_key_of, stock_taken, stocks_taken, taken_from, line_row, line_rows, new_order_reply}
use Rattle.machine.specs.NewOrderLines.{columns, lines_placed, stocks_put}
use Rattle.machine.proofs.NewOrderCases.{line_rows-length, items_found-length, supplies-length}
use Rattle.machine.proofs.StocksInTurn.{taken_at, AreTaken, put_in_turn}
use Rattle.machine.proofs.LinesPlaced.{Agrees, agrees}

-- ---- the faults, in their order

pub no_warehouse : (t : Database) (n : NewOrder) → table.get t.warehouses n.home.w_id ≡ None → new_order t n ≡ rolled_back t NoCustomer
no_warehouse t n e = ap (λ o. ordered t n o (table.get t.districts n.home) (table.get t.customers (customer_key n.home n.c_id))) e

pub no_district : (t : Database) (n : NewOrder) (w : Warehouse) → table.get t.warehouses n.home.w_id ≡ Some w → table.get t.districts n.home ≡ None → new_order t n ≡ rolled_back t NoCustomer
no_district t n w w_is e = λ i. ordered t n (w_is i) (e i) (table.get t.customers (customer_key n.home n.c_id))

pub no_customer : (t : Database) (n : NewOrder) (w : Warehouse) (d : District) → table.get t.warehouses n.home.w_id ≡ Some w → table.get t.districts n.home ≡ Some d
    → table.get t.customers (customer_key n.home n.c_id) ≡ None → new_order t n ≡ rolled_back t NoCustomer
no_customer t n w d w_is d_is e = λ i. ordered t n (w_is i) (d_is i) (e i)

not_some : {X : Type 0} (o : Option X) → is_some o ≡ false → o ≡ None
not_some None e = refl
not_some (Some x) e = cc

-- an order by a customer who is there
module _ (t : Database) (n : NewOrder) (w : Warehouse) (d : District) (c : Customer)
    (w_is : table.get t.warehouses n.home.w_id ≡ Some w) (d_is : table.get t.districts n.home ≡ Some d) (c_is : table.get t.customers (customer_key n.home n.c_id) ≡ Some c) where
  asked : new_order t n ≡ placed_of t n w d c (items_found t n.lines)
  asked = λ i. ordered t n (w_is i) (d_is i) (c_is i)

  pub no_item : is_some (items_found t n.lines) ≡ false → new_order t n ≡ rolled_back t (NoItem c.last c.credit d.next_o_id)
  no_item e = asked ∙ ap (placed_of t n w d c) (not_some (items_found t n.lines) e)

  pub last_number : is_some (items_found t n.lines) ≡ true → district_ordered d ≡ None → new_order t n ≡ rolled_back t Range
  last_number there none =
      asked
      ∙ elim (items_found t n.lines) as (λ o. is_some o ≡ true → placed_of t n w d c o ≡ rolled_back t Range) [
        | None ↦ λ e. cc
        | Some items ↦ λ e. ap (λ o. placed_within t n (found_rows w d c items) o (supplies t n)) none
      ] there

  no_lines : (items : List Item) (new_d : District) (o : Option (List LinePlaced)) → Agrees t n 1 n.lines items o → option_map columns o ≡ None
      → placed_within t n (found_rows w d c items) (Some new_d) (supplies t n) ≡ rolled_back t Range
  no_lines items new_d None h e = ap (placed_within t n (found_rows w d c items) (Some new_d)) h
  no_lines items new_d (Some left) h e = cc

  pub no_stock : (new_d : District) → is_some (items_found t n.lines) ≡ true → district_ordered d ≡ Some new_d → None ≡ option_map columns (lines_placed t n 1 n.lines)
      → new_order t n ≡ rolled_back t Range
  no_stock new_d there d_made none =
      asked
      ∙ elim (items_found t n.lines) as (λ o. items_found t n.lines ≡ o → is_some o ≡ true → placed_of t n w d c o ≡ rolled_back t Range) [
        | None ↦ λ f e. cc
        | Some items ↦ λ f e.
            ap (λ o. placed_within t n (found_rows w d c items) o (supplies t n)) d_made
            ∙ no_lines items new_d (lines_placed t n 1 n.lines) (agrees t n n.lines 1 items f) (sym none)
      ] refl there

-- ---- an order that is placed

both : (a b : Bool) → a ≡ true → b ≡ true → (a && b) ≡ true
both a b p q = λ i. p i && q i

first : (a b : Bool) → (a && b) ≡ true → a ≡ true
first true b e = refl
first false b e = e

pub second : (a b : Bool) → (a && b) ≡ true → b ≡ true
second true b e = e
second false b e = cc

then_there : {X Y : Type 0} (f : X → Option Y) (o : Option X) (y : Y) → option_and_then f o ≡ Some y → is_some o ≡ true
then_there f None y e = cc
then_there f (Some x) y e = refl

first_there : {X : Type 0} (o : Option X) (found : List (Option X)) (x : X) (xs : List X) → all_there (o ∷ found) ≡ Some (x ∷ xs) → (is_some o ≡ true) × (all_there found ≡ Some xs)
first_there None found x xs e = absurd cc
first_there (Some y) found x xs e =
    elim (all_there found) as (λ r. option_map (λ ys. y ∷ ys) r ≡ Some (x ∷ xs) → (is_some (Some y) ≡ true) × (r ≡ Some xs)) [
      | None ↦ λ f. absurd cc
      | Some ys ↦ λ f. let same : ys ≡ xs = cc in (refl, ap (λ l. Some l) same)
    ] e

-- there are as many rows as lines
taken-length : (t : Database) (n : NewOrder) (lines : List OrderedLine) (stocks : List Stock) → AreTaken n.home.w_id n.lines t.stocks lines stocks → length stocks ≡ length lines
taken-length t n [] [] h = refl
taken-length t n [] (stock ∷ stocks) h = absurd h
taken-length t n (line ∷ lines) [] h = absurd h
taken-length t n (line ∷ lines) (stock ∷ stocks) h = ap (λ k. suc k) (taken-length t n lines stocks h.1)

-- each line has its row of STOCK
stock_there : (t : Database) (n : NewOrder) (line : OrderedLine) (stock : Stock) → taken_at n.home.w_id n.lines t.stocks line ≡ Some stock → table.contains_key t.stocks (stock_key_of line) ≡ true
stock_there t n line stock e = then_there (λ row. stock_taken n.home.w_id row (taken_from (stock_key_of line) n.lines)) (table.get t.stocks (stock_key_of line)) stock e

stocks_there : (t : Database) (n : NewOrder) (lines : List OrderedLine) (stocks : List Stock) → AreTaken n.home.w_id n.lines t.stocks lines stocks
    → list_all (λ line. table.contains_key t.stocks (stock_key_of line)) lines ≡ true
stocks_there t n [] stocks h = refl
stocks_there t n (line ∷ lines) [] h = absurd h
stocks_there t n (line ∷ lines) (stock ∷ stocks) h = both _ _ (stock_there t n line stock h.0) (stocks_there t n lines stocks h.1)

-- each is of an item of the scale, and a warehouse of the scale supplies it
lines_within : (t : Database) → IsWithinScale t → (n : NewOrder) (lines : List OrderedLine) (items : List Item) (olds news : List Stock) → items_found t lines ≡ Some items
    → AreTaken n.home.w_id n.lines t.stocks lines news → list_all (is_line_within t.scale) (line_rows n.home lines items olds) ≡ true
lines_within t within n [] items olds news f h = refl
lines_within t within n (line ∷ lines) [] olds news f h = refl
lines_within t within n (line ∷ lines) (item ∷ items) [] news f h = refl
lines_within t within n (line ∷ lines) (item ∷ items) (old ∷ olds) [] f h = absurd h
lines_within t within n (line ∷ lines) (item ∷ items) (old ∷ olds) (new ∷ news) f h =
    let found = first_there (table.get t.items line.i_id) (map (λ (line : OrderedLine). table.get t.items line.i_id) lines) item items f in
    let key = stock_key_of line in
    both (is_line_within t.scale (line_row n.home line item old)) _
    (both (has_item t.scale line.i_id) (has_warehouse t.scale line.supply_w_id)
    (sym (within.items line.i_id) ∙ found.0)
    (first (has_warehouse t.scale line.supply_w_id) (has_item t.scale line.i_id) (sym (within.stocks key) ∙ stock_there t n line new h.0)))
    (lines_within t within n lines items olds news found.1 h.1)

-- what the code has to know of an order that is placed by these rows
pub record IsPlaced (t : Database) (n : NewOrder) (w : Warehouse) (d : District) (c : Customer) (new_d : District) (rows : List OrderLine) (shown : List NewOrderLine) (stocks : List Stock) : Type 0 where
  pub outcome : new_order t n ≡ done (placed t n d.next_o_id new_d rows) (OrderShown (new_order_reply n w d c rows shown))
  pub put : stocks_put n.lines stocks t.stocks ≡ stocks_taken n.home.w_id t.stocks n.lines
  pub counted : length rows ≡ length n.lines
  pub stocks_counted : length stocks ≡ length n.lines
  pub within : list_all (is_line_within t.scale) rows ≡ true
  pub there : list_all (λ line. table.contains_key t.stocks (stock_key_of line)) n.lines ≡ true

module _ (t : Database) (n : NewOrder) (w : Warehouse) (d : District) (c : Customer)
    (w_is : table.get t.warehouses n.home.w_id ≡ Some w) (d_is : table.get t.districts n.home ≡ Some d) (c_is : table.get t.customers (customer_key n.home n.c_id) ≡ Some c)
    (within : IsWithinScale t) (new_d : District) (d_made : district_ordered d ≡ Some new_d) where
  by_lines : (rows : List OrderLine) (shown : List NewOrderLine) (stocks : List Stock) (items : List Item) → items_found t n.lines ≡ Some items
      → (o : Option (List LinePlaced)) → Agrees t n 1 n.lines items o → Some (rows, shown, stocks) ≡ option_map columns o → IsPlaced t n w d c new_d rows shown stocks
  by_lines rows shown stocks items f None h e = absurd cc
  by_lines rows shown stocks items f (Some left) h e =
      let same : (rows, shown, stocks) ≡ columns left = cc in
      subst (λ (p : List OrderLine × List NewOrderLine × List Stock). IsPlaced t n w d c new_d p.0 p.1 p.2) (sym same)
      (record {
        outcome =
            asked t n w d c w_is d_is c_is
            ∙ ap (placed_of t n w d c) f
            ∙ (λ i. placed_within t n (found_rows w d c items) (d_made i) (h.found i))
            ∙ (λ i. done (placed t n d.next_o_id new_d (sym h.rows i)) (OrderShown (new_order_reply n w d c (sym h.rows i) (sym h.shown i))));
        put = put_in_turn n.home.w_id t.stocks n.lines (map (λ (l : LinePlaced). l.stock) left) h.taken;
        counted = ap length h.rows ∙ line_rows-length n.home n.lines items h.stocks (items_found-length t n.lines items f) (supplies-length t n h.stocks h.found);
        stocks_counted = taken-length t n n.lines (map (λ (l : LinePlaced). l.stock) left) h.taken;
        within = ap (list_all (is_line_within t.scale)) h.rows ∙ lines_within t within n n.lines items h.stocks (map (λ (l : LinePlaced). l.stock) left) f h.taken;
        there = stocks_there t n n.lines (map (λ (l : LinePlaced). l.stock) left) h.taken;
      })

  pub is_placed : (rows : List OrderLine) (shown : List NewOrderLine) (stocks : List Stock) → is_some (items_found t n.lines) ≡ true
      → Some (rows, shown, stocks) ≡ option_map columns (lines_placed t n 1 n.lines) → IsPlaced t n w d c new_d rows shown stocks
  is_placed rows shown stocks there e =
      elim (items_found t n.lines) as (λ o. items_found t n.lines ≡ o → is_some o ≡ true → IsPlaced t n w d c new_d rows shown stocks) [
        | None ↦ λ f x. absurd cc
        | Some items ↦ λ f x. by_lines rows shown stocks items f (lines_placed t n 1 n.lines) (agrees t n n.lines 1 items f) e
      ] refl there
