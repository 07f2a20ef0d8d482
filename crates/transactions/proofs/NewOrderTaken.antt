-- What one group of stock finds of the lines that it supplies, and what it has once they are taken.
use Rattle.std.proofs.Common.{◌≡◌, ◌+◌, ◌%◌, ◌==◌, ◌&&◌, ℕ, Bool, true, false, cond, List, [], ◌∷◌, map, filter, Some, None, IsTrue, is_some, unwrap_or, refl, sym, ap, subst, ◌∙◌, arith}
use Rattle.std.specs.List.{AllByRecursion, list_all}
use Rattle.std.specs.Option.{option_and_then, option_map}
use Rattle.std.specs.FinMap.{get, get-retain_keys, insert, same_map}
use Rattle.std.specs.FinMap as table
use Rattle.std.proofs.lemmas.Bool.{and_from}
use Rattle.std.proofs.lemmas.Bool.Decides.{nat_tests}
use Rattle.std.proofs.lemmas.List.Elements.{All-from_recursion}
use Rattle.rows.specs.Keys.{stock_cmp}
use Rattle.rows.specs.declared.keys.StockKey.{StockKey}
use Rattle.rows.specs.declared.records.Item.{Item}
use Rattle.rows.specs.declared.records.Stock.{Stock}
use Rattle.rows.specs.declared.limits.TheConstants.{STOCK_GROUPS}
use Rattle.partitions.specs.Parts.{SharedTables, shared_of, Part, IsPart}
use Rattle.schema.specs.declared.scale.Scale.{Scale}
use Rattle.schema.specs.Scale.{has_item, has_warehouse}
use Rattle.schema.specs.Database.{Database}
use Rattle.schema.specs.OrderRows.{is_line_within}
use Rattle.schema.proofs.KeyOrders.{stocks_total, stocks_exact}
use Rattle.schema.proofs.TableWrites.{get-map_rows}
use Rattle.requests.specs.declared.group.Group.{Group}
use Rattle.requests.specs.declared.group.Group.TheVariants as g
use Rattle.requests.specs.declared.new_order.NewOrder.{NewOrder}
use Rattle.requests.specs.declared.new_order.OrderedLine.{OrderedLine}
use Rattle.groups.specs.Groups.{group_of_stock, is_same}
use Rattle.groups.specs.Content.{content, rows_of}
use Rattle.groups.specs.Content.Content.{OfStock}
use Rattle.groups.specs.Laws.{stock_in}
use Rattle.groups.specs.NewOrder.{group_of_supply}
use Rattle.groups.proofs.RowsInGroups.{each_row_stands_in_one_group, same_row}
use Rattle.groups.proofs.SameGroups.{is_same-itself}
use Rattle.tickets.specs.Claims.{ClaimView, leaving}
use Rattle.tickets.proofs.Apart.{by_bool, is_same-equal}
use Rattle.machine.specs.declared.new_order_lines.LinePlaced.{LinePlaced}
use Rattle.machine.specs.NewOrder.{Stocks, all_there, stock_key_of, stock_taken, stocks_taken, taken_from}
use Rattle.machine.specs.NewOrderLines.{left_by, line_placed, line_placed_by, stocks_put}
use Rattle.machine.proofs.RowsOfGroups.{rows_of-map_rows}
use Rattle.machine.proofs.StocksInTurn.{AreTaken, put_in_turn, taken_at}
use Rattle.transactions.specs.declared.new_order.LineSold.{LineSold}
use Rattle.transactions.specs.declared.new_order.stock.StockPut.{StockPut}
use Rattle.transactions.specs.declared.new_order.StockTaken.{StockTaken}
use Rattle.transactions.specs.declared.new_order.StockTaken.TheVariants.{NoItem, OutOfRange, Taken}
use Rattle.transactions.specs.Granted.{IsExclusiveOn, IsFresh}
use Rattle.transactions.specs.NewOrder.{IsStockTaken, Numbered, has_item_of, is_in, line_sold, lines_in, numbered, once_found, sold_or_out, stock_found}
use Rattle.transactions.specs.NewOrderStock.{AreOfGroup, line_put, puts_done}
use Rattle.transactions.proofs.EachOne.{each_filtered, each_tested}
use Rattle.transactions.proofs.NewOrderSupplies.{IsStock}

-- ---- the lines of a group

pub passing : {X : Type 0} (test : X → Bool) (xs : List X) → AllByRecursion (λ x. test x ≡ true) (filter test xs)
passing test [] = tt
passing test (x ∷ xs) =
    elim (test x) as (λ b. test x ≡ b → AllByRecursion (λ y. test y ≡ true) (cond b (x ∷ filter test xs) (filter test xs))) [
      | true ↦ λ e. (e, passing test xs)
      | false ↦ λ e. passing test xs
    ] refl

-- ---- what a line finds, taken apart

record ArePlacedBy (t : Database) (n : NewOrder) (line : Numbered) (placed : LinePlaced) : Type 0 where
  item : Item
  stock : Stock
  new : Stock
  item_is : get t.items line.1.i_id ≡ Some item
  stock_is : get t.stocks (stock_key_of line.1) ≡ Some stock
  taken : stock_taken n.home.w_id stock (taken_from (stock_key_of line.1) n.lines) ≡ Some new
  is : placed ≡ left_by n line.0 line.1 item stock new

placed_by : (t : Database) (n : NewOrder) (line : Numbered) (placed : LinePlaced) → line_placed t n line.0 line.1 ≡ Some placed → ArePlacedBy t n line placed
placed_by t n line placed is =
    elim (get t.items line.1.i_id) as (λ o. get t.items line.1.i_id ≡ o → line_placed_by n line.0 line.1 o (get t.stocks (stock_key_of line.1)) ≡ Some placed → ArePlacedBy t n line placed) [
      | None ↦ λ e no. absurd cc
      | Some item ↦ λ e there.
          elim (get t.stocks (stock_key_of line.1)) as (λ o. get t.stocks (stock_key_of line.1) ≡ o → line_placed_by n line.0 line.1 (Some item) o ≡ Some placed → ArePlacedBy t n line placed) [
            | None ↦ λ f no. absurd cc
            | Some stock ↦ λ f more.
                elim (stock_taken n.home.w_id stock (taken_from (stock_key_of line.1) n.lines)) as (λ o. stock_taken n.home.w_id stock (taken_from (stock_key_of line.1) n.lines) ≡ o
                → option_map (left_by n line.0 line.1 item stock) o ≡ Some placed → ArePlacedBy t n line placed) [
                  | None ↦ λ k no. absurd cc
                  | Some new ↦ λ k all. let same : left_by n line.0 line.1 item stock new ≡ placed = cc in record { item = item; stock = stock; new = new; item_is = e; stock_is = f; taken = k; is = sym same }
                ] refl more
          ] refl there
    ] refl is

-- ---- tables that have the same in the group

module _ (s t : Database) (n : NewOrder) (group : Group) (items : s.items ≡ t.items) (alike : content s group ≡ content t group) where
  same_line : (line : Numbered) → is_in group line ≡ true → line_sold s n line ≡ line_sold t n line
  same_line line inside =
      let own : group_of_supply line.1 ≡ group = is_same-equal (group_of_supply line.1) group inside in
      let stock = same_row s t s.stocks t.stocks group_of_stock stock_in (each_row_stands_in_one_group s).stocks (each_row_stands_in_one_group t).stocks (stock_key_of line.1)
      (ap (content s) own ∙ alike ∙ sym (ap (content t) own)) in
      ap (option_map (λ (placed : LinePlaced). let one : LineSold = record { number = line.0; row = placed.row; shown = placed.shown } in one))
      (λ i. line_placed_by n line.0 line.1 (get (items i) line.1.i_id) (stock i))

  same_lines : (lines : List Numbered) → AllByRecursion (λ line. is_in group line ≡ true) lines → map (line_sold s n) lines ≡ map (line_sold t n) lines
  same_lines [] inside = refl
  same_lines (line ∷ lines) inside =
      let first = same_line line inside.0 in
      let rest = same_lines lines inside.1 in
      λ i. first i ∷ rest i

  pub same_found : (lines : List Numbered) → AllByRecursion (λ line. is_in group line ≡ true) lines → stock_found s n lines ≡ stock_found t n lines
  same_found lines inside =
      let sold = same_lines lines inside in
      λ i. cond (list_all (λ (line : Numbered). table.contains_key (items i) line.1.i_id) lines) (sold_or_out (all_there (sold i))) NoItem

  -- and have the same once the lines are taken
  pub same_taken : IsStock group → content (record s { stocks = stocks_taken n.home.w_id s.stocks n.lines }) group ≡ content (record t { stocks = stocks_taken n.home.w_id t.stocks n.lines }) group
  unfolding IsStock
  same_taken is =
      let own = g.Stock is.0 is.1 in
      let taken : StockKey → Stock → Stock = λ key row. unwrap_or (stock_taken n.home.w_id row (taken_from key n.lines)) row in
      let has : OfStock (rows_of group_of_stock own s.stocks) ≡ OfStock (rows_of group_of_stock own t.stocks) = sym (ap (content s) is.2) ∙ alike ∙ ap (content t) is.2 in
      let rows : rows_of group_of_stock own s.stocks ≡ rows_of group_of_stock own t.stocks = cc in
      ap (content (record s { stocks = stocks_taken n.home.w_id s.stocks n.lines })) is.2
      ∙ ap OfStock
      (rows_of-map_rows group_of_stock own stocks_total stocks_exact taken s.stocks
      ∙ ap (λ (part : Stocks). stocks_taken n.home.w_id part n.lines) rows
      ∙ sym (rows_of-map_rows group_of_stock own stocks_total stocks_exact taken t.stocks))
      ∙ sym (ap (content (record t { stocks = stocks_taken n.home.w_id t.stocks n.lines })) is.2)

-- ---- the lines of a group are enough at a key of the group

abbrev bare : List Numbered → List OrderedLine
bare lines = map (λ (line : Numbered). line.1) lines

enough : (group : Group) (key : StockKey) → group_of_stock key ≡ group → (low : ℕ) (lines : List OrderedLine) → taken_from key (bare (filter (is_in group) (numbered low lines))) ≡ taken_from key lines
enough group key own low [] = refl
enough group key own low (line ∷ lines) =
    let rest = bare (filter (is_in group) (numbered (low + 1) lines)) in
    let later = enough group key own (low + 1) lines in
    let named = (line.supply_w_id == key.w_id) && (line.i_id == key.i_id) in
    elim (is_in group (low, line)) as (λ b. is_in group (low, line) ≡ b
    → taken_from key (bare (cond b ((low, line) ∷ filter (is_in group) (numbered (low + 1) lines)) (filter (is_in group) (numbered (low + 1) lines)))) ≡ cond named (line ∷ taken_from key lines) (taken_from key lines)) [
      | true ↦ λ e. ap (λ those. cond named (line ∷ those) those) later
      | false ↦ λ e.
          let fails : named ≡ false = by_bool named refl
          (λ is.
          let warehouse : line.supply_w_id ≡ key.w_id = grind (arith, nat_tests) in
          let item : line.i_id ≡ key.i_id = grind (arith, nat_tests) in
          let here : group_of_supply line ≡ group = (λ i. g.Stock (warehouse i) (item i % STOCK_GROUPS)) ∙ own in
          let inside : is_in group (low, line) ≡ true = ap (λ other. is_same other group) here ∙ is_same-itself group in
          absurd cc)
          (λ e. e) in
          later ∙ ap (λ b. cond b (line ∷ taken_from key lines) (taken_from key lines)) (sym fails)
    ] refl

-- ---- the rows that are put

module _ (t : Database) (n : NewOrder) (group : Group) where
  abbrev supplied : List Numbered
  supplied = lines_in group n.lines

  -- the facts of each row that is put
  pub record ArePuts (lines : List Numbered) (puts : List StockPut) : Type 0 where
    pub in_turn : puts_done puts t.stocks ≡ stocks_put (bare lines) (map (λ (put : StockPut). put.row) puts) t.stocks
    pub taken : AreTaken n.home.w_id (bare supplied) t.stocks (bare lines) (map (λ (put : StockPut). put.row) puts)
    pub keys : AllByRecursion (λ (put : StockPut). (group ≡ group_of_stock put.key) × (table.contains_key t.stocks put.key ≡ true)) puts

  one_put : (line : Numbered) (put : StockPut) → line_put t n line ≡ Some put → is_in group line ≡ true
      → (put.key ≡ stock_key_of line.1) × (taken_at n.home.w_id (bare supplied) t.stocks line.1 ≡ Some put.row) × (group ≡ group_of_stock put.key) × (table.contains_key t.stocks put.key ≡ true)
  one_put line put made inside =
      elim (line_placed t n line.0 line.1) as (λ o. line_placed t n line.0 line.1 ≡ o
      → option_map (λ (placed : LinePlaced). let one : StockPut = record { key = stock_key_of line.1; row = placed.stock } in one) o ≡ Some put
      → (put.key ≡ stock_key_of line.1) × (taken_at n.home.w_id (bare supplied) t.stocks line.1 ≡ Some put.row) × (group ≡ group_of_stock put.key) × (table.contains_key t.stocks put.key ≡ true)) [
        | None ↦ λ e no. absurd cc
        | Some placed ↦ λ e there.
            let parts = placed_by t n line placed e in
            let one : StockPut = record { key = stock_key_of line.1; row = placed.stock } in
            let same : one ≡ put = cc in
            let own : group_of_stock (stock_key_of line.1) ≡ group = is_same-equal (group_of_supply line.1) group inside in
            let key : put.key ≡ stock_key_of line.1 = ap (λ (p : StockPut). p.key) (sym same) in
            let lines = enough group (stock_key_of line.1) own 1 n.lines in (
              key,
              ap (option_and_then (λ row. stock_taken n.home.w_id row (taken_from (stock_key_of line.1) (bare supplied)))) parts.stock_is
                  ∙ ap (stock_taken n.home.w_id parts.stock) lines ∙ parts.taken
                  ∙ ap (λ (p : LinePlaced). Some p.stock) (sym parts.is) ∙ ap (λ (p : StockPut). Some p.row) same,
              sym own ∙ ap group_of_stock (sym key),
              ap (table.contains_key t.stocks) key ∙ ap is_some parts.stock_is,
            )
      ] refl made

  pub are_puts : (lines : List Numbered) (puts : List StockPut) → all_there (map (line_put t n) lines) ≡ Some puts → AllByRecursion (λ line. is_in group line ≡ true) lines → ArePuts lines puts
  are_puts [] puts is inside = let none : [] ≡ puts = cc in subst (ArePuts []) none (record { in_turn = refl; taken = tt; keys = tt })
  are_puts (line ∷ lines) puts is inside =
      elim (line_put t n line) as (λ o. line_put t n line ≡ o → all_there (o ∷ map (line_put t n) lines) ≡ Some puts → ArePuts (line ∷ lines) puts) [
        | None ↦ λ e no. absurd cc
        | Some put ↦ λ e there.
            elim (all_there (map (line_put t n) lines)) as (λ o. all_there (map (line_put t n) lines) ≡ o → option_map (λ rest. put ∷ rest) o ≡ Some puts → ArePuts (line ∷ lines) puts) [
              | None ↦ λ f no. absurd cc
              | Some others ↦ λ f all.
                  let same : put ∷ others ≡ puts = cc in
                  let rest = are_puts lines others f inside.1 in
                  let one = one_put line put e inside.0 in
                  subst (ArePuts (line ∷ lines)) same (record {
                    in_turn = (λ i. insert (rest.in_turn i) (one.0 i) put.row);
                    taken = (one.1, rest.taken);
                    keys = ((one.2, one.3), rest.keys);
                  })
            ] refl there
      ] refl is

  -- once they are put, the group has what it has once all lines are taken
  pub puts_take : IsStock group → (puts : List StockPut) → ArePuts supplied puts
      → content (record t { stocks = puts_done puts t.stocks }) group ≡ content (record t { stocks = stocks_taken n.home.w_id t.stocks n.lines }) group
  unfolding IsStock
  puts_take is puts are =
      let own = g.Stock is.0 is.1 in
      let home = n.home.w_id in
      let taken : List OrderedLine → StockKey → Stock → Stock = λ lines key row. unwrap_or (stock_taken home row (taken_from key lines)) row in
      let got : (lines : List OrderedLine) (key : StockKey) → get (rows_of group_of_stock own (stocks_taken home t.stocks lines)) key ≡ cond (is_same (group_of_stock key) own) (option_map (taken lines key) (get t.stocks key)) None =
      λ lines key.
      get-retain_keys (stocks_taken home t.stocks lines) (λ k. is_same (group_of_stock k) own) key (λ x tied. ap (λ k. is_same (group_of_stock k) own) (sym (stocks_exact key x tied)))
      ∙ ap (λ row. cond (is_same (group_of_stock key) own) row None) (get-map_rows stock_cmp (taken lines) stocks_exact t.stocks key) in
      let rows : rows_of group_of_stock own (stocks_taken home t.stocks (bare supplied)) ≡ rows_of group_of_stock own (stocks_taken home t.stocks n.lines) =
      same_map stocks_total stocks_exact _ _ (λ key.
      got (bare supplied) key
      ∙ by_bool (is_same (group_of_stock key) own) refl
      (λ inside.
      let here : group_of_stock key ≡ group = is_same-equal (group_of_stock key) own inside ∙ sym is.2 in
      ap (λ those. cond (is_same (group_of_stock key) own) (option_map (λ row. unwrap_or (stock_taken home row those) row) (get t.stocks key)) None) (enough group key here 1 n.lines))
      (λ outside.
      ap (λ b. cond b (option_map (taken (bare supplied) key) (get t.stocks key)) None) outside
      ∙ sym (ap (λ b. cond b (option_map (taken n.lines key) (get t.stocks key)) None) outside))
      ∙ sym (got n.lines key)) in
      ap (content (record t { stocks = puts_done puts t.stocks })) is.2
      ∙ ap (λ (stocks : Stocks). OfStock (rows_of group_of_stock own stocks))
      (are.in_turn ∙ put_in_turn home t.stocks (bare supplied) (map (λ (put : StockPut). put.row) puts) are.taken)
      ∙ ap OfStock rows
      ∙ sym (ap (content (record t { stocks = stocks_taken home t.stocks n.lines })) is.2)

  pub puts_of_group : IsStock group → (claim : ClaimView) → claim.group ≡ group → (puts : List StockPut) → ArePuts supplied puts → AreOfGroup claim t.stocks puts
  puts_of_group is claim on puts are =
      All-from_recursion (λ (put : StockPut). (claim.group ≡ g.Stock put.key.w_id (put.key.i_id % STOCK_GROUPS)) × IsTrue (table.contains_key t.stocks put.key)) puts (each puts are.keys)
    where
      each : (puts : List StockPut) → AllByRecursion (λ (put : StockPut). (group ≡ group_of_stock put.key) × (table.contains_key t.stocks put.key ≡ true)) puts
          → AllByRecursion (λ (put : StockPut). (claim.group ≡ g.Stock put.key.w_id (put.key.i_id % STOCK_GROUPS)) × IsTrue (table.contains_key t.stocks put.key)) puts
      each [] known = tt
      each (put ∷ puts) known = ((on ∙ known.0.0, known.0.1), each puts known.1)

-- ---- what is sold

-- it has the numbers of the lines, and is of items and warehouses of the scale
pub record AreKnownOf (scale : Scale) (lines : List Numbered) (sold : List LineSold) : Type 0 where
  pub numbers : map (λ (line : LineSold). line.number) sold ≡ map (λ (line : Numbered). line.0) lines
  pub within : list_all (λ (line : LineSold). is_line_within scale line.row) sold ≡ true

pub sold_known : (p : Part) (n : NewOrder) → IsPart p → (lines : List Numbered) (sold : List LineSold) → all_there (map (line_sold p.tables n) lines) ≡ Some sold
    → AllByRecursion (λ (line : Numbered). has_warehouse p.tables.scale line.1.supply_w_id ≡ true) lines → AreKnownOf p.tables.scale lines sold
sold_known p n part [] sold is suppliers = let none : [] ≡ sold = cc in subst (AreKnownOf p.tables.scale []) none (record { numbers = refl; within = refl })
sold_known p n part (line ∷ lines) sold is suppliers =
    let t = p.tables in
    elim (line_placed t n line.0 line.1) as (λ o. line_placed t n line.0 line.1 ≡ o
    → all_there (option_map (λ (placed : LinePlaced). let one : LineSold = record { number = line.0; row = placed.row; shown = placed.shown } in one) o ∷ map (line_sold t n) lines) ≡ Some sold
    → AreKnownOf t.scale (line ∷ lines) sold) [
      | None ↦ λ e no. absurd cc
      | Some placed ↦ λ e there.
          let one : LineSold = record { number = line.0; row = placed.row; shown = placed.shown } in
          elim (all_there (map (line_sold t n) lines)) as (λ o. all_there (map (line_sold t n) lines) ≡ o → option_map (λ rest. one ∷ rest) o ≡ Some sold → AreKnownOf t.scale (line ∷ lines) sold) [
            | None ↦ λ f no. absurd cc
            | Some others ↦ λ f all.
                let same : one ∷ others ≡ sold = cc in
                let parts = placed_by t n line placed e in
                let rest = sold_known p n part lines others f suppliers.1 in
                let item : has_item t.scale line.1.i_id ≡ true = sym (part.items line.1.i_id) ∙ ap is_some parts.item_is in
                let row : is_line_within t.scale placed.row ≡ true =
                ap (λ (q : LinePlaced). is_line_within t.scale q.row) parts.is ∙ and_from (has_item t.scale line.1.i_id) (has_warehouse t.scale line.1.supply_w_id) item suppliers.0 in
                subst (AreKnownOf t.scale (line ∷ lines)) same (record {
                  numbers = ap (λ rest. line.0 ∷ rest) rest.numbers;
                  within = and_from (is_line_within t.scale placed.row) (list_all (λ (line : LineSold). is_line_within t.scale line.row) others) row rest.within;
                })
          ] refl there
    ] refl is

-- the suppliers of the lines of a group
pub suppliers_in : (scale : Scale) (group : Group) (lines : List OrderedLine) → list_all (λ (line : OrderedLine). has_warehouse scale line.supply_w_id) lines ≡ true
    → AllByRecursion (λ (line : Numbered). has_warehouse scale line.1.supply_w_id ≡ true) (lines_in group lines)
suppliers_in scale group lines all =
    each_filtered (λ (line : Numbered). has_warehouse scale line.1.supply_w_id ≡ true) (is_in group) (numbered 1 lines)
    (each 1 lines (each_tested (λ (line : OrderedLine). has_warehouse scale line.supply_w_id) lines all))
  where
    each : (low : ℕ) (lines : List OrderedLine) → AllByRecursion (λ (line : OrderedLine). has_warehouse scale line.supply_w_id ≡ true) lines
        → AllByRecursion (λ (line : Numbered). has_warehouse scale line.1.supply_w_id ≡ true) (numbered low lines)
    each low [] known = tt
    each low (line ∷ lines) known = (known.0, each (low + 1) lines known.1)

-- ---- what the action does

module _
    (t : Database) (n : NewOrder) (group : Group) (was : ClaimView) (on : IsExclusiveOn group was) (new : IsFresh was) (left : was.left ≡ content t was.group)
  where
    -- other tables that the claim records have the same content of the group
    recorded_alike : (s : Database) (now : ClaimView) → now.group ≡ was.group → now.recorded ≡ was.recorded → content s now.group ≡ now.recorded → content s group ≡ content t group
    recorded_alike s now same recorded records =
        ap (content s) (sym on.group ∙ sym same) ∙ records ∙ recorded ∙ sym new.left ∙ left ∙ ap (content t) on.group

    found_alike : (found : StockTaken) → found ≡ stock_found t n (lines_in group n.lines) → (s : Database) → shared_of s ≡ shared_of t → content s group ≡ content t group → found ≡ stock_found s n (lines_in group n.lines)
    found_alike found is s shared alike =
        is ∙ sym (same_found s t n group (ap (λ (both : SharedTables). both.items) shared) alike (lines_in group n.lines) (passing (is_in group) (numbered 1 n.lines)))

    -- nothing is taken where the lines can't be sold
    pub stock_kept : (found : StockTaken) (now : ClaimView) → now ≡ was → found ≡ stock_found t n (lines_in group n.lines) → ((s : Database) → once_found found n s ≡ s)
        → IsStockTaken (shared_of t) n group found now
    stock_kept found now same is nothing = record {
      claim = record { group = ap (λ (k : ClaimView). k.group) same ∙ on.group; mode = ap (λ (k : ClaimView). k.mode) same ∙ on.mode };
      shown = λ s shared records.
          found_alike found is s shared (recorded_alike s now (ap (λ (k : ClaimView). k.group) same) (ap (λ (k : ClaimView). k.recorded) same) records);
      left = λ s shared records.
          ap (λ (k : ClaimView). k.left) same ∙ new.left ∙ sym (ap (λ (k : ClaimView). k.recorded) same) ∙ sym records ∙ ap (λ (db : Database). content db now.group) (sym (nothing s));
    }

    pub stock_sold : (sold : List LineSold) (now : ClaimView) → now ≡ leaving was (content (record t { stocks = stocks_taken n.home.w_id t.stocks n.lines }) was.group)
        → Taken sold ≡ stock_found t n (lines_in group n.lines) → IsStock group → IsStockTaken (shared_of t) n group (Taken sold) now
    stock_sold sold now after is stock =
        let own : now.group ≡ was.group = ap (λ (k : ClaimView). k.group) after in
        let recorded : now.recorded ≡ was.recorded = ap (λ (k : ClaimView). k.recorded) after in
        record {
          claim = record { group = own ∙ on.group; mode = ap (λ (k : ClaimView). k.mode) after ∙ on.mode };
          shown = λ s shared records. found_alike (Taken sold) is s shared (recorded_alike s now own recorded records);
          left = λ s shared records.
              let taken : Database → Database = λ db. record db { stocks = stocks_taken n.home.w_id db.stocks n.lines } in
              ap (λ (k : ClaimView). k.left) after ∙ ap (content (taken t)) on.group
              ∙ sym (same_taken s t n group (ap (λ (both : SharedTables). both.items) shared) (recorded_alike s now own recorded records) stock)
              ∙ sym (ap (content (taken s)) (own ∙ on.group));
        }

-- where each item is there, by whether all lines can be sold
pub found_out : (t : Database) (n : NewOrder) (lines : List Numbered) → list_all (has_item_of t) lines ≡ true → all_there (map (line_sold t n) lines) ≡ None → OutOfRange ≡ stock_found t n lines
found_out t n lines all none =
    sym (ap (λ b. cond b (sold_or_out (all_there (map (line_sold t n) lines))) NoItem) all ∙ ap sold_or_out none)

pub found_sold : (t : Database) (n : NewOrder) (lines : List Numbered) (sold : List LineSold) → list_all (has_item_of t) lines ≡ true → all_there (map (line_sold t n) lines) ≡ Some sold
    → Taken sold ≡ stock_found t n lines
found_sold t n lines sold all some =
    sym (ap (λ b. cond b (sold_or_out (all_there (map (line_sold t n) lines))) NoItem) all ∙ ap sold_or_out some)
