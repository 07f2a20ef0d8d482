use Rattle.std.proofs.Common.{◌≡◌, true, List, map, None, refl, sym, ap, subst, ◌∙◌}
use Rattle.std.specs.Prelude.{MatchOption}
use Rattle.std.specs.List.{list_all}
use Rattle.partitions.specs.Parts.{Part, IsPart}
use Rattle.schema.specs.Database.{Database}
use Rattle.requests.specs.declared.group.Group.{Group}
use Rattle.requests.specs.declared.new_order.NewOrder.{NewOrder}
use Rattle.groups.specs.Content.{content}
use Rattle.groups.specs.NewOrder.{supplies_of}
use Rattle.tickets.specs.Claims.{ClaimView, leaving}
use Rattle.slices.specs.SliceView.{SliceView, part_in}
use Rattle.machine.specs.NewOrder.{Stocks, all_there, stocks_taken}
use Rattle.transactions.specs.declared.new_order.LineSold.{LineSold}
use Rattle.transactions.specs.declared.new_order.StockTaken.TheVariants.{OutOfRange, Taken}
use Rattle.transactions.specs.NewOrder.{AreSoldKnown, has_item_of, is_in, is_supply_of, line_sold, lines_in, numbered}
use Rattle.transactions.specs.NewOrderStock.{AreOfGroup, IsSaleOf, puts_done}
use Rattle.transactions.proofs.NewOrderKnown.{in_scale}
use Rattle.transactions.proofs.NewOrderSupplies.{IsStock, of_one, supplies_are_stock}
use Rattle.transactions.proofs.NewOrderTaken as taken
use Rattle.transactions.proofs.new_order.stock.take_stock.Goals as goal

-- a group that supplies lines is one of stock
is_stock : (n : NewOrder) (group : Group) → is_supply_of n group ≡ true → IsStock group
is_stock n group among = of_one IsStock group (supplies_of n.lines) among (supplies_are_stock n.lines)

pub returns-in_default-clause-taken : goal.returns-in_default-clause-taken
returns-in_default-clause-taken g c =
    let t = c.args.slice.now.tables in
    let n = c.args.order.now in
    let group = c.args.group in
    let lines = lines_in group n.lines in
    let first = ap (λ (p : Part). p.tables) c.partition.ensures.rows ∙ ap (λ (s : SliceView). s.tables) c.look.ensures.same.0 in
    let second = ap (λ (p : Part). p.tables) c.partition-2.ensures.rows ∙ ap (λ (s : SliceView). s.tables) c.look.ensures.same.0 in
    let items : list_all (has_item_of t) lines ≡ true = sym (c.if-not-has_items.ensures ∙ (λ i. list_all (has_item_of (first i)) (lines_in group (c.as_slice.ensures i)))) in
    let none : all_there (map (line_sold t n) lines) ≡ None =
    subst (λ (db : Database). all_there (map (line_sold db n) lines) ≡ None) second
    (subst (λ o. MatchOption o (all_there (map (line_sold c.partition-2.result.now.tables n) lines) ≡ None) (IsSaleOf c.partition-2.result.now.tables n lines)) c.in_default.is c.in_ok-sale.ensures) in
    taken.stock_kept t n group c.args.stock.now c.requires.claim c.requires.fresh c.look.ensures.left OutOfRange c.look.new.claim c.look.ensures.same.1 (taken.found_out t n lines items none) (λ s. refl)

pub put_stocks-requires-clause-puts : goal.put_stocks-requires-clause-puts
put_stocks-requires-clause-puts g c =
    let t = c.args.slice.now.tables in
    let n = c.args.order.now in
    let group = c.args.group in
    let lines = lines_in group n.lines in
    let second = ap (λ (p : Part). p.tables) c.partition-2.ensures.rows ∙ ap (λ (s : SliceView). s.tables) c.look.ensures.same.0 in
    let sale : IsSaleOf t n lines c.in-Some.sale =
    subst (λ (db : Database). IsSaleOf db n lines c.in-Some.sale) second
    (subst (λ o. MatchOption o (all_there (map (line_sold c.partition-2.result.now.tables n) lines) ≡ None) (IsSaleOf c.partition-2.result.now.tables n lines)) c.in-Some.is c.in_ok-sale.ensures) in
    let puts = taken.are_puts t n group lines c.in-Some.sale.puts.items sale.puts (taken.passing (is_in group) (numbered 1 n.lines)) in
    subst (λ (stocks : Stocks). AreOfGroup c.look.new.claim stocks c.in-Some.sale.puts.items) (sym (ap (λ (s : SliceView). s.tables.stocks) c.look.ensures.same.0))
    (taken.puts_of_group t n group (is_stock n group c.requires.supplies) c.look.new.claim (ap (λ (k : ClaimView). k.group) c.look.ensures.same.1 ∙ c.requires.claim.group) c.in-Some.sale.puts.items puts)

pub returns-clause-taken : goal.returns-clause-taken
returns-clause-taken g c =
    let t = c.args.slice.now.tables in
    let n = c.args.order.now in
    let group = c.args.group in
    let was = c.args.stock.now in
    let lines = lines_in group n.lines in
    let first = ap (λ (p : Part). p.tables) c.partition.ensures.rows ∙ ap (λ (s : SliceView). s.tables) c.look.ensures.same.0 in
    let second = ap (λ (p : Part). p.tables) c.partition-2.ensures.rows ∙ ap (λ (s : SliceView). s.tables) c.look.ensures.same.0 in
    let items : list_all (has_item_of t) lines ≡ true = sym (c.if-not-has_items.ensures ∙ (λ i. list_all (has_item_of (first i)) (lines_in group (c.as_slice.ensures i)))) in
    let sale : IsSaleOf t n lines c.in-Some.sale =
    subst (λ (db : Database). IsSaleOf db n lines c.in-Some.sale) second
    (subst (λ o. MatchOption o (all_there (map (line_sold c.partition-2.result.now.tables n) lines) ≡ None) (IsSaleOf c.partition-2.result.now.tables n lines)) c.in-Some.is c.in_ok-sale.ensures) in
    let puts = c.in-Some.sale.puts.items in
    let are = taken.are_puts t n group lines puts sale.puts (taken.passing (is_in group) (numbered 1 n.lines)) in
    let stock = is_stock n group c.requires.supplies in
    let own = c.requires.claim.group in
    let put : Database = record t { stocks = puts_done puts t.stocks } in
    let done : Database = record t { stocks = stocks_taken n.home.w_id t.stocks n.lines } in
    let tables : c.put_stocks.new.slice.tables ≡ put =
    ap (λ (s : SliceView). s.tables) c.in_ok-put_stocks.ensures.rows ∙ ap (λ (s : SliceView). record s.tables { stocks = puts_done puts s.tables.stocks }) c.look.ensures.same.0 in
    let left : content put was.group ≡ content done was.group = ap (content put) own ∙ taken.puts_take t n group stock puts are ∙ sym (ap (content done) own) in
    taken.stock_sold t n group was c.requires.claim c.requires.fresh c.look.ensures.left c.new.result c.put_stocks.new.stock
    (c.in_ok-put_stocks.ensures.claim
    ∙ (λ i. leaving (c.look.ensures.same.1 i) (content (tables i) (c.look.ensures.same.1 i).group))
    ∙ ap (leaving was) left)
    (ap Taken c.new.ensures ∙ taken.found_sold t n lines c.in-Some.sale.sold.items items sale.sold) stock

pub returns-clause-known : goal.returns-clause-known
returns-clause-known g c =
    let slice = c.args.slice.now in
    let n = c.args.order.now in
    let group = c.args.group in
    let lines = lines_in group n.lines in
    let second = ap (λ (p : Part). p.tables) c.partition-2.ensures.rows ∙ ap (λ (s : SliceView). s.tables) c.look.ensures.same.0 in
    let sale : IsSaleOf slice.tables n lines c.in-Some.sale =
    subst (λ (db : Database). IsSaleOf db n lines c.in-Some.sale) second
    (subst (λ o. MatchOption o (all_there (map (line_sold c.partition-2.result.now.tables n) lines) ≡ None) (IsSaleOf c.partition-2.result.now.tables n lines)) c.in-Some.is c.in_ok-sale.ensures) in
    let part = subst (λ (s : SliceView). IsPart (part_in s)) c.look.ensures.same.0 c.partition-2.ensures.part in
    let known = taken.sold_known (part_in slice) n part lines c.in-Some.sale.sold.items sale.sold
    (taken.suppliers_in slice.tables.scale group n.lines (in_scale slice.tables.scale n c.requires.accepted).suppliers) in
    subst (λ (sold : List LineSold). AreSoldKnown slice.tables.scale n group (Taken sold)) (sym c.new.ensures) (known.numbers, known.within)
