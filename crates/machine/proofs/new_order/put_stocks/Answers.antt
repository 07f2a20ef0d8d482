use Rattle.std.proofs.Common.{◌≡◌, ◌+◌, ◌<◌, length, get_or, List, [], ◌∷◌, refl, sym, ap, ◌∙◌, arith, length-append}
use Rattle.std.specs.FinMap as table
use Rattle.schema.specs.Database.{Database}
use Rattle.schema.proofs.KeyOrders.{stocks_total, stocks_exact}
use Rattle.schema.proofs.TableWrites.{still_there}
use Rattle.requests.specs.declared.new_order.OrderedLine.{OrderedLine}
use Rattle.machine.specs.NewOrder.{stock_key_of}
use Rattle.machine.specs.NewOrderLines.{stocks_put}
use Rattle.machine.proofs.StocksInTurn.{no_rows, last_first, each_passes}
use Rattle.machine.proofs.new_order.put_stocks.Goals as goal

no_line : OrderedLine
no_line = record { i_id = 0; supply_w_id = 0; quantity = 0 }

nothing_left : {X : Type 0} (xs : List X) → length xs ≡ 0 → xs ≡ []
nothing_left [] none = refl
nothing_left (x ∷ xs) none = absurd (omega arith)

pub replace_stock-requires : goal.replace_stock-requires
unfolding no_line
replace_stock-requires c =
    let lines = c.args.lines.now in
    let one : length c.loop-row.rest.items ≡ length c.pop.new.self.items + 1 = ap length c.in-Some.ensures.items ∙ length-append c.pop.new.self.items (c.in-Some.row ∷ []) in
    let many : c.len.result ≡ length c.pop.new.self.items = omega (arith, c.len.ensures, c.pop.new.self.ok.0) in
    let below : c.len.result < length lines = omega (arith, c.loop-row.invariant.few) in
    ap (table.contains_key c.loop-row.tables.stocks) c.stock_key-key.ensures
    ∙ c.loop-row.invariant.there (stock_key_of (get_or lines c.len.result no_line))
    (each_passes (λ line. table.contains_key c.args.tables.now.stocks (stock_key_of line)) lines c.len.result no_line c.requires.there below)

pub loop-row-preserved : goal.loop-row-preserved
unfolding no_line
loop-row-preserved c =
    let lines = c.args.lines.now in
    let rest = c.pop.new.self.items in
    let stocks = c.loop-row.tables.stocks in
    let one : length c.loop-row.rest.items ≡ length rest + 1 = ap length c.in-Some.ensures.items ∙ length-append rest (c.in-Some.row ∷ []) in
    let many : c.len.result ≡ length rest = omega (arith, c.len.ensures, c.pop.new.self.ok.0) in
    let below : length rest < length lines = omega (arith, c.loop-row.invariant.few) in
    let key = c.stock_key-key.ensures ∙ ap (λ k. stock_key_of (get_or lines k no_line)) many in
    record {
      few = omega (arith, c.loop-row.invariant.few);
      there = λ q h.
          ap (λ (t : Database). table.contains_key t.stocks q) c.replace_stock.ensures.tables
          ∙ still_there stocks_total stocks_exact stocks c.stock_key-key.result c.in-Some.row q (c.loop-row.invariant.there q h);
      same =
          ap (λ (t : Database). record t { stocks = stocks_put lines rest t.stocks }) c.replace_stock.ensures.tables
          ∙ ap (λ s. record c.loop-row.tables { stocks = s })
          (ap (λ k. stocks_put lines rest (table.insert stocks k c.in-Some.row)) key
          ∙ last_first lines rest no_line c.in-Some.row stocks below
          ∙ ap (λ l. stocks_put lines l stocks) (sym c.in-Some.ensures.items))
          ∙ c.loop-row.invariant.same;
    }

pub returns : goal.returns
returns c =
    let stocks = c.loop-row.tables.stocks in
    let gone : length c.loop-row.rest.items ≡ 0 = omega (arith, c.in_default.ensures.cases.0, c.loop-row.rest.ok.0) in
    ap (λ s. record c.loop-row.tables { stocks = s })
    (sym (ap (λ l. stocks_put c.args.lines.now l stocks) (nothing_left c.loop-row.rest.items gone) ∙ no_rows c.args.lines.now stocks))
    ∙ c.loop-row.invariant.same
