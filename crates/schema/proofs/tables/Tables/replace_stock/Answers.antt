use Rattle.std.proofs.Common.{Some, ◌<◌, length, sym, ap, ◌∙◌, arith}
use Rattle.std.specs.FinMap as map
use Rattle.std.proofs.lemmas.Option.{slice_get-get_or}
use Rattle.rows.specs.declared.records.Stock.{Stock}
use Rattle.schema.specs.Scale.{stock_keys, stock_slot}
use Rattle.schema.specs.Database.{Database}
use Rattle.schema.specs.Rows.{database}
use Rattle.schema.proofs.KeyOrders.{stocks_total, stocks_exact}
use Rattle.schema.proofs.ScalePlaces.{stock_place}
use Rattle.schema.proofs.RowReads.{read_slot}
use Rattle.schema.proofs.RowWrites.{stock_within, stock_put, stock_fits}
use Rattle.schema.proofs.tables.Tables.replace_stock.Goals as goal

pub index_mut-requires : goal.index_mut-requires
index_mut-requires c =
    let t = c.self.inside in
    let found = sym c.stock_slot.ensures ∙ c.in_ok-slot.was in
    let below : c.in_ok-slot.slot < length t.rows.stocks.items = stock_within t.scale t.rows c.self.invariant c.args.key c.in_ok-slot.slot found in
    omega (arith, t.rows.stocks.ok.0)

pub invariant_of-self : goal.invariant_of-self
invariant_of-self c = stock_fits c.self.inside.scale c.self.inside.rows c.self.invariant c.replace.new.dest c.in_ok-slot.slot

pub returns-clause-tables : goal.returns-clause-tables
returns-clause-tables c =
    let t = c.self.inside in
    let found = sym c.stock_slot.ensures ∙ c.in_ok-slot.was in
    stock_put t.scale t.rows c.self.invariant c.args.key c.replace.new.dest c.in_ok-slot.slot found
    ∙ ap (λ (row : Stock). record (database t.scale t.rows) { stocks = map.insert (database t.scale t.rows).stocks c.args.key row }) c.replace.ensures.after
    ∙ ap (λ (m : Database). record m { stocks = map.insert m.stocks c.args.key c.args.row }) c.self.view_is

pub returns-clause-was : goal.returns-clause-was
returns-clause-was c =
    let t = c.self.inside in
    let items = t.rows.stocks.items in
    let slot = c.in_ok-slot.slot in
    let found = sym c.stock_slot.ensures ∙ c.in_ok-slot.was in
    ap Some (c.replace.ensures.value ∙ c.index_mut.ensures.value)
    ∙ sym (slice_get-get_or items slot c.index_mut.result.now (stock_within t.scale t.rows c.self.invariant c.args.key slot found))
    ∙ sym (read_slot stocks_total stocks_exact (stock_keys t.scale) items c.args.key (stock_slot t.scale c.args.key) c.stock_slot.result slot (stock_place t.scale c.args.key) c.stock_slot.ensures c.in_ok-slot.was)
    ∙ ap (λ m. map.get m.stocks c.args.key) c.self.view_is
