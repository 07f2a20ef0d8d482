use Rattle.std.proofs.Common.{Some, ◌<◌, length, refl, sym, ap, ◌∙◌, arith}
use Rattle.std.specs.FinMap as map
use Rattle.std.specs.Vec.{with_item}
use Rattle.std.proofs.lemmas.Option.{slice_get-get_or}
use Rattle.rows.specs.declared.records.Stock.{Stock}
use Rattle.schema.proofs.KeyOrders.{stocks_total, stocks_exact}
use Rattle.schema.proofs.RowReads.{read_slot}
use Rattle.partitions.specs.Parts.{Part}
use Rattle.partitions.specs.Partitions.{stock_keys_of, part}
use Rattle.partitions.specs.Slots.{home_stock_slot}
use Rattle.partitions.proofs.HomePlaces.{stock_place}
use Rattle.partitions.proofs.HomeWrites.{stock_within, stock_fits, stock_put}
use Rattle.partitions.proofs.partition.Partition.replace_stock.Goals as goal

pub index_mut-requires : goal.index_mut-requires
index_mut-requires c =
    let p = c.self.inside in
    let found = ap (λ (v : Part). home_stock_slot v.tables.scale v.home c.args.key) c.self.view_is ∙ sym c.slot_of_stock.ensures ∙ c.in_ok-slot.was in
    let below : c.in_ok-slot.slot < length p.rows.stocks.items = stock_within p.catalog p.home p.rows c.self.invariant c.args.key c.in_ok-slot.slot found in
    omega (arith, p.rows.stocks.ok.0)

pub invariant_of-self : goal.invariant_of-self
invariant_of-self c = stock_fits c.self.inside.catalog c.self.inside.home c.self.inside.rows c.self.invariant c.replace.new.dest c.in_ok-slot.slot

pub returns-clause-tables : goal.returns-clause-tables
returns-clause-tables c =
    let p = c.self.inside in
    let found = ap (λ (v : Part). home_stock_slot v.tables.scale v.home c.args.key) c.self.view_is ∙ sym c.slot_of_stock.ensures ∙ c.in_ok-slot.was in
    ap (λ (row : Stock). part p.catalog p.home (record p.rows { stocks = with_item p.rows.stocks c.in_ok-slot.slot row })) c.replace.ensures.after
    ∙ stock_put p.catalog p.home p.rows c.self.invariant c.args.key c.args.row c.in_ok-slot.slot found
    ∙ ap (λ (v : Part). record v { tables = record v.tables { stocks = map.insert v.tables.stocks c.args.key c.args.row } }) c.self.view_is

pub returns-clause-was : goal.returns-clause-was
returns-clause-was c =
    let p = c.self.inside in
    let scale = p.catalog.scale in
    let items = p.rows.stocks.items in
    let slot = c.in_ok-slot.slot in
    let found = ap (λ (v : Part). home_stock_slot v.tables.scale v.home c.args.key) c.self.view_is ∙ sym c.slot_of_stock.ensures ∙ c.in_ok-slot.was in
    ap Some (c.replace.ensures.value ∙ c.index_mut.ensures.value)
    ∙ sym (slice_get-get_or items slot c.index_mut.result.now (stock_within p.catalog p.home p.rows c.self.invariant c.args.key slot found))
    ∙ sym (read_slot stocks_total stocks_exact (stock_keys_of scale p.home) items c.args.key (home_stock_slot scale p.home c.args.key) (home_stock_slot scale p.home c.args.key) slot (stock_place scale p.home c.args.key) refl found)
    ∙ ap (λ (v : Part). map.get v.tables.stocks c.args.key) c.self.view_is
