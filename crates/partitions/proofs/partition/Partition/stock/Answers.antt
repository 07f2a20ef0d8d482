use Rattle.std.proofs.Common.{refl, sym, ap, ◌∙◌}
use Rattle.std.specs.FinMap as map
use Rattle.schema.proofs.KeyOrders.{stocks_total, stocks_exact}
use Rattle.schema.proofs.RowReads.{copied_item, read_slot}
use Rattle.partitions.specs.Parts.{Part}
use Rattle.partitions.specs.Partitions.{stock_keys_of}
use Rattle.partitions.specs.Slots.{home_stock_slot}
use Rattle.partitions.proofs.HomePlaces.{stock_place}
use Rattle.partitions.proofs.partition.Partition.stock.Goals as goal

pub returns : goal.returns
returns c =
    let p = c.self.inside in
    let scale = p.catalog.scale in
    let items = p.rows.stocks.items in
    let slot = c.in_ok-slot_of_stock.field-0 in
    let found = ap (λ (v : Part). home_stock_slot v.tables.scale v.home c.args.key) c.self.view_is ∙ sym c.slot_of_stock.ensures ∙ c.in_ok-slot_of_stock.was in
    copied_item items c.deref.result.now c.deref.ensures.value slot c.get.result c.get.ensures.lookup
    ∙ sym (read_slot stocks_total stocks_exact (stock_keys_of scale p.home) items c.args.key (home_stock_slot scale p.home c.args.key) (home_stock_slot scale p.home c.args.key) slot (stock_place scale p.home c.args.key) refl found)
    ∙ ap (λ (v : Part). map.get v.tables.stocks c.args.key) c.self.view_is
