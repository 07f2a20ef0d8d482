use Rattle.std.proofs.Common.{sym, ap, ◌∙◌}
use Rattle.schema.proofs.KeyOrders.{stocks_total, stocks_exact}
use Rattle.std.specs.FinMap as map
use Rattle.schema.specs.Scale.{stock_keys, stock_slot}
use Rattle.schema.proofs.ScalePlaces.{stock_place}
use Rattle.schema.proofs.RowReads.{copied_item, read_slot}
use Rattle.schema.proofs.tables.Tables.stock.Goals as goal

pub returns : goal.returns
returns c =
    let t = c.self.inside in
    let items = t.rows.stocks.items in
    copied_item items c.deref.result.now c.deref.ensures.value c.in_ok-stock_slot.field-0 c.get.result c.get.ensures.lookup
    ∙ sym (read_slot stocks_total stocks_exact (stock_keys t.scale) items c.args.key (stock_slot t.scale c.args.key) c.stock_slot.result c.in_ok-stock_slot.field-0 (stock_place t.scale c.args.key) c.stock_slot.ensures c.in_ok-stock_slot.was)
    ∙ ap (λ m. map.get m.stocks c.args.key) c.self.view_is
