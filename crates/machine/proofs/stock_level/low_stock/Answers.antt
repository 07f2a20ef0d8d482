use Rattle.std.proofs.Common.{eqb, ap, ◌∙◌, arith, count_by}
use Rattle.std.proofs.lemmas.List.Filters.{dedup_is}
use Rattle.std.proofs.lemmas.List.Sums.{count_by-le-length}
use Rattle.machine.specs.StockLevel as spec
use Rattle.machine.proofs.LowStock.{short_counted}
use Rattle.machine.proofs.stock_level.low_stock.Goals as goal

pub returns-clause-value : goal.returns-clause-value
returns-clause-value g c =
    c.count_short.ensures ∙ ap (count_by (spec.is_short (g.T.Rows.tables c.args.rows.now) c.args.warehouse c.args.threshold)) c.deref.ensures.value
    ∙ short_counted (g.T.Rows.tables c.args.rows.now) c.args.warehouse c.args.threshold c.args.items.items c.sort_unstable.new.self.items c.dedup.new.self.items
    c.sort_unstable.ensures.permutation c.sort_unstable.ensures.sorted (dedup_is eqb c.sort_unstable.new.self.items c.dedup.new.self.items c.dedup.ensures.filtered)

pub returns-clause-few : goal.returns-clause-few
returns-clause-few g c =
    let short = count_by-le-length (spec.is_short (g.T.Rows.tables c.args.rows.now) c.args.warehouse c.args.threshold) c.deref.result.now in
    let counted = c.count_short.ensures in
    omega (arith, short, counted, c.deref.ensures.len, c.dedup.ensures.bound, c.sort_unstable.ensures.len)
