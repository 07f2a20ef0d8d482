use Rattle.std.proofs.Common.{rules}
use Rattle.std.proofs.lemmas.List.Elements.{All-same, All-push}
use Rattle.population.specs.Rows.{IsOpeningStock}
use Rattle.population.proofs.warehouses.add_stocks.Goals as goal

pub loop-preserved : goal.loop-preserved
loop-preserved c = record {
  count = search rules;
  rows = λ had. All-same IsOpeningStock _ _ c.in_ok-push.ensures.items (All-push IsOpeningStock c.loop.stocks.items c.stock.result (c.loop.invariant.rows had) c.stock.ensures);
}
