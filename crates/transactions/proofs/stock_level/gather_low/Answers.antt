use Rattle.transactions.proofs.StockLevelSteps.{low_follows, low_found}
use Rattle.transactions.proofs.stock_level.gather_low.Goals as goal

pub low_found-count-requires : goal.low_found-count-requires
low_found-count-requires c = low_found c.requires.0 c.args.asked c.args.items c.args.found.items c.requires.1 c.requires.2

pub returns : goal.returns
returns c = low_follows c.args.asked c.args.items c.args.found.items c.low_found-count.result c.low_found-count.ensures
