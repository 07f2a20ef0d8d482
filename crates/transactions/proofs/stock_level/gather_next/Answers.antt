use Rattle.transactions.proofs.StockLevelSteps.{next_follows, next_found}
use Rattle.transactions.proofs.stock_level.gather_next.Goals as goal

pub next_found-next-requires : goal.next_found-next-requires
next_found-next-requires c = next_found c.requires.0 c.args.asked c.args.found.items c.requires.1 c.requires.2

pub returns : goal.returns
returns c = next_follows c.args.asked c.args.found.items c.next_found-next.result c.next_found-next.ensures
