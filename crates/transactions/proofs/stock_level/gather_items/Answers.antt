use Rattle.transactions.proofs.StockLevelSteps.{items_follow, items_found}
use Rattle.transactions.proofs.stock_level.gather_items.Goals as goal

pub items_found-items-requires : goal.items_found-items-requires
items_found-items-requires c = items_found c.requires.0 c.args.asked c.args.next c.args.found.items c.requires.1 c.requires.2

pub returns : goal.returns
returns c = items_follow c.args.asked c.args.next c.args.found.items c.items_found-items.result c.items_found-items.ensures
