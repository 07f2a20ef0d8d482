use Rattle.transactions.proofs.StockLevelCarriedOut as law
use Rattle.transactions.proofs.stock_level.stock_levels_are_carried_out.Goals as goal

pub returns : goal.returns
returns c = law.stock_levels_are_carried_out
