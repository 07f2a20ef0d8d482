use Rattle.rows.proofs.Restocks.{one_restock}
use Rattle.rows.proofs.stock_rules.restocked_is_the_one.Goals as goal

pub returns : goal.returns
returns c = one_restock
