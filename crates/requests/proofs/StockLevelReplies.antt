-- The comparison of Stock-Level's replies is exact.
use Rattle.std.proofs.Common.{rules, ◌≡◌}
use Rattle.std.specs.Bool.{Decides}
use Rattle.requests.specs.declared.stock_level.StockLevelReply.{StockLevelReply}
use Rattle.requests.specs.contracts.stock_level.StockLevelReplyPartialEq.TheImpl as reply

pub stock_level_decides : (a b : StockLevelReply) → Decides (reply.ghosts.eq a b) (a ≡ b)
stock_level_decides a b = Prim.search rules
