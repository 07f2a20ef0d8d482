-- The actions of a Stock-Level, together, are the Stock-Level.
use Rattle.std.specs.Prelude.{ℕ, List, ◌∷◌}
use Rattle.schema.specs.Database.{Database}
use Rattle.requests.specs.declared.stock_level.StockLevel.{StockLevel}
use Rattle.requests.specs.declared.request.Request.TheVariants as request
use Rattle.requests.specs.declared.reply.Reply.TheVariants as reply
use Rattle.requests.specs.declared.reply.Shown.TheVariants as kind
use Rattle.tickets.specs.Claims.{ClaimView}
use Rattle.commit_log.specs.Claimed.{IsCarriedOut}
use Rattle.transactions.specs.StockLevel.{AreItemsFound, IsLowFound, IsNextFound, reply_counted}

-- If the district's next number was read, then the items of the orders before it, and then how many of these are low, the
-- Stock-Level was carried out under these claims, with that count as its reply.
abbrev pub StockLevelsAreCarriedOut : Type 0
StockLevelsAreCarriedOut =
    (opening : Database) (s : StockLevel) (next : ℕ) (items : List ℕ) (count : ℕ) (district orders : ClaimView) (stock : List ClaimView)
    → IsNextFound s.home next district → AreItemsFound s.home next items orders → IsLowFound s items count stock
    → IsCarriedOut opening (request.StockLevel s) (district ∷ orders ∷ stock) (reply.Done (kind.StockLevel (reply_counted count)))
