-- Rows of STOCK that are put one after another.
use Rattle.std.proofs.Common.{◌≡◌, ◌%◌, List, [], ◌∷◌, ◌++◌, IsTrue, refl, ap}
use Rattle.std.specs.FinMap as table
use Rattle.std.proofs.lemmas.List.Elements.{All-from_recursion, recursion_from_All}
use Rattle.rows.specs.declared.keys.StockKey.{StockKey}
use Rattle.rows.specs.declared.records.Stock.{Stock}
use Rattle.rows.specs.declared.limits.TheConstants.{STOCK_GROUPS}
use Rattle.schema.proofs.KeyOrders.{stocks_total, stocks_exact}
use Rattle.schema.proofs.TableWrites.{still_there}
use Rattle.requests.specs.declared.group.Group.TheVariants as g
use Rattle.tickets.specs.Claims.{ClaimView}
use Rattle.machine.specs.NewOrder.{Stocks}
use Rattle.transactions.specs.declared.new_order.stock.StockPut.{StockPut}
use Rattle.transactions.specs.NewOrderStock.{AreOfGroup, puts_done}
use Rattle.transactions.proofs.EachOne.{each_of_first, each_of_second, each_weaker}

-- the last of them is put first
pub puts_last : (puts : List StockPut) (put : StockPut) (stocks : Stocks) → puts_done (puts ++ put ∷ []) stocks ≡ puts_done puts (table.insert stocks put.key put.row)
puts_last [] put stocks = refl
puts_last (first ∷ puts) put stocks = ap (λ s. table.insert s first.key first.row) (puts_last puts put stocks)

IsOfGroup : ClaimView → Stocks → StockPut → Type 0
IsOfGroup claim stocks put = (claim.group ≡ g.Stock put.key.w_id (put.key.i_id % STOCK_GROUPS)) × IsTrue (table.contains_key stocks put.key)

-- once it is, the others can be
pub others_of_group : (claim : ClaimView) (stocks : Stocks) (key : StockKey) (row : Stock) (puts : List StockPut) (put : StockPut) → AreOfGroup claim stocks (puts ++ put ∷ [])
    → AreOfGroup claim (table.insert stocks key row) puts
unfolding IsOfGroup
others_of_group claim stocks key row puts put all =
    let those = each_of_first (IsOfGroup claim stocks) puts (put ∷ []) (recursion_from_All (IsOfGroup claim stocks) (puts ++ put ∷ []) all) in
    All-from_recursion (IsOfGroup claim (table.insert stocks key row)) puts
    (each_weaker (IsOfGroup claim stocks) (IsOfGroup claim (table.insert stocks key row)) (λ other is. (is.0, still_there stocks_total stocks_exact stocks key row other.key is.1)) puts those)

pub last_of_group : (claim : ClaimView) (stocks : Stocks) (puts : List StockPut) (put : StockPut) → AreOfGroup claim stocks (puts ++ put ∷ [])
    → claim.group ≡ g.Stock put.key.w_id (put.key.i_id % STOCK_GROUPS)
unfolding IsOfGroup
last_of_group claim stocks puts put all =
    (each_of_second (IsOfGroup claim stocks) puts (put ∷ []) (recursion_from_All (IsOfGroup claim stocks) (puts ++ put ∷ []) all)).0.0
