use Rattle.std.proofs.Common.{◌∷◌, length, map, sym, subst, ◌∙◌}
use Rattle.transactions.specs.NewOrder.{all_sold, taking}
use Rattle.transactions.specs.NewOrderStock.{AreNumbered}
use Rattle.transactions.proofs.Done.{first_done}
use Rattle.transactions.proofs.NewOrderKnown.{all_numbered, order_within}
use Rattle.transactions.proofs.NewOrderSteps.{fault_follows, same_stocks, stock_follows, stocks_done}
use Rattle.transactions.proofs.new_order.phases.gather_stock.Goals as goal

pub stocks_found-requires : goal.stocks_found-requires
stocks_found-requires c =
    let given = c.args.given in
    let all = stocks_done c.requires.0 given.order (given.first ∷ given.others) c.args.found.items c.requires.1 c.requires.2 in
    (all.taken, all.found_is)

-- an action was done for an order that is accepted
pub decide-requires-clause-within : goal.decide-requires-clause-within
decide-requires-clause-within c =
    let given = c.args.given in
    let one = first_done c.requires.0 (taking given.order given.first) (map (taking given.order) given.others) c.args.found.items c.requires.1 c.requires.2 in
    order_within c.requires.0.scale given.order one.done.2.6

pub decide-requires-clause-numbers : goal.decide-requires-clause-numbers
decide-requires-clause-numbers c =
    let given = c.args.given in
    let all = stocks_done c.requires.0 given.order (given.first ∷ given.others) c.args.found.items c.requires.1 c.requires.2 in
    let same = same_stocks all.taken c.in_ok-stocks.stocks.items (sym all.found_is ∙ c.in_ok-stocks.ensures) in
    subst (λ those. AreNumbered (length given.order.lines) (all_sold those)) same
    (all_numbered c.requires.0 given.order (given.first ∷ given.others) all.taken all.stocks all.are)

pub returns-in-Ok : goal.returns-in-Ok
returns-in-Ok c =
    stock_follows c.args.given c.args.found.items c.in_ok-stocks.stocks.items c.in_ok-stocks.ensures c.in-Ok.placed (sym c.in_ok-placed.ensures ∙ c.in-Ok.is)

pub returns-in-Err : goal.returns-in-Err
returns-in-Err c =
    fault_follows c.args.given c.args.found.items c.in_ok-stocks.stocks.items c.in_ok-stocks.ensures c.in-Err.fault (sym c.in_ok-placed.ensures ∙ c.in-Err.is)
