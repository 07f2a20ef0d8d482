use Rattle.std.proofs.Common.{◌≡◌, ◌<◌, ℕ, zero, suc, List, [], ◌∷◌, length, get_or, map, refl, ap, subst, ◌∙◌, arith}
use Rattle.std.proofs.lemmas.Iterator.Adapters.{YieldsList-from_vec}
use Rattle.std.proofs.lemmas.Iterator.Consumers.{YieldsList-turn}
use Rattle.transactions.specs.declared.new_order.StockTaken.{StockTaken}
use Rattle.transactions.specs.declared.new_order.work.Found.TheVariants.{Stock}
use Rattle.transactions.specs.declared.work.Found.{Found}
use Rattle.transactions.specs.declared.work.Found.TheVariants.{NewOrder}
use Rattle.transactions.proofs.new_order.phases.stocks_found.Goals as goal

-- each of them is one of a group's
one_of : (stocks : List StockTaken) (k : ℕ) (d : Found) → k < length (map (λ one. NewOrder (Stock one)) stocks) → (stock : StockTaken) × (get_or (map (λ one. NewOrder (Stock one)) stocks) k d ≡ NewOrder (Stock stock))
one_of [] k d below = absurd (omega (arith, below))
one_of (stock ∷ stocks) zero d below = (stock, refl)
one_of (stock ∷ stocks) (suc k) d below = one_of stocks k d (omega (arith, below))

pub stock_of_found-requires : goal.stock_of_found-requires
stock_of_found-requires c =
    let given = c.into_iter-one-iterator.ensures.into_iter_gives in
    let all = c.args.found in
    let turn = YieldsList-turn (YieldsList-from_vec {s = c.into_iter-one-iterator.result} all.items given.0 (omega (arith, given.1, all.ok.0))) c.loop-one.yielded c.loop-one.one-iterator c.loop-one.yielded_by c.next.result c.next.new.self c.in-Some.one c.in-Some.is c.next.ensures.steps in
    let are = c.requires.1 in
    let one = one_of c.requires.0 (length c.loop-one.yielded) c.in-Some.one (subst (λ items. length c.loop-one.yielded < length items) are turn.0) in
    (one.0, turn.1 ∙ ap (λ items. get_or items (length c.loop-one.yielded) c.in-Some.one) are ∙ one.1)
