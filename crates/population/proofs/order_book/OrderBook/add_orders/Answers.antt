use Rattle.std.proofs.Common.{◌+◌, ◌∷◌, List, [], ◌++◌, take, get_or, ap, ◌∙◌, arith}
use Rattle.std.proofs.lemmas.List.{length-take-le}
use Rattle.population.specs.Keys.{order_key}
use Rattle.population.specs.Book.{Owned, all_owned}
use Rattle.population.proofs.Owned.{earlier_orders, one_owned_more}
use Rattle.population.proofs.order_book.OrderBook.add_orders.Goals as goal

pub add_order-requires-clause-earlier : goal.add_order-requires-clause-earlier
add_order-requires-clause-earlier c =
    let place = c.loop-place.place in
    earlier_orders c.args.home c.args.self.now.orders.entries c.loop-place.self.orders.entries (take place c.args.owners.now) (place + 1) c.requires.earlier c.loop-place.invariant.owned (omega (arith, length-take-le place c.args.owners.now (omega arith)))

pub loop-place-preserved : goal.loop-place-preserved
loop-place-preserved c =
    let home = c.args.home in
    let owners = c.args.owners.now in
    let place = c.loop-place.place in
    record {
      owned = c.in_ok-add_order.ensures.owned
          ∙ ap (λ (l : List Owned). l ++ (order_key home (place + 1), get_or owners place 0) ∷ []) c.loop-place.invariant.owned
          ∙ one_owned_more home (all_owned c.args.self.now) owners place 0 (omega arith);
      book = c.in_ok-add_order.ensures.book;
    }
