use Rattle.std.proofs.Common.{◌≡◌, ◌++◌, take}
use Rattle.population.specs.Book.{IsBookOf, all_owned, owned_by}
use Rattle.population.proofs.order_book.OrderBook.add_orders.Given as goal

abbrev pub invariant-loop-place : goal.invariant-loop-place
invariant-loop-place l = record {
  owned : all_owned l.self ≡ all_owned l.fn.self ++ owned_by l.home 1 (take l.place l.owners);
  book : IsBookOf l.scale l.now l.self;
}
