use Rattle.std.proofs.Common.{refl, arith}
use Rattle.std.proofs.lemmas.List.Elements.{All-same, All-push}
use Rattle.rows.specs.declared.keys.OrderKey.{OrderKey}
use Rattle.rows.specs.declared.records.Order.{Order}
use Rattle.population.specs.Rows.{IsOpeningOrder}
use Rattle.population.proofs.Lines.{lines_of_earlier}
use Rattle.population.proofs.Books.{new_before, new_keys_more, line_keys_more}
use Rattle.population.proofs.order_book.OrderBook.add_order.Goals as goal

pub add_if_new-requires-clause-earlier : goal.add_if_new-requires-clause-earlier
add_if_new-requires-clause-earlier c =
    new_before c.args.scale c.args.key c.args.self.now.orders.entries c.args.self.now.new_orders.entries c.requires.earlier c.requires.book.new_keys

pub add_lines-requires-clause-before : goal.add_lines-requires-clause-before
add_lines-requires-clause-before c =
    lines_of_earlier c.args.key c.args.self.now.orders.entries c.args.self.now.lines c.requires.earlier c.requires.book.line_keys

pub returns-clause-book : goal.returns-clause-book
returns-clause-book c =
    let book = c.args.self.now in
    let key = c.args.key in
    let P = λ (e : OrderKey × Order). IsOpeningOrder c.args.scale c.args.now e.0 e.1 in
    record {
      new_keys = new_keys_more key _ book.orders.entries c.append.new.map.entries c.in_ok-append.ensures.added c.args.scale book.new_orders.entries c.add_if_new.new.new_orders.entries c.requires.book.new_keys c.in_ok-add_if_new.ensures.keys;
      line_keys = line_keys_more key _ book.orders.entries c.append.new.map.entries c.in_ok-append.ensures.added book.lines c.add_lines.new.lines c.requires.book.line_keys c.in_ok-add_lines.ensures.keys;
      order_rows = All-same P _ _ c.in_ok-append.ensures.added (All-push P book.orders.entries _ c.requires.book.order_rows (record { number = c.requires.number; customer = c.requires.customer; carrier = c.carrier-carrier_id.ensures.none; carrier_id = c.carrier-carrier_id.ensures.number; entry_d = refl; some_lines = omega (arith, c.random.ensures.low); few_lines = omega (arith, c.random.ensures.high); all_local = refl }));
      line_rows = c.in_ok-add_lines.ensures.rows;
      orders_ordered = c.append.ensures.ordered;
      new_orders_ordered = c.add_if_new.ensures.ordered;
      lines_ordered = c.in_ok-add_lines.ensures.ordered;
    }
