use Rattle.schema.proofs.KeyOrders.{orders_total}
use Rattle.schema.proofs.EntriesAdded.{adds_rows}
use Rattle.std.proofs.Common.{refl}
use Rattle.partitions.proofs.appends.append_home.Goals as goal

pub returns : goal.returns
returns c =
    let rows = c.args.rows.now in
    let home = c.args.home in
    record {
      items = refl;
      warehouses = c.in_ok-push.ensures.items;
      districts = c.in_ok-append.ensures;
      stocks = c.in_ok-append-2.ensures;
      customers = c.in_ok-append-3.ensures;
      histories = c.in_ok-append-4.ensures;
      orders = adds_rows orders_total rows.orders.entries home.orders.entries c.append-5.new.self.entries c.append-5.ensures.other_was_ordered c.in_ok-append-5.ensures.inserts_all.0;
      new_orders = c.in_ok-append_to.ensures;
      lines = c.in_ok-append-6.ensures;
    }
