use Rattle.std.proofs.Common.{◌∙◌, arith}
use Rattle.partitions.proofs.LastFirst.{popped}
use Rattle.partitions.proofs.homes.Homes.take_first.Goals as goal

pub returns : goal.returns
returns c = λ scale rows place h.
    let old = c.args.self.now in
    let warehouses = popped place scale.warehouses old.warehouses.items c.pop.new.self.items old.warehouses.len c.pop.result c.unwrap.result (omega (arith, old.warehouses.ok.0)) c.requires.warehouses h.warehouses c.pop.ensures.value c.unwrap.ensures c.pop.ensures.rest in
    let districts = popped place scale.warehouses old.districts.items c.pop-2.new.self.items old.districts.len c.pop-2.result c.unwrap-2.result (omega (arith, old.districts.ok.0)) c.requires.districts h.districts c.pop-2.ensures.value c.unwrap-2.ensures c.pop-2.ensures.rest in
    let stocks = popped place scale.warehouses old.stocks.items c.pop-3.new.self.items old.stocks.len c.pop-3.result c.unwrap-3.result (omega (arith, old.stocks.ok.0)) c.requires.stocks h.stocks c.pop-3.ensures.value c.unwrap-3.ensures c.pop-3.ensures.rest in
    let customers = popped place scale.warehouses old.customers.items c.pop-4.new.self.items old.customers.len c.pop-4.result c.unwrap-4.result (omega (arith, old.customers.ok.0)) c.requires.customers h.customers c.pop-4.ensures.value c.unwrap-4.ensures c.pop-4.ensures.rest in
    let histories = popped place scale.warehouses old.histories.items c.pop-5.new.self.items old.histories.len c.pop-5.result c.unwrap-5.result (omega (arith, old.histories.ok.0)) c.requires.histories h.histories c.pop-5.ensures.value c.unwrap-5.ensures c.pop-5.ensures.rest in
    let orders = popped place scale.warehouses old.orders.items c.pop-6.new.self.items old.orders.len c.pop-6.result c.unwrap-6.result (omega (arith, old.orders.ok.0)) c.requires.orders h.orders c.pop-6.ensures.value c.unwrap-6.ensures c.pop-6.ensures.rest in
    let new_orders = popped place scale.warehouses old.new_orders.items c.pop-7.new.self.items old.new_orders.len c.pop-7.result c.unwrap-7.result (omega (arith, old.new_orders.ok.0)) c.requires.new_orders h.new_orders c.pop-7.ensures.value c.unwrap-7.ensures c.pop-7.ensures.rest in
    let lines = popped place scale.warehouses old.lines.items c.pop-8.new.self.items old.lines.len c.pop-8.result c.unwrap-8.result (omega (arith, old.lines.ok.0)) c.requires.lines h.lines c.pop-8.ensures.value c.unwrap-8.ensures c.pop-8.ensures.rest in (
      record { warehouse = warehouses.0; districts = districts.0; stocks = stocks.0; customers = customers.0; histories = histories.0; orders = orders.0; new_orders = c.new.ensures.entries ∙ new_orders.0; lines = lines.0 },
      record { warehouses = warehouses.1; districts = districts.1; stocks = stocks.1; customers = customers.1; histories = histories.1; orders = orders.1; new_orders = new_orders.1; lines = lines.1 },
    )
