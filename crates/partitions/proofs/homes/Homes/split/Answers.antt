use Rattle.std.proofs.Common.{◌≡◌, ◌-◌, length, slice_index_or, ap, ◌∙◌, arith}
use Rattle.partitions.proofs.LastFirst.{reversed_stand}
use Rattle.partitions.proofs.homes.Homes.split.Goals as goal

pub returns-clause-homes : goal.returns-clause-homes
returns-clause-homes c =
    let rows = c.args.rows in
    let long : length rows.warehouses.items ≡ c.args.scale.warehouses = c.requires.counts.warehouses in
    let also : length c.reverse.new.self.items ≡ c.args.scale.warehouses = omega (arith, c.reverse.ensures.len, c.reverse.new.self.ok.0, rows.warehouses.ok.0) in
    let count : rows.warehouses.len ≡ c.args.scale.warehouses = omega (arith, rows.warehouses.ok.0) in
    record {
      warehouses = reversed_stand c.args.scale.warehouses rows.warehouses.items c.reverse.new.self.items long also
          (λ k d l. c.reverse.ensures.by_index k d (omega arith) ∙ ap (λ n. slice_index_or rows.warehouses.items (n - 1 - k) d) count);
      districts = c.in_ok-split.ensures;
      stocks = c.in_ok-split-2.ensures;
      customers = c.in_ok-split-3.ensures;
      histories = c.in_ok-split-4.ensures;
      orders = c.in_ok-split_by_warehouse.ensures;
      new_orders = c.in_ok-split_by_warehouse-2.ensures;
      lines = c.in_ok-split_by_warehouse-3.ensures;
    }
