use Rattle.std.proofs.Common.{◌≡◌, ◌-◌, ◌≤◌, nat_le, nat_lt, sym, ap, ◌∙◌, arith}
use Rattle.std.specs.List.{filter}
use Rattle.partitions.proofs.LastFirst.{none_yet, pushed}
use Rattle.partitions.proofs.Filters.{all_up_to, first_left, last_split, others_left}
use Rattle.partitions.proofs.splits.split_by_warehouse.Goals as goal

pub loop-warehouse-init : goal.loop-warehouse-init
loop-warehouse-init g c =
    let entries = g.R.ByWarehouse.entries in
    let own = g.R.ByWarehouse.warehouse_of in
    record {
      low = c.requires.some;
      high = omega arith;
      split = none_yet c.args.warehouses _ c.in_ok-split.ensures.items;
      rest = sym (all_up_to own c.args.warehouses (entries c.args.rows) c.requires.within);
    }

pub loop-warehouse-preserved : goal.loop-warehouse-preserved
loop-warehouse-preserved g c =
    let own = g.R.ByWarehouse.warehouse_of in
    let rows = g.R.ByWarehouse.entries c.args.rows in
    let w = c.loop-warehouse.warehouse in
    let low : 1 ≤ w = c.loop-warehouse.invariant.low in
    let off = c.in_ok-split_off_from.ensures in
    record {
      low = omega (arith, c.loop-warehouse-test.true);
      high = omega (arith, c.loop-warehouse.invariant.high);
      split = pushed (w - 1) w c.args.warehouses _ _ _ (omega arith) c.in_ok-push.ensures.items c.loop-warehouse.invariant.split
          (off.from ∙ ap (filter (λ e. nat_le w (own e.0))) c.loop-warehouse.invariant.rest ∙ last_split own w rows low);
      rest = off.below ∙ ap (filter (λ e. nat_lt (own e.0) w)) c.loop-warehouse.invariant.rest ∙ others_left own w rows low;
    }

pub returns : goal.returns
returns g c =
    let own = g.R.ByWarehouse.warehouse_of in
    let rows = g.R.ByWarehouse.entries c.args.rows in
    let one : c.loop-warehouse.warehouse ≡ 1 = omega (arith, c.loop-warehouse-test.false, c.loop-warehouse.invariant.low) in
    pushed 0 c.loop-warehouse.warehouse c.args.warehouses _ _ _ one c.in_ok-push-2.ensures.items c.loop-warehouse.invariant.split
    (c.loop-warehouse.invariant.rest ∙ ap (λ n. filter (λ e. nat_le (own e.0) n) rows) one ∙ first_left own c.args.warehouses rows c.requires.within)
