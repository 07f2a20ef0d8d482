use Rattle.std.proofs.Common.{◌≡◌, ◌+◌, ◌*◌, [], length, ap, subst, ◌∙◌, arith}
use Rattle.std.proofs.lemmas.List.{length_push}
use Rattle.std.proofs.lemmas.List.Elements.{All-same, All-push, All-nil}
use Rattle.number_draws.specs.Draws.{random_of}
use Rattle.population.specs.Rows.{IsOpeningWarehouse, IsOpeningStock}
use Rattle.population.specs.Filled.{AreFilled}
use Rattle.population.proofs.initial.populate.Goals as goal

pub loop-place-init : goal.loop-place-init
loop-place-init c = record {
  warehouses = ap length c.new-warehouses.ensures.items;
  warehouse_rows = All-same (IsOpeningWarehouse c.args.scale) _ [] c.new-warehouses.ensures.items (All-nil (IsOpeningWarehouse c.args.scale));
  stocks = ap length c.new-stocks.ensures.items ∙ (let e : 0 ≡ 0 * c.args.scale.items = grind arith in e);
  stock_rows = All-same IsOpeningStock _ [] c.new-stocks.ensures.items (All-nil IsOpeningStock);
  filled = c.new-districts.ensures c.args.scale c.args.now;
}

pub loop-place-preserved : goal.loop-place-preserved
loop-place-preserved c =
    let scale = c.args.scale in
    let place = c.loop-place.place in
    let had = c.loop-place.invariant in
    let warehouses = c.loop-place.warehouses.items in
    record {
      warehouses = ap length c.in_ok-push.ensures.items ∙ length_push warehouses c.warehouse.result ∙ ap (λ n. n + 1) had.warehouses;
      warehouse_rows = All-same (IsOpeningWarehouse scale) _ _ c.in_ok-push.ensures.items (All-push (IsOpeningWarehouse scale) warehouses c.warehouse.result had.warehouse_rows c.warehouse.ensures);
      stocks = c.in_ok-add_stocks.ensures.count ∙ ap (λ n. n + scale.items) had.stocks ∙ (let e : place * scale.items + scale.items ≡ (place + 1) * scale.items = grind arith in e);
      stock_rows = c.in_ok-add_stocks.ensures.rows had.stock_rows;
      filled = c.in_ok-add_warehouse.ensures;
    }

pub tables-requires : goal.tables-requires
tables-requires c =
    let scale = c.args.scale in
    let all : c.loop-place.place ≡ scale.warehouses = omega arith in (
      c.args.seed,
      c.args.now,
      record {
        items = c.in_ok-items.ensures.count;
        item_rows = c.in_ok-items.ensures.rows;
        first_item = λ row found. c.in_ok-items.ensures.first row found ∙ ap (random_of 1 10000) c.new-draws.ensures;
        warehouses = c.loop-place.invariant.warehouses ∙ all;
        warehouse_rows = c.loop-place.invariant.warehouse_rows;
        stocks = c.loop-place.invariant.stocks ∙ ap (λ n. n * scale.items) all;
        stock_rows = c.loop-place.invariant.stock_rows;
        filled = subst (λ n. AreFilled scale c.args.now (n * 10) c.loop-place.districts) all c.loop-place.invariant.filled;
      },
    )

pub returns : goal.returns
returns c =
    let scale = c.args.scale in
    let all : c.loop-place.place ≡ scale.warehouses = omega arith in
    c.tables.ensures c.args.seed c.args.now (record {
      items = c.in_ok-items.ensures.count;
      item_rows = c.in_ok-items.ensures.rows;
      first_item = λ row found. c.in_ok-items.ensures.first row found ∙ ap (random_of 1 10000) c.new-draws.ensures;
      warehouses = c.loop-place.invariant.warehouses ∙ all;
      warehouse_rows = c.loop-place.invariant.warehouse_rows;
      stocks = c.loop-place.invariant.stocks ∙ ap (λ n. n * scale.items) all;
      stock_rows = c.loop-place.invariant.stock_rows;
      filled = subst (λ n. AreFilled scale c.args.now (n * 10) c.loop-place.districts) all c.loop-place.invariant.filled;
    })
