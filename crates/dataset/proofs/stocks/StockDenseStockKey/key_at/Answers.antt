use Rattle.std.proofs.Common.{◌≡◌, ℕ, ◌+◌, ◌*◌, ◌/◌, ◌%◌, ◌<◌, Some, ap, ◌∙◌, arith}
use Rattle.std.specs.List.{slice_get}
use Rattle.schema.specs.Scale.{warehouse_ids, stock_key, stock_keys}
use Rattle.schema.proofs.ScalePlaces.{length-stock_keys}
use Rattle.dataset.proofs.Keys.{get-range, get-grid, block_below}
use Rattle.dataset.proofs.stocks.StockDenseStockKey.key_at.Goals as goal

pub overflow_cast-result : goal.overflow_cast-result
overflow_cast-result c =
    let scale = c.args.scale in
    let many : c.args.place < scale.warehouses * scale.items = omega (arith, length-stock_keys scale) in
    let some : 0 < scale.items = omega (arith, scale.limits.some_item) in
    let below = block_below c.args.place scale.warehouses scale.items some many in
    omega (arith, scale.limits.most_warehouses)

pub overflow_add-result : goal.overflow_add-result
overflow_add-result c =
    let scale = c.args.scale in
    let many : c.args.place < scale.warehouses * scale.items = omega (arith, length-stock_keys scale) in
    let some : 0 < scale.items = omega (arith, scale.limits.some_item) in
    let below = block_below c.args.place scale.warehouses scale.items some many in
    omega (arith, scale.limits.most_warehouses)

pub returns : goal.returns
returns c =
    let scale = c.args.scale in
    let n = c.args.place in
    let items = scale.items in
    let many : n < scale.warehouses * items = omega (arith, length-stock_keys scale) in
    let some : 0 < items = omega (arith, scale.limits.some_item) in
    let inside : n % items < items = omega arith in
    let at : n ≡ n / items * items + n % items = grind arith in
    let from_one = λ (m : ℕ). let e : 1 + m ≡ m + 1 = omega arith in e in
    ap (slice_get (stock_keys scale)) at
    ∙ get-grid stock_key items (warehouse_ids scale) (n / items) (n % items) (1 + n / items) (get-range 1 scale.warehouses (n / items) (block_below n scale.warehouses items some many)) inside
    ∙ ap (λ w. Some (stock_key w (1 + n % items))) (from_one (n / items)) ∙ ap (λ i. Some (stock_key (n / items + 1) i)) (from_one (n % items))
