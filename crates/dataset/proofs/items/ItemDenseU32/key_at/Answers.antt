use Rattle.std.proofs.Common.{◌≡◌, ◌+◌, ◌<◌, Some, ap, ◌∙◌, arith}
use Rattle.schema.proofs.ScalePlaces.{length-item_ids}
use Rattle.dataset.proofs.Keys.{get-range}
use Rattle.dataset.proofs.items.ItemDenseU32.key_at.Goals as goal

pub overflow_cast-result : goal.overflow_cast-result
overflow_cast-result c = omega (arith, length-item_ids c.args._scale)

pub overflow_add-result : goal.overflow_add-result
overflow_add-result c = omega (arith, length-item_ids c.args._scale)

pub returns : goal.returns
returns c =
    let n = c.args.place in
    let below : n < c.args._scale.items = omega (arith, length-item_ids c.args._scale) in
    get-range 1 c.args._scale.items n below ∙ ap Some (let e : 1 + n ≡ n + 1 = omega arith in e)
