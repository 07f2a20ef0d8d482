use Rattle.std.proofs.Common.{◌≡◌, ◌+◌, ◌*◌, ◌/◌, ◌%◌, ◌<◌, Some, ap, ◌∙◌, arith}
use Rattle.std.specs.List.{slice_get}
use Rattle.schema.specs.Scale.{district_keys, customer_key, customer_keys}
use Rattle.schema.proofs.ScalePlaces.{length-district_keys, length-customer_keys}
use Rattle.dataset.proofs.Keys.{get-grid, block_below}
use Rattle.dataset.proofs.customers.CustomerDenseCustomerKey.key_at.Goals as goal

pub key_at-home-requires : goal.key_at-home-requires
key_at-home-requires c =
    let scale = c.args.scale in
    let many : c.args.place < scale.warehouses * 10 * scale.customers = omega (arith, length-customer_keys scale) in
    let some : 0 < scale.customers = omega (arith, scale.limits.some_customer) in
    let below = block_below c.args.place (scale.warehouses * 10) scale.customers some many in
    omega (arith, length-district_keys scale)

pub returns : goal.returns
returns c =
    let scale = c.args.scale in
    let n = c.args.place in
    let customers = scale.customers in
    let home = c.key_at-home.result in
    let some : 0 < customers = omega (arith, scale.limits.some_customer) in
    let inside : n % customers < customers = omega arith in
    let at : n ≡ n / customers * customers + n % customers = grind arith in
    ap (slice_get (customer_keys scale)) at
    ∙ get-grid customer_key customers (district_keys scale) (n / customers) (n % customers) home c.key_at-home.ensures inside
    ∙ ap (λ k. Some (customer_key home k)) (let e : 1 + n % customers ≡ n % customers + 1 = omega arith in e)
