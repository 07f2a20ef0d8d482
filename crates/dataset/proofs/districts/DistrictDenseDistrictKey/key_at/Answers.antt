use Rattle.std.proofs.Common.{◌≡◌, ℕ, ◌+◌, ◌*◌, ◌/◌, ◌%◌, ◌<◌, Some, ap, ◌∙◌, arith}
use Rattle.std.specs.List.{slice_get}
use Rattle.schema.specs.Scale.{warehouse_ids, district_key, district_keys}
use Rattle.schema.proofs.ScalePlaces.{length-district_keys}
use Rattle.dataset.proofs.Keys.{get-range, get-grid}
use Rattle.dataset.proofs.districts.DistrictDenseDistrictKey.key_at.Goals as goal

pub overflow_cast-result : goal.overflow_cast-result
overflow_cast-result c = omega (arith, length-district_keys c.args._scale)

pub overflow_add-result : goal.overflow_add-result
overflow_add-result c = omega (arith, length-district_keys c.args._scale)

pub returns : goal.returns
returns c =
    let scale = c.args._scale in
    let n = c.args.place in
    let below : n / 10 < scale.warehouses = omega (arith, length-district_keys scale) in
    let inside : n % 10 < 10 = omega arith in
    let at : n ≡ n / 10 * 10 + n % 10 = omega arith in
    let from_one = λ (m : ℕ). let e : 1 + m ≡ m + 1 = omega arith in e in
    ap (slice_get (district_keys scale)) at
    ∙ get-grid district_key 10 (warehouse_ids scale) (n / 10) (n % 10) (1 + n / 10) (get-range 1 scale.warehouses (n / 10) below) inside
    ∙ ap (λ w. Some (district_key w (1 + n % 10))) (from_one (n / 10)) ∙ ap (λ d. Some (district_key (n / 10 + 1) d)) (from_one (n % 10))
