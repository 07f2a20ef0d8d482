use Rattle.std.proofs.Common.{◌≡◌, ℕ, ◌+◌, ◌<◌, [], ◌∷◌, ◌++◌, List, IfSome, is_some, length, get_or, slice_get, sym, ap, subst, ◌∙◌, arith}
use Rattle.std.specs.FinMap as map
use Rattle.std.proofs.lemmas.List.{length_push}
use Rattle.rows.specs.declared.keys.DistrictKey.{DistrictKey}
use Rattle.schema.specs.Scale.{customer_key}
use Rattle.indexes.specs.NameOrder.{IsNameRun, last_name, first_name}
use Rattle.indexes.proofs.DistrictEntries.{row_count}
use Rattle.indexes.proofs.Fits.{IsRunAt, run_of_tables, fits_by_places, runs_more}
use Rattle.indexes.proofs.name_index.NameIndex.build.Goals as goal

pub sorted-requires : goal.sorted-requires
sorted-requires g c =
    let r = c.args.rows.now in
    let t = g.T.Rows.tables r in
    let home = c.district_at.result in
    let rows = c.unwrap-customers.result.now in
    let read : (k : ℕ) → slice_get rows k ≡ map.get t.customers (customer_key home (k + 1)) =
    subst (λ r. IfSome r (λ rows. (k : ℕ) → slice_get rows.now k ≡ map.get t.customers (customer_key home (k + 1)))) c.unwrap-customers.ensures c.customers_of.ensures.rows in
    let count : length rows ≡ t.scale.customers = row_count (g.T.Rows.slot r) (g.T.Rows.districts r) t c.scale.ensures.rows home rows read (ap is_some c.district_at.ensures) in
    omega (arith, count, t.scale.limits.most_customers)

pub loop-slot-preserved : goal.loop-slot-preserved
loop-slot-preserved g c =
    let r = c.args.rows.now in
    let slot = g.T.Rows.slot r in
    let t = g.T.Rows.tables r in
    let place = c.loop-slot.slot in
    let run = c.in_ok-sorted.field-0 in
    let home = c.district_at.result in
    let rows = c.unwrap-customers.result.now in
    let here = c.scale.ensures.rows in
    let read : (k : ℕ) → slice_get rows k ≡ map.get t.customers (customer_key home (k + 1)) =
    subst (λ r. IfSome r (λ rows. (k : ℕ) → slice_get rows.now k ≡ map.get t.customers (customer_key home (k + 1)))) c.unwrap-customers.ensures c.customers_of.ensures.rows in
    let its_own : IsNameRun (last_name t home) (first_name t home) t.scale.customers run =
    run_of_tables slot (g.T.Rows.districts r) t here home rows read (ap is_some c.district_at.ensures) run c.in_ok-sorted.ensures in
    let one : IsRunAt slot t place run = λ other at.
    subst (λ (h : DistrictKey). IsNameRun (last_name t h) (first_name t h) t.scale.customers run) (here.apart home other place c.district_at.ensures at) its_own in
    let long = c.loop-slot.invariant.0 in
    let each : (k : ℕ) → k < length (c.loop-slot.runs.items ++ run ∷ []) → IsRunAt slot t k (get_or (c.loop-slot.runs.items ++ run ∷ []) k []) =
    runs_more (IsRunAt slot t) c.loop-slot.runs.items run place long c.loop-slot.invariant.1 one in
    let pushed : c.push.new.self.items ≡ c.loop-slot.runs.items ++ run ∷ [] = c.in_ok-push.ensures.items in (
      ap length pushed ∙ length_push c.loop-slot.runs.items run ∙ ap (λ n. n + 1) long,
      subst (λ (l : List (List ℕ)). (k : ℕ) → k < length l → IsRunAt slot t k (get_or l k [])) (sym pushed) each,
    )

pub returns : goal.returns
returns g c =
    let r = c.args.rows.now in
    let long : length c.loop-slot.runs.items ≡ g.T.Rows.districts r = omega (arith, c.loop-slot.invariant.0, c.loop-slot-test.false, c.loop-slot.auto.slot-end, c.district_count-slot-end.ensures) in
    fits_by_places (g.T.Rows.slot r) (g.T.Rows.districts r) (g.T.Rows.tables r) c.scale.ensures.rows c.loop-slot.runs.items long c.loop-slot.invariant.1
