use Rattle.std.proofs.Common.{◌≡◌, ◌+◌, ◌<◌, List, [], ◌∷◌, ◌++◌, sym, ap, ◌∙◌, arith}
use Rattle.std.specs.List.{zip}
use Rattle.std.specs.FinMap.{from_entries}
use Rattle.std.proofs.lemmas.List.FromFn.{map-range_with_len_more}
use Rattle.rows.specs.declared.records.Item.{Item}
use Rattle.schema.specs.declared.scale.Scale.{Scale}
use Rattle.schema.specs.Scale.{item_ids}
use Rattle.schema.specs.Database.{Database}
use Rattle.partitions.specs.Parts.{SharedTables, Part, shared_of, part_of}
use Rattle.partitions.specs.Partitions.{part}
use Rattle.partitions.proofs.HomeTables.{rows_of_warehouses, home_part, home_fits}
use Rattle.partitions.proofs.cutting.cut.Goals as goal

pub split-requires-clause-within : goal.split-requires-clause-within
split-requires-clause-within c = rows_of_warehouses c.into_rows-rows.result.0 c.into_rows-rows.result.1 c.into_rows-rows.ensures.fits

-- the scale and the items that are shared
shared_is : (scale : Scale) (items more : List Item) (shared : SharedTables) → shared ≡ (record { scale = scale; items = from_entries (zip (item_ids scale) items) }) → items ≡ more
    → shared ≡ (record { scale = scale; items = from_entries (zip (item_ids scale) more) })
shared_is scale items more shared is same = is ∙ ap (λ xs. record { scale = scale; items = from_entries (zip (item_ids scale) xs) }) same

pub invariant_of-push : goal.invariant_of-push
invariant_of-push c =
    let inv = c.loop-place.invariant in
    let r = c.into_rows-rows.result in
    let below : c.loop-place.place < inv.scale.warehouses = omega (arith, ap (λ (t : Database). t.scale.warehouses) (c.into_rows-rows.ensures.same ∙ sym inv.same), c.loop-place-test.true) in
    let shared = shared_is r.0 _ r.1.items.items c.in_ok-share.field-0 c.in_ok-share.ensures (ap (λ v. v.items) c.in_ok-new.ensures.ok ∙ c.in_ok-items.ensures.items) ∙ ap shared_of (c.into_rows-rows.ensures.same ∙ sym inv.same) in
    home_fits inv.scale inv.rows inv.fits c.loop-place.place below c.take_first.result (c.take_first.ensures inv.scale inv.rows c.loop-place.place inv.left).0 c.in_ok-share.field-0 shared

pub loop-place-preserved : goal.loop-place-preserved
loop-place-preserved c =
    let inv = c.loop-place.invariant in
    let r = c.into_rows-rows.result in
    let place = c.loop-place.place in
    let t = c.args.tables in
    let below : place < inv.scale.warehouses = omega (arith, ap (λ (t : Database). t.scale.warehouses) (c.into_rows-rows.ensures.same ∙ sym inv.same), c.loop-place-test.true) in
    let shared = shared_is r.0 _ r.1.items.items c.in_ok-share.field-0 c.in_ok-share.ensures (ap (λ v. v.items) c.in_ok-new.ensures.ok ∙ c.in_ok-items.ensures.items) ∙ ap shared_of (c.into_rows-rows.ensures.same ∙ sym inv.same) in
    let split = c.take_first.ensures inv.scale inv.rows place inv.left in
    let made : part c.in_ok-share.field-0 (place + 1) c.take_first.result ≡ part_of t (place + 1) =
    home_part inv.scale inv.rows inv.fits place below c.take_first.result split.0 c.in_ok-share.field-0 shared ∙ ap (λ (d : Database). part_of d (place + 1)) inv.same in
    record {
      scale = inv.scale;
      rows = inv.rows;
      same = inv.same;
      fits = inv.fits;
      left = split.1;
      made = c.in_ok-push.ensures.items ∙ ap (λ (p : Part). c.loop-place.parts.items ++ p ∷ []) made ∙ ap (λ ps. ps ++ part_of t (place + 1) ∷ []) inv.made
          ∙ sym (map-range_with_len_more (part_of t) 1 place (place + 1) (omega arith));
    }
