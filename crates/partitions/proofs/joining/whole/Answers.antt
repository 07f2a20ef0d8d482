use Rattle.std.proofs.Common.{◌≡◌, ◌+◌, List, [], ◌∷◌, ◌++◌, length, sym, ap, subst, ◌∙◌, arith}
use Rattle.std.proofs.lemmas.Iterator.Adapters.{YieldsList-from_vec}
use Rattle.std.proofs.lemmas.Iterator.Consumers.{YieldsList-turn, YieldsList-end}
use Rattle.std.specs.List.{zip}
use Rattle.std.specs.FinMap.{from_entries}
use Rattle.std.proofs.lemmas.List.{map-id}
use Rattle.rows.specs.declared.records.Item.{Item}
use Rattle.schema.specs.declared.scale.Scale.{Scale}
use Rattle.schema.specs.Scale.{item_ids}
use Rattle.partitions.specs.Parts.{SharedTables, Part}
use Rattle.partitions.proofs.Joined.{IsWholeTo, whole_more, whole_made, whole_fits}
use Rattle.partitions.proofs.joining.whole.Goals as goal

-- the scale and the items that were shared
items_are : (scale : Scale) (shared : SharedTables) (items : List Item) → scale ≡ shared.scale → from_entries (zip (item_ids shared.scale) items) ≡ shared.items
    → (record { scale = scale; items = from_entries (zip (item_ids scale) items) }) ≡ shared
items_are scale shared items same is =
    let here : (record { scale = shared.scale; items = from_entries (zip (item_ids shared.scale) items) }) ≡ shared = λ i. record { scale = shared.scale; items = is i } in
    ap (λ (s : Scale). record { scale = s; items = from_entries (zip (item_ids s) items) }) same ∙ here

pub loop-part-preserved : goal.loop-part-preserved
loop-part-preserved c =
    let given = c.into_iter-part-iterator.ensures.into_iter_gives in
    let all = c.args.parts in
    let turn = YieldsList-turn (YieldsList-from_vec {s = c.into_iter-part-iterator.result} all.items given.0 (omega (arith, given.1, all.ok.0))) c.loop-part.yielded c.loop-part.part-iterator c.loop-part.yielded_by c.next.result c.next.new.self c.in-Some.part c.in-Some.is c.next.ensures.steps in
    let at = c.requires.each (length c.loop-part.yielded) c.in-Some.part turn.0 in
    let it = c.part.inside in
    let next : it.home ≡ length c.loop-part.yielded + 1 = ap (λ (p : Part). p.home) (c.part.view_is ∙ turn.1) ∙ at.home in
    let same : it.catalog.scale ≡ c.catalog.inside.scale = ap (λ (p : Part). p.tables.scale) (c.part.view_is ∙ turn.1) ∙ at.scale ∙ sym (ap (λ (s : SharedTables). s.scale) c.catalog.view_is) in
    subst (λ (p : Part). IsWholeTo c.catalog.inside.scale (c.loop-part.yielded ++ p ∷ []) c.append_home.new.rows) c.part.view_is
    (whole_more c.catalog.inside.scale c.loop-part.yielded c.loop-part.rows c.append_home.new.rows it.catalog it.home it.rows same next c.part.invariant c.loop-part.invariant c.in_ok-append_home.ensures)

pub from_fitting-requires : goal.from_fitting-requires
from_fitting-requires c =
    let given = c.into_iter-part-iterator.ensures.into_iter_gives in
    let all = c.args.parts in
    let end = YieldsList-end (YieldsList-from_vec {s = c.into_iter-part-iterator.result} all.items given.0 (omega (arith, given.1, all.ok.0))) c.loop-part.yielded c.loop-part.part-iterator c.loop-part.yielded_by c.next.result c.next.new.self c.in-None.is c.next.ensures.steps in
    let every : c.loop-part.yielded ≡ all.items = sym (map-id c.loop-part.yielded) ∙ end.0 in
    let scale = c.catalog.inside.scale in
    let same : scale ≡ c.args.catalog.scale = ap (λ (s : SharedTables). s.scale) c.catalog.view_is in
    let h : IsWholeTo scale all.items c.loop-part.rows = subst (λ ps. IsWholeTo scale ps c.loop-part.rows) every c.loop-part.invariant in
    whole_fits c.args.catalog all.items c.loop-part.rows scale c.in_ok-rows.field-0 c.requires (items_are scale c.args.catalog c.in_ok-rows.field-0.items same c.in_ok-rows.ensures.rows) h (c.in_ok-rows.ensures.count ∙ sym (ap (λ x. x.items) same))

pub returns : goal.returns
returns c =
    let given = c.into_iter-part-iterator.ensures.into_iter_gives in
    let all = c.args.parts in
    let end = YieldsList-end (YieldsList-from_vec {s = c.into_iter-part-iterator.result} all.items given.0 (omega (arith, given.1, all.ok.0))) c.loop-part.yielded c.loop-part.part-iterator c.loop-part.yielded_by c.next.result c.next.new.self c.in-None.is c.next.ensures.steps in
    let every : c.loop-part.yielded ≡ all.items = sym (map-id c.loop-part.yielded) ∙ end.0 in
    let scale = c.catalog.inside.scale in
    let same : scale ≡ c.args.catalog.scale = ap (λ (s : SharedTables). s.scale) c.catalog.view_is in
    let h : IsWholeTo scale all.items c.loop-part.rows = subst (λ ps. IsWholeTo scale ps c.loop-part.rows) every c.loop-part.invariant in
    c.from_fitting.ensures ∙ whole_made c.args.catalog all.items c.loop-part.rows scale c.in_ok-rows.field-0 c.requires (items_are scale c.args.catalog c.in_ok-rows.field-0.items same c.in_ok-rows.ensures.rows) h
