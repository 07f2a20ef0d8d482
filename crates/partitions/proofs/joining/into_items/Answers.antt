use Rattle.std.proofs.Common.{◌≡◌, inl, inr, length, sym, ap, ◌∙◌, rules}
use Rattle.std.proofs.lemmas.List.Elements.{same_from_all_zip}
use Rattle.std.specs.List.{zip}
use Rattle.std.specs.Arc.{arc_value}
use Rattle.std.specs.FinMap.{from_entries}
use Rattle.schema.specs.Scale.{item_ids}
use Rattle.partitions.specs.Parts.{SharedTables}
use Rattle.partitions.proofs.joining.into_items.Goals as goal

pub returns-clause-rows : goal.returns-clause-rows
returns-clause-rows c =
    let same : c.in_ok-unwrap_or_clone.field-0.items ≡ (arc_value c.catalog.inside.items).items = elim c.in_ok-unwrap_or_clone.ensures.ok [ inl e ↦ ap (λ v. v.items) e | inr e ↦ search (rules, same_from_all_zip, e) ] in
    let items = c.in_ok-unwrap_or_clone.field-0.items in
    ap (λ (s : SharedTables). from_entries (zip (item_ids s.scale) items)) (sym c.catalog.view_is)
    ∙ ap (λ xs. from_entries (zip (item_ids c.catalog.inside.scale) xs)) same ∙ ap (λ (s : SharedTables). s.items) c.catalog.view_is

pub returns-clause-count : goal.returns-clause-count
returns-clause-count c =
    let same : c.in_ok-unwrap_or_clone.field-0.items ≡ (arc_value c.catalog.inside.items).items = elim c.in_ok-unwrap_or_clone.ensures.ok [ inl e ↦ ap (λ v. v.items) e | inr e ↦ search (rules, same_from_all_zip, e) ] in
    ap length same ∙ c.catalog.invariant ∙ ap (λ (s : SharedTables). s.scale.items) c.catalog.view_is
