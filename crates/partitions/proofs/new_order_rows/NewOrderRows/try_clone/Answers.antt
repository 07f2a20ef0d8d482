use Rattle.std.proofs.Common.{rules, ap, ◌∙◌}
use Rattle.std.specs.FinMap.{entries, from_entries}
use Rattle.std.proofs.lemmas.Map.Entries.{entries_from_clone}
use Rattle.partitions.specs.NewOrders.{with_returned}
use Rattle.partitions.proofs.new_order_rows.NewOrderRows.try_clone.Goals as goal

pub returns : goal.returns
returns c =
    let own = c.self.inside in
    let same = entries_from_clone _ _ (λ x y h. search rules) (λ v w h. search rules) _ _ c.in_ok-rows.ensures.cases in
    c.new.ensures.table ∙ ap (λ m. entries m) (c.in_ok-put_all.ensures ∙ ap (λ es. with_returned own.returned (from_entries es)) same) ∙ c.self.view_is
