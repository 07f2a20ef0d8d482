use Rattle.std.proofs.Common.{sym, ap, subst, ◌∙◌}
use Rattle.std.specs.Option.{option_map}
use Rattle.rows.specs.declared.records.Order.{Order}
use Rattle.partitions.specs.Parts.{Part}
use Rattle.partitions.specs.Slots.{home_slot}
use Rattle.indexes.specs.LatestIndex.{FitsLatestBy}
use Rattle.indexes.specs.NameOrder.{FitsNamesBy}
use Rattle.slices.proofs.indexed.IndexedRows.take_back_order.Goals as goal

pub invariant_of-self : goal.invariant_of-self
invariant_of-self c =
    let p : Part = c.self.inside.partition in
    let is = c.take_back_order.ensures in
    let number = option_map (λ (order : Order). order.c_id) in
    let names = subst (λ (r : Part). FitsNamesBy (home_slot r.home) c.self.inside.names r.tables) (sym is) c.self.invariant.0 in
    let latest = subst (λ (r : Part). FitsLatestBy (home_slot r.home) c.self.inside.latest p.tables) (sym is) c.self.invariant.1 in (
      names,
      c.note_latest.ensures p.tables c.args.replaced.order (record {
        scale = ap (λ (r : Part). r.tables.scale) is;
        orders = ap (λ (r : Part). r.tables.orders) is;
        stood = c.number_of_customer-was.ensures ∙ ap number c.order.ensures;
        stands = c.number_of_customer-now.ensures ∙ ap number c.as_ref.ensures.value;
      }) latest,
    )
