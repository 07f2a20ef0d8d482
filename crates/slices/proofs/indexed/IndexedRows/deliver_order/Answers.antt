use Rattle.std.proofs.Common.{refl, sym, subst}
use Rattle.partitions.specs.Parts.{Part}
use Rattle.partitions.specs.Slots.{home_slot}
use Rattle.indexes.specs.LatestIndex.{FitsLatestBy}
use Rattle.indexes.specs.NameOrder.{FitsNamesBy}
use Rattle.schema.specs.OrderRows.{with_carrier, with_delivery}
use Rattle.schema.proofs.RowWrites.{by_outcome}
use Rattle.slices.specs.Fitting.{FitRows}
use Rattle.slices.proofs.Delivered.{fits_delivered, carrier_stays}
use Rattle.slices.proofs.indexed.IndexedRows.deliver_order.Goals as goal

pub invariant_of-self : goal.invariant_of-self
invariant_of-self c =
    let p : Part = c.self.inside.partition in
    by_outcome c.deliver_order.result c.deliver_order.ensures.ok c.deliver_order.ensures.err
    (λ is. (
      subst (λ (r : Part). FitsNamesBy (home_slot r.home) c.self.inside.names r.tables) (sym is) c.self.invariant.0,
      subst (λ (r : Part). FitsLatestBy (home_slot r.home) c.self.inside.latest r.tables) (sym is)
          (fits_delivered (home_slot p.home) c.self.inside.latest p.tables (with_delivery p.tables c.args.key c.args.carrier c.args.moment) (with_carrier c.args.key c.args.carrier) (carrier_stays c.args.key c.args.carrier) refl refl c.self.invariant.1),
    ))
    (λ is. subst (FitRows c.self.inside.names c.self.inside.latest) (sym is) c.self.invariant)
