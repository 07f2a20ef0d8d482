use Rattle.std.proofs.Common.{refl, sym, subst}
use Rattle.partitions.specs.Parts.{Part}
use Rattle.partitions.specs.Slots.{home_slot}
use Rattle.indexes.specs.LatestIndex.{FitsLatestBy}
use Rattle.indexes.specs.NameOrder.{FitsNamesBy}
use Rattle.partitions.specs.Deliveries.{with_carrier_back, without_delivery}
use Rattle.slices.proofs.Delivered.{fits_delivered, carrier_back_stays}
use Rattle.slices.proofs.indexed.IndexedRows.take_back_delivery.Goals as goal

pub invariant_of-self : goal.invariant_of-self
invariant_of-self c =
    let p : Part = c.self.inside.partition in
    let is = c.take_back_delivery.ensures in (
      subst (λ (r : Part). FitsNamesBy (home_slot r.home) c.self.inside.names r.tables) (sym is) c.self.invariant.0,
      subst (λ (r : Part). FitsLatestBy (home_slot r.home) c.self.inside.latest r.tables) (sym is)
          (fits_delivered (home_slot p.home) c.self.inside.latest p.tables (without_delivery p.tables c.args.key c.args.before) (with_carrier_back c.args.key c.args.before.carrier_id) (carrier_back_stays c.args.key c.args.before.carrier_id) refl refl c.self.invariant.1),
    )
