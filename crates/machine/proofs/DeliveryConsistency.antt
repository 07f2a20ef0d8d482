-- A Delivery keeps the tables consistent, since the turn of a district does.
use Rattle.std.proofs.Common.{ℕ}
use Rattle.rows.specs.declared.keys.DistrictKey.{DistrictKey}
use Rattle.schema.specs.Consistency.{Consistent}
use Rattle.machine.specs.DeliveryLaws.{DeliveryKeepsConsistency}
use Rattle.machine.proofs.DeliveryCases.{TurnKeeps, delivery-kept}
use Rattle.machine.proofs.OrderDelivered.{handed_over-consistent}

turn-consistent : (carrier moment : ℕ) (home : DistrictKey) → TurnKeeps Consistent carrier moment home
turn-consistent carrier moment home t o_id row c new oldest row_is c_is receives h =
    handed_over-consistent t home o_id carrier moment row c new oldest row_is c_is receives h

pub delivery_keeps_consistency : DeliveryKeepsConsistency
delivery_keeps_consistency t d = delivery-kept Consistent t d (turn-consistent d.carrier_id d.moment d.home)
