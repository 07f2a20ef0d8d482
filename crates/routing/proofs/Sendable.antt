-- Threads may share the routing.
use denote.Param.Send.{IsSync, sendable, view_sync}
use denote.Param.SendFields.{declared_sync}
use Rattle.std.proofs.Crossing.{crosses}
use Rattle.routing.specs.contracts.shared.SharedRouting as SharedRouting

pub SharedRouting-sync : IsSync SharedRouting.the_row
SharedRouting-sync = view_sync _ _ _ _ _ (declared_sync SharedRouting.TheInside.the_type (
  search sendable depth 20,
  (
    search (crosses, sendable) depth 20,
    tt,
  ),
))
