-- The indexes may go to another thread.
use denote.Param.Send.{IsSend, sendable}
use Rattle.std.proofs.Crossing.{Vec-send}
use Rattle.indexes.specs.contracts.latest_orders.LatestOrders as LatestOrders
use Rattle.indexes.specs.contracts.name_index.NameIndex as NameIndex

pub LatestOrders-send : IsSend LatestOrders.the_row
LatestOrders-send = search (Vec-send, sendable) depth 40

pub NameIndex-send : IsSend NameIndex.the_row
NameIndex-send = search (Vec-send, sendable) depth 40
