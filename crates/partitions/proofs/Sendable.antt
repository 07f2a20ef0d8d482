-- A partition may go to another thread.
use denote.Param.Send.{IsSend, sendable, view_send}
use denote.Param.SendFields.{declared_send}
use Rattle.std.proofs.Crossing.{Vec-send, Vec-sync, Arc-send, Box-send}
use Rattle.std.proofs.MapsCrossing.{BTreeMap-send}
use Rattle.rows.proofs.Sendable as rows
use Rattle.schema.proofs.Sendable.{HistoryList-send, OrderLines-send}
use Rattle.partitions.proofs.new_order_rows.Returned.TheLaws.TheKnot.{send-Returned}
use Rattle.partitions.specs.contracts.catalog.Catalog as Catalog
use Rattle.partitions.specs.contracts.new_order_rows.NewOrderRows as NewOrderRows
use Rattle.partitions.specs.contracts.new_order_rows.RowRoom as RowRoom
use Rattle.partitions.specs.contracts.delivery_rows.BeforeDelivery as BeforeDelivery
use Rattle.partitions.specs.contracts.home_rows.HomeRows as HomeRows
use Rattle.partitions.specs.contracts.partition.Partition as Partition

Catalog-send : IsSend Catalog.the_row
Catalog-send = search (rows.Item-send, rows.Item-sync, Arc-send, Vec-send, Vec-sync, sendable) depth 40

NewOrderRows-send : IsSend NewOrderRows.the_row
NewOrderRows-send = search (send-Returned, rows.OrderKey-send, BTreeMap-send, Box-send, sendable) depth 40

RowRoom-send : IsSend RowRoom.the_row
RowRoom-send = search (send-Returned, Box-send, sendable) depth 40

HomeRows-send : IsSend HomeRows.the_row
HomeRows-send = declared_send HomeRows.the_type (
  rows.Warehouse-send,
  (
    search (rows.District-send, Vec-send) depth 10,
    (
      search (rows.Stock-send, Vec-send) depth 10,
      (
        search (rows.Customer-send, Vec-send) depth 10,
        (
          search (HistoryList-send, Vec-send) depth 10,
          (
            search (rows.OrderKey-send, rows.Order-send, BTreeMap-send, sendable) depth 20,
            (
              NewOrderRows-send,
              (
                OrderLines-send,
                tt,
              ),
            ),
          ),
        ),
      ),
    ),
  ),
)

pub BeforeDelivery-send : IsSend BeforeDelivery.the_row
BeforeDelivery-send = search (RowRoom-send, sendable) depth 40

pub Partition-send : IsSend Partition.the_row
Partition-send = view_send _ _ _ _ _ (declared_send Partition.TheInside.the_type (Catalog-send, (search sendable, (HomeRows-send, tt))))
