-- A slice may go to another thread, where the names of its groups may.
use denote.RattleType.{RattleType}
use denote.Param.Send.{IsSend, sendable, view_send}
use denote.Param.SendFields.{declared_send, variants_send}
use Rattle.std.proofs.Crossing.{Vec-send}
use Rattle.partitions.proofs.Sendable.{Partition-send, BeforeDelivery-send}
use Rattle.rows.proofs.Sendable as rows
use Rattle.schema.proofs.Sendable.{Replaced-send}
use Rattle.indexes.proofs.Sendable.{LatestOrders-send, NameIndex-send}
use Rattle.local_locks.proofs.Sendable.{LockTable-send}
use Rattle.tickets.specs.declared.group_names.GroupNames.{Ghosts as GroupNames}
use Rattle.slices.specs.contracts.indexed.IndexedRows as IndexedRows
use Rattle.slices.specs.contracts.undo_record.UndoRecord as UndoRecord
use Rattle.slices.specs.contracts.undo_log.UndoLog as UndoLog
use Rattle.slices.specs.contracts.slice.Slice as Slice

IndexedRows-send : IsSend IndexedRows.the_row
IndexedRows-send = view_send _ _ _ _ _ (declared_send IndexedRows.TheInside.the_type (Partition-send, (NameIndex-send, (LatestOrders-send, tt))))

UndoRecord-send : IsSend UndoRecord.the_row
UndoRecord-send = variants_send UndoRecord.enum (
  (search sendable depth 20, (rows.Warehouse-send, tt)),
  (
    (search sendable depth 20, (rows.District-send, tt)),
    (
      (search sendable depth 20, (rows.Stock-send, tt)),
      (
        (search sendable depth 20, (rows.Customer-send, tt)),
        (
          (search sendable depth 20, tt),
          (
            (rows.OrderKey-send, (Replaced-send, tt)),
            (
              (rows.OrderKey-send, (BeforeDelivery-send, tt)),
              tt,
            ),
          ),
        ),
      ),
    ),
  ),
)

UndoLog-send : IsSend UndoLog.the_row
UndoLog-send = search (UndoRecord-send, Vec-send, sendable) depth 40

module _ (J : RattleType) (names : GroupNames J.Denot) (s : IsSend J) where
  pub Slice-send : IsSend (Slice.the_row J names)
  Slice-send = view_send _ _ _ _ _ (declared_send (Slice.TheInside.the_type J names) (IndexedRows-send, (LockTable-send J names s, (search (UndoLog-send, Vec-send) depth 10, tt))))
