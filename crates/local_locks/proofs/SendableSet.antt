-- An ordered set may go to another thread, where its keys may.
use denote.Builtin.{unit}
use denote.RattleType.{RattleType}
use denote.Param.Send.{IsSend, sendable, view_send}
use denote.Param.SendFields.{declared_send}
use Rattle.std.proofs.Crossing.{Vec-send}
use Rattle.std.specs.contracts.alloc.Global as Heap
use Rattle.std.specs.contracts.impls.GlobalAllocator.TheImpl.{ghosts}
use Rattle.std.specs.declared.cmp.PartialEq as eq
use Rattle.std.specs.declared.hash.Hash as hash
use Rattle.std.specs.declared.hash.Hasher as hasher
use Rattle.std.specs.declared.hash.BuildHasher as builder
use Rattle.indexmap.specs.contracts.columns.Columns as Columns
use Rattle.indexmap.specs.contracts.index_table.Bucket as Bucket
use Rattle.indexmap.specs.contracts.index_table.IndexTable as IndexTable
use Rattle.indexmap.specs.contracts.index_table.group.Group as Lanes
use Rattle.indexmap.specs.contracts.map.IndexMap as IndexMap
use Rattle.indexmap.specs.contracts.set.IndexSet as IndexSet

-- each part whole, since a `search` that goes down through all of them runs out of steps
Columns-send : (K V : RattleType) → IsSend K → IsSend V → IsSend (Columns.the_field K V Heap.the_row ghosts).row
Columns-send K V k v =
    let keys = Vec-send K k in
    let values = Vec-send V v in
    search sendable depth 20

IndexTable-send : IsSend (IndexTable.the_field Heap.the_row ghosts).row
IndexTable-send =
    let groups = Vec-send Lanes.the_row (search sendable depth 20) in
    let buckets = Vec-send Bucket.the_row (search sendable depth 20) in
    search sendable depth 20

module _ (K S T : RattleType) (e : eq.Ghosts K.Denot) (h : hash.Ghosts K.Denot) (b : builder.Ghosts S.Denot T.Denot) (w : hasher.Ghosts T.Denot) where
  IndexMap-send : (V : RattleType) → IsSend K → IsSend V → IsSend S → IsSend (IndexMap.the_field K V S Heap.the_row T e h b w ghosts).row
  IndexMap-send V k v s =
      let columns = Columns-send K V k v in
      let table = IndexTable-send in
      search sendable depth 20

  pub IndexSet-send : IsSend K → IsSend S → IsSend (IndexSet.the_field K S Heap.the_row T e h b w ghosts).row
  IndexSet-send k s = view_send _ _ _ _ _ (declared_send (IndexSet.TheInside.the_type K S Heap.the_row T e h b w ghosts) (IndexMap-send unit k (search sendable depth 20) s, tt))
