-- Laws that hold of every request.
use Rattle.std.specs.Prelude.{◌≡◌, List}
use Rattle.schema.specs.Database.{Database}
use Rattle.schema.specs.Consistency.{Consistent}
use Rattle.requests.specs.declared.request.Request.{Request}
use Rattle.requests.specs.declared.group.Group.{Group}
use Rattle.groups.specs.Content.{content, AreAlikeIn, IsNoneOf}
use Rattle.groups.specs.Footprint.{footprint, groups_of}
use Rattle.machine.specs.Machine.{transaction, tables_after}

-- one request keeps consistent tables consistent (clause 3.3)
abbrev pub TransactionKeepsConsistency : Type 0
TransactionKeepsConsistency = (t : Database) (request : Request) → Consistent t → Consistent (transaction t request).tables

-- every list of requests, one after another, keeps consistent tables consistent
abbrev pub RequestsKeepConsistency : Type 0
RequestsKeepConsistency = (t : Database) (requests : List Request) → Consistent t → Consistent (tables_after t requests)

-- The reply, and the contents of the request's groups after it, depend only on the items and on the contents of these
-- groups before it: for two databases that are alike in the items and in these groups, both are the same.
abbrev pub TransactionReadsItsGroups : Type 0
TransactionReadsItsGroups =
    (s t : Database) (request : Request) → s.items ≡ t.items → AreAlikeIn (groups_of (footprint request)) s t
    → ((transaction s request).reply ≡ (transaction t request).reply)
    × AreAlikeIn (groups_of (footprint request)) (transaction s request).tables (transaction t request).tables

-- the contents of every other group are unchanged
abbrev pub TransactionKeepsOtherGroups : Type 0
TransactionKeepsOtherGroups =
    (t : Database) (request : Request) (group : Group) → IsNoneOf (groups_of (footprint request)) group
    → content (transaction t request).tables group ≡ content t group
