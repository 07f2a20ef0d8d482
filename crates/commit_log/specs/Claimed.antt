-- The invariant of a log of claims, and the condition for logging a request that was carried out under claims.
use Rattle.std.specs.Prelude.{◌≡◌, List, All, map}
use Rattle.schema.specs.Database.{Database}
use Rattle.requests.specs.declared.group.Group.{Group}
use Rattle.requests.specs.declared.request.Request.{Request}
use Rattle.requests.specs.declared.reply.Reply.{Reply}
use Rattle.requests.specs.declared.reply.Reply.TheVariants.{Done, RolledBack}
use Rattle.requests.specs.Check.{IsAccepted}
use Rattle.groups.specs.Content.{Content, content}
use Rattle.machine.specs.Machine.{transaction, replies, tables_after}
use Rattle.tickets.specs.Claims.{ClaimView}
use Rattle.tickets.specs.Committed.{Records, after_claims, all_settled}
use Rattle.tickets.specs.LogSeats.{CommittedGroup, SeatsRecord, after_all}
use Rattle.commit_log.specs.declared.entry.Entry.{Entry}
use Rattle.commit_log.specs.Log.{requests_of, replies_of}

-- ---- the contents that a transaction commits

-- The committed contents after a transaction with this reply is logged. A rollback changes nothing; otherwise each
-- group has what its exclusive claim left there.
abbrev pub contents_logged : Reply → (Group → Content) → List ClaimView → Group → Content
contents_logged (Done shown) contents claims = after_claims contents claims
contents_logged (RolledBack fault) contents claims = contents

-- its claims after that: unless the transaction was rolled back, they record what they left
abbrev pub claims_logged : Reply → List ClaimView → List ClaimView
claims_logged (Done shown) claims = all_settled claims
claims_logged (RolledBack fault) claims = claims

-- the seats of the log after that
abbrev pub seats_logged : Reply → List ClaimView → List CommittedGroup → List CommittedGroup
seats_logged (Done shown) claims seats = map (after_all claims) seats
seats_logged (RolledBack fault) claims seats = seats

-- ---- the condition that a request was carried out

-- From any tables with these items and this scale whose contents the claims record, the machine gives this reply to the
-- request, and leaves what the claims leave: in the group of each exclusive claim what it left, and in every other
-- group the contents from before.
abbrev pub IsCarriedOut : Database → Request → List ClaimView → Reply → Type 0
IsCarriedOut opening request claims reply =
    (t : Database) → t.scale ≡ opening.scale → t.items ≡ opening.items → Records (content t) claims
    → ((transaction t request).reply ≡ reply)
    × ((group : Group) → content (transaction t request).tables group ≡ contents_logged reply (content t) claims group)

-- ---- the invariant of the log

-- The check accepts every request, the replies are those of a machine that carries out the requests one at a time, in
-- log order, from the opening tables, and the seats record the contents of the groups in the machine's last tables.
pub record IsKept (opening : Database) (entries : List Entry) (seats : List CommittedGroup) : Type 0 where
  pub accepted : All (λ (entry : Entry). IsAccepted opening.scale entry.request) entries
  pub replied : replies_of entries ≡ replies opening (requests_of entries)
  pub committed : SeatsRecord (content (tables_after opening (requests_of entries))) seats
