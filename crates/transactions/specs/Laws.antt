-- The laws of transactions of all kinds.
use Rattle.std.specs.Prelude.{◌≡◌, ◌≤◌, ◌+◌, List, ◌++◌, All, IsTrue, length, map, count_by}
use Rattle.partitions.specs.Parts.{SharedTables}
use Rattle.schema.specs.declared.scale.Scale.{Scale}
use Rattle.schema.specs.Scale.{has_warehouse}
use Rattle.schema.specs.Database.{Database}
use Rattle.requests.specs.declared.group.Group.{Group}
use Rattle.requests.specs.declared.request.Request.{Request}
use Rattle.requests.specs.declared.reply.Fault.{Fault}
use Rattle.requests.specs.declared.reply.Reply.TheVariants as reply
use Rattle.requests.specs.Check.{IsAccepted}
use Rattle.groups.specs.Footprint.{footprint, groups_of}
use Rattle.groups.specs.Groups.{is_same}
use Rattle.tickets.specs.Claims.{ClaimView, all_claims, leaving}
use Rattle.tickets.specs.Places.{IsGroupOf}
use Rattle.commit_log.specs.Claimed.{IsCarriedOut}
use Rattle.slices.specs.SliceView.{IsClaimAt, AreOfOneHome}
use Rattle.transactions.specs.declared.laws.TheConstants.{MOST_ACTIONS}
use Rattle.transactions.specs.declared.work.Work.{Work}
use Rattle.transactions.specs.declared.work.Found.{Found}
use Rattle.transactions.specs.declared.progress.Progress.{Progress}
use Rattle.transactions.specs.Granted.{AreSomeOf, AreGroupWantsAt, group_want_of}
use Rattle.transactions.specs.Works.{CanDo, HasDone, all_group_wants, home_of, group_wants_of}
use Rattle.transactions.specs.Progresses.{IsReached, works_of}

-- the claim once what was done under it is undone
abbrev pub undone : ClaimView → ClaimView
undone claim = leaving claim claim.back

-- A request that was carried out as rolled back under its claims is so also under the claims once all is undone.
abbrev pub RolledBackClaimsCanBeUndone : Type 0
RolledBackClaimsCanBeUndone =
    (opening : Database) (r : Request) (claims : List ClaimView) (fault : Fault)
    → IsCarriedOut opening r claims (reply.RolledBack fault) → IsCarriedOut opening r (map undone claims) (reply.RolledBack fault)

-- The groups of an accepted request's footprint are groups of the scale's warehouses.
abbrev pub AcceptedRequestsHaveTheirGroups : Type 0
AcceptedRequestsHaveTheirGroups =
    (scale : Scale) (r : Request) → IsAccepted scale r → All (IsGroupOf scale.warehouses) (groups_of (footprint r))

-- ---- what an action claims

-- The groups that an action claims for work that it can do are groups of the scale's warehouses.
abbrev pub WorksHaveTheirGroups : Type 0
WorksHaveTheirGroups =
    (shared : SharedTables) (work : Work) → CanDo shared work → All (IsGroupOf shared.scale.warehouses) (groups_of (group_wants_of work))

-- Each work wants at least one group.
abbrev pub WorksHaveGroupWants : Type 0
WorksHaveGroupWants = (work : Work) → 1 ≤ length (group_wants_of work)

-- The claims under which work was done are on the groups that it wants, one for each want in turn.
abbrev pub WorksHaveAClaimForEachGroupWant : Type 0
WorksHaveAClaimForEachGroupWant =
    (shared : SharedTables) (work : Work) (found : Found) (claims : List ClaimView)
    → HasDone shared work found claims → map (λ (claim : ClaimView). claim.group) claims ≡ groups_of (group_wants_of work)

-- ---- at which warehouse an action does its work

-- Work that can be done is at a warehouse of the scale.
abbrev pub WorksAreAtWarehouses : Type 0
WorksAreAtWarehouses = (shared : SharedTables) (work : Work) → CanDo shared work → IsTrue (has_warehouse shared.scale (home_of work))

-- All groups that an action claims for its work are of the work's warehouse.
abbrev pub WorksClaimAtHome : Type 0
WorksClaimAtHome = (work : Work) → AreGroupWantsAt (home_of work) (group_wants_of work)

-- The claims under which work was done are all on groups of the work's warehouse, and so of one warehouse.
abbrev pub WorksAreDoneAtHome : Type 0
WorksAreDoneAtHome =
    (shared : SharedTables) (work : Work) (found : Found) (claims : List ClaimView)
    → HasDone shared work found claims → All (IsClaimAt (home_of work)) claims × AreOfOneHome claims

-- ---- how far a transaction has come

-- The actions of a phase can do their work.
abbrev pub ActionsCanDoTheirWork : Type 0
ActionsCanDoTheirWork =
    (shared : SharedTables) (asked : Request) (progress : Progress) (held : List (List ClaimView)) → IsReached shared asked progress held
    → All (CanDo shared) (works_of progress)

-- The groups that a transaction holds and those that the actions of its phase claim are some of its request's footprint, each
-- once.
abbrev pub ClaimsAreOfTheFootprint : Type 0
ClaimsAreOfTheFootprint =
    (shared : SharedTables) (asked : Request) (progress : Progress) (held : List (List ClaimView)) → IsReached shared asked progress held
    → AreSomeOf (map group_want_of (all_claims held) ++ all_group_wants (works_of progress)) (footprint asked)

-- Among the groups that a transaction holds and those that the actions of its phase claim, none is twice.
abbrev pub TransactionsClaimEachGroupOnce : Type 0
TransactionsClaimEachGroupOnce =
    (shared : SharedTables) (asked : Request) (progress : Progress) (held : List (List ClaimView)) → IsReached shared asked progress held
    → (group : Group) → count_by (is_same group) (groups_of (map group_want_of (all_claims held) ++ all_group_wants (works_of progress))) ≤ 1

-- The check accepts the request of a transaction that has come so far.
abbrev pub ReachedRequestsAreAccepted : Type 0
ReachedRequestsAreAccepted =
    (shared : SharedTables) (asked : Request) (progress : Progress) (held : List (List ClaimView)) → IsReached shared asked progress held
    → IsAccepted shared.scale asked

-- Each phase has an action.
abbrev pub PhasesHaveActions : Type 0
PhasesHaveActions = (progress : Progress) → 1 ≤ length (works_of progress)

-- The actions of the earlier phases and those of this phase are at most MOST_ACTIONS.
abbrev pub TransactionsHaveFewActions : Type 0
TransactionsHaveFewActions =
    (shared : SharedTables) (asked : Request) (progress : Progress) (held : List (List ClaimView)) → IsReached shared asked progress held
    → length held + length (works_of progress) ≤ MOST_ACTIONS
